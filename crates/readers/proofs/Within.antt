-- What is read of numbers within bounds conforms to a grammar.
use Rattle.std.proofs.Common.{◌≡◌, ℕ, Bool, true, false, ◌||◌, List, [], ◌∷◌, refl, arith, sym, subst}
use Rattle.std.proofs.lemmas.Bool.{false≢true}
use Rattle.aerie_text.specs.declared.sorts.Sort.{Sort}
use Rattle.readers.specs.Conforms.{Conforms, GoesAlong}
use Rattle.readers.specs.Marks.{Mark}
use Rattle.readers.specs.Parsed.{Parsed, chosen, next_fits, is_of, mark_at, taken}
use Rattle.readers.specs.Within.{counts_within, number_within_at}
use Rattle.readers.specs.grammar.Forms.{either, token}
use Rattle.readers.specs.grammar.LazyReadings.{read, stop}
use Rattle.readers.specs.grammar.Lookahead.{Lookahead}
use Rattle.readers.proofs.Conforming.{either_conforms}
use Rattle.readers.proofs.Grammars.Parsing.{token_ends, token_read, token_stops}

same_either : {A : Type 0} (v : Bool) (f : List Mark → Parsed A) (marks : List Mark) → chosen v f f marks ≡ f marks
same_either true f marks = refl
same_either false f marks = refl

module _ {Rule Kind : Type 0} (look : Lookahead Rule Kind Mark) where
  -- a token of the terminal, where the first mark is of it, or is not
  taken_goes : {A : Type 0} (t : Kind) (k : Mark) (rest : List Mark) (says : A) (v : Bool) → look.grammar.fits t k ≡ v → GoesAlong look (token t) (k ∷ rest) (taken v says (k ∷ rest) rest)
  taken_goes t k rest says true e =
      record { front = k ∷ []; is = refl; some = λ e. omega arith; reads = token_read look t k rest e; whole = λ xs. (1, read e stop) }
  taken_goes t k rest says false e = token_stops look t k rest e

  within_goes : (t : Kind) (sort : Sort) (least most : ℕ) → ((k : Mark) → look.grammar.fits t k ≡ counts_within sort least most k) → (marks : List Mark) → GoesAlong look (token t) marks (number_within_at sort least most marks)
  within_goes t sort least most fit [] = token_ends look t
  within_goes t sort least most fit (k ∷ rest) = taken_goes t k rest _ (counts_within sort least most k) (fit k)

  here_goes : {A : Type 0} (t : Kind) (sort : Sort) (says : Mark → A) (marks : List Mark) (v : Bool) (test : Mark → Bool) → next_fits test marks ≡ v
      → ((k : Mark) → test k ≡ v → look.grammar.fits t k ≡ is_of sort k) → GoesAlong look (token t) marks (mark_at sort says marks)
  here_goes t sort says [] v test here fit = token_ends look t
  here_goes t sort says (k ∷ rest) v test here fit = taken_goes t k rest (says k) (is_of sort k) (fit k here)

first_half : (a b c : Bool) → a ≡ (b || c) → b ≡ true → b ≡ a
first_half a true c e h = sym e
first_half a false c e h = absurd (false≢true h)

second_half : (a b c : Bool) → a ≡ (b || c) → b ≡ false → c ≡ a
second_half a true c e h = absurd (false≢true (sym h))
second_half a false c e h = sym e

module _ {Rule Kind : Type 0} {look : Lookahead Rule Kind Mark} where
  -- a number within bounds
  pub within_conforms : {t : Kind} (sort : Sort) (least most : ℕ) → ((k : Mark) → look.grammar.fits t k ≡ counts_within sort least most k) → {marks : List Mark}
      → Conforms look (token t) marks (number_within_at sort least most marks)
  within_conforms {t = t} sort least most fit {marks = marks} = record { goes = within_goes look t sort least most fit marks }

  -- a token of the sort, which is of the first terminal or of the second
  pub halves_conform : {A : Type 0} {t u : Kind} (sort : Sort) (says : Mark → A) → ((k : Mark) → is_of sort k ≡ (look.grammar.fits t k || look.grammar.fits u k)) → {marks : List Mark}
      → Conforms look (either (token t) (token u)) marks (mark_at sort says marks)
  halves_conform {t = t} {u = u} sort says halves {marks = marks} =
      let test : Mark → Bool = look.grammar.fits t in
      subst (λ reading. Conforms look (either (token t) (token u)) marks reading) (same_either (next_fits test marks) (mark_at sort says) marks)
      (either_conforms (mark_at sort says) (mark_at sort says) (record { is = λ k. refl }) refl
      (λ next. record { goes = here_goes look t sort says marks true test next (λ k h. first_half (is_of sort k) (look.grammar.fits t k) (look.grammar.fits u k) (halves k) h) })
      (λ next. record { goes = here_goes look u sort says marks false test next (λ k h. second_half (is_of sort k) (look.grammar.fits t k) (look.grammar.fits u k) (halves k) h) }))
