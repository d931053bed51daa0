-- The grammar of models stands inside that of sessions, so that a model conforms to its rule there too.
use Rattle.std.proofs.Common.{◌≡◌, ℕ, lit≤, Bool, true, false, ◌||◌, List, [], ◌∷◌, ◌++◌, IsTrue, refl, sym, ap, ◌∙◌}
use Rattle.std.proofs.lemmas.Bool.{eq-eqb}
use Rattle.aerie_text.specs.Sorts.{number_of}
use Rattle.aerie_text.specs.declared.sorts.Sort.{Sort}
use Rattle.aerie_text.specs.declared.sorts.Sort.TheVariants as sort
use Rattle.model_reader.specs.grammar.Factored.{look as model_look, rule_first as model_first}
use Rattle.model_reader.specs.grammar.Rules.{Rule as ModelRule}
use Rattle.readers.specs.Conforms.{Conforms}
use Rattle.readers.specs.Marks.{Mark}
use Rattle.readers.specs.Parsed.{Parsed, is_of}
use Rattle.readers.specs.grammar.Embedding.{IsInside}
use Rattle.readers.specs.grammar.Forms.{Form, token, rule, either}
use Rattle.readers.specs.grammar.LazyReadings.{LazyReading, read, stop, first_of_two, second_of_two}
use Rattle.readers.specs.grammar.Lookahead.{Ahead, remains, when, nullable, in_first, inside}
use Rattle.readers.specs.grammar.Predictive.{IsPredictive}
use Rattle.readers.specs.grammar.Tables.{is_among, is_number_of}
use Rattle.readers.proofs.Inside.{conforms_there}
use Rattle.session_grammar.proofs.Conforming.Terminals.{plain_fits, number_begins, time_begins}
use Rattle.session_grammar.specs.grammar.Embedding.{of_sort, terminals_of, terminals_of_all}
use Rattle.session_grammar.specs.grammar.Factored.{look}
use Rattle.session_grammar.specs.grammar.Rules.{Rule, of_model}
use Rattle.session_grammar.specs.grammar.Terminals.{Terminal, class_of, fits, number_of_terminal, plain, id_number, great_number, no_time, some_time}

or_false : (a : Bool) → (a || false) ≡ a
or_false true = refl
or_false false = refl

or_assoc : (a b c : Bool) → (a || (b || c)) ≡ ((a || b) || c)
or_assoc true b c = refl
or_assoc false b c = refl

either_way : (v : Bool) (a : Ahead Rule Terminal) → when v a a ≡ a
either_way true a = refl
either_way false a = refl

-- ---- the sorts of marks

among_both : (xs ys : List Terminal) (n : ℕ) → is_among number_of_terminal (xs ++ ys) n ≡ (is_among number_of_terminal xs n || is_among number_of_terminal ys n)
among_both [] ys n = refl
among_both (x ∷ xs) ys n =
    ap (λ (v : Bool). is_number_of number_of_terminal x n || v) (among_both xs ys n)
    ∙ or_assoc (is_number_of number_of_terminal x n) (is_among number_of_terminal xs n) (is_among number_of_terminal ys n)

-- a mark is of one of the terminals of a sort where it is of the sort
of_terminals : (s : Sort) (k : Mark) → is_among number_of_terminal (terminals_of s) (class_of k) ≡ is_of s k
of_terminals sort.Number k = ap (λ (v : Bool). fits id_number k || v) (or_false (fits great_number k)) ∙ sym (number_begins k)
of_terminals sort.Time k = ap (λ (v : Bool). fits no_time k || v) (or_false (fits some_time k)) ∙ sym (time_begins k)
of_terminals s k = or_false (fits (plain s) k) ∙ plain_fits k s refl refl

of_all_terminals : (sorts : List Sort) (k : Mark) → is_among number_of_terminal (terminals_of_all sorts) (class_of k) ≡ is_among number_of sorts (number_of k.sort)
of_all_terminals [] k = refl
of_all_terminals (s ∷ sorts) k =
    among_both (terminals_of s) (terminals_of_all sorts) (class_of k)
    ∙ ap (λ (v : Bool). v || is_among number_of_terminal (terminals_of_all sorts) (class_of k)) (of_terminals s k)
    ∙ ap (λ (v : Bool). is_of s k || v) (of_all_terminals sorts k)

-- ---- what stands for a token of a sort

some : (s : Sort) → nullable look (of_sort s) ≡ false
some sort.Number = refl
some sort.Time = refl
some s = refl

first_of_sort : (s : Sort) (k : Mark) → in_first look (of_sort s) k ≡ is_of s k
first_of_sort sort.Number k = sym (number_begins k)
first_of_sort sort.Time k = sym (time_begins k)
first_of_sort s k = plain_fits k s refl refl

over : (s : Sort) (k : Mark) (f : Rule → List (Form Rule Terminal) → Mark → Ahead Rule Terminal) (xs : List (Form Rule Terminal)) → inside look f (of_sort s) xs k ≡ remains xs
over sort.Number k f xs = either_way (fits id_number k) (remains xs)
over sort.Time k f xs = either_way (fits no_time k) (remains xs)
over s k f xs = refl

module _ (k : Mark) (xs : List (Form Rule Terminal)) where
  -- the token is of the first terminal, or of the second
  of_two : (t u : Terminal) → IsTrue (fits t k || fits u k) → LazyReading look.grammar (either (token t) (token u) ∷ xs) (k ∷ []) xs
  of_two t u h = by_first (fits t k) refl h
    where
      by_first : (v : Bool) → fits t k ≡ v → IsTrue (v || fits u k) → LazyReading look.grammar (either (token t) (token u) ∷ xs) (k ∷ []) xs
      by_first true e h = (2, first_of_two (read e stop))
      by_first false e h = (2, second_of_two (read h stop))

  read_of_sort : (s : Sort) → IsTrue (is_of s k) → LazyReading look.grammar (of_sort s ∷ xs) (k ∷ []) xs
  read_of_sort sort.Number h = of_two id_number great_number (sym (number_begins k) ∙ h)
  read_of_sort sort.Time h = of_two no_time some_time (sym (time_begins k) ∙ h)
  read_of_sort s h = (1, read (plain_fits k s refl refl ∙ h) stop)

-- ---- the grammar of models in that of sessions

models_inside : IsInside of_model of_sort model_look look
models_inside = record {
  form = λ r. refl;
  empty = λ r. refl;
  first = λ r k. of_all_terminals (model_first r) k;
  openings = lit≤ tt;
  token_some = some;
  token_first = first_of_sort;
  token_over = over;
  token_read = λ s k h xs. read_of_sort k xs s h;
}

-- what conforms to a rule of models conforms to it inside a session
pub in_session_conforms : {A : Type 0} → IsPredictive model_look → (r : ModelRule) (marks : List Mark) (reading : Parsed A) → Conforms model_look (rule r) marks reading → Conforms look (rule (of_model r)) marks reading
in_session_conforms decides r marks reading h =
    conforms_there of_model of_sort model_look look decides models_inside (λ k. k.sort) (λ k. eq-eqb (number_of k.sort) (number_of k.sort) refl) r marks reading h
