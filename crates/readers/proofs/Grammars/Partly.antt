-- Where reading stands inside a form, as a limit is passed there: what was read until then can be read.
use Rattle.std.proofs.Common.{◌≡◌, ℕ, ◌<◌, ◌≤◌, ◌+◌, Bool, true, false, List, [], ◌∷◌, ◌++◌, take, length, IsTrue, refl, ap, sym, ◌∙◌, arith, append_assoc, inl, inr, ◌⊎◌}
use Rattle.std.proofs.Math.Seq.{take-append_seam}
use Rattle.std.proofs.lemmas.List.{length-append}
use Rattle.readers.specs.grammar.Forms.{Form, rule, both, either, many, Grammar}
use Rattle.readers.specs.grammar.Readings.{IsReadable, IsRefusedAt}
use Rattle.readers.specs.grammar.Lookahead.{Lookahead, Ahead, refused, unfinished, remains, nullable, next_in_first, next, Answer, answer, whole, stops, go_on, all_nullable, at_end}
use Rattle.readers.specs.grammar.Predictive.{IsPredictive}
use Rattle.readers.specs.grammar.Parsing.{Reads, Iterations, Comes}
use Rattle.readers.specs.grammar.Tells.{Tells}
use Rattle.readers.proofs.Grammars.Parsing.{answer_both, answer_first, answer_second, answer_iteration, answer_rule}
use Rattle.readers.proofs.Grammars.Verdicts.{order, shortened, readable_shorter, read_is_readable, tells}

module _ {Rule Sort Token : Type 0} (look : Lookahead Rule Sort Token) where
  -- nothing of the form is read yet
  pub comes_begin : (a : Form Rule Sort) (ts : List Token) → Comes look a ts ts (a ∷ [])
  comes_begin a ts = record { onward = λ xs. refl }

  pub comes_read : (a : Form Rule Sort) (ts rest : List Token) → Reads look a ts rest → Comes look a ts rest []
  comes_read a ts rest h = record { onward = h.onward }

  -- inside the first of two forms, and inside the second
  pub comes_first : (a b : Form Rule Sort) (ts rest : List Token) (left : List (Form Rule Sort)) → Comes look a ts rest left → Comes look (both a b) ts rest (left ++ (b ∷ []))
  comes_first a b ts rest left h = record {
    onward = λ xs. answer_both look a b xs ts ∙ h.onward (b ∷ xs) ∙ ap (λ (ys : List (Form Rule Sort)). answer look ys rest) (sym (append_assoc left (b ∷ []) xs));
  }

  pub comes_second : (a b : Form Rule Sort) (ts middle rest : List Token) (left : List (Form Rule Sort)) → Reads look a ts middle → Comes look b middle rest left → Comes look (both a b) ts rest left
  comes_second a b ts middle rest left h i = record { onward = λ xs. answer_both look a b xs ts ∙ h.onward (b ∷ xs) ∙ i.onward xs }

  -- inside the form that is chosen
  pub comes_first_chosen : (a b : Form Rule Sort) (ts rest : List Token) (left : List (Form Rule Sort)) → IsTrue (next_in_first look a ts) → Comes look a ts rest left → Comes look (either a b) ts rest left
  comes_first_chosen a b ts rest left h i = record { onward = λ xs. answer_first look a b xs ts h ∙ i.onward xs }

  pub comes_second_chosen : (a b : Form Rule Sort) (ts rest : List Token) (left : List (Form Rule Sort)) → next_in_first look a ts ≡ false → nullable look a ≡ false → Comes look b ts rest left → Comes look (either a b) ts rest left
  comes_second_chosen a b ts rest left h e i = record { onward = λ xs. answer_second look a b xs ts h e ∙ i.onward xs }

  -- between two iterations of a repetition, and inside a iteration
  pub comes_iterations : (a : Form Rule Sort) (all ts : List Token) → Iterations look a all ts → Comes look (many a) all ts (many a ∷ [])
  comes_iterations a all ts t = record { onward = t.onward }

  pub comes_iteration : (a : Form Rule Sort) (all ts rest : List Token) (left : List (Form Rule Sort)) → Iterations look a all ts → IsTrue (next_in_first look a ts) → Comes look a ts rest left → Comes look (many a) all rest (left ++ (many a ∷ []))
  comes_iteration a all ts rest left t h i = record {
    onward = λ xs. t.onward xs ∙ answer_iteration look a xs ts h ∙ i.onward (many a ∷ xs) ∙ ap (λ (ys : List (Form Rule Sort)). answer look ys rest) (sym (append_assoc left (many a ∷ []) xs));
  }

  -- what is not read yet stands behind what was read
  pub behind : (xs : List (Form Rule Sort)) (ts s : List Token) → answer look xs ts ≡ stops s → (front : List Token) × (ts ≡ front ++ s)
  behind xs [] s e = at_the_end (all_nullable look xs) e
    where
      at_the_end : (v : Bool) → at_end v ≡ stops s → (front : List Token) × ([] ≡ front ++ s)
      at_the_end true e = cc
      at_the_end false e = ([], cc)
  behind xs (k ∷ ts) s e = by_next (next look look.openings xs k) e (λ ys f. behind ys ts s f)
    where
      by_next : (n : Ahead Rule Sort) → go_on n (λ ys. answer look ys ts) (stops (k ∷ ts)) ≡ stops s
          → ((ys : List (Form Rule Sort)) → answer look ys ts ≡ stops s → (front : List Token) × (ts ≡ front ++ s)) → (front : List Token) × ((k ∷ ts) ≡ front ++ s)
      by_next (remains ys) e f = let i = f ys e in (k ∷ i.0, ap (λ (x : List Token). k ∷ x) i.1)
      by_next refused e f = ([], cc)
      by_next unfinished e f = ([], cc)

module _ {Rule Sort Token : Type 0} (look : Lookahead Rule Sort Token) (ok : IsPredictive look) where
  pub comes_rule : (r : Rule) (ts rest : List Token) (left : List (Form Rule Sort)) → Comes look (look.grammar.form r) ts rest left → Comes look (rule r) ts rest left
  comes_rule r ts rest left h = record { onward = λ xs. answer_rule look ok r xs ts ∙ h.onward xs }

  part : (start : Rule) (tokens front rest : List Token) → tokens ≡ front ++ rest → IsReadable look.grammar start tokens → IsReadable look.grammar start front
  part start tokens front rest e r = let i = shortened look.grammar _ r.left tokens r.reading front rest e in record { left = i.0; reading = i.1 }

  -- what was read of the first rule's form can be read
  pub comes_readable : (start : Rule) (front rest : List Token) (left : List (Form Rule Sort)) → Comes look (rule start) (front ++ rest) rest left → IsReadable look.grammar start front
  comes_readable start front rest left h = by_answer (answer look (rule start ∷ []) (front ++ rest)) (tells look ok start (front ++ rest)) (sym (h.onward []))
    where
      by_answer : (a : Answer Token) → Tells look.grammar start (front ++ rest) a → answer look (left ++ []) rest ≡ a → IsReadable look.grammar start front
      by_answer whole t e = part start (front ++ rest) front rest refl (read_is_readable look.grammar start (front ++ rest) t)
      by_answer (stops []) t e = part start (front ++ rest) front rest refl t.before
      by_answer (stops (k ∷ s)) t e =
          let b = behind look (left ++ []) rest (k ∷ s) e in
          let all : front ++ rest ≡ (front ++ b.0) ++ (k ∷ s) = ap (λ (x : List Token). front ++ x) b.1 ∙ sym (append_assoc front b.0 (k ∷ s)) in
          let l : length t.front + length (k ∷ s) ≡ length (front ++ b.0) + length (k ∷ s) =
          sym (length-append t.front (k ∷ s)) ∙ ap (λ (x : List Token). length x) (sym t.is ∙ all) ∙ length-append (front ++ b.0) (k ∷ s) in
          let n : length t.front ≡ length (front ++ b.0) = omega (arith, l) in
          let f : take (length t.front) (front ++ rest) ≡ front ++ b.0 =
          ap (λ (m : ℕ). take m (front ++ rest)) n ∙ ap (λ (x : List Token). take (length (front ++ b.0)) x) all ∙ take-append_seam (front ++ b.0) (k ∷ s) in
          part start _ front b.0 f t.refused.before

module _ {Rule Sort Token : Type 0} (g : Grammar Rule Sort Token) where
  -- what can be read stands before the first token that is refused
  pub refused_behind : (start : Rule) (tokens : List Token) (place refusal : ℕ) → place ≤ length tokens → IsReadable g start (take place tokens) → IsRefusedAt g start tokens refusal → place ≤ refusal
  refused_behind start tokens place refusal l r h = by_order (order place refusal)
    where
      by_order : (place < refusal) ⊎ ((place ≡ refusal) ⊎ (refusal < place)) → place ≤ refusal
      by_order (inl i) = omega (arith, i)
      by_order (inr (inl i)) = omega (arith, i)
      by_order (inr (inr i)) = let w = h.within in absurd (h.here (readable_shorter g start tokens (refusal + 1) place (omega (arith, i)) (omega (arith, w)) r))
