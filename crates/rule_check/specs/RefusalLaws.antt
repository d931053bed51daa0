-- A file of lemmas: what it proves need not be read to trust a clause.
--
-- What is found in one list after another, and in one part after another.
use Rattle.std.proofs.Common.{◌≡◌, ℕ, zero, suc, ◌+◌, ◌-◌, ◌≤◌, subst, List, [], ◌∷◌, ◌++◌, Option, Some, None, take, drop, refl, sym, ap, ◌∙◌, arith}
use Rattle.diagnostics.specs.declared.diagnostic.Diagnostic.{Diagnostic}
use Rattle.diagnostics.specs.NotedInTurn.{noted_appended}
use Rattle.rule_check.specs.declared.causes.WrongRule.{WrongRule}
use Rattle.rule_check.specs.Refusals.{number_of_wrong, noted, first_diagnostic, refusals_in_turn, refusals_or}

-- neither of two lists has anything
pub both_empty : {A : Type 0} (xs ys : List A) → (xs ++ ys) ≡ [] → (xs ≡ []) × (ys ≡ [])
both_empty [] ys e = (refl, e)
both_empty (x ∷ xs) ys e = cc

-- the next one is taken over
pub taken_next : {A : Type 0} (at : ℕ) (all rest : List A) (one : A) → drop at all ≡ one ∷ rest → take (suc at) all ≡ take at all ++ one ∷ []
taken_next zero [] rest one e = cc
taken_next zero (x ∷ all) rest one e = cc
taken_next (suc at) [] rest one e = cc
taken_next {A = A} (suc at) (x ∷ all) rest one e = ap (λ (xs : List A). x ∷ xs) (taken_next at all rest one e)

pub dropped_next : {A : Type 0} (at : ℕ) (all rest : List A) (one : A) → drop at all ≡ one ∷ rest → drop (suc at) all ≡ rest
dropped_next zero [] rest one e = cc
dropped_next zero (x ∷ all) rest one e = cc
dropped_next (suc at) [] rest one e = cc
dropped_next (suc at) (x ∷ all) rest one e = dropped_next at all rest one e

-- a part that is judged by those in front of it, and those behind it
module _ {A : Type 0} (one : List A → A → List (Diagnostic WrongRule)) (beyond : A → List (Diagnostic WrongRule)) (limit : ℕ) where
  pub judged_next : (all rest : List A) (part : A) (at : ℕ) (before between after : Option (Diagnostic WrongRule)) → at ≤ limit → (at ≡ limit → ⊥) → drop at all ≡ part ∷ rest
      → between ≡ noted before (one (take at all) part)
      → after ≡ noted between (refusals_in_turn one beyond (limit - (at + 1)) (take (at + 1) all) (drop (at + 1) all))
      → after ≡ noted before (refusals_in_turn one beyond (limit - at) (take at all) (drop at all))
  judged_next all rest part at before between after most less here first others =
      let next : at + 1 ≡ suc at = omega arith in
      let room : limit - at ≡ suc (limit - suc at) = omega (arith, most, less) in
      subst (λ (n : ℕ). after ≡ noted between (refusals_in_turn one beyond (limit - n) (take n all) (drop n all))) next others
      ∙ (λ i. noted (first i) (refusals_in_turn one beyond (limit - suc at) (taken_next at all rest part here i) (dropped_next at all rest part here i)))
      ∙ sym (noted_appended number_of_wrong before (one (take at all) part) (refusals_in_turn one beyond (limit - suc at) (take at all ++ part ∷ []) rest))
      ∙ sym (λ i. noted before (refusals_in_turn one beyond (room i) (take at all) (here i)))

-- ---- one, or else the other

pub or_empty : (one other : List (Diagnostic WrongRule)) → refusals_or one other ≡ [] → (one ≡ []) × (other ≡ [])
or_empty [] other e = (refl, e)
or_empty (first ∷ rest) other e = cc

pub or_other : (one other : List (Diagnostic WrongRule)) → one ≡ [] → refusals_or one other ≡ other
or_other [] other e = refl
or_other (first ∷ rest) other e = cc

pub or_one : (one other : List (Diagnostic WrongRule)) (found : Diagnostic WrongRule) → first_diagnostic one ≡ Some found → refusals_or one other ≡ one
or_one [] other found e = cc
or_one (first ∷ rest) other found e = refl
