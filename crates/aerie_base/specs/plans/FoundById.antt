-- A file of lemmas: what it proves need not be read to trust a clause.
--
-- What is known of a directive that was found by its id.
use Rattle.std.proofs.Common.{◌≡◌, ℕ, zero, suc, ◌<◌, ◌||◌, Bool, true, false, List, [], ◌∷◌, Option, Some, None, is_some, length, slice_get, nat_eq, refl, sym, ap, ◌∙◌, eq-eqb, eqb-true, if◌then◌else◌, true≢false, arith}
use Rattle.std.specs.List.{list_any}
use Rattle.std.proofs.lemmas.Option.{none-some, same_Some}
use Rattle.aerie_base.specs.declared.plans.Directive.{Directive}
use Rattle.aerie_base.specs.plans.OfModel.{ids_of, with_id}

-- a test of equality, either way round
pub eq_back : (a b : ℕ) (t : Bool) → nat_eq a b ≡ t → nat_eq b a ≡ t
eq_back a b true h = eq-eqb b a (sym (eqb-true a b h))
eq_back a b false h = go (nat_eq b a) refl
  where
    go : (t : Bool) → nat_eq b a ≡ t → nat_eq b a ≡ false
    go true k = absurd (true≢false (sym (eq-eqb a b (sym (eqb-true b a k))) ∙ h))
    go false k = k

-- one of the ids is this one exactly where a directive has it
pub among : (directives : List Directive) (id : ℕ) → is_some (with_id directives id) ≡ list_any (nat_eq id) (ids_of directives)
among [] id = refl
among (first ∷ rest) id = go (among rest id) (nat_eq first.id id) refl
  where
    go : is_some (with_id rest id) ≡ list_any (nat_eq id) (ids_of rest) → (t : Bool) → nat_eq first.id id ≡ t →
        is_some (if nat_eq first.id id then Some first else with_id rest id) ≡ (nat_eq id first.id || list_any (nat_eq id) (ids_of rest))
    go others true h =
        ap (λ (t : Bool). is_some (if t then Some first else with_id rest id)) h
        ∙ sym (ap (λ (t : Bool). t || list_any (nat_eq id) (ids_of rest)) (eq_back first.id id true h))
    go others false h =
        ap (λ (t : Bool). is_some (if t then Some first else with_id rest id)) h ∙ others
        ∙ sym (ap (λ (t : Bool). t || list_any (nat_eq id) (ids_of rest)) (eq_back first.id id false h))

-- the directive found by an id has it
pub id_found : (directives : List Directive) (id : ℕ) (found : Directive) → with_id directives id ≡ Some found → found.id ≡ id
id_found [] id found here = absurd (none-some found here)
id_found (first ∷ rest) id found here = go (id_found rest id found) (nat_eq first.id id) refl here
  where
    go : (with_id rest id ≡ Some found → found.id ≡ id) → (b : Bool) → nat_eq first.id id ≡ b → (if b then Some first else with_id rest id) ≡ Some found → found.id ≡ id
    go others true is there = ap (λ (d : Directive). d.id) (sym (same_Some first found there)) ∙ eqb-true first.id id is
    go others false is there = others there

-- there is an item at each place within
pub none_within : {X : Type 0} (xs : List X) (at : ℕ) → at < length xs → slice_get xs at ≡ None → ⊥
none_within [] at within none = omega (arith, within)
none_within (x ∷ xs) zero within none = none-some x (sym none)
none_within (x ∷ xs) (suc at) within none = none_within xs at (omega (arith, within)) none

-- at a place that a search found is the directive with the id
pub at_place : (directives : List Directive) (at id : ℕ) → at < length directives → slice_get directives at ≡ with_id directives id →
    (found : Directive) × ((slice_get directives at ≡ Some found) × (found.id ≡ id))
at_place directives at id within same = go (slice_get directives at) refl
  where
    go : (found : Option Directive) → slice_get directives at ≡ found → (found : Directive) × ((slice_get directives at ≡ Some found) × (found.id ≡ id))
    go None none = absurd (none_within directives at within none)
    go (Some found) here = (found, (here, id_found directives id found (sym same ∙ here)))
