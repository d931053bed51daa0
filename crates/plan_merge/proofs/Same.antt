-- Directives are equal exactly where their parts are.
use Rattle.std.proofs.Common.{◌≡◌, Bool, true, false, ◌&&◌, List, [], ◌∷◌, Option, Some, None, nat_eq, refl, sym, ap, true≢false, arith}
use Rattle.std.specs.Bool.{Decides}
use Rattle.std.proofs.lemmas.Bool.Decides.{Decides-int_eq, Decides-eqb}
use Rattle.aerie_base.specs.declared.values.Value.{Value}
use Rattle.aerie_base.specs.declared.values.Value.TheVariants.{Int, Truth, Variant}
use Rattle.aerie_base.specs.declared.plans.Anchor.{Anchor}
use Rattle.aerie_base.specs.declared.plans.Edge.{Edge}
use Rattle.aerie_base.specs.declared.plans.Edge.TheVariants.{Start, End}
use Rattle.aerie_base.specs.declared.plans.Directive.{Directive}
use Rattle.aerie_base.specs.expressions.Arithmetic.{same_value, same_truth, number_in, truth_in}
use Rattle.aerie_base.specs.plans.RisingIds.{and_too}
use Rattle.plan_merge.specs.Table.{same, same_values, same_anchor, same_edge, IsSame}

both : (a b : Bool) → a && b ≡ true → (a ≡ true) × (b ≡ true)
both true b h = (refl, h)
both false b h = absurd (true≢false (sym h))

-- two tests decide two facts
pub decides_both : {P Q : Type 0} (a b : Bool) → Decides a P → Decides b Q → Decides (a && b) (P × Q)
decides_both a b p q = (λ h. (p.0 (both a b h).0, q.0 (both a b h).1), λ h. and_too a b (p.1 h.0) (q.1 h.1))

-- ---- values

truth_same : (a b : Bool) → same_truth a b ≡ true → a ≡ b
truth_same true b h = sym h
truth_same false true h = absurd (true≢false (sym h))
truth_same false false h = refl

truth_is : (a b : Bool) → a ≡ b → same_truth a b ≡ true
truth_is true true h = refl
truth_is true false h = absurd (true≢false h)
truth_is false true h = absurd (true≢false (sym h))
truth_is false false h = refl

pub decides_value : (a b : Value) → Decides (same_value a b) (a ≡ b)
decides_value a b = (same_is a b, is_same a b)
  where
    same_is : (a b : Value) → same_value a b ≡ true → a ≡ b
    same_is (Int a) (Int b) h = ap Int ((Decides-int_eq a b).0 h)
    same_is (Int a) (Truth b) h = absurd (true≢false (sym h))
    same_is (Int a) (Variant of b) h = absurd (true≢false (sym h))
    same_is (Truth a) (Int b) h = absurd (true≢false (sym h))
    same_is (Truth a) (Truth b) h = ap Truth (truth_same a b h)
    same_is (Truth a) (Variant of b) h = absurd (true≢false (sym h))
    same_is (Variant of a) (Int b) h = absurd (true≢false (sym h))
    same_is (Variant of a) (Truth b) h = absurd (true≢false (sym h))
    same_is (Variant of a) (Variant other b) h = grind arith

    is_same : (a b : Value) → a ≡ b → same_value a b ≡ true
    is_same (Int a) (Int b) h = (Decides-int_eq a b).1 (ap number_in h)
    is_same (Int a) (Truth b) h = grind arith
    is_same (Int a) (Variant of b) h = grind arith
    is_same (Truth a) (Int b) h = grind arith
    is_same (Truth a) (Truth b) h = truth_is a b (ap truth_in h)
    is_same (Truth a) (Variant of b) h = grind arith
    is_same (Variant of a) (Int b) h = grind arith
    is_same (Variant of a) (Truth b) h = grind arith
    is_same (Variant of a) (Variant other b) h = grind arith

pub decides_values : (a b : List Value) → Decides (same_values a b) (a ≡ b)
decides_values [] [] = (λ h. refl, λ h. refl)
decides_values [] (other ∷ others) = (λ h. absurd (true≢false (sym h)), λ h. grind arith)
decides_values (value ∷ values) [] = (λ h. absurd (true≢false (sym h)), λ h. grind arith)
decides_values (value ∷ values) (other ∷ others) =
    let parts = decides_both (same_value value other) (same_values values others) (decides_value value other) (decides_values values others) in
    (λ h. joined (parts.0 h), λ h. parts.1 (apart h))
  where
    joined : (value ≡ other) × (values ≡ others) → value ∷ values ≡ other ∷ others
    joined h = grind arith

    apart : value ∷ values ≡ other ∷ others → (value ≡ other) × (values ≡ others)
    apart h = (grind arith, grind arith)

-- ---- anchors

decides_edge : (a b : Edge) → Decides (same_edge a b) (a ≡ b)
decides_edge Start Start = (λ h. refl, λ h. refl)
decides_edge Start End = (λ h. absurd (true≢false (sym h)), λ h. grind arith)
decides_edge End Start = (λ h. absurd (true≢false (sym h)), λ h. grind arith)
decides_edge End End = (λ h. refl, λ h. refl)

pub decides_anchor : (a b : Option Anchor) → Decides (same_anchor a b) (a ≡ b)
decides_anchor None None = (λ h. refl, λ h. refl)
decides_anchor None (Some other) = (λ h. absurd (true≢false (sym h)), λ h. grind arith)
decides_anchor (Some anchor) None = (λ h. absurd (true≢false (sym h)), λ h. grind arith)
decides_anchor (Some anchor) (Some other) =
    let parts = decides_both (nat_eq anchor.to other.to) (same_edge anchor.edge other.edge) (Decides-eqb anchor.to other.to) (decides_edge anchor.edge other.edge) in
    (λ h. joined (parts.0 h), λ h. parts.1 (apart h))
  where
    joined : (anchor.to ≡ other.to) × (anchor.edge ≡ other.edge) → Some anchor ≡ Some other
    joined h = grind arith

    apart : Some anchor ≡ Some other → (anchor.to ≡ other.to) × (anchor.edge ≡ other.edge)
    apart h = (grind arith, grind arith)

-- ---- directives

pub decides_same : (a b : Directive) → Decides (same a b) (IsSame a b)
decides_same a b =
    decides_both (nat_eq a.kind b.kind) (same_values a.arguments b.arguments && (nat_eq a.start b.start && same_anchor a.anchor b.anchor))
    (Decides-eqb a.kind b.kind)
    (decides_both (same_values a.arguments b.arguments) (nat_eq a.start b.start && same_anchor a.anchor b.anchor)
    (decides_values a.arguments b.arguments)
    (decides_both (nat_eq a.start b.start) (same_anchor a.anchor b.anchor) (Decides-eqb a.start b.start) (decides_anchor a.anchor b.anchor)))
