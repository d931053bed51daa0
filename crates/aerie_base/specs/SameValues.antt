-- A file of lemmas: what it proves need not be read to trust a clause.
--
-- Values that compare as the same are equal.
use Rattle.std.proofs.Common.{◌≡◌, ℤ, ◌<ℤ◌, Bool, true, false, refl, ap, arith}
use Rattle.std.specs.Ordering.{int_cmp, int_eq, is_eq, MatchOrdering}
use Rattle.std.specs.declared.cmp.Ordering.{Ordering}
use Rattle.std.specs.declared.cmp.Ordering.TheVariants.{Less, Equal, Greater}
use Rattle.std.proofs.lemmas.Bool.{false≢true}
use Rattle.std.proofs.lemmas.Cmp.{int_ranked}
use Rattle.aerie_base.specs.declared.values.Value.{Value}
use Rattle.aerie_base.specs.declared.values.Value.TheVariants.{Int, Truth, Variant}
use Rattle.aerie_base.specs.expressions.Arithmetic.{same_value, same_truth}

pub numbers_are : (a b : ℤ) → int_eq a b ≡ true → a ≡ b
numbers_are a b h = by (int_cmp a b) (int_ranked a b (int_cmp a b) refl) h
  where
    by : (order : Ordering) → MatchOrdering order (a <ℤ b) (a ≡ b) (b <ℤ a) → is_eq order ≡ true → a ≡ b
    by Less less h = absurd (false≢true h)
    by Equal same h = same
    by Greater more h = absurd (false≢true h)

pub truths_are : (a b : Bool) → same_truth a b ≡ true → a ≡ b
truths_are true true h = refl
truths_are true false h = absurd (cc)
truths_are false true h = absurd (cc)
truths_are false false h = refl

pub values_are : (a b : Value) → same_value a b ≡ true → a ≡ b
values_are (Int a) (Int b) h = ap Int (numbers_are a b h)
values_are (Int a) (Truth b) h = absurd (cc)
values_are (Int a) (Variant of b) h = absurd (cc)
values_are (Truth a) (Int b) h = absurd (cc)
values_are (Truth a) (Truth b) h = ap Truth (truths_are a b h)
values_are (Truth a) (Variant of b) h = absurd (cc)
values_are (Variant of a) (Int b) h = absurd (cc)
values_are (Variant of a) (Truth b) h = absurd (cc)
values_are (Variant of a) (Variant other b) h =
    let first : of ≡ other = grind arith in
    let second : a ≡ b = grind arith in
    λ i. Variant (first i) (second i)
