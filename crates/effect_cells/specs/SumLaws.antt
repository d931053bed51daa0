-- A file of lemmas: what it proves need not be read to trust a clause.
--
-- The laws of sums, one number at a time and for a volume and its rate together.
use Rattle.std.specs.Prelude.{◌≡◌, ℕ, ℤ, pos, ◌+◌, refl}
use Rattle.std.proofs.Common.{arith}
use Rattle.std.proofs.lemmas.Int.{ints}
use Rattle.effect_cells.specs.Sums.{both_sums, flowed}

pair_is : (a b c d : ℤ) → a ≡ c → b ≡ d → ◌≡◌ {A = ℤ × ℤ} (a, b) (c, d)
pair_is a b c d p q = λ i. (p i, q i)

pub sums_associate : (a b c : ℤ × ℤ) → both_sums (both_sums a b) c ≡ both_sums a (both_sums b c)
sums_associate a b c = pair_is _ _ _ _ (omega (arith, ints)) (omega (arith, ints))

pub sums_commute : (a b : ℤ × ℤ) → both_sums a b ≡ both_sums b a
sums_commute a b = pair_is _ _ _ _ (omega (arith, ints)) (omega (arith, ints))

pub zeros_first : (a : ℤ × ℤ) → both_sums (pos 0, pos 0) a ≡ a
zeros_first a = pair_is _ _ a.0 a.1 (omega (arith, ints)) (omega (arith, ints))

pub zeros_last : (a : ℤ × ℤ) → both_sums a (pos 0, pos 0) ≡ a
zeros_last a = pair_is _ _ a.0 a.1 (omega (arith, ints)) (omega (arith, ints))

pub sums_in_turn : (a b c : ℤ × ℤ) → both_sums a (both_sums b c) ≡ both_sums (both_sums a b) c
sums_in_turn a b c = pair_is _ _ _ _ (omega (arith, ints)) (omega (arith, ints))

pub flowed_zero : (a : ℤ × ℤ) → flowed a 0 ≡ a
flowed_zero a = pair_is _ _ a.0 a.1 (omega (arith, ints)) refl

-- what flows in over two times is what flows in over the first and then over the second
pub flowed_sum : (a : ℤ × ℤ) (s t : ℕ) → flowed a (s + t) ≡ flowed (flowed a s) t
flowed_sum a s t = pair_is _ _ _ _ (omega (arith, ints)) refl
