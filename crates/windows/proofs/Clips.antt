-- What clipping to a span keeps: the order, and the times that lie before and after.
use Rattle.std.proofs.Common.{◌≡◌, ℕ, ◌<◌, ◌≤◌, ℤ, pos, negsuc, ◌≤ℤ◌, arith, nat_le, nat_lt}
use Rattle.std.specs.Int.RustNames.{int_lt, int_le}
use Rattle.std.proofs.lemmas.Int.{ints}
use Rattle.windows.specs.Ends.{clipped}

pub clipped_from : (low high : ℕ) (z : ℤ) (t : ℕ) → low ≤ t → t < high → nat_le (clipped low high z) t ≡ int_le z (pos t)
clipped_from low high (pos n) t after below = grind (arith, ints)
clipped_from low high (negsuc n) t after below = grind (arith, ints)

pub clipped_to : (low high : ℕ) (z : ℤ) (t : ℕ) → low ≤ t → t < high → nat_lt t (clipped low high z) ≡ int_lt (pos t) z
clipped_to low high (pos n) t after below = grind (arith, ints)
clipped_to low high (negsuc n) t after below = grind (arith, ints)

pub clipped_within : (low high : ℕ) (z : ℤ) → low ≤ high → clipped low high z ≤ high
clipped_within low high (pos n) order = grind (arith, ints)
clipped_within low high (negsuc n) order = grind (arith, ints)

pub clipped_order : (low high : ℕ) (y z : ℤ) → low ≤ high → y ≤ℤ z → clipped low high y ≤ clipped low high z
clipped_order low high (pos n) (pos m) order below = grind (arith, ints)
clipped_order low high (pos n) (negsuc m) order below = absurd (omega (arith, ints))
clipped_order low high (negsuc n) (pos m) order below = grind (arith, ints)
clipped_order low high (negsuc n) (negsuc m) order below = grind (arith, ints)

pub clipped_above : (low high : ℕ) (z : ℤ) → low ≤ high → low ≤ clipped low high z
clipped_above low high (pos n) order = grind (arith, ints)
clipped_above low high (negsuc n) order = grind (arith, ints)
