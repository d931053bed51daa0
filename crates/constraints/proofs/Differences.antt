-- Two numbers compare as their difference does with 0.
use Rattle.std.proofs.Common.{◌≡◌, ℤ, pos, negsuc, ◌+ℤ◌, ◌*ℤ◌, not, ap, arith}
use Rattle.std.specs.Int.RustNames.{int_lt, int_le}
use Rattle.std.specs.Ordering.{int_eq}
use Rattle.std.proofs.lemmas.Int.{ints}
use Rattle.aerie_base.specs.declared.expressions.Comparison.{Comparison}
use Rattle.aerie_base.specs.declared.expressions.Comparison.TheVariants.{Equal, Unequal, Less, AtMost, More, AtLeast}
use Rattle.aerie_base.specs.expressions.Arithmetic.{compared}

pub less_once : (b : ℤ) → negsuc 0 *ℤ b +ℤ b ≡ pos 0
less_once b = omega (arith, ints)

equal : (a b d : ℤ) → d +ℤ b ≡ a → int_eq d (pos 0) ≡ int_eq a b
equal a b d whole = grind (arith, ints)

below : (a b d : ℤ) → d +ℤ b ≡ a → int_lt d (pos 0) ≡ int_lt a b
below a b d whole = grind (arith, ints)

above : (a b d : ℤ) → d +ℤ b ≡ a → int_lt (pos 0) d ≡ int_lt b a
above a b d whole = grind (arith, ints)

no_more : (a b d : ℤ) → d +ℤ b ≡ a → int_le d (pos 0) ≡ int_le a b
no_more a b d whole = grind (arith, ints)

no_less : (a b d : ℤ) → d +ℤ b ≡ a → int_le (pos 0) d ≡ int_le b a
no_less a b d whole = grind (arith, ints)

compared_whole : (how : Comparison) (a b d : ℤ) → d +ℤ b ≡ a → compared how d (pos 0) ≡ compared how a b
compared_whole Equal a b d whole = equal a b d whole
compared_whole Unequal a b d whole = ap not (equal a b d whole)
compared_whole Less a b d whole = below a b d whole
compared_whole AtMost a b d whole = no_more a b d whole
compared_whole More a b d whole = above a b d whole
compared_whole AtLeast a b d whole = no_less a b d whole

pub compared_difference : (how : Comparison) (a b d : ℤ) → d ≡ a +ℤ negsuc 0 *ℤ b → compared how d (pos 0) ≡ compared how a b
compared_difference how a b d is = let once = less_once b in compared_whole how a b d (omega (arith, ints, is, once))
