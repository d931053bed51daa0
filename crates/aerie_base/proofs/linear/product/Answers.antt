-- The product of two such numbers fits.
use Rattle.std.proofs.Common.{◌≡◌, ◌≤◌, ℤ, ◌*ℤ◌, to_z, of_z, FitsSigned, unsigned_abs, arith}
use Rattle.std.specs.Int.{w128}
use Rattle.std.proofs.lemmas.Int.{to_z-of_z, fits_signed_from_abs}
use Rattle.aerie_base.specs.Products.{product_within}
use Rattle.aerie_base.proofs.linear.product.Goals as goal

product_is : (a b : ℤ) → FitsSigned w128 a → FitsSigned w128 b → unsigned_abs a ≤ 1_000_000 → unsigned_abs b ≤ 1_000_000_000_000_000_000 →
    to_z w128 (of_z w128 (to_z w128 (of_z w128 a) *ℤ to_z w128 (of_z w128 b))) ≡ a *ℤ b
product_is a b fits_a fits_b small_a small_b =
    let most = product_within a b small_a in
    let same_a = to_z-of_z w128 a fits_a in
    let same_b = to_z-of_z w128 b fits_b in
    rw (same_a, same_b) (to_z-of_z w128 (a *ℤ b) (fits_signed_from_abs w128 (a *ℤ b) (omega (arith, most))))

pub returns-clause-value : goal.returns-clause-value
returns-clause-value c = product_is c.args.coefficient c.args.number c.ranges.coefficient c.ranges.number c.requires.coefficient c.requires.number

pub returns-clause-small : goal.returns-clause-small
returns-clause-small c =
    let is = product_is c.args.coefficient c.args.number c.ranges.coefficient c.ranges.number c.requires.coefficient c.requires.number in
    rw is (product_within c.args.coefficient c.args.number c.requires.coefficient)
