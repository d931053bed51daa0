-- A file of lemmas: what it proves need not be read to trust a clause.
--
-- A time is kept as a signed number and seen as a natural one. Nothing is lost by that.
use Rattle.std.specs.Prelude.{◌≡◌, ℤ, pos, negsuc, nat_abs, ◌≤ℤ◌, refl}
use Rattle.std.proofs.Common.{arith, ap}
use Rattle.std.proofs.lemmas.Int.{ints}
use Rattle.aerie_base.specs.declared.numbers.time.Time.TheInside.{Inside}

same_value : (z : ℤ) → pos 0 ≤ℤ z → pos (nat_abs z) ≡ z
same_value (pos n) h = refl
same_value (negsuc n) h = absurd (omega (arith, ints))

-- the field that the seen value gives back is the field
pub same_field : (t : Inside) → pos 0 ≤ℤ t.micros → ◌≡◌ {A = Inside} (record { micros = pos (nat_abs t.micros) }) t
same_field t h = ap (λ (z : ℤ). record { micros = z }) (same_value t.micros h)
