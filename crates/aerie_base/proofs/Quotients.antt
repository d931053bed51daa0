-- Quotients of numbers that a model may have.
use Rattle.std.proofs.Common.{◌≡◌, ◌≤◌, ℕ, zero, suc, ◌/◌, ℤ, pos, negsuc, neg_ℤ, arith, to_z, of_z, FitsSigned, refl, sym, ap, ◌∙◌, Bool, false, if◌then◌else◌, nat_eq, Err}
use Rattle.aerie_base.specs.declared.faults.Fault.TheVariants.{Divide}
use Rattle.std.proofs.Math.Nat.{div-le_self}
use Rattle.std.proofs.lemmas.Int.{quot_is}
use Rattle.std.specs.Int.{w128}
use Rattle.std.specs.Int.RustNames.{int_div}
use Rattle.aerie_base.specs.Ranges.{IsNumber}
use Rattle.aerie_base.specs.expressions.Arithmetic.{ValueOrFault, ranged, divided}

negated : (n : ℕ) → n ≤ 1_000_000_000_000_000_000 → FitsSigned w128 (neg_ℤ (pos n))
negated zero h = record { sfits = omega arith }
negated (suc n) h = record { sfits = omega arith }

-- a quotient is no greater than the dividend
quotient_fits : (a d : ℤ) → IsNumber a → FitsSigned w128 (int_div a d)
quotient_fits (pos a) (pos d) h = record { sfits = omega (arith, div-le_self a d) }
quotient_fits (pos a) (negsuc d) h = negated (a / suc d) (omega (arith, div-le_self a (suc d)))
quotient_fits (negsuc a) (pos d) h = negated (suc a / d) (omega (arith, div-le_self (suc a) d))
quotient_fits (negsuc a) (negsuc d) h = record { sfits = omega (arith, div-le_self (suc a) (suc d)) }

number_fits : (a : ℤ) → IsNumber a → FitsSigned w128 a
number_fits (pos a) h = record { sfits = omega arith }
number_fits (negsuc a) h = record { sfits = omega arith }

above : (d : ℕ) → nat_eq (suc d) 0 ≡ false
above d = grind arith

chosen : (b : Bool) (number : ℤ) → b ≡ false → ranged number ≡ (if b then Err Divide else ranged number)
chosen b number e = ap (λ (c : Bool). if c then Err Divide else ranged number) (sym e)

not_zero : (d number : ℤ) → (of_z w128 d ≡ 0 → ⊥) → ranged number ≡ divided d number
not_zero (pos zero) number k = absurd (k refl)
not_zero (pos (suc d)) number k = chosen _ number (above d)
not_zero (negsuc d) number k = chosen _ number (above d)

-- what the code computes of a divisor that is not 0
pub quotient_is : (a d : ℤ) (result : ValueOrFault) → IsNumber a → IsNumber d → (of_z w128 d ≡ 0 → ⊥) →
    result ≡ ranged (to_z w128 (of_z w128 (int_div (to_z w128 (of_z w128 a)) (to_z w128 (of_z w128 d))))) →
    result ≡ divided d (int_div a d)
quotient_is a d result h k n e =
    e
    ∙ ap ranged (quot_is w128 a d (number_fits a h) (number_fits d k) (quotient_fits a d h))
    ∙ not_zero d (int_div a d) n
