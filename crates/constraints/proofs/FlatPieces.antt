-- Whole numbers that stay, as straight pieces.
use Rattle.std.proofs.Common.{◌≡◌, ℕ, ◌-◌, ◌<◌, ℤ, pos, Bool, true, false, cond, List, [], ◌∷◌, ◌++◌, map, refl, sym, subst, ◌∙◌, arith, nat_le}
use Rattle.std.specs.Prelude.{option_map, unwrap_or, Some}
use Rattle.std.proofs.lemmas.Int.{ints}
use Rattle.std.proofs.Math.IntN.{zero-*ℤ}
use Rattle.aerie_base.specs.declared.values.Value.TheVariants as value
use Rattle.aerie_base.specs.Ranges.{IsNumber}
use Rattle.aerie_base.specs.expressions.Arithmetic.{number_in}
use Rattle.profiles.specs.Neighbours.{RiseUpTo, DivideTime, first_start_of}
use Rattle.windows.specs.Begun.{last_begun}
use Rattle.windows.specs.declared.segments.Segment.{Segment}
use Rattle.windows.specs.Linear.{AreSegments, Follow, IsSum, first_start, segment_value, segments_value}
use Rattle.constraints.specs.Steps.{Step, HaveNumbers, flat, step_value}

-- a piece that stays has its number
stays : (step : Step) (t : ℕ) → segment_value (flat step) t ≡ number_in step.1
stays step t =
    let none = zero-*ℤ (pos (t - step.0)) in
    omega (arith, ints, none)

pub flat_value : (steps : List Step) (t : ℕ) → segments_value (map flat steps) t ≡ number_in (step_value steps t)
flat_value [] t = refl
flat_value (step ∷ []) t = stays step t
flat_value (step ∷ next ∷ rest) t = go (flat_value (next ∷ rest) t) (nat_le next.0 t)
  where
    go : segments_value (map flat (next ∷ rest)) t ≡ number_in (step_value (next ∷ rest) t) → (b : Bool) →
        cond b (segments_value (map flat (next ∷ rest)) t) (segment_value (flat step) t)
        ≡ number_in (unwrap_or (option_map (λ (s : Step). s.1) (cond b (last_begun (λ (s : Step). s.0) (next ∷ rest) t) (Some step))) (value.Int (pos 0)))
    go there true = there
    go there false = stays step t

first_flat : (reach : ℕ) (steps : List Step) → first_start_of reach (map (λ step. step.0) steps) ≡ first_start reach (map flat steps)
first_flat reach [] = refl
first_flat reach (step ∷ rest) = refl

number_sum : (x : ℤ) → IsNumber x → IsSum x
number_sum x is = omega (arith, is)

flat_follow : (reach : ℕ) (steps : List Step) → RiseUpTo reach (map (λ step. step.0) steps) → HaveNumbers (map flat steps) → Follow reach (map flat steps)
flat_follow reach [] rise numbers = tt
flat_follow reach (step ∷ rest) rise numbers = (
  subst (λ n. step.0 < n) (first_flat reach rest) rise.0,
  (λ t after before. subst IsSum (sym (stays step t)) (number_sum (number_in step.1) numbers.0)),
  flat_follow reach rest rise.1 numbers.1,
)

pub flat_segments_are : (reach : ℕ) (steps : List Step) → DivideTime reach (map (λ step. step.0) steps) → HaveNumbers (map flat steps) → AreSegments reach (map flat steps)
flat_segments_are reach steps divide numbers = record {
  begin_at_zero = λ some. sym (first_flat reach steps) ∙ divide.begin_at_zero some;
  follow = flat_follow reach steps divide.rise numbers;
}

-- at each time the number is one of a model
pub flat_small : (steps : List Step) (t : ℕ) → HaveNumbers (map flat steps) → IsNumber (segments_value (map flat steps) t)
flat_small [] t numbers = omega arith
flat_small (step ∷ []) t numbers = subst IsNumber (sym (stays step t)) numbers.0
flat_small (step ∷ next ∷ rest) t numbers = go (flat_small (next ∷ rest) t numbers.1) (nat_le next.0 t)
  where
    go : IsNumber (segments_value (map flat (next ∷ rest)) t) → (b : Bool) → IsNumber (cond b (segments_value (map flat (next ∷ rest)) t) (segment_value (flat step) t))
    go there true = there
    go there false = subst IsNumber (sym (stays step t)) numbers.0

-- ---- the loop

pub numbers_more : (made new : List Segment) (piece : Segment) → HaveNumbers made → IsNumber piece.value → new ≡ made ++ piece ∷ [] → HaveNumbers new
numbers_more made new piece numbers number pushed = subst HaveNumbers (sym pushed) (behind made numbers)
  where
    behind : (made : List Segment) → HaveNumbers made → HaveNumbers (made ++ piece ∷ [])
    behind [] numbers = (number, tt)
    behind (first ∷ made) numbers = (numbers.0, behind made numbers.1)
