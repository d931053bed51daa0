-- A file of lemmas: what it proves need not be read to trust a clause.
--
-- Counts: what frames cost together, what of them no record fits, and how the count of a stepper rises.
use Rattle.std.specs.Prelude.{◌≡◌, ℕ, ◌+◌, ◌-◌, ◌≤◌, min, Bool, true, false, List, [], ◌∷◌, ◌++◌, if◌then◌else◌, refl}
use Rattle.std.proofs.Common.{ap, arith}
use Rattle.run_data.specs.TaskFrames.{Frame}
use Rattle.run_data.specs.declared.frames.Record.{Record}
use Rattle.run_data.specs.Batches.{cost_of}
use Rattle.run_data.specs.Records.{has_fit, unmatched}
use Rattle.run_data.specs.Waves.{last_count, RoseAlike}

-- ---- costs

pub cost_append : (frames rest : List Frame) → cost_of (frames ++ rest) ≡ cost_of frames + cost_of rest
cost_append [] rest = omega arith
cost_append (frame ∷ frames) rest = omega (arith, cost_append frames rest)

pub unmatched_append : (frames rest : List Frame) (records : List Record) → unmatched (frames ++ rest) records ≡ unmatched frames records + unmatched rest records
unmatched_append [] rest records = omega arith
unmatched_append (frame ∷ frames) rest records = by (has_fit records frame) (unmatched_append frames rest records)
  where
    by : (fits : Bool) → unmatched (frames ++ rest) records ≡ unmatched frames records + unmatched rest records →
        (if fits then unmatched (frames ++ rest) records else frame.cost + unmatched (frames ++ rest) records)
        ≡ (if fits then unmatched frames records else frame.cost + unmatched frames records) + unmatched rest records
    by true further = further
    by false further = omega (arith, further)

-- without records it is all that they cost
pub unmatched_of_none : (frames : List Frame) → unmatched frames [] ≡ cost_of frames
unmatched_of_none [] = refl
unmatched_of_none (frame ∷ rest) = ap (λ cost. frame.cost + cost) (unmatched_of_none rest)

-- ---- counts that rise alike

pub rose_not : (count steps : ℕ) → count ≤ last_count → RoseAlike count steps count steps
rose_not count steps within = (omega arith, λ rise is. omega (arith, is, within))

pub rose_by : (count steps cost count_after steps_after : ℕ) → count_after ≡ min (count + cost) last_count → steps_after ≡ steps + cost →
    RoseAlike count steps count_after steps_after
rose_by count steps cost count_after steps_after c s = (omega (arith, s), λ rise is. omega (arith, c, s, is))

pub rose_on : (count steps count_then steps_then count_after steps_after : ℕ) → RoseAlike count steps count_then steps_then →
    RoseAlike count_then steps_then count_after steps_after → RoseAlike count steps count_after steps_after
rose_on count steps count_then steps_then count_after steps_after first second = (
  omega (arith, first.0, second.0),
  λ rise is.
      let one = first.1 (steps_then - steps) (omega (arith, first.0)) in
      let other = second.1 (steps_after - steps_then) (omega (arith, second.0)) in
      omega (arith, one, other, is, first.0, second.0),
)

pub rose_within : (count steps count_after steps_after : ℕ) → RoseAlike count steps count_after steps_after → count_after ≤ last_count
rose_within count steps count_after steps_after rose =
    let is = rose.1 (steps_after - steps) (omega (arith, rose.0)) in
    omega (arith, is)
