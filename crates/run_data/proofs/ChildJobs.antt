-- The children of a job of the model are such jobs, with views whose numbers are within bounds.
use Rattle.std.proofs.Common.{◌≡◌, ℕ, zero, suc, ◌+◌, ◌*◌, ◌-◌, ◌<◌, ◌≤◌, List, [], ◌∷◌, ◌++◌, All, length, replicate, slice_get, refl, subst, arith}
use Rattle.std.proofs.lemmas.List.Elements.{All-nil, All-cons}
use Rattle.aerie_base.specs.Ranges.{number_limit}
use Rattle.aerie_base.specs.declared.values.Value.{Value}
use Rattle.aerie_base.specs.declared.models.model.Parts.{Parts}
use Rattle.effect_cells.specs.declared.effects.CellState.{CellState}
use Rattle.effect_cells.specs.declared.effects.CellState.TheVariants as state
use Rattle.effect_cells.specs.Cells.{emitted}
use Rattle.run_data.specs.declared.frames.Item.{Item}
use Rattle.run_data.specs.declared.frames.Item.TheVariants as item
use Rattle.run_data.specs.Jobs.{AreCellsOf, IsModest, view_limit}
use Rattle.run_data.specs.MagnitudeLaws.{emitted_within}
use Rattle.run_data.specs.Magnitudes.{state_magnitude, AreWithin}
use Rattle.run_data.specs.Numbers.{HasNumber}
use Rattle.run_data.specs.TaskStates.{activity_slots, unset}
use Rattle.run_data.specs.laws.Generations.{child_jobs}
use Rattle.run_data.specs.laws.ModelSteps.{AreChildrenOf}
use Rattle.run_data.specs.laws.Orders.{EachOf}
use Rattle.run_data.specs.laws.SmallSteps.{IsSmallItem, IsJobWithin, ChildrenAreJobs, WithinIsJob}
use Rattle.run_data.proofs.CellKinds.{cells_emitted}
use Rattle.run_data.proofs.ModelSteps.{step_keeps}
use Rattle.run_data.proofs.SmallActs.{steps_are_small}
use Rattle.run_data.proofs.StepLeavings.{EffectsFit, step_leaves}

-- ---- a child's locals

each_append : (first second : List Value) → EachOf HasNumber first → EachOf HasNumber second → EachOf HasNumber (first ++ second)
each_append [] second h k = k
each_append (value ∷ first) second h k = (h.0, each_append first second h.1 k)

unset_in : (count : ℕ) → EachOf HasNumber (replicate count unset)
unset_in zero = tt
unset_in (suc count) = (omega arith, unset_in count)

-- ---- children

module _ (model : Parts) (whole : List CellState) (most : ℕ) where
  children_within : (maker : List ℕ) (number count : ℕ) (view : List CellState) (items : List Item) → AreCellsOf model view → EffectsFit model items → AreChildrenOf model items →
      EachOf (IsSmallItem whole) items → AreWithin (most + count * number_limit) view → (last : ℕ) → count + length items ≤ last →
      EachOf (IsJobWithin model (most + last * number_limit)) (child_jobs model maker number view items)
  children_within maker number count view [] are fit children small within last less = tt
  children_within maker number count view (item.Emit cell effect ∷ rest) are fit children small within last less =
      let one : (most + count * number_limit) + number_limit ≡ most + (count + 1) * number_limit = omega arith in
      children_within maker number (count + 1) (emitted view cell effect) rest (cells_emitted model view cell effect are (fit.0 view are)) fit.1 children small.1
      (subst (λ (m : ℕ). AreWithin m (emitted view cell effect)) one (emitted_within view cell effect (most + count * number_limit) number_limit within small.0.1)) last (omega arith)
  children_within maker number count view (item.Child kind arguments ∷ rest) are fit children small within last less = (
    record {
      state = children.0;
      view = are;
      locals = each_append arguments (replicate (activity_slots (slice_get model.activities kind) - length arguments) unset) small.0 (unset_in (activity_slots (slice_get model.activities kind) - length arguments));
      within = λ cell state is. (let near = within cell state is in omega arith);
    },
    children_within maker (number + 1) count view rest are fit children.1 small.1 within last (omega arith),
  )

pub children_are_jobs : ChildrenAreJobs
children_are_jobs model budget most number job status so_far valid is e =
    let small = steps_are_small model budget most job status so_far valid is e in
    let keeps = step_keeps model budget job status so_far valid is.state is.view e in
    let leaves = step_leaves model valid budget job status so_far is.state is.view e in
    let none : most ≡ most + 0 * number_limit = omega arith in
    children_within model job.view most job.path number 0 job.view so_far.items is.view leaves.0 keeps.0.children small.items
    (subst (λ (m : ℕ). AreWithin m job.view) none is.within) so_far.cost (omega (arith, small.few))

-- ---- a job

modest : (most : ℕ) (cell : CellState) → state_magnitude cell ≤ most → most < view_limit → IsModest cell
modest most (state.Counter number) h less = omega arith
modest most (state.Register value conflicted) h less = tt
modest most (state.Volume volume rate) h less = (omega arith, omega arith)

all_modest : (most : ℕ) (cells : List CellState) → AreWithin most cells → most < view_limit → All IsModest cells
all_modest most [] h less = All-nil IsModest
all_modest most (cell ∷ rest) h less =
    All-cons IsModest cell rest (modest most cell (h 0 cell refl) less) (all_modest most rest (λ i. h (suc i)) less)

pub within_is_job : WithinIsJob
within_is_job model most job is less = record { state = is.state; view = is.view; modest = all_modest most job.view is.within less }
