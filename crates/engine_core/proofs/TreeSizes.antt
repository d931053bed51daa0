-- What a batch makes is small: its tree can be committed, and no frame has more items than it cost.
use Rattle.std.proofs.Common.{◌≡◌, ℕ, zero, suc, ◌+◌, ◌*◌, ◌<◌, ◌≤◌, ◌&&◌, Bool, true, IsTrue, List, [], ◌∷◌, ◌++◌, map, length, Some, None, refl, ap, ◌∙◌, subst, arith}
use Rattle.std.proofs.lemmas.List.Sums.{sum_by-cons}
use Rattle.aerie_base.specs.Ranges.{number_limit, step_limit}
use Rattle.aerie_base.specs.declared.models.model.Parts.{Parts}
use Rattle.aerie_base.specs.models.ValidModel.{valid_model}
use Rattle.effect_cells.specs.declared.effects.CellState.{CellState}
use Rattle.effect_cells.specs.declared.effects.Effect.{Effect}
use Rattle.effect_cells.specs.declared.effects.Effect.TheVariants.{Add, Register, Flow}
use Rattle.effect_cells.specs.declared.trees.Part.{Part, Emit, Child}
use Rattle.effect_cells.specs.declared.trees.Tree.{Tree}
use Rattle.effect_cells.specs.Cells.{accepts, emitted, fits_cells}
use Rattle.effect_cells.specs.Sums.{sum_limit}
use Rattle.effect_cells.specs.TreeRecursion.{part_gives}
use Rattle.effect_cells.specs.TreeRecursionLaws.{gives-Child}
use Rattle.effect_cells.specs.Worth.{magnitude, part_magnitude, tree_magnitude, magnitude_of, part_fits, tree_fits}
use Rattle.run_data.specs.TaskFrames.{Frame}
use Rattle.run_data.specs.declared.frames.Item.{Item}
use Rattle.run_data.specs.declared.frames.Item.TheVariants as item
use Rattle.run_data.specs.declared.jobs.Job.{Job}
use Rattle.run_data.specs.Batches.{cost_of, tree_of}
use Rattle.run_data.specs.Frames.{Made, Making, with_effect, with_child, with_frame, child_job, job_step, frame_of, of_items, of_step, too_deep, made_within, made_by, made_by_all, room_of}
use Rattle.run_data.specs.Jobs.{AreCellsOf, view_limit}
use Rattle.run_data.specs.Magnitudes.{effect_magnitude}
use Rattle.run_data.specs.Steps.{Stepped}
use Rattle.run_data.specs.laws.Generations.{child_jobs}
use Rattle.run_data.specs.laws.Orders.{EachOf, FitsCells, MadeFitsCells}
use Rattle.run_data.specs.laws.SmallSteps.{IsSmallItem, IsJobWithin, StepsAreSmall, ChildrenAreJobs, WithinIsJob}
use Rattle.engine_core.specs.BatchTrees.{HaveFewItems}
use Rattle.run_data.specs.Counts.{cost_append}

-- ---- magnitudes

abbrev size : List Part → ℕ
size parts = magnitude_of (record { items = parts })

size_cons : (part : Part) (rest : List Part) → size (part ∷ rest) ≡ part_gives ℕ ℕ part_magnitude tree_magnitude part + size rest
size_cons part rest = sum_by-cons (λ n. n) (part_gives ℕ ℕ part_magnitude tree_magnitude part) (map (part_gives ℕ ℕ part_magnitude tree_magnitude) rest)

size_child : (tree : Tree) (rest : List Part) → size (Child tree ∷ rest) ≡ magnitude_of tree + size rest
size_child tree rest = size_cons (Child tree) rest ∙ ap (λ n. n + size rest) (gives-Child ℕ ℕ part_magnitude tree_magnitude tree)

-- what one effect adds at most
abbrev effect_limit : ℕ
effect_limit = 2_000_000_000_000_000_000

effect_is_small : (effect : Effect) → effect_magnitude effect ≤ number_limit → magnitude effect ≤ effect_limit
effect_is_small (Add a) h = omega (arith, h)
effect_is_small (Register change) h = omega arith
effect_is_small (Flow v r) h = omega (arith, h)

-- ---- what is made

-- the tree is worth no more than its frames and so many statements besides cost, and no frame has more items than it cost
record IsSmallMade (extra : ℕ) (made : Made) : Type 0 where
  worth : size made.tree ≤ (extra + cost_of made.frames) * effect_limit
  few : EachOf (λ frame. length frame.items ≤ frame.cost) made.frames

abbrev IsSmallMaking : ℕ → Making → Type 0
IsSmallMaking extra None = Unit {0}
IsSmallMaking extra (Some made) = IsSmallMade extra made

each_append : (P : Frame → Type 0) (first second : List Frame) → EachOf P first → EachOf P second → EachOf P (first ++ second)
each_append P [] second h k = k
each_append P (frame ∷ first) second h k = (h.0, each_append P first second h.1 k)

small_effect : (extra cell : ℕ) (effect : Effect) (making : Making) → effect_magnitude effect ≤ number_limit → IsSmallMaking extra making → IsSmallMaking (extra + 1) (with_effect cell effect making)
small_effect extra cell effect None h k = tt
small_effect extra cell effect (Some made) h k =
    let one = effect_is_small effect h in
    let worth : size (Emit cell effect ∷ made.tree) ≡ magnitude effect + size made.tree = size_cons (Emit cell effect) made.tree in
    record { worth = omega (arith, worth, one, k.worth); few = k.few }

small_child : (extra : ℕ) (child rest : Making) → IsSmallMaking 0 child → IsSmallMaking extra rest → IsSmallMaking extra (with_child child rest)
small_child extra None rest h k = tt
small_child extra (Some child) None h k = tt
small_child extra (Some child) (Some rest) h k =
    let worth = size_child (record { items = child.tree }) rest.tree in
    let cost = cost_append child.frames rest.frames in
    record { worth = omega (arith, worth, cost, h.worth, k.worth); few = each_append (λ frame. length frame.items ≤ frame.cost) child.frames rest.frames h.few k.few }

small_frame : (extra : ℕ) (frame : Frame) (making : Making) → extra ≤ frame.cost → length frame.items ≤ frame.cost → IsSmallMaking extra making → IsSmallMaking 0 (with_frame frame making)
small_frame extra frame None h few k = tt
small_frame extra frame (Some made) h few k = record { worth = omega (arith, h, k.worth); few = (few, k.few) }

more_extra : (extra : ℕ) (making : Making) → IsSmallMaking extra making → IsSmallMaking (extra + 1) making
more_extra extra None h = tt
more_extra extra (Some made) h = record { worth = omega (arith, h.worth); few = h.few }

small_items : (model : Parts) (of_child : Job → Making) (whole : List CellState) (P : Job → Type 0) → ((child : Job) → P child → IsSmallMaking 0 (of_child child)) →
    (maker : List ℕ) (number : ℕ) (view : List CellState) (items : List Item) → EachOf (IsSmallItem whole) items → EachOf P (child_jobs model maker number view items) →
    IsSmallMaking (length items) (of_items model of_child maker number view items)
small_items model of_child whole P small maker number view [] items children = record { worth = omega arith; few = tt }
small_items model of_child whole P small maker number view (item.Emit cell effect ∷ rest) items children =
    subst (λ n. IsSmallMaking n (with_effect cell effect (of_items model of_child maker number (emitted view cell effect) rest))) (let e : length rest + 1 ≡ suc (length rest) = omega arith in e)
    (small_effect (length rest) cell effect (of_items model of_child maker number (emitted view cell effect) rest) items.0.1
    (small_items model of_child whole P small maker number (emitted view cell effect) rest items.1 children))
small_items model of_child whole P small maker number view (item.Child kind arguments ∷ rest) items children =
    let child = child_job model maker number view kind arguments in
    let both = small_child (length rest) (of_child child) (of_items model of_child maker (number + 1) view rest) (small child children.0)
    (small_items model of_child whole P small maker (number + 1) view rest items.1 children.1) in
    subst (λ n. IsSmallMaking n (with_child (of_child child) (of_items model of_child maker (number + 1) view rest))) (let e : length rest + 1 ≡ suc (length rest) = omega arith in e)
    (more_extra (length rest) (with_child (of_child child) (of_items model of_child maker (number + 1) view rest)) both)

small_deep : (maker : List ℕ) (child : Job) → IsSmallMaking 0 (too_deep maker child)
small_deep maker child = record { worth = omega arith; few = (omega arith, tt) }

module _ (model : Parts) (budget : ℕ) (valid : IsTrue (valid_model model)) (steps : StepsAreSmall) (children : ChildrenAreJobs) where
  small_step : (of_child : Job → Making) (number most : ℕ) (job : Job) → IsJobWithin model most job → ((most : ℕ) (child : Job) → IsJobWithin model most child → IsSmallMaking 0 (of_child child)) →
      IsSmallMaking 0 (of_step model of_child job number (job_step model budget job))
  small_step of_child number most job within small = by (job_step model budget job) refl
    where
      by : (stepped : Stepped) → job_step model budget job ≡ stepped → IsSmallMaking 0 (of_step model of_child job number stepped)
      by None e = tt
      by (Some (status, so_far)) e =
          let made = steps model budget most job status so_far valid within e in
          let below = children model budget most number job status so_far valid within e in
          small_frame (length so_far.items) (frame_of job status so_far) (of_items model of_child job.path number job.view so_far.items) made.few made.few
          (small_items model of_child job.view (IsJobWithin model (most + so_far.cost * number_limit)) (small (most + so_far.cost * number_limit)) job.path number job.view so_far.items made.items below)

  small_within : (room number most : ℕ) (job : Job) → IsJobWithin model most job → IsSmallMaking 0 (made_within model budget room number job)
  small_within zero number most job within = small_step (too_deep job.path) number most job within (λ most child h. small_deep job.path child)
  small_within (suc room) number most job within = small_step (made_within model budget room 0) number most job within (λ most child h. small_within room 0 most child h)

  small_all : (jobs : List (ℕ × Job)) (most : ℕ) → EachOf (λ job. IsJobWithin model most job.1) jobs → IsSmallMaking 0 (made_by_all model budget jobs)
  small_all [] most h = record { worth = omega arith; few = tt }
  small_all (job ∷ rest) most h =
      small_child 0 (made_by model budget job) (made_by_all model budget rest) (small_within (room_of job.1.path) job.0 most job.1 h.0) (small_all rest most h.1)

-- ---- kinds

fits_child : (cells : List CellState) (child rest : Making) → FitsCells cells child → FitsCells cells rest → FitsCells cells (with_child child rest)
fits_child cells None rest h k = tt
fits_child cells (Some child) None h k = tt
fits_child cells (Some child) (Some rest) h k =
    ap (λ (b : Bool). b && fits_cells cells (tree_of rest)) (gives-Child Bool Bool (part_fits (accepts cells)) tree_fits (tree_of child))
    ∙ (λ i. h i && k i)

fits_all : MadeFitsCells → WithinIsJob → (model : Parts) (bound most : ℕ) (cells : List CellState) (jobs : List (ℕ × Job)) → IsTrue (valid_model model) → AreCellsOf model cells → most < view_limit →
    EachOf (λ job. IsJobWithin model most job.1) jobs → FitsCells cells (made_by_all model bound jobs)
fits_all law is_job model bound most cells [] valid are less h = refl
fits_all law is_job model bound most cells (job ∷ rest) valid are less h =
    fits_child cells (made_by model bound job) (made_by_all model bound rest) (law model bound cells job valid (is_job model most job.1 h.0 less) are)
    (fits_all law is_job model bound most cells rest valid are less h.1)

-- ---- together

few_of : (frames : List Frame) (most : ℕ) → cost_of frames ≤ most → most ≤ step_limit → EachOf (λ frame. length frame.items ≤ frame.cost) frames → HaveFewItems frames
few_of [] most less small h = tt
few_of (frame ∷ rest) most less small h = (omega (arith, less, small, h.0), few_of rest most (omega (arith, less)) small h.1)

-- the tree may be committed, and the frames have few items
pub record MayCommit (cells : List CellState) (made : Made) : Type 0 where
  pub fits : fits_cells cells (tree_of made) ≡ true
  pub worth : magnitude_of (tree_of made) < sum_limit
  pub few : HaveFewItems made.frames

pub may_commit : StepsAreSmall → ChildrenAreJobs → WithinIsJob → MadeFitsCells → (model : Parts) (bound : ℕ) (cells : List CellState) (jobs : List (ℕ × Job)) (made : Made) → IsTrue (valid_model model) →
    AreCellsOf model cells → EachOf (λ job. IsJobWithin model number_limit job.1) jobs → bound ≤ step_limit → made_by_all model bound jobs ≡ Some made → cost_of made.frames ≤ bound → MayCommit cells made
may_commit steps children is_job fits model bound cells jobs made valid are within less e cost =
    let small : IsSmallMade 0 made = subst (IsSmallMaking 0) e (small_all model bound valid steps children jobs number_limit within) in
    record {
      fits = subst (FitsCells cells) e (fits_all fits is_job model bound number_limit cells jobs valid are (omega arith) within);
      worth = (let worth = small.worth in omega (arith, worth, cost, less));
      few = few_of made.frames bound cost less small.few;
    }
