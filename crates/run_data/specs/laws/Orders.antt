-- A batch does not depend on the order in which its ready jobs are listed.
use Rattle.std.specs.Prelude.{◌≡◌, ℕ, ◌≤◌, true, false, IsTrue, List, [], ◌∷◌, Some, None}
use Rattle.std.specs.List.Sorted.{IsPermutation}
use Rattle.aerie_base.specs.Paths.{child_path, is_prefix}
use Rattle.aerie_base.specs.declared.models.model.Parts.{Parts}
use Rattle.aerie_base.specs.declared.plans.Plan.{Plan}
use Rattle.aerie_base.specs.models.ValidModel.{valid_model}
use Rattle.aerie_base.specs.plans.OfModel.{IsPlanOf}
use Rattle.effect_cells.specs.declared.effects.CellState.{CellState}
use Rattle.effect_cells.specs.Cells.{fits_cells}
use Rattle.run_data.specs.declared.jobs.Job.{Job}
use Rattle.run_data.specs.Frames.{Making, made_by}
use Rattle.run_data.specs.Batches.{batch, tree_of}
use Rattle.run_data.specs.Fresh.{SimulationState, IsReached}
use Rattle.run_data.specs.Jobs.{AreCellsOf, IsJobOf}
use Rattle.run_data.specs.Tasks.{ready_jobs}
use Rattle.run_data.specs.Transitions.{more}

abbrev pub EachOf : {A : Type 0} → (A → Type 0) → List A → Type 0
EachOf P [] = Unit {0}
EachOf P (first ∷ rest) = P first × EachOf P rest

-- each with each that stands behind it
abbrev pub EachTwo : {A : Type 0} → (A → A → Type 0) → List A → Type 0
EachTwo Q [] = Unit {0}
EachTwo Q (first ∷ rest) = EachOf (Q first) rest × EachTwo Q rest

-- the second path is not that of a child which a task of the first path is yet to make, where it made so many, nor below it
abbrev pub IsNoChildToCome : ℕ → List ℕ → List ℕ → Type 0
IsNoChildToCome made path other = (number : ℕ) → made ≤ number → is_prefix (child_path path number) other ≡ false

-- two jobs of different tasks, neither of which is yet to make the other or a task above it
pub record AreApart (job other : ℕ × Job) : Type 0 where
  pub different : job.1.path ≡ other.1.path → ⊥
  pub no_child : IsNoChildToCome job.0 job.1.path other.1.path
  pub no_parent : IsNoChildToCome other.0 other.1.path job.1.path

-- each effect of what is made is on one of the cells and of its kind
abbrev pub FitsCells : List CellState → Making → Type 0
FitsCells cells None = Unit {0}
FitsCells cells (Some made) = fits_cells cells (tree_of made) ≡ true

-- Jobs of different tasks, whose effects are of the kinds of their cells, make the same batch in whatever order they are
-- listed.
abbrev pub OrderDoesNotMatter : Type 0
OrderDoesNotMatter =
    (model : Parts) (bound spent : ℕ) (cells : List CellState) (jobs others : List (ℕ × Job)) →
    EachTwo AreApart jobs →
    EachOf (λ job. FitsCells cells (made_by model bound job)) jobs →
    IsPermutation jobs others →
    batch model bound spent cells others ≡ batch model bound spent cells jobs

-- Whatever a job of a valid model makes, each effect is on one of the cells of the model and of its kind.
abbrev pub MadeFitsCells : Type 0
MadeFitsCells =
    (model : Parts) (bound : ℕ) (cells : List CellState) (job : ℕ × Job) → IsTrue (valid_model model) → IsJobOf model job.1 → AreCellsOf model cells →
    FitsCells cells (made_by model bound job)

-- So wherever the simulation of a plan of a valid model comes, the batch of its ready tasks is the same in whatever order
-- these are listed.
abbrev pub ReadyOrderDoesNotMatter : Type 0
ReadyOrderDoesNotMatter =
    (model : Parts) (plan : Plan) (bound : ℕ) (at : SimulationState) (others : List (ℕ × Job)) → IsTrue (valid_model model) → IsPlanOf model plan →
    IsReached model plan bound (more at) →
    IsPermutation (ready_jobs at.cells at.table) others →
    batch model bound at.spent at.cells others ≡ batch model bound at.spent at.cells (ready_jobs at.cells at.table)
