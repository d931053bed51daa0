-- Two plans that differ in some directives run alike until the first of these is due in either of them.
use Rattle.std.specs.Prelude.{◌≡◌, ◌⊎◌, ℕ, ◌+◌, ◌<◌, ◌≤◌, Bool, true, false, not, ◌&&◌, nat_eq, nat_lt, IsTrue, List, [], ◌∷◌, Option, Some, None, if◌then◌else◌}
use Rattle.aerie_base.specs.declared.models.model.Parts.{Parts}
use Rattle.aerie_base.specs.declared.plans.Anchor.{Anchor}
use Rattle.aerie_base.specs.declared.plans.Edge.{Edge}
use Rattle.aerie_base.specs.declared.plans.Directive.{Directive}
use Rattle.aerie_base.specs.declared.plans.Plan.{Plan}
use Rattle.aerie_base.specs.models.ValidModel.{valid_model}
use Rattle.aerie_base.specs.plans.OfModel.{IsPlanOf}
use Rattle.run_data.specs.declared.runs.Instant.{Instant}
use Rattle.run_data.specs.declared.runs.Outcome.TheVariants.{Completed}
use Rattle.run_data.specs.declared.runs.Run.{Run}
use Rattle.run_data.specs.Endings.{has_come}
use Rattle.run_data.specs.Fresh.{SimulationState, IsReached, IsFresh}
use Rattle.run_data.specs.Tasks.{Table, ready_jobs}
use Rattle.run_data.specs.Transitions.{Next, more, finished}
use Rattle.run_data.specs.laws.Orders.{EachOf}
use Rattle.run_data.specs.laws.LiveParts.{part}
use Rattle.run_data.specs.laws.RunCosts.{cost_of_instants}

-- ---- the directives in which plans differ, by their ids

-- whether a path is that of such a directive or of a task under it
abbrev pub is_of_differing : (ℕ → Bool) → List ℕ → Bool
is_of_differing differs [] = false
is_of_differing differs (kind ∷ []) = false
is_of_differing differs (kind ∷ id ∷ children) = nat_eq kind 0 && differs id

-- whether it is of a task that both plans have
abbrev pub is_common : (ℕ → Bool) → List ℕ → Bool
is_common differs path = not (is_of_differing differs path)

-- the tasks that both plans have in common
abbrev pub common_tasks : (ℕ → Bool) → Table → Table
common_tasks differs table = part (is_common differs) table

-- the directives that they have in common
abbrev pub common_directives : (ℕ → Bool) → List Directive → List Directive
common_directives differs [] = []
common_directives differs (directive ∷ rest) =
    if differs directive.id then common_directives differs rest else directive ∷ common_directives differs rest

-- states that are the same but for what those directives are doing
pub record AlikeBut (differs : ℕ → Bool) (at other : SimulationState) : Type 0 where
  pub time : at.time ≡ other.time
  pub cells : at.cells ≡ other.cells
  pub spent : at.spent ≡ other.spent
  pub instants : at.instants ≡ other.instants
  pub batches : at.batches ≡ other.batches
  pub touched : at.touched ≡ other.touched
  pub tables : common_tasks differs at.table ≡ common_tasks differs other.table

-- ---- directives that are not due before a time

module _ (differs : ℕ → Bool) (until : ℕ) (model : Parts) (plan : Plan) (bound : ℕ) where
  -- An edge, and how long after it a directive is to start: the edge of a directive that differs too, or one that comes in
  -- the simulation of this plan only so late that the start is not before the time.
  abbrev pub ComesLate : ℕ → Edge → ℕ → Type 0
  ComesLate to edge start =
      (differs to ≡ true)
      ⊎ ((at : SimulationState) → IsReached model plan bound (more at) → at.time < until → has_come at.table to edge ≡ true →
      until ≤ at.time + start)

  abbrev pub StartsLate : Option Anchor → ℕ → Type 0
  StartsLate None start = until ≤ start
  StartsLate (Some anchor) start = ComesLate anchor.to anchor.edge start

  abbrev pub IsLate : Directive → Type 0
  IsLate directive = differs directive.id ≡ true → StartsLate directive.anchor directive.start

-- ---- the laws

-- Plans of one model that differ only in some directives, none of which is due before a time: in either plan its start is not
-- before the time, or it is anchored to another of them or to an edge that comes too late in the old simulation. The new bound
-- affords what the old simulation spends before the time.
pub record DifferLate (differs : ℕ → Bool) (until : ℕ) (model : Parts) (plan old_plan : Plan) (bound old_bound : ℕ) : Type 0 where
  pub valid : IsTrue (valid_model model)
  pub is : IsPlanOf model plan
  pub old_is : IsPlanOf model old_plan
  pub duration : plan.duration ≡ old_plan.duration
  pub same : common_directives differs plan.directives ≡ common_directives differs old_plan.directives
  pub late : EachOf (IsLate differs until model old_plan old_bound) plan.directives
  pub old_late : EachOf (IsLate differs until model old_plan old_bound) old_plan.directives
  pub affords : (other : SimulationState) → IsReached model old_plan old_bound (more other) → other.time < until → other.spent ≤ bound

-- a bound that is no less affords all
abbrev pub AffordsNoLess : Type 0
AffordsNoLess =
    (model : Parts) (plan : Plan) (bound old_bound : ℕ) (other : SimulationState) → IsTrue (valid_model model) → IsPlanOf model plan →
    IsReached model plan old_bound (more other) → old_bound ≤ bound → other.spent ≤ bound

-- so does one that is no less than what a completed run cost
abbrev pub AffordsCost : Type 0
AffordsCost =
    (model : Parts) (plan : Plan) (bound old_bound : ℕ) (old : Run) (other : SimulationState) → IsTrue (valid_model model) → IsPlanOf model plan →
    IsFresh model plan old_bound old → old.outcome ≡ Completed → IsReached model plan old_bound (more other) → cost_of_instants old.instants ≤ bound → other.spent ≤ bound

-- To each state before that time which the old simulation reaches, the new one reaches a state that is alike but for the
-- directives that differ, in which the same jobs are ready: so where the old one commits a batch, the new one commits the same.
abbrev pub RunSideBySide : Type 0
RunSideBySide =
    (differs : ℕ → Bool) (until : ℕ) (model : Parts) (plan old_plan : Plan) (bound old_bound : ℕ) → DifferLate differs until model plan old_plan bound old_bound →
    (other : SimulationState) → IsReached model old_plan old_bound (more other) → other.time < until →
    (at : SimulationState) × IsReached model plan bound (more at) × AlikeBut differs at other × (ready_jobs at.cells at.table ≡ ready_jobs other.cells other.table)

-- the first instants, as long as they lie before a time
abbrev pub instants_before : ℕ → List Instant → List Instant
instants_before until [] = []
instants_before until (instant ∷ rest) = if nat_lt instant.time until then instant ∷ instants_before until rest else []

abbrev pub instants_of : Next SimulationState Run → List Instant
instants_of (more at) = at.instants
instants_of (finished run) = run.instants

-- so the new simulation comes to where its instants are those of the old run before that time
abbrev pub SameInstantsBefore : Type 0
SameInstantsBefore =
    (differs : ℕ → Bool) (until : ℕ) (model : Parts) (plan old_plan : Plan) (bound old_bound : ℕ) (old : Run) → DifferLate differs until model plan old_plan bound old_bound → 0 < until →
    IsFresh model old_plan old_bound old →
    (place : Next SimulationState Run) × IsReached model plan bound place × (instants_of place ≡ instants_before until old.instants)
