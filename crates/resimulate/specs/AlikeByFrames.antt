-- When the frames of two runs tell that the same is live in both behind their last instants, which are at one time.
use Rattle.std.specs.Prelude.{◌≡◌, ◌⊎◌, ℕ, ◌≤◌, true, List, [], ◌∷◌, ◌++◌, length, Option, Some, None}
use Rattle.aerie_base.specs.declared.models.model.Parts.{Parts}
use Rattle.aerie_base.specs.declared.plans.Anchor.{Anchor}
use Rattle.aerie_base.specs.declared.plans.Directive.{Directive}
use Rattle.aerie_base.specs.declared.plans.Edge.{Edge}
use Rattle.aerie_base.specs.declared.plans.Edge.TheVariants.{Start, End}
use Rattle.aerie_base.specs.declared.plans.Plan.{Plan}
use Rattle.aerie_base.specs.Paths.{root, is_prefix}
use Rattle.run_data.specs.declared.runs.Instant.{Instant}
use Rattle.run_data.specs.Fresh.{SimulationState, instant_at}
use Rattle.run_data.specs.Tasks.{Task}
use Rattle.run_data.specs.laws.AlikeSteps.{BothReach}
use Rattle.run_data.specs.laws.EndedTasks.{open_is}
use Rattle.run_data.specs.laws.LiveParts.{live}
use Rattle.run_data.specs.laws.SettledInstants.{IsSettled}
use Rattle.run_data.specs.laws.TracedTasks.{timed_instants, traced}
use Rattle.resimulate.specs.UnbegunTasks.{IsInPlan}

-- the instants of a state that is settled, its own being the last
abbrev pub instants_with : SimulationState → List Instant
instants_with at = at.instants ++ instant_at at ∷ []

-- a task as the frames of some instants leave it, if any is of it
abbrev pub task_by : List Instant → List ℕ → Option Task
task_by instants path = traced path (timed_instants instants) None

-- ---- tasks with frames

-- a body of this path is open in one of two runs
abbrev pub IsOpenInEither : List Instant → List Instant → List ℕ → Type 0
IsOpenInEither instants others path = (open_is (task_by instants path) ≡ true) ⊎ (open_is (task_by others path) ≡ true)

-- the task of each open body, and each task that it is below, is left the same in both; a path has two numbers or more
abbrev pub AgreeAboveOpen : List Instant → List Instant → Type 0
AgreeAboveOpen instants others =
    (path other : List ℕ) → 2 ≤ length path → is_prefix path other ≡ true → IsOpenInEither instants others other → task_by instants path ≡ task_by others path

-- ---- directives without frames

-- an edge of a directive has not come: it has no frames, or, where its end is meant, its own body is open
abbrev pub HasNotCome : List Instant → ℕ → Edge → Type 0
HasNotCome instants to Start = task_by instants (root to) ≡ None
HasNotCome instants to End = (task_by instants (root to) ≡ None) ⊎ (open_is (task_by instants (root to)) ≡ true)

-- so it is with a directive's anchor in both runs
abbrev pub WaitsInBoth : List Instant → List Instant → Option Anchor → Type 0
WaitsInBoth instants others None = Unit {0}
WaitsInBoth instants others (Some anchor) = HasNotCome instants anchor.to anchor.edge × HasNotCome others anchor.to anchor.edge

-- each directive of a plan that has no frames has none in the other run either, stands the same in the other plan, and waits
abbrev pub UnbegunIsInBoth : Plan → Plan → List Instant → List Instant → Type 0
UnbegunIsInBoth plan old_plan instants others =
    (directive : Directive) → IsInPlan plan directive → task_by instants (root directive.id) ≡ None →
    (task_by others (root directive.id) ≡ None) × IsInPlan old_plan directive × WaitsInBoth instants others directive.anchor

-- ---- the law

-- what is compared of two plans and the instants of their runs
pub record FramesAgree (plan old_plan : Plan) (instants others : List Instant) : Type 0 where
  pub above_open : AgreeAboveOpen instants others
  pub unbegun : UnbegunIsInBoth plan old_plan instants others
  pub old_unbegun : UnbegunIsInBoth old_plan plan others instants

-- then the same tasks are live in the settled states behind these instants
abbrev pub FramesTellAlike : Type 0
FramesTellAlike =
    (model : Parts) (plan old_plan : Plan) (bound old_bound : ℕ) (at other : SimulationState) →
    BothReach model plan old_plan bound old_bound at other → IsSettled at → IsSettled other →
    FramesAgree plan old_plan (instants_with at) (instants_with other) → live at.table ≡ live other.table
