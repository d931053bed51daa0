-- When a state, a view and a job are of a model.
use Rattle.std.specs.Prelude.{◌≡◌, ℕ, ◌<◌, ◌^◌, Bool, false, ◌&&◌, IsTrue, List, [], Option, Some, None, length, nat_eq, slice_get}
use Rattle.std.specs.List.{All}
use Rattle.std.specs.Int.RustNames.{unsigned_abs}
use Rattle.aerie_base.specs.declared.values.Value.{Value}
use Rattle.aerie_base.specs.declared.operands.CellRead.{CellRead}
use Rattle.aerie_base.specs.declared.models.Activity.{Activity}
use Rattle.aerie_base.specs.declared.models.Daemon.{Daemon}
use Rattle.aerie_base.specs.declared.models.model.Parts.{Parts}
use Rattle.aerie_base.specs.models.Activities.{activity_setting, daemon_setting}
use Rattle.aerie_base.specs.models.Signatures.{parameter_kinds, signatures_of}
use Rattle.aerie_base.specs.models.Scopes.{Scope}
use Rattle.aerie_base.specs.models.Cells.{read_kind}
use Rattle.effect_cells.specs.declared.effects.CellState.{CellState}
use Rattle.effect_cells.specs.declared.effects.CellState.TheVariants.{Counter, Register, Volume}
use Rattle.effect_cells.specs.Reads.{kind_on}
use Rattle.run_data.specs.declared.tasks.BodyId.{BodyId}
use Rattle.run_data.specs.declared.tasks.BodyId.TheVariants as body
use Rattle.run_data.specs.declared.tasks.TaskState.{TaskState}
use Rattle.run_data.specs.declared.jobs.Job.{Job}
use Rattle.run_data.specs.Scopes.{scope_at, suits}

-- ---- states

-- whether these values suit the place of a body
abbrev pub suits_scope : Option Scope → List Value → Bool
suits_scope None locals = false
suits_scope (Some scope) locals = suits scope locals

abbrev pub is_activity_state : Parts → Option Activity → ℕ → List Value → Bool
is_activity_state model None at locals = false
is_activity_state model (Some activity) at locals =
    nat_eq (length locals) activity.slots
    && suits_scope (scope_at (activity_setting model.enums model.cells (signatures_of model.activities) activity) (parameter_kinds activity) activity.body at) locals

abbrev pub is_daemon_state : Parts → Option Daemon → ℕ → List Value → Bool
is_daemon_state model None at locals = false
is_daemon_state model (Some daemon) at locals =
    nat_eq (length locals) daemon.slots && suits_scope (scope_at (daemon_setting model.enums model.cells (signatures_of model.activities)) [] daemon.body at) locals

abbrev pub is_state_in : Parts → BodyId → ℕ → List Value → Bool
is_state_in model (body.Activity kind) at locals = is_activity_state model (slice_get model.activities kind) at locals
is_state_in model (body.Daemon number) at locals = is_daemon_state model (slice_get model.daemons number) at locals

-- A state is of a model where its body is one of the model's, its place one of the body's, there are as many locals as the
-- body has slots, and each local that is known at the place has a value of its type.
unfoldable pub is_state_of : Parts → TaskState → Bool
is_state_of model state = is_state_in model state.kind state.at state.locals

-- ---- views

-- what the numbers of a job's view stay below in magnitude
abbrev pub view_limit : ℕ
view_limit = 2 ^ 100

abbrev pub IsModest : CellState → Type 0
IsModest (Counter number) = unsigned_abs number < view_limit
IsModest (Register value conflicted) = Unit {0}
IsModest (Volume volume rate) = (unsigned_abs volume < view_limit) × (unsigned_abs rate < view_limit)

-- cells are of a model where there are as many and each read of them has what it has in the model
pub record AreCellsOf (model : Parts) (cells : List CellState) : Type 0 where
  pub count : length cells ≡ length model.cells
  pub kinds : (read : CellRead) → kind_on cells read ≡ read_kind model.cells read

-- ---- jobs

-- a job is of a model where its state and its view are, and the numbers of its view are below 2^100 in magnitude
pub record IsJobOf (model : Parts) (job : Job) : Type 0 where
  pub state : IsTrue (is_state_of model job.state)
  pub view : AreCellsOf model job.view
  pub modest : All IsModest job.view
