-- The bodies of a model, and the states in which tasks begin.
use Rattle.std.specs.Prelude.{ℕ, ◌-◌, pos, List, [], ◌++◌, length, replicate, Option, Some, None, slice_get}
use Rattle.aerie_base.specs.declared.values.Value.{Value}
use Rattle.aerie_base.specs.declared.values.Value.TheVariants.{Int}
use Rattle.aerie_base.specs.declared.statements.Stmt.{Stmt}
use Rattle.aerie_base.specs.declared.models.Activity.{Activity}
use Rattle.aerie_base.specs.declared.models.Daemon.{Daemon}
use Rattle.aerie_base.specs.declared.models.model.Parts.{Parts}
use Rattle.run_data.specs.declared.tasks.BodyId.{BodyId}
use Rattle.run_data.specs.declared.tasks.BodyId.TheVariants as body
use Rattle.run_data.specs.declared.tasks.TaskState.{TaskState}

abbrev pub activity_body : Option Activity → List Stmt
activity_body None = []
activity_body (Some activity) = activity.body

abbrev pub daemon_body : Option Daemon → List Stmt
daemon_body None = []
daemon_body (Some daemon) = daemon.body

-- the statements of a body
abbrev pub body_of : Parts → BodyId → List Stmt
body_of model (body.Activity kind) = activity_body (slice_get model.activities kind)
body_of model (body.Daemon number) = daemon_body (slice_get model.daemons number)

abbrev pub activity_slots : Option Activity → ℕ
activity_slots None = 0
activity_slots (Some activity) = activity.slots

-- the value of a local that is not set yet
abbrev pub unset : Value
unset = Int (pos 0)

-- an activity begins at the first place of its body, with its arguments and its other locals not set
abbrev pub activity_begun : Parts → ℕ → List Value → TaskState
activity_begun model kind arguments = record {
  kind = body.Activity kind;
  at = 0;
  locals = arguments ++ replicate (activity_slots (slice_get model.activities kind) - length arguments) unset;
}

-- a daemon begins at the first place of its body, with no local set
abbrev pub daemon_begun : ℕ → Daemon → TaskState
daemon_begun number daemon = record { kind = body.Daemon number; at = 0; locals = replicate daemon.slots unset }
