-- The model whose steps are stored: `model counting { counter n = 0; daemon { let x = n; } }`.
use Rattle.std.specs.Prelude.{ℕ, pos, List, [], ◌∷◌, None, codes}
use Rattle.std.specs.List.{All}
use Rattle.aerie_base.specs.declared.values.Value.TheVariants.{Int}
use Rattle.aerie_base.specs.declared.operands.CellRead.TheVariants as read
use Rattle.aerie_base.specs.declared.operands.Operand.TheVariants.{Read}
use Rattle.aerie_base.specs.declared.expressions.Expr.{Operand}
use Rattle.aerie_base.specs.declared.statements.Stmt.{Stmt, Let}
use Rattle.aerie_base.specs.declared.models.CellStart.TheVariants as start
use Rattle.aerie_base.specs.declared.models.Daemon.{Daemon}
use Rattle.aerie_base.specs.declared.models.model.Parts.{Parts}
use Rattle.effect_cells.specs.declared.effects.CellState.TheVariants.{Counter}
use Rattle.run_data.specs.declared.tasks.BodyId.TheVariants as body
use Rattle.run_data.specs.declared.tasks.TaskState.{TaskState}
use Rattle.run_data.specs.declared.frames.Record.{Record}
use Rattle.run_data.specs.declared.frames.Status.TheVariants.{Done}
use Rattle.run_data.specs.TaskFrames.{Frame}
use Rattle.run_data.specs.Records.{IsValid, record_of}

-- `let x = n;`
abbrev pub counter_read : Stmt
counter_read = Let 0 (Operand (Read (read.Counter 0)))

abbrev pub counting_daemon : Daemon
counting_daemon = record { slots = 1; body = counter_read ∷ [] }

abbrev pub counting : Parts
counting = record {
  name = codes "counting";
  enums = [];
  cells = (codes "n", start.Counter (pos 0)) ∷ [];
  resources = [];
  activities = [];
  daemons = counting_daemon ∷ [];
}

-- the state of the daemon with this local
abbrev pub counting_state : ℕ → TaskState
counting_state local = record { kind = body.Daemon 0; at = 0; locals = Int (pos local) ∷ [] }

-- its step from this state, where the counter has this number
abbrev pub counting_step : ℕ → ℕ → Record
counting_step local number = record {
  before = counting_state local;
  reads = (0, Counter (pos number)) ∷ [];
  items = [];
  status = Done None;
  cost = 1;
}

-- frames of valid steps of the model
abbrev pub AreCountingFrames : List Frame → Type 0
AreCountingFrames frames = All (λ frame. IsValid counting (record_of frame)) frames
