-- What is hashed of a task's state.
use Rattle.std.specs.Prelude.{◌++◌}
use Rattle.std.specs.Hash.{HashWrites}
use Rattle.std.specs.Hash as fed
use Rattle.aerie_base.specs.declared.values.Value.{Value}
use Rattle.run_data.specs.declared.tasks.BodyId.{BodyId}
use Rattle.run_data.specs.declared.tasks.TaskState.{TaskState}

-- its body, its place and its locals, by what is hashed of a body and of a value
abbrev pub hashed_state : (BodyId → HashWrites) → (Value → HashWrites) → TaskState → HashWrites
hashed_state hashed_body hashed_value state = hashed_body state.kind ++ fed.u32 state.at ++ fed.slice hashed_value state.locals
