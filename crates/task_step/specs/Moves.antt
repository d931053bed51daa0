-- What one statement or test of flat code does to a step.
use Rattle.std.specs.Prelude.{◌≡◌, ℕ, ◌-◌, Bool, true, false, List, ◌++◌, Option, Some, None, Result, Ok, Err, length, slice_get}
use Rattle.aerie_base.specs.declared.values.Value.{Value}
use Rattle.aerie_base.specs.declared.faults.Fault.{Fault}
use Rattle.aerie_base.specs.declared.statements.Stmt.{Stmt}
use Rattle.aerie_base.specs.declared.statements.Stmt.TheOpen.{Stmt-F}
use Rattle.body_code.specs.declared.instructions.Instruction.{Instruction}
use Rattle.body_code.specs.declared.instructions.Instruction.TheVariants.{Do, Test, Jump, End}
use Rattle.body_code.specs.Denoting.{IsCodeOf}
use Rattle.run_data.specs.declared.tasks.BodyId.{BodyId}
use Rattle.run_data.specs.StepStates.{StepState}
use Rattle.run_data.specs.Steps.{Acted, onward, ended, act}
use Rattle.task_step.specs.declared.ends.End.{End as HowEnded}
use Rattle.task_step.specs.Ends.{status_of}

-- how a statement at a place of a body ends, as the code says it
abbrev pub acted_of : Option HowEnded → BodyId → ℕ → StepState → Acted
acted_of None kind at so_far = onward so_far
acted_of (Some end) kind at so_far = ended (status_of end kind at so_far) so_far

-- a statement ends so, and leaves this: what its meaning says at whatever place of a body it stands
abbrev pub ActsAs : Stmt-F Stmt → StepState → Option HowEnded → StepState → Type 0
ActsAs stmt before end behind = (kind : BodyId) (at : ℕ) → acted_of end kind at behind ≡ act kind at stmt before

-- values in front of those of further arguments
abbrev pub with_front : List Value → Result (List Value) Fault × StepState → Result (List Value) Fault × StepState
with_front values (Ok rest, so_far) = (Ok (values ++ rest), so_far)
with_front values (Err fault, so_far) = (Err fault, so_far)

-- ---- flat code

-- the code of some body
abbrev pub IsCode : List Instruction → Type 0
IsCode code = (body : List Stmt) × IsCodeOf body code

abbrev pub is_jump : Option Instruction → Bool
is_jump None = false
is_jump (Some (Do stmt)) = false
is_jump (Some (Test test otherwise)) = false
is_jump (Some (Jump to)) = true
is_jump (Some End) = false

abbrev pub is_end : Option Instruction → Bool
is_end None = false
is_end (Some (Do stmt)) = false
is_end (Some (Test test otherwise)) = false
is_end (Some (Jump to)) = false
is_end (Some End) = true

-- a statement or a test
abbrev pub is_work : Option Instruction → Bool
is_work None = false
is_work (Some (Do stmt)) = true
is_work (Some (Test test otherwise)) = true
is_work (Some (Jump to)) = false
is_work (Some End) = false

-- how many places may follow each other at no cost
abbrev pub rank_of : Option Instruction → ℕ → ℕ
rank_of None places = 0
rank_of (Some (Do stmt)) places = 0
rank_of (Some (Test test otherwise)) places = 0
rank_of (Some (Jump to)) places = places
rank_of (Some End) places = 0

abbrev pub rank : List Instruction → ℕ → ℕ
rank code at = rank_of (slice_get code at) (length code - at)
