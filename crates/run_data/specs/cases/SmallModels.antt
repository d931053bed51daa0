-- What the worked cases are made of: small models with a counter `n`, and plans of 100 microseconds.
use Rattle.std.specs.Prelude.{ℕ, pos, List, [], ◌∷◌, Some, None, codes, map}
use Rattle.aerie_base.specs.declared.values.Value.{Value}
use Rattle.aerie_base.specs.declared.values.Value.TheVariants as value
use Rattle.aerie_base.specs.declared.values.Kind.TheVariants as kind
use Rattle.aerie_base.specs.declared.operands.CellRead.{CellRead}
use Rattle.aerie_base.specs.declared.operands.Operand.TheVariants as operand
use Rattle.aerie_base.specs.declared.expressions.Expr.{Expr, Literal, Operand}
use Rattle.aerie_base.specs.declared.statements.Emission.TheVariants as emission
use Rattle.aerie_base.specs.declared.statements.Stmt.{Stmt, Emit, Delay}
use Rattle.aerie_base.specs.declared.names.Name.{Name}
use Rattle.aerie_base.specs.declared.models.CellStart.{CellStart}
use Rattle.aerie_base.specs.declared.models.CellStart.TheVariants as cell
use Rattle.aerie_base.specs.declared.models.Parameter.{Parameter}
use Rattle.aerie_base.specs.declared.models.Activity.{Activity}
use Rattle.aerie_base.specs.declared.models.Daemon.{Daemon}
use Rattle.aerie_base.specs.declared.models.model.Parts.{Parts}
use Rattle.aerie_base.specs.declared.plans.Directive.{Directive}
use Rattle.aerie_base.specs.declared.plans.Plan.{Plan}
use Rattle.run_data.specs.declared.runs.Outcome.TheVariants.{StepLimit}
use Rattle.run_data.specs.declared.runs.Run.{Run}
use Rattle.run_data.specs.Transitions.{Next, more, finished}
use Rattle.run_data.specs.Fresh.{SimulationState, after_transitions}
use Rattle.run_data.specs.Spans.{SpanOf}
use Rattle.run_data.specs.Values.{cells_at}
use Rattle.effect_cells.specs.Reads.{value_on}

-- ---- expressions and statements

abbrev pub number : ℕ → Expr
number n = Literal (value.Int (pos n))

abbrev pub local : ℕ → Expr
local slot = Operand (operand.Local slot)

abbrev pub reading : CellRead → Expr
reading of = Operand (operand.Read of)

-- `n += by`
abbrev pub add : Expr → Stmt
add by = Emit 0 (emission.Add by)

abbrev pub delay : ℕ → Stmt
delay by = Delay (number by)

-- ---- models

abbrev pub by_int : Parameter
by_int = record { name = codes "by"; kind = kind.Int; default = None }

abbrev pub activity : List Parameter → ℕ → List Stmt → Activity
activity parameters slots body = record {
  name = codes "A";
  parameters = parameters;
  result = None;
  requires_ = [];
  slots = slots;
  body = body;
}

-- an activity without parameters and locals
abbrev pub plain : List Stmt → Activity
plain body = activity [] 0 body

-- `Bump(by: int) { n += by; delay 10us; n += by; }`
abbrev pub bump : Activity
bump = activity (by_int ∷ []) 1 (add (local 0) ∷ delay 10 ∷ add (local 0) ∷ [])

-- a model of `n`, which begins with 0, other cells, activity types and daemons
abbrev pub small_model : List (Name × CellStart) → List Activity → List Daemon → Parts
small_model others activities daemons = record {
  name = codes "m";
  enums = [];
  cells = (codes "n", cell.Counter (pos 0)) ∷ others;
  resources = [];
  activities = activities;
  daemons = daemons;
}

-- ---- plans

abbrev pub directive : ℕ → ℕ → ℕ → List Value → Directive
directive id start kind arguments = record { id = id; start = start; anchor = None; kind = kind; arguments = arguments }

abbrev pub plan_of : ℕ → List Directive → Plan
plan_of duration directives = record { model = 0; duration = duration; next_id = 10; directives = directives }

-- ---- runs

abbrev pub run_in : Plan → Next SimulationState Run → Run
run_in plan (finished run) = run
run_in plan (more at) = record { plan = plan; bound = 0; instants = []; reach = 0; outcome = StepLimit 0 }

-- the run of a plan that needs no more than so many transitions
abbrev pub run_within : ℕ → ℕ → Parts → Plan → Run
run_within transitions bound model plan = run_in plan (after_transitions model plan bound transitions)

abbrev pub ran : Parts → Plan → Run
ran model plan = run_within 40 1_000_000 model plan

-- what a read has at these times
abbrev pub values_of : Parts → Run → CellRead → List ℕ → List Value
values_of model run of times = map (λ t. value_on (cells_at model run t) of) times

abbrev pub ints : List ℕ → List Value
ints numbers = map (λ n. value.Int (pos n)) numbers

-- a span that has an end and no result
abbrev pub span : List ℕ → ℕ → List Value → ℕ → ℕ → SpanOf
span path kind arguments start end = record {
  path = path;
  kind = kind;
  arguments = arguments;
  start = start;
  end = Some end;
  result = None;
}

-- one without an end
abbrev pub unfinished : List ℕ → ℕ → List Value → ℕ → SpanOf
unfinished path kind arguments start = record {
  path = path;
  kind = kind;
  arguments = arguments;
  start = start;
  end = None;
  result = None;
}
