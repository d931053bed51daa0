-- Traces: what its frames leave each task doing.
use Rattle.std.specs.Prelude.{◌≡◌, ℕ, ◌+◌, Bool, true, false, List, Option, Some, None}
use Rattle.std.specs.Map.{lookup}
use Rattle.run_data.specs.TaskFrames.{Frame}
use Rattle.run_data.specs.Spans.{same_path}
use Rattle.run_data.specs.Tasks.{Task, task_after, children_made}
use Rattle.run_data.specs.declared.frames.Status.{Status}
use Rattle.run_data.specs.declared.frames.Status.TheVariants as status
use Rattle.run_data.specs.laws.TracedTasks.{traced}
use Rattle.resimulate.specs.declared.traces.Trace.{Trace}

-- the traces by path
abbrev pub TraceList : Type 0
TraceList = List (List ℕ × Trace)

abbrev pub trace_of : TraceList → List ℕ → Option Trace
trace_of traces path = lookup (same_path path) traces

-- how many children a task made since then, where that was counted
abbrev pub IsChildCount : Option ℕ → ℕ → Type 0
IsChildCount None number = Unit {0}
IsChildCount (Some counted) number = counted ≡ number

-- a task is as its trace tells, from what it was at first; where there is no trace, it still is so
abbrev pub TellsTask : Option Task → Option Trace → Option Task → Type 0
TellsTask start None found = found ≡ start
TellsTask start (Some trace) found =
    (made : ℕ) × (found ≡ Some (task_after trace.time trace.step.status (children_made start + made))) × IsChildCount trace.made made

-- so are all tasks that are asked for
abbrev pub TellTasks : (List ℕ → Bool) → (List ℕ → Option Task) → TraceList → (List ℕ → Option Task) → Type 0
TellTasks asked start traces tasks = (path : List ℕ) → asked path ≡ true → TellsTask (start path) (trace_of traces path) (tasks path)

-- after more frames the traces tell what these leave
abbrev pub TakesIn : (List ℕ → Bool) → List (ℕ × Frame) → TraceList → TraceList → Type 0
TakesIn asked frames before after =
    (start tasks : List ℕ → Option Task) → TellTasks asked start before tasks → TellTasks asked start after (λ path. traced path frames (tasks path))

-- so it is whoever is asked for
abbrev pub TakesInForAny : List (ℕ × Frame) → TraceList → TraceList → Type 0
TakesInForAny frames before after = (asked : List ℕ → Bool) → TakesIn asked frames before after

-- children were counted too
abbrev pub CountsToo : ℕ → Option ℕ → Option ℕ → Type 0
CountsToo more before after = (number : ℕ) → IsChildCount before number → IsChildCount after (number + more)

-- two traces tell the same, whatever the task was at first
abbrev pub TellSame : Trace → Trace → Type 0
TellSame trace other = (start found there : Option Task) → TellsTask start (Some trace) found → TellsTask start (Some other) there → found ≡ there

-- how many children the task of a path made, where that was counted; one without frames made none
abbrev pub IsChildCountOf : Option Trace → Option ℕ → Type 0
IsChildCountOf None made = made ≡ Some 0
IsChildCountOf (Some trace) made = made ≡ trace.made

abbrev pub IsChildCountAt : TraceList → List ℕ → Option ℕ → Type 0
IsChildCountAt traces path made = IsChildCountOf (trace_of traces path) made

-- whether a step ended with a delay
abbrev pub is_delay : Status → Bool
is_delay (status.Delayed by next) = true
is_delay (status.Waiting condition next) = false
is_delay (status.Calling into next) = false
is_delay (status.Done result) = false
is_delay (status.Faulted fault) = false
