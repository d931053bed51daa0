-- The times at which a window does not hold, as a set; and spans whose times lie in a run.
use Rattle.std.specs.Prelude.{ℕ, not, List, [], Option, nat_eq, if◌then◌else◌}
use Rattle.aerie_base.specs.declared.models.model.Parts.{Parts}
use Rattle.run_data.specs.declared.runs.Run.{Run}
use Rattle.run_data.specs.Spans.{SpanOf}
use Rattle.windows.specs.Times.{Interval, TimeSet}
use Rattle.windows.specs.Intervals.{intervals_of}
use Rattle.constraints.specs.declared.types.Window.{Window}
use Rattle.constraints.specs.declared.violation.Violation.{Violation}
use Rattle.constraints.specs.Holding.{window_holds}
use Rattle.constraints.specs.Violating.{violations_of_span}

-- the times below the reach at which the window holds
abbrev pub times_held : Parts → Run → Window → Option Interval → TimeSet
times_held model run window bound = record { reach = run.reach; intervals = intervals_of run.reach (λ t. window_holds model run window bound t) }

-- the times below the reach at which it does not
abbrev pub times_not_held : Parts → Run → Window → Option Interval → TimeSet
times_not_held model run window bound = record { reach = run.reach; intervals = intervals_of run.reach (λ t. not (window_holds model run window bound t)) }

-- the violations for one span, if it is of the type
abbrev pub violations_if : Parts → Run → ℕ → Window → SpanOf → List Violation
violations_if model run kind window span = if nat_eq span.kind kind then violations_of_span model run window span else []
