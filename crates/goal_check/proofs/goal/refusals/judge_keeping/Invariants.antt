-- What is found of the names so far, and then of those behind them, is found of all of them.
use Rattle.std.proofs.Common.{◌≡◌, drop}
use Rattle.rule_check.specs.Refusals.{noted}
use Rattle.goal_check.specs.GoalRefusals.{refusals_of_keeping}
use Rattle.goal_check.proofs.goal.refusals.judge_keeping.Given as goal

abbrev pub invariant-loop-name : goal.invariant-loop-name
invariant-loop-name l =
    noted l.fn.found (refusals_of_keeping l.fn.constraints l.fn.names) ≡ noted l.found (refusals_of_keeping l.fn.constraints (drop l.name-index l.names))
