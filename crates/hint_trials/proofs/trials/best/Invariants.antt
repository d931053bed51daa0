use Rattle.std.specs.List.{AllByRecursion}
use Rattle.std.proofs.Common.{◌≤◌}
use Rattle.hint_trials.specs.Trials.{TakesFurther}
use Rattle.hint_trials.proofs.trials.best.Given as goal

-- each hint that is kept takes the session further
abbrev pub invariant-loop-hint : goal.invariant-loop-hint
invariant-loop-hint l = record {
  further : AllByRecursion (TakesFurther l.bytes) l.kept.hints;
  few : l.trials ≤ 62;
}
