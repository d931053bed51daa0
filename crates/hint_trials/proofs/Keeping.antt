-- Hints that take a session further, and one more behind them.
use Rattle.std.proofs.Common.{ℕ, List, [], ◌∷◌, ◌++◌}
use Rattle.std.specs.List.{AllByRecursion}
use Rattle.explain.specs.declared.hint.Hint.{Hint}
use Rattle.hint_trials.specs.Trials.{TakesFurther}

pub all_added : (bytes : List ℕ) (hints : List Hint) (hint : Hint) → AllByRecursion (TakesFurther bytes) hints → TakesFurther bytes hint
    → AllByRecursion (TakesFurther bytes) (hints ++ hint ∷ [])
all_added bytes [] hint all is = (is, tt)
all_added bytes (one ∷ more) hint all is = (all.0, all_added bytes more hint all.1 is)
