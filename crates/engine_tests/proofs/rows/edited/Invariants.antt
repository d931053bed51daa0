use Rattle.std.proofs.Common.{◌≡◌}
use Rattle.engine_tests.proofs.rows.edited.Given as goal

-- the last run is of the model
abbrev pub invariant-loop-edit : goal.invariant-loop-edit
invariant-loop-edit g l = l.last.model ≡ l.model
