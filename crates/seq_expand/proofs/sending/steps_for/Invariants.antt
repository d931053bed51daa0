-- The rules so far are of other types.
use Rattle.std.proofs.Common.{◌≡◌, drop}
use Rattle.seq_expand.specs.Sending.{steps_for as steps_of}
use Rattle.seq_expand.proofs.sending.steps_for.Given as goal

abbrev pub invariant-loop-rule : goal.invariant-loop-rule
invariant-loop-rule l = steps_of l.kind l.rules ≡ steps_of l.kind (drop l.rule-index l.rules)
