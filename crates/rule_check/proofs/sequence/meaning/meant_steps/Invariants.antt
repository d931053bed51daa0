use Rattle.std.proofs.Common.{◌≡◌, take, map}
use Rattle.rule_check.specs.SequenceMeaning.{meant_step}
use Rattle.rule_check.proofs.sequence.meaning.meant_steps.Given as goal

-- so many were made as were passed, each the one that is meant
abbrev pub invariant-loop-step : goal.invariant-loop-step
invariant-loop-step l = l.meant ≡ map (meant_step l.fn.model l.fn.parameters) (take l.step-index l.steps)
