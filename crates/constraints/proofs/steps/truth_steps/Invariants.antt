use Rattle.std.proofs.Common.{◌≡◌, take, map}
use Rattle.constraints.specs.Steps.{truth_step}
use Rattle.constraints.proofs.steps.truth_steps.Given as goal

-- the entries so far are steps
abbrev pub invariant-loop-entry : goal.invariant-loop-entry
invariant-loop-entry l = l.made ≡ map truth_step (take l.entry-index l.entries)
