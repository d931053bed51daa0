-- The commands of the steps so far, and those of the steps behind.
use Rattle.std.proofs.Common.{◌≡◌, ◌++◌, drop}
use Rattle.span_table.specs.AsDefined.{defined_span}
use Rattle.seq_expand.specs.Sending.{sent_by_steps}
use Rattle.seq_expand.proofs.sending.send_steps.Given as goal

abbrev pub invariant-loop-step : goal.invariant-loop-step
invariant-loop-step l =
    l.commands.items ++ sent_by_steps (defined_span l.span) (drop l.step-index l.steps)
    ≡ l.fn.commands.items ++ sent_by_steps (defined_span l.span) l.fn.steps
