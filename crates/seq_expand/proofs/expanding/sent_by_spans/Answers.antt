use Rattle.std.proofs.Common.{◌++◌, ap, ◌∙◌}
use Rattle.span_table.specs.AsDefined.{defined_span}
use Rattle.seq_expand.specs.Sending.{sent_by_steps, steps_for as steps_of}
use Rattle.seq_expand.proofs.Shifts.{have_all}
use Rattle.seq_expand.proofs.BySpans.{span_sent}
use Rattle.seq_expand.proofs.expanding.sent_by_spans.Goals as goal

pub send_steps-requires : goal.send_steps-requires
send_steps-requires c = rw (c.steps_for.ensures, c.as_slice.ensures) (have_all c.span-item.result.kind c.args.rules.now.rules c.requires)

pub loop-span-preserved : goal.loop-span-preserved
loop-span-preserved c =
    span_sent c.args.rules.now.rules c.args.spans.now c.loop-span.span-index c.span-item.result c.loop-span.sent.items c.send_steps.new.commands.items _
    c.loop-span-test.true c.span-item.is
    (c.in_ok-send_steps.ensures
    ∙ ap (λ steps. c.loop-span.sent.items ++ sent_by_steps (defined_span c.span-item.result) steps)
    (c.steps_for.ensures ∙ ap (steps_of c.span-item.result.kind) c.as_slice.ensures))
    c.loop-span.invariant
