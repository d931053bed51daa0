use Rattle.constraints.proofs.SpanMargins.{patched_set}
use Rattle.constraints.proofs.judging.patched.Goals as goal

pub returns : goal.returns
returns c =
    patched_set c.args.sources.now c.args.window.now c.args.parts.now c.args.times.now c.args.margin c.earlier_by-from.result c.later_by-to.result c.args.outside.now c.in_ok-held.held c.in_ok-inside.inside c.in_ok-made.made
    c.requires.holds c.requires.outside c.requires.margin c.earlier_by-from.ensures c.later_by-to.ensures c.in_ok-held.ensures.reach c.in_ok-held.ensures.times c.in_ok-inside.ensures.reach c.in_ok-inside.ensures.times
    c.in_ok-made.ensures.reach c.in_ok-made.ensures.times
