use Rattle.constraints.proofs.Splicing.{spliced_set}
use Rattle.constraints.proofs.judging.spliced.Goals as goal

pub returns : goal.returns
returns c =
    spliced_set c.args.sources.now.model.now c.args.sources.now.run.now c.args.window.now c.args.times.now c.args.outside.now c.args.inside.now c.in_ok-made.made c.requires.near c.requires.outside c.requires.inside
    c.in_ok-made.ensures.reach c.in_ok-made.ensures.times
