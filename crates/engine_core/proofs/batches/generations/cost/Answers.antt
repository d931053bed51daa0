use Rattle.std.proofs.Common.{arith}
use Rattle.std.proofs.lemmas.List.{at_drop_all}
use Rattle.run_data.specs.Batches.{cost_of}
use Rattle.engine_core.proofs.batches.generations.cost.Goals as goal

pub returns : goal.returns
returns c =
    let none = at_drop_all cost_of c.args.frames.now c.loop-frame.frame-index c.loop-frame-test.false in
    omega (arith, none, c.loop-frame.invariant.whole, c.loop-frame.invariant.fits)
