use Rattle.std.proofs.Common.{◌∙◌, sym, arith}
use Rattle.resimulate.proofs.OldInstants.{early_more, first_here, first_past}
use Rattle.resimulate.proofs.old_batches.first_from.Goals as goal

pub returns-then-not-is_earlier : goal.returns-then-not-is_earlier
returns-then-not-is_earlier c =
    first_here c.args.time c.loop-at.at c.args.instants.now c.index-instants-at.result c.loop-at-test.true c.index-instants-at.is (sym c.is_earlier.ensures ∙ c.if-not-is_earlier.true) c.loop-at.invariant

pub loop-at-preserved : goal.loop-at-preserved
loop-at-preserved c =
    early_more c.args.time c.loop-at.at c.args.instants.now c.index-instants-at.result c.loop-at-test.true c.index-instants-at.is (sym c.is_earlier.ensures ∙ c.if-not-is_earlier.false) c.loop-at.invariant

pub returns : goal.returns
returns c = first_past c.args.time c.loop-at.at c.args.instants.now (let past = c.loop-at-test.false in omega (arith, past)) c.loop-at.invariant
