use Rattle.std.proofs.Common.{◌<◌, length, arith}
use Rattle.record_book.proofs.Chaining.{cut, cut_ended, cut_enough}
use Rattle.record_book.proofs.keyed_items.KeyedItems.truncate.Goals as goal

pub loop-self-preserved : goal.loop-self-preserved
loop-self-preserved g c =
    let more : c.args.len < length c.loop-self.self = omega arith in
    record {
      first = cut c.args.self.now c.loop-self.self c.take_last.new.self c.loop-self.invariant.first c.take_last.ensures;
      enough = cut_enough c.args.self.now c.loop-self.self c.take_last.new.self c.args.len c.loop-self.invariant.enough more c.take_last.ensures;
    }

pub returns : goal.returns
returns g c = cut_ended c.args.self.now c.loop-self.self c.args.len c.loop-self.invariant.first c.loop-self.invariant.enough (omega arith)
