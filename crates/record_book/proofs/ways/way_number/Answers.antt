use Rattle.record_book.specs.Ways.{way_of}
use Rattle.record_book.proofs.Indexing.{no_way_under}
use Rattle.record_book.proofs.ways.way_number.Goals as goal

pub returns-clause-none : goal.returns-clause-none
returns-clause-none c =
    no_way_under _ c.args.ways.now (way_of c.args.state.now c.args.reads.now) c.state_key.result c.way_under.result c.requires c.state_key.ensures c.way_under.ensures.none
