use Rattle.std.proofs.Common.{None, subst}
use Rattle.record_book.specs.KeyedItems.{HasNo}
use Rattle.record_book.specs.Ways.{way_of}
use Rattle.record_book.specs.declared.ways.KnownWay.{KnownWay}
use Rattle.record_book.proofs.Indexing.{no_way_under}
use Rattle.record_book.proofs.ways.way_taken.Goals as goal

pub add_way-requires-clause-new : goal.add_way-requires-clause-new
add_way-requires-clause-new c =
    let way : KnownWay = way_of c.get-state.result.now c.as_slice-reads.result.now in
    let none = no_way_under _ c.args.ways.now way c.state_key-key.result None c.requires c.state_key-key.ensures c.in-None.ensures.none in
    subst (HasNo c.args.ways.now) (λ i. way_of (c.get-state.ensures i) (c.as_slice-reads.ensures i)) none
