use Rattle.std.proofs.Common.{◌≡◌, Some, ap, sym, ◌∙◌}
use Rattle.record_book.specs.Ways.{cells_read, way_of}
use Rattle.record_book.specs.declared.ways.KnownWay.{KnownWay}
use Rattle.record_book.proofs.Indexing.{way_stays, ways_more}
use Rattle.record_book.proofs.ways.add_way.Goals as goal

pub returns-in-Ok-clause-ways : goal.returns-in-Ok-clause-ways
returns-in-Ok-clause-ways c =
    let way : KnownWay = record { state = c.in_ok-state.state; cells = c.in_ok-cells.cells } in
    let is_way : way ≡ way_of c.args.step.now.before c.args.step.now.reads =
    λ i. record { state = c.in_ok-state.ensures i; cells = (c.in_ok-cells.ensures ∙ ap cells_read c.as_slice.ensures) i } in
    ways_more c.args.ways.now c.push.new.self c.args.key way c.in-Ok.ensures.pushed _ c.args.step.now.before c.requires.ways
    c.requires.key (sym c.in_ok-state.ensures) (λ at is. c.requires.new at (is ∙ ap Some is_way))

pub returns-in-Ok-clause-stay : goal.returns-in-Ok-clause-stay
returns-in-Ok-clause-stay c =
    let way : KnownWay = record { state = c.in_ok-state.state; cells = c.in_ok-cells.cells } in
    way_stays c.args.ways.now c.push.new.self c.args.key way c.in-Ok.ensures.pushed
