use Rattle.std.proofs.Common.{◌≡◌, get_or, subst, true, sym, ap}
use Rattle.std.specs.Option.{unwrap_or}
use Rattle.std.proofs.lemmas.List.Edits.{map_over_more}
use Rattle.aerie_base.specs.expressions.Readings.{cell_of}
use Rattle.effect_cells.specs.States.{is_in_range, state_after}
use Rattle.profiles.specs.declared.watching.Watched.{Watched}
use Rattle.profiles.specs.States.{changed_state}
use Rattle.profiles.specs.Watching.{IsWatchable, advanced}
use Rattle.profiles.proofs.WatchedCells.{untouched}
use Rattle.profiles.proofs.watching.advance.Goals as goal

pub next_state-each-requires-clause-range : goal.next_state-each-requires-clause-range
next_state-each-requires-clause-range c =
    let i = c.loop-each.each-index in
    let same : c.each-item.result ≡ get_or c.args.watched.now i c.each-item.result =
    untouched (advanced c.args.dt c.args.changed.now) c.args.watched.now c.loop-each.watched i c.each-item.result c.loop-each-test.true c.loop-each.invariant c.each-item.is in
    let good : IsWatchable (get_or c.args.watched.now i c.each-item.result) = c.requires.watched i c.each-item.result c.loop-each-test.true in
    subst (λ (w : Watched). is_in_range w.state ≡ true) c.each-item.is (subst IsWatchable (sym same) good).in_range

pub loop-each-preserved : goal.loop-each-preserved
loop-each-preserved c =
    let i = c.loop-each.each-index in
    let one : Watched = get_or c.loop-each.watched i c.each-item.result in
    let state : c.next_state-each.result ≡ unwrap_or (changed_state c.args.changed.now (cell_of one.read)) (state_after c.args.dt one.state) = rw c.cell.ensures at c.next_state-each.ensures in
    rw state
    (map_over_more (advanced c.args.dt c.args.changed.now) c.args.watched.now c.loop-each.watched i one c.loop-each-test.true c.loop-each.invariant
    (ap (λ (d : Watched). get_or c.loop-each.watched i d) c.each-item.is))
