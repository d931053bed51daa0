use Rattle.std.proofs.Common.{List, ℕ, ap, arith, slice_set, ◌∙◌}
use Rattle.profiles.specs.Touches.{position_pushed_at}
use Rattle.profiles.proofs.Noting.{not_pushed, pushed_is}
use Rattle.profiles.proofs.touches.note_cell.Goals as goal

pub returns-in_ok-push : goal.returns-in_ok-push
returns-in_ok-push c =
    let by_cell = c.args.by_cell.now.items in
    ap (λ (positions : List ℕ). slice_set by_cell c.from-cell.result positions) c.in_ok-push.ensures.pushed
    ∙ (pushed_is by_cell c.from-cell.result c.args.at c.index_mut.result.now (omega (arith, c.if-cell-len.true, c.len.ensures)) c.index_mut.ensures.value
    ∙ ap (λ (cell : ℕ). position_pushed_at by_cell cell c.args.at) c.from-cell.ensures)

pub returns-else-cell-len : goal.returns-else-cell-len
returns-else-cell-len c = not_pushed c.args.by_cell.now.items c.args.cell c.args.at (omega (arith, c.if-cell-len.false, c.from-cell.ensures, c.len.ensures))
