use Rattle.std.proofs.Common.{◌+◌, ◌<◌, ◌++◌, length, refl, ap, arith}
use Rattle.run_data.specs.Frames.{read_from}
use Rattle.task_step.proofs.CellsRead.{read_in, then_next, none_left}
use Rattle.task_step.proofs.cells_read.cells_read.Goals as goal

pub loop-cell-init : goal.loop-cell-init
loop-cell-init c =
    let next = c.next-cell.ensures in
    record {
      within = next.within;
      is_read = next.read;
      all = then_next c.args.sight.now.read_flags c.args.sight.now.view.now 0 _ _ _ c.requires next.from next.within next.none (ap (λ l. l ++ read_from 0 c.args.sight.now.read_flags c.args.sight.now.view.now) c.in_ok-reads.ensures);
    }

pub loop-cell-preserved : goal.loop-cell-preserved
loop-cell-preserved c =
    let i = c.loop-cell.invariant in
    let next = c.next-cell-in-loop-cell.ensures in
    let lt : c.loop-cell.cell < length c.args.sight.now.read_flags = omega (arith, c.len-cells.ensures.length, c.loop-cell-test.true) in
    record {
      within = next.within;
      is_read = next.read;
      all = then_next c.args.sight.now.read_flags c.args.sight.now.view.now (c.loop-cell.cell + 1) _ _ _ c.requires next.from next.within next.none
          (read_in c.args.sight.now.read_flags c.args.sight.now.view.now c.loop-cell.cell c.state-state.result c.loop-cell.reads _ _ _ lt (i.is_read lt) c.state-state.ensures refl c.in_ok-push.ensures.pushed i.all);
    }

pub returns : goal.returns
returns c = none_left c.args.sight.now.read_flags c.args.sight.now.view.now c.loop-cell.cell _ _ (omega (arith, c.len-cells.ensures.length, c.loop-cell-test.false)) c.loop-cell.invariant.all
