use Rattle.std.specs.Vec.Iter.{into_iter_items}
use Rattle.run_data.specs.Waves.{RoseAlike}
use Rattle.batch_run.specs.Pieces.{HaveNoError}
use Rattle.batch_run.proofs.Opening.{JoinedSoFar}
use Rattle.batch_run.proofs.pieces.open_pieces.Given as goal

-- the pieces that are left, with what was opened so far, give the wave of all
abbrev pub invariant-loop-piece : goal.invariant-loop-piece
invariant-loop-piece g l = record {
  done : HaveNoError (into_iter_items l.piece-iterator) → HaveNoError l.fn.pieces.items;
  joined : JoinedSoFar l.fuel l.fn.pieces.items (into_iter_items l.piece-iterator) l.is_spent l.frames l.left l.initial.steps l.steps;
  opened : RoseAlike l.initial.opened l.initial.steps l.opened l.steps;
}
