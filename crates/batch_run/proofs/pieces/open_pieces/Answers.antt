-- Each piece is opened: it is put behind the others, or all are spent.
use Rattle.std.proofs.Common.{◌-◌, Bool, false, List, Result, arith, sym, subst}
use Rattle.std.specs.Vec.Iter.{into_iter_items}
use Rattle.aerie_base.specs.declared.memory.OutOfMemory.{OutOfMemory}
use Rattle.run_data.specs.Counts.{rose_not, rose_on, unmatched_of_none}
use Rattle.run_data.specs.TaskFrames.{Frame}
use Rattle.task_step.specs.FreshWaves.{UncountedWave}
use Rattle.batch_run.specs.Pieces.{HaveNoError}
use Rattle.batch_run.proofs.Opening.{IsNext, JoinedSoFar, joined_first, joined_more, joined_past, joined_spent, no_error}
use Rattle.batch_run.proofs.pieces.open_pieces.Goals as goal

pub loop-piece-init : goal.loop-piece-init
loop-piece-init g c =
    let all = c.args.pieces.items in
    let steps = c.args.steps.now in
    let begun = sym c.into_iter-piece-iterator.ensures.into_iter_gives.0 in
    record {
      done = subst (λ (pieces : List (Result UncountedWave OutOfMemory)). HaveNoError pieces → HaveNoError all) begun (λ none. none);
      joined =
          subst (λ (pieces : List (Result UncountedWave OutOfMemory)). JoinedSoFar c.args.fuel all pieces false c.new-frames.result c.args.fuel steps steps) begun
          (subst (λ (frames : List Frame). JoinedSoFar c.args.fuel all all false frames c.args.fuel steps steps) (sym c.new-frames.ensures) (joined_first c.args.fuel all steps));
      opened = rose_not _ _ c.requires;
    }

pub loop-piece-preserved-else-may_pay : goal.loop-piece-preserved-else-may_pay
loop-piece-preserved-else-may_pay g c =
    let is : IsNext (into_iter_items c.loop-piece.piece-iterator) c.in-Some.piece c.in_ok-fresh.fresh (into_iter_items c.next.new.self) = record { pieces_are = c.in-Some.ensures.steps.0; piece_is = c.in_ok-fresh.was } in
    record {
      done = no_error c.args.pieces.items (into_iter_items c.loop-piece.piece-iterator) (into_iter_items c.next.new.self) c.in-Some.piece c.in_ok-fresh.fresh is c.loop-piece.invariant.done;
      joined =
          joined_past c.args.fuel c.args.pieces.items (into_iter_items c.loop-piece.piece-iterator) (into_iter_items c.next.new.self) c.in-Some.piece c.in_ok-fresh.fresh c.in-Frames.more c.loop-piece.is_spent c.loop-piece.frames c.loop-piece.left c.args.steps.now c.loop-piece.steps is (sym c.in-Frames.ensures.wave)
          (λ unspent. omega (arith, c.may_pay.ensures.past c.if-may_pay.false unspent, c.cost-cost.ensures, c.in-Frames.ensures.cost)) c.loop-piece.invariant.joined;
      opened = rose_on _ _ _ _ _ _ c.loop-piece.invariant.opened c.open.ensures.opened;
    }

pub loop-piece-preserved-in-Continue-branch-2 : goal.loop-piece-preserved-in-Continue-branch-2
loop-piece-preserved-in-Continue-branch-2 g c =
    let is : IsNext (into_iter_items c.loop-piece.piece-iterator) c.in-Some.piece c.in_ok-fresh.fresh (into_iter_items c.next.new.self) = record { pieces_are = c.in-Some.ensures.steps.0; piece_is = c.in_ok-fresh.was } in
    let paid = c.may_pay.ensures.paid c.if-may_pay.true in
    record {
      done = no_error c.args.pieces.items (into_iter_items c.loop-piece.piece-iterator) (into_iter_items c.next.new.self) c.in-Some.piece c.in_ok-fresh.fresh is c.loop-piece.invariant.done;
      joined =
          joined_more c.args.fuel c.args.pieces.items (into_iter_items c.loop-piece.piece-iterator) (into_iter_items c.next.new.self) c.in-Some.piece c.in_ok-fresh.fresh c.in-Frames.more c.loop-piece.is_spent c.loop-piece.frames c.loop-piece.left c.args.steps.now c.loop-piece.steps is (sym c.in-Frames.ensures.wave) c.in-Frames.ensures.cost paid.0 (omega (arith, paid.1, c.cost-cost.ensures)) c.loop-piece.invariant.joined c.append.new.frames (c.loop-piece.left - c.cost-cost.result) c.open.new.steps
          c.in_ok-append-in-Frames.ensures (omega (arith, c.cost-cost.ensures)) c.open.ensures.steps;
      opened = rose_on _ _ _ _ _ _ c.loop-piece.invariant.opened c.open.ensures.opened;
    }

pub returns-in_err-append-in-Frames-clause-opened : goal.returns-in_err-append-in-Frames-clause-opened
returns-in_err-append-in-Frames-clause-opened g c = rose_on _ _ _ _ _ _ c.loop-piece.invariant.opened c.open.ensures.opened

pub loop-piece-preserved : goal.loop-piece-preserved
loop-piece-preserved g c =
    let is : IsNext (into_iter_items c.loop-piece.piece-iterator) c.in-Some.piece c.in_ok-fresh.fresh (into_iter_items c.next.new.self) = record { pieces_are = c.in-Some.ensures.steps.0; piece_is = c.in_ok-fresh.was } in
    record {
      done = no_error c.args.pieces.items (into_iter_items c.loop-piece.piece-iterator) (into_iter_items c.next.new.self) c.in-Some.piece c.in_ok-fresh.fresh is c.loop-piece.invariant.done;
      joined = joined_spent c.args.fuel c.args.pieces.items (into_iter_items c.loop-piece.piece-iterator) (into_iter_items c.next.new.self) c.in-Some.piece c.in_ok-fresh.fresh c.loop-piece.is_spent c.loop-piece.frames c.loop-piece.left c.args.steps.now c.loop-piece.steps is (sym c.in-Spent.ensures.wave) c.loop-piece.invariant.joined;
      opened = rose_on _ _ _ _ _ _ c.loop-piece.invariant.opened c.open.ensures.opened;
    }

pub returns-clause-frugal : goal.returns-clause-frugal
returns-clause-frugal g c =
    let so_far =
    subst (λ (is_spent : Bool). JoinedSoFar c.args.fuel c.args.pieces.items (into_iter_items c.loop-piece.piece-iterator) is_spent c.loop-piece.frames c.loop-piece.left c.args.steps.now c.loop-piece.steps)
    c.if-is_spent.false c.loop-piece.invariant.joined
    in
    let none = unmatched_of_none c.loop-piece.frames in
    omega (arith, so_far.2, none)
