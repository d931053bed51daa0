-- A ready task's effects are those of its frame.
use Rattle.std.proofs.Common.{sym, subst}
use Rattle.run_data.specs.Frames.{room_of}
use Rattle.run_data.specs.laws.Trees.{rebuilt}
use Rattle.engine_core.specs.BatchTrees.{AreGathered, MayGather}
use Rattle.engine_core.proofs.ChildPositions.{its_path, finds_itself, none_found}
use Rattle.engine_core.proofs.GatheredFrames.{none_gathered}
use Rattle.engine_core.proofs.batches.gathering.gather_root.Goals as goal

pub returns-in_default : goal.returns-in_default
returns-in_default c =
    none_gathered c.effects_are_gathered.ensures.enters c.args.cells.now _ _ c.args.gathering.now c.requires.may
    (none_found c.args.frames.now (room_of c.args.root.now.path) c.args.root.now.made c.args.root.now.path c.in_default.ensures)

pub gather_task-requires-clause-found : goal.gather_task-requires-clause-found
gather_task-requires-clause-found c = finds_itself c.args.frames.now c.args.root.now.path c.in-Some.at c.index-frames-at.result c.in-Some.ensures c.index-frames-at.is

pub gather_task-requires-clause-may : goal.gather_task-requires-clause-may
gather_task-requires-clause-may c =
    let same = its_path c.args.frames.now c.args.root.now.path c.in-Some.at c.index-frames-at.result c.in-Some.ensures c.index-frames-at.is in
    subst (λ path. MayGather c.args.cells.now (rebuilt c.args.frames.now (room_of path) c.args.root.now.made path) c.args.gathering.now) (sym same) c.requires.may

pub returns : goal.returns
returns c =
    let same = its_path c.args.frames.now c.args.root.now.path c.in-Some.at c.index-frames-at.result c.in-Some.ensures c.index-frames-at.is in
    subst (λ path. AreGathered c.args.cells.now (rebuilt c.args.frames.now (room_of path) c.args.root.now.made path) c.args.gathering.now c.gather_task.new.gathering) same
    c.in_ok-gather_task.ensures
