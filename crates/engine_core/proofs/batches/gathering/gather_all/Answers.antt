-- One task more from behind, beside those that are gathered.
use Rattle.std.proofs.Common.{◌≡◌, ◌-◌, drop, length, arith}
use Rattle.aerie_base.specs.Ranges.{step_limit}
use Rattle.run_data.specs.Frames.{room_of}
use Rattle.run_data.specs.laws.Trees.{rebuilt}
use Rattle.engine_core.specs.BatchTrees.{rebuilt_roots}
use Rattle.engine_core.proofs.GatheredFrames.{next_may, next_gathered, starts_gathered, child_may, child_gathered, as_many_roots, root_first, root_within}
use Rattle.engine_core.proofs.batches.gathering.gather_all.Goals as goal

pub loop-left-init : goal.loop-left-init
loop-left-init c = record {
  within = omega arith;
  gathered =
      starts_gathered c.effects_are_gathered.ensures.enters c.args.cells.now (rebuilt_roots c.args.frames.now c.args.roots.now) (length c.args.roots.now) c.args.gathering.now
      (omega (arith, as_many_roots c.args.frames.now c.args.roots.now)) c.requires.may;
}

pub gather_root-requires-clause-made : goal.gather_root-requires-clause-made
gather_root-requires-clause-made c =
    root_within step_limit c.args.roots.now (c.loop-left.left - 1) c.index-roots-left.result c.requires.made (omega (arith, c.loop-left.invariant.within)) c.index-roots-left.is

pub gather_root-requires-clause-may : goal.gather_root-requires-clause-may
gather_root-requires-clause-may c =
    let first = root_first c.args.frames.now c.args.roots.now c.loop-left.left c.index-roots-left.result (omega arith) c.loop-left.invariant.within c.index-roots-left.is in
    let may = next_may c.effects_are_gathered.ensures.stays c.args.cells.now (rebuilt_roots c.args.frames.now c.args.roots.now) (c.loop-left.left - 1) c.loop-left.left _ c.args.gathering.now
    c.loop-left.gathering first c.requires.may c.loop-left.invariant.gathered in
    child_may c.args.cells.now (rebuilt c.args.frames.now (room_of c.index-roots-left.result.path) c.index-roots-left.result.made c.index-roots-left.result.path) c.loop-left.gathering may

pub loop-left-preserved : goal.loop-left-preserved
loop-left-preserved c =
    let first = root_first c.args.frames.now c.args.roots.now c.loop-left.left c.index-roots-left.result (omega arith) c.loop-left.invariant.within c.index-roots-left.is in
    record {
      within = omega (arith, c.loop-left.invariant.within);
      gathered =
          next_gathered c.args.cells.now (rebuilt_roots c.args.frames.now c.args.roots.now) (c.loop-left.left - 1) c.loop-left.left _ c.args.gathering.now c.gather_root.new.gathering first
          (child_gathered c.effects_are_gathered.ensures.child c.args.cells.now
          (rebuilt c.args.frames.now (room_of c.index-roots-left.result.path) c.index-roots-left.result.made c.index-roots-left.result.path)
          (drop c.loop-left.left (rebuilt_roots c.args.frames.now c.args.roots.now)) c.args.gathering.now c.loop-left.gathering
          c.gather_root.new.gathering c.loop-left.invariant.gathered c.in_ok-behind.ensures);
    }

pub returns : goal.returns
returns c = let none : c.loop-left.left ≡ 0 = omega arith in rw none at c.loop-left.invariant.gathered
