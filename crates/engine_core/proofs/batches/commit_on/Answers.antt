-- The effects that are gathered are those of the tree, and the cells' own commit answers as the definition says.
use Rattle.std.proofs.Common.{◌≡◌, List, refl, sym, subst}
use Rattle.effect_cells.specs.declared.effects.CellState.{CellState}
use Rattle.effect_cells.specs.Gathered.{HasBegun, IsWhole}
use Rattle.run_data.specs.TaskFrames.{Frame}
use Rattle.engine_core.specs.BatchTrees.{rebuilt_roots, tree_with, AreGathered}
use Rattle.engine_core.proofs.BatchJudging.{commit_ok, commit_out}
use Rattle.engine_core.proofs.GatheredFrames.{begins_may, whole_is}
use Rattle.engine_core.proofs.batches.commit_on.Goals as goal

-- what is gathered in the end is the tree
gathered : (cells before : List CellState) (frames these : List Frame) → cells ≡ before → frames ≡ these → (roots : _) (begun now : _) → HasBegun before begun →
    AreGathered cells (rebuilt_roots frames roots) begun now → IsWhole cells (tree_with (rebuilt_roots these roots)) now
gathered cells before frames these same value roots begun now nothing all =
    whole_is cells (rebuilt_roots these roots) begun now (subst (λ (of : List CellState). HasBegun of begun) (sym same) nothing)
    (subst (λ (of : List Frame). AreGathered cells (rebuilt_roots of roots) begun now) value all)

pub gather_all-requires-clause-may : goal.gather_all-requires-clause-may
gather_all-requires-clause-may c =
    rw (c.in_ok-gathering.ensures.same, c.as_slice.ensures.value)
    (begins_may c.effects_are_gathered.ensures.begins c.args.cells.now (rebuilt_roots c.args.frames.items c.args.roots.now) c.in_ok-gathering.gathering c.in_ok-gathering.ensures.begun
    c.requires.fits c.requires.worth)

pub commit_gathered-requires-clause-gathered : goal.commit_gathered-requires-clause-gathered
commit_gathered-requires-clause-gathered c = (
  tree_with (rebuilt_roots c.args.frames.items c.args.roots.now),
  c.requires.worth,
  gathered c.begin_gathering.new.self c.args.cells.now c.as_slice.result.now c.args.frames.items c.in_ok-gathering.ensures.same c.as_slice.ensures.value c.args.roots.now c.in_ok-gathering.gathering
      c.gather_all.new.gathering c.in_ok-gathering.ensures.begun c.in_ok-gather_all.ensures,
)

pub returns-in-Ok-clause-end : goal.returns-in-Ok-clause-end
returns-in-Ok-clause-end c =
    let tree = tree_with (rebuilt_roots c.args.frames.items c.args.roots.now) in
    let whole = gathered c.begin_gathering.new.self c.args.cells.now c.as_slice.result.now c.args.frames.items c.in_ok-gathering.ensures.same c.as_slice.ensures.value c.args.roots.now c.in_ok-gathering.gathering
    c.gather_all.new.gathering c.in_ok-gathering.ensures.begun c.in_ok-gather_all.ensures in
    rw (c.from_vec.ensures, ← c.in_ok-gathering.ensures.same)
    (commit_ok tree tree c.begin_gathering.new.self c.commit_gathered.new.self c.in_ok-touched.touched c.args.frames.items refl (c.in-Ok.ensures.answer tree whole)
    (c.in-Ok.ensures.committed tree whole) (c.in_ok-touched.ensures c.begin_gathering.new.self tree whole))

pub returns-in-Err-clause-end : goal.returns-in-Err-clause-end
returns-in-Err-clause-end c =
    let tree = tree_with (rebuilt_roots c.args.frames.items c.args.roots.now) in
    let whole = gathered c.begin_gathering.new.self c.args.cells.now c.as_slice.result.now c.args.frames.items c.in_ok-gathering.ensures.same c.as_slice.ensures.value c.args.roots.now c.in_ok-gathering.gathering
    c.gather_all.new.gathering c.in_ok-gathering.ensures.begun c.in_ok-gather_all.ensures in
    rw (← c.in_ok-gathering.ensures.same)
    (commit_out tree tree c.begin_gathering.new.self c.in-Err.out c.args.frames.items refl (c.in-Err.ensures.answer tree whole))
