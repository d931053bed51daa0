-- The tasks are those of the jobs, so that the tree is the same.
use Rattle.std.proofs.Common.{◌≡◌, ◌∙◌, ℕ, List, map, ap}
use Rattle.aerie_base.specs.Ranges.{step_limit}
use Rattle.effect_cells.specs.declared.effects.CellState.{CellState}
use Rattle.run_data.specs.TaskFrames.{Frame}
use Rattle.run_data.specs.declared.jobs.Job.{Job}
use Rattle.run_data.specs.laws.Trees.{tree_by_frames}
use Rattle.engine_core.specs.BatchEnding.{committed_by}
use Rattle.engine_core.specs.BatchEnds.{batch_as}
use Rattle.live_tasks.specs.declared.ready_jobs.Root.{Root}
use Rattle.live_tasks.specs.ReadyJobs.{root_of}
use Rattle.engine_core.specs.BatchTrees.{rebuilt_roots, tree_with}
use Rattle.engine_core.proofs.GatheredFrames.{roots_within, roots_of_jobs}
use Rattle.engine_core.proofs.batches.commit.Goals as goal

same_end : (frames : List Frame) (jobs : List (ℕ × Job)) (roots : List Root) (cells before : List CellState) → roots ≡ map root_of jobs → cells ≡ before →
    committed_by (tree_with (rebuilt_roots frames roots)) cells frames ≡ committed_by (tree_by_frames frames jobs) before frames
same_end frames jobs roots cells before are same =
    let parts = ap (rebuilt_roots frames) are ∙ roots_of_jobs frames jobs in (λ i. committed_by (tree_with (parts i)) (same i) frames)

pub commit_on-requires-clause-made : goal.commit_on-requires-clause-made
commit_on-requires-clause-made c =
    let roots : c.as_slice.result.now ≡ map root_of c.args.jobs.now = c.as_slice.ensures.value ∙ c.take_roots-roots.ensures.roots in
    rw roots (roots_within step_limit c.args.jobs.now c.requires.made)

pub commit_on-requires-clause-fits : goal.commit_on-requires-clause-fits
commit_on-requires-clause-fits c =
    let roots : c.as_slice.result.now ≡ map root_of c.args.jobs.now = c.as_slice.ensures.value ∙ c.take_roots-roots.ensures.roots in
    rw (c.in-Some.ensures.value, roots, roots_of_jobs) c.requires.fits

pub commit_on-requires-clause-worth : goal.commit_on-requires-clause-worth
commit_on-requires-clause-worth c =
    let roots : c.as_slice.result.now ≡ map root_of c.args.jobs.now = c.as_slice.ensures.value ∙ c.take_roots-roots.ensures.roots in
    rw (roots, roots_of_jobs) c.requires.worth

pub commit_on-requires-2-clause-made : goal.commit_on-requires-2-clause-made
commit_on-requires-2-clause-made c =
    let roots : c.as_slice-2.result.now ≡ map root_of c.args.jobs.now = c.as_slice-2.ensures.value ∙ c.take_roots-roots.ensures.roots in
    rw roots (roots_within step_limit c.args.jobs.now c.requires.made)

pub commit_on-requires-2-clause-fits : goal.commit_on-requires-2-clause-fits
commit_on-requires-2-clause-fits c =
    let roots : c.as_slice-2.result.now ≡ map root_of c.args.jobs.now = c.as_slice-2.ensures.value ∙ c.take_roots-roots.ensures.roots in
    rw (c.in_ok-own.ensures, c.get.ensures, roots, roots_of_jobs) c.requires.fits

pub commit_on-requires-2-clause-worth : goal.commit_on-requires-2-clause-worth
commit_on-requires-2-clause-worth c =
    let roots : c.as_slice-2.result.now ≡ map root_of c.args.jobs.now = c.as_slice-2.ensures.value ∙ c.take_roots-roots.ensures.roots in
    rw (roots, roots_of_jobs) c.requires.worth

pub returns-in-Some-clause-end : goal.returns-in-Some-clause-end
returns-in-Some-clause-end c =
    let roots : c.as_slice.result.now ≡ map root_of c.args.jobs.now = c.as_slice.ensures.value ∙ c.take_roots-roots.ensures.roots in
    c.in_ok-end.ensures.end ∙ same_end c.args.frames.items c.args.jobs.now c.as_slice.result.now c.in-Some.own.now c.args.cells.now roots c.in-Some.ensures.value

pub returns-clause-end : goal.returns-clause-end
returns-clause-end c =
    let roots : c.as_slice-2.result.now ≡ map root_of c.args.jobs.now = c.as_slice-2.ensures.value ∙ c.take_roots-roots.ensures.roots in
    ap (batch_as c.in_ok-end-2.end) c.in_ok-cells.ensures
    ∙ c.in_ok-end-2.ensures.end
    ∙ same_end c.args.frames.items c.args.jobs.now c.as_slice-2.result.now c.in_ok-own.own c.args.cells.now roots (c.in_ok-own.ensures ∙ c.get.ensures)
