use Rattle.std.proofs.Common.{sym, ◌∙◌}
use Rattle.client_work.proofs.Merges.{merge_as, mergeable_as, placed_at}
use Rattle.client_work.proofs.Refusals.{no_merge}
use Rattle.client_work.proofs.merging.merge_alike.Goals as goal

pub merged_or_refused-requires : goal.merged_or_refused-requires
merged_or_refused-requires g c = record {
  order = mergeable_as c.args.merge.now.assignment.now.workplace.now.lock.now c.args.all.now.base.now.plan c.args.all.now.source.now.plan c.args.all.now.target.now.plan c.requires.fetched.base c.requires.fetched.source c.requires.fetched.target c.requires.alike
      c.get.result.now c.get-2.result.now c.get-3.result.now c.get.ensures c.get-2.ensures c.get-3.ensures;
}

pub place_merged-requires-clause-plan : goal.place_merged-requires-clause-plan
place_merged-requires-clause-plan g c κs within =
    placed_at c.args.merge.now.assignment.now.workplace.now.lock.now c.args.all.now.base.now.plan c.args.all.now.source.now.plan c.args.all.now.target.now.plan c.requires.fetched.base c.requires.fetched.source c.requires.fetched.target c.requires.alike
    c.in_ok-made.made c.in-Ok.merged
    (c.in_ok-made.ensures.exact
    ∙ merge_as c.args.merge.now.assignment.now.workplace.now.lock.now c.args.all.now.base.now.plan c.args.all.now.source.now.plan c.args.all.now.target.now.plan c.requires.fetched.base c.requires.fetched.source c.requires.fetched.target c.requires.alike
    c.get.result.now c.get-2.result.now c.get-3.result.now c.get.ensures c.get-2.ensures c.get-3.ensures)
    c.in_ok-made.ensures.order c.in-Ok.is

pub returns-in-Err : goal.returns-in-Err
returns-in-Err g c =
    no_merge c.args.merge.now.assignment.now.workplace.now.mission.now c.args.merge.now.assignment.now.whose c.args.merge.now.target.now c.args.merge.now.source.now c.args.merge.now.base.now c.args.pass.now
    c.args.all.now.target.now c.args.all.now.source.now c.args.all.now.base.now c.in-Err.error c.requires.alike
    (sym
    (c.in_ok-made.ensures.exact
    ∙ merge_as c.args.merge.now.assignment.now.workplace.now.lock.now c.args.all.now.base.now.plan c.args.all.now.source.now.plan c.args.all.now.target.now.plan c.requires.fetched.base c.requires.fetched.source c.requires.fetched.target c.requires.alike
    c.get.result.now c.get-2.result.now c.get-3.result.now c.get.ensures c.get-2.ensures c.get-3.ensures)
    ∙ c.in-Err.is)
