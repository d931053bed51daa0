use Rattle.std.proofs.Common.{sym, ◌∙◌}
use Rattle.client_work.proofs.Merges.{alike_as}
use Rattle.client_work.proofs.Refusals.{other_model}
use Rattle.client_work.proofs.merging.merge_fetched.Goals as goal

pub returns : goal.returns
returns g c =
    other_model c.args.merge.now.assignment.now.workplace.now.mission.now c.args.merge.now.assignment.now.whose c.args.merge.now.target.now c.args.merge.now.source.now c.args.merge.now.base.now c.args.pass.now
    c.args.all.now.target.now c.args.all.now.source.now c.args.all.now.base.now
    (sym
    (c.are_alike.ensures
    ∙ alike_as c.args.all.now.base.now.plan c.args.all.now.source.now.plan c.args.all.now.target.now.plan c.get.result.now c.get-2.result.now c.get-3.result.now c.get.ensures c.get-2.ensures c.get-3.ensures)
    ∙ c.if-are_alike.false)
