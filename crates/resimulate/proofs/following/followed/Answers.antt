use Rattle.std.proofs.Common.{IfSome, List, length, sym, subst}
use Rattle.aerie_base.specs.declared.plans.Plan.{Plan}
use Rattle.run_data.specs.declared.runs.Instant.{Instant}
use Rattle.engine_core.specs.Bookmarks.{point_behind}
use Rattle.engine_core.specs.EngineStates.{EngineState, IsReachedPruned}
use Rattle.resimulate.specs.Followed.{ComeBehind, IsSpentThere}
use Rattle.resimulate.proofs.FollowedMarks.{comes_behind}
use Rattle.resimulate.proofs.following.followed.Goals as goal

pub moved-made-requires-clause-comes : goal.moved-made-requires-clause-comes
moved-made-requires-clause-comes c =
    let all = c.in-Some-2.all in
    let whole = c.in-Some.whole in
    let instants = c.args.instants.now in
    let old_instants = c.args.old_instants.now in
    let found : ComeBehind instants c.settled.result.now (length old_instants) all =
    subst (λ found. IfSome found (ComeBehind instants c.settled.result.now (length old_instants))) c.in-Some-2.is c.in_ok-all.ensures in
    subst (λ (s : EngineState). IsReachedPruned s.model c.in_ok-share.field-0 c.args.bound (point_behind all whole s.point)) (sym c.bookmark.view_is)
    (subst (λ (p : Plan). IsReachedPruned c.args.bookmark.model p c.args.bound (point_behind all whole c.args.bookmark.point)) (sym c.in_ok-share.ensures)
    (comes_behind c.rest_of_old_run_is_taken_over.ensures.followed c.rest_of_old_run_is_taken_over.ensures.costs c.args.bookmark.model c.args.plan.now c.args.bookmark.plan c.args.bound c.args.bookmark.bound
    instants c.args.spent old_instants c.requires.alike c.args.old_spent c.requires.cost c.args.bookmark.point c.model.ensures.stands.reached c.model.ensures.job all
    (subst (λ (l : List Instant). ComeBehind instants l (length old_instants) all) c.settled.ensures found) whole
    (subst (λ n. IsSpentThere n c.args.old_spent c.args.spent c.args.bound whole) c.spent.ensures c.in-Some.ensures)))
