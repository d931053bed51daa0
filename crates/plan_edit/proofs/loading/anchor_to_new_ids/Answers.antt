use Rattle.std.proofs.Common.{◌<◌, ℕ, subst}
use Rattle.plan_edit.specs.Loading.{anchored_to_new_id}
use Rattle.plan_edit.proofs.EachChanged.{changed_on}
use Rattle.plan_edit.proofs.loading.anchor_to_new_ids.Goals as goal

pub loop-at-preserved : goal.loop-at-preserved
loop-at-preserved c =
    let less = subst (λ (n : ℕ). c.loop-at.at < n) c.len-at-end.ensures c.loop-at-test.true in
    changed_on (anchored_to_new_id c.args.first c.args.all.now) c.args.directives.now c.loop-at.directives c.put_new_anchor.new.directives c.loop-at.at less c.loop-at.invariant c.put_new_anchor.ensures
