use Rattle.client_work.specs.Meanings.{meanings_of, ruled_by, scheduled}
use Rattle.client_work.proofs.BranchIds.{goes_on}
use Rattle.client_work.proofs.GoingOn.{adds_goes, none_again}
use Rattle.client_work.proofs.MergedIds.{merged_goes}
use Rattle.client_work.proofs.laws.no_id_is_used_again.Goals as goal
use Rattle.scheduler.specs.OnlyAdds.{placed_for_all}

pub returns : goal.returns
returns c = λ models bound first clients front more rest name before after fits stands.
    none_again before.plan after.plan
    (goes_on (meanings_of models bound) (record {
      scheduled = λ plan.
          let ruled = ruled_by models plan in
          let made = scheduled models bound plan in
          adds_goes plan made.plan (placed_for_all made.goals) (c.schedules_only_add.ensures ruled.model bound ruled.constraints ruled.goals plan);
      merged = merged_goes;
    }) c.branches_are_isolated.ensures.others c.revisions_name_plans.ensures.plans first clients front more rest name before after fits stands.there stands.still_there stands.never_dropped)
