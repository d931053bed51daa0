use Rattle.std.proofs.Common.{List, sym, subst}
use Rattle.aerie_base.specs.declared.models.model.Parts.{Parts}
use Rattle.aerie_base.specs.declared.plans.Plan.{Plan}
use Rattle.aerie_base.specs.plans.OfModel.{IsPlanOf, Rise}
use Rattle.run_data.specs.declared.runs.Instant.{Instant}
use Rattle.engine_core.specs.EngineStates.{instants_in}
use Rattle.resimulate.specs.EarlyEnds.{EndAtOnce}
use Rattle.resimulate.specs.Likeness.{TellAlike}
use Rattle.resimulate.specs.Partings.{AreSameOutside}
use Rattle.resimulate.specs.SharedEnds.{ShareFirst}
use Rattle.resimulate.proofs.EarlyEnds.{alike_behind}
use Rattle.resimulate.proofs.early_ends.is_alike_behind.Goals as goal

pub tell_alike-requires : goal.tell_alike-requires
tell_alike-requires c =
    let is = subst (λ (m : Parts). IsPlanOf m c.args.plan.now) c.requires.model (subst (IsPlanOf c.args.engine.now.model) c.requires.plan c.ready.ensures.stands.plan) in record {
      plan = (c.args.plan.now.next_id, is.ids);
      old_plan = subst (λ (p : Plan). Rise p.directives) (sym c.get-old_plan.ensures) (c.args.old.now.plan.next_id, c.requires.old_plan.ids);
      outside = subst (λ (p : Plan). AreSameOutside c.args.plan.now p c.args.parting.now) (sym c.get-old_plan.ensures) c.requires.outside;
      first = subst (λ (l : List Instant). ShareFirst l c.args.before.now c.args.first) (sym c.instants-instants.ensures) c.requires.first;
    }

pub returns : goal.returns
returns c = λ yes.
    alike_behind c.instants_follow_settled_states.ensures c.tasks_are_traced_by_their_frames.ensures.settled c.frames_tell_alike.ensures c.last_changes_tell_cells.ensures
    c.args.model.now c.args.plan.now c.args.bound c.cells.ensures.valid c.args.old.now c.requires.old_plan c.requires.may c.requires.fresh c.args.before.now c.args.rest.now c.requires.parts
    c.args.engine.now c.ready.ensures.stands c.requires.model c.requires.plan c.requires.bound c.requires.job c.requires.begins
    (subst (λ (l : List Instant). EndAtOnce l c.args.before.now) c.instants-instants.ensures (c.end_at_once.ensures c.if-not-end_at_once.false))
    (subst (λ (p : Plan). TellAlike c.args.model.now c.args.plan.now p (instants_in c.args.engine.now.point) c.args.before.now) c.get-old_plan.ensures
    (subst (λ (l : List Instant). TellAlike c.args.model.now c.args.plan.now c.get-old_plan.result.now l c.args.before.now) c.instants-instants.ensures (c.in_ok-alike.ensures yes)))
