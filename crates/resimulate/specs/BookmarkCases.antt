-- Worked cases: where the simulation of an edited plan may begin at a bookmark of the old plan at 20.
use Rattle.std.specs.Prelude.{map, refl}
use Rattle.std.proofs.Common.{ap, arith, lit<, lit≤}
use Rattle.aerie_base.specs.declared.models.model.Parts.{Parts}
use Rattle.aerie_base.specs.declared.plans.Plan.{Plan}
use Rattle.run_data.specs.Fresh.{SimulationState}
use Rattle.run_data.specs.Transitions.{more}
use Rattle.run_data.specs.laws.LateDifferences.{DifferLate}
use Rattle.parting.specs.IdRanges.{is_id_between}
use Rattle.engine_core.specs.EngineStates.{EngineState, IsEngineState}
use Rattle.resimulate.specs.Bookmarks.{MayResume, IsEngineOf}
use Rattle.resimulate.specs.PartingCases.{plan_of, old, moved, both_changed}

module _ (model : Parts) (at : SimulationState) where
  abbrev at_twenty : EngineState
  at_twenty = record { model = model; plan = plan_of old; bound = 100; point = more (record at { time = 20 }) }

  -- the third starts at 40 in place of 30: until 30 it is due in neither plan
  pub before_the_moved_one : DifferLate (is_id_between 3 4) 30 model (plan_of moved) (plan_of old) 100 100 → MayResume at_twenty model (plan_of moved) 100 3 4 30
  before_the_moved_one late = record {
    same_model = refl;
    ahead = lit< tt;
    late = late;
    plain = ((λ e. absurd (cc)), ((λ e. absurd (cc)), ((λ e. lit≤ tt), ((λ e. absurd (cc)), tt))));
    old_plain = ((λ e. absurd (cc)), ((λ e. absurd (cc)), ((λ e. lit≤ tt), ((λ e. absurd (cc)), tt))));
  }

  pub not_where_one_is_due_at_its_time : MayResume at_twenty model (plan_of moved) 100 3 4 20 → ⊥
  not_where_one_is_due_at_its_time may = (let less = may.ahead in absurd (omega (arith, less)))

  pub not_until_behind_the_old_start : MayResume at_twenty model (plan_of moved) 100 3 4 31 → ⊥
  not_until_behind_the_old_start may = (let late = may.old_plain.1.1.0 refl in absurd (omega (arith, late)))

  -- the fourth is anchored to the third, so its start is not told by the plan
  pub not_where_an_anchored_one_differs : MayResume at_twenty model (plan_of both_changed) 100 3 5 30 → ⊥
  not_where_an_anchored_one_differs may = may.plain.1.1.1.0 refl

  pub not_of_a_plan_that_lasts_longer : MayResume at_twenty model (record (plan_of moved) { duration = 200 }) 100 3 4 30 → ⊥
  not_of_a_plan_that_lasts_longer may = (let lasts = may.late.duration in absurd (omega (arith, lasts)))

  -- ---- engines

  pub an_engine_of_the_old_plan : IsEngineState at_twenty → IsEngineOf model (plan_of old) 100 at_twenty
  an_engine_of_the_old_plan stands = record { same_model = refl; same_plan = refl; same_bound = refl; stands = stands }

  pub none_of_the_edited_plan : IsEngineOf model (plan_of moved) 100 at_twenty → ⊥
  none_of_the_edited_plan is = (let starts = ap (λ (plan : Plan). map (λ one. one.start) plan.directives) is.same_plan in absurd (cc))
