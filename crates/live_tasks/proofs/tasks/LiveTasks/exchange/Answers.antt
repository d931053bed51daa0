use Rattle.std.proofs.Common.{◌∙◌, List, refl, sym, ap, subst}
use Rattle.aerie_base.specs.declared.plans.Directive.{Directive}
use Rattle.aerie_base.specs.plans.OfModel.{Rise}
use Rattle.run_data.specs.Tasks.{with_directives}
use Rattle.run_data.specs.laws.LateDifferences.{common_tasks}
use Rattle.run_data.specs.laws.Orders.{EachOf}
use Rattle.parting.specs.Exchanges.{differing_directives, exchanged}
use Rattle.parting.specs.IdRanges.{is_id_between}
use Rattle.live_tasks.specs.Exchanging.{HasNoAnchor}
use Rattle.live_tasks.specs.InStep.{table_in}
use Rattle.live_tasks.specs.Joining.{AreUnderWay}
use Rattle.live_tasks.specs.Slots.{table_of}
use Rattle.live_tasks.proofs.CommonLeft.{none_left}
use Rattle.live_tasks.proofs.ExchangedLive.{exchanged_quiet, way_table, way_in_step}
use Rattle.live_tasks.proofs.tasks.LiveTasks.exchange.Goals as goal

pub join_all-requires-clause-ids : goal.join_all-requires-clause-ids
join_all-requires-clause-ids c = subst Rise (sym c.as_slice.ensures) (c.args.plan.now.next_id, c.requires.plan.ids)

pub join_all-requires-clause-alone : goal.join_all-requires-clause-alone
join_all-requires-clause-alone c = subst (EachOf (HasNoAnchor (is_id_between c.args.first c.args.past))) (sym c.as_slice.ensures) c.requires.alone

pub join_all-requires-clause-none : goal.join_all-requires-clause-none
join_all-requires-clause-none c = none_left (is_id_between c.args.first c.args.past) (table_in c.args.self.now) c.leave_out.new.self c.in_ok-leave_out.ensures.left

pub returns-clause-table : goal.returns-clause-table
returns-clause-table c =
    let differs = is_id_between c.args.first c.args.past in
    let table = table_in c.args.self.now in
    let model = c.args.model.now in
    let plan = c.args.plan.now in
    let way =
    subst (λ (ds : List Directive). AreUnderWay (with_directives model (differing_directives differs ds) (common_tasks differs table)) c.join_all.new.self) c.as_slice.ensures
    (c.in_ok-join_all.ensures.joined (common_tasks differs table) c.in_ok-leave_out.ensures.left) in
    let quiet = exchanged_quiet c.reached_states_are_of_the_model.ensures c.reached_states_are_quiet.ensures differs model plan table c.cells.ensures.valid c.requires.plan c.requires.fits in
    ap table_of (ap (λ s. s.slots) c.relist.ensures.slots) ∙ way_table (exchanged differs model plan table) c.join_all.new.self way quiet

pub returns-clause-in_step : goal.returns-clause-in_step
returns-clause-in_step c =
    let differs = is_id_between c.args.first c.args.past in
    let table = table_in c.args.self.now in
    let model = c.args.model.now in
    let plan = c.args.plan.now in
    let way =
    subst (λ (ds : List Directive). AreUnderWay (with_directives model (differing_directives differs ds) (common_tasks differs table)) c.join_all.new.self) c.as_slice.ensures
    (c.in_ok-join_all.ensures.joined (common_tasks differs table) c.in_ok-leave_out.ensures.left) in
    let quiet = exchanged_quiet c.reached_states_are_of_the_model.ensures c.reached_states_are_quiet.ensures differs model plan table c.cells.ensures.valid c.requires.plan c.requires.fits in
    way_in_step (exchanged differs model plan table) c.join_all.new.self way quiet _ (ap (λ s. s.slots) c.relist.ensures.slots) refl (c.relist.ensures.listed way.listed)

pub returns-clause-kept : goal.returns-clause-kept
returns-clause-kept c = λ now horizon cells kept.
    c.relist.ensures.waits now horizon cells (c.in_ok-join_all.ensures.waits now horizon cells (c.in_ok-leave_out.ensures.waits now horizon cells kept))
