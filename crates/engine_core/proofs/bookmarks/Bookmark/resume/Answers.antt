use Rattle.parting.specs.IdRanges.{is_id_between}
use Rattle.engine_core.proofs.ResumedBookmarks.{has_no_anchors, has_not_begun, fits_there, stands_exchanged, before_batch, jobs_carried, none_carried, instants_carried, time_carried, spent_carried}
use Rattle.engine_core.proofs.bookmarks.Bookmark.resume.Goals as goal

pub exchange-requires-clause-unbegun : goal.exchange-requires-clause-unbegun
exchange-requires-clause-unbegun c =
    has_not_begun c.self.inside.model c.self.inside.simulation c.self.invariant c.args.self.now c.self.view_is (is_id_between c.args.first c.args.past) c.args.until c.args.model.now c.args.plan.now c.args.bound
    (record { same_model = c.requires.model; ahead = c.requires.ahead; late = c.requires.late; plain = c.requires.plain })
    c.in_ok-simulation.simulation c.in_ok-simulation.ensures c.edited_plans_resume.ensures.unbegun c.requires.old_plain

pub exchange-requires-clause-alone : goal.exchange-requires-clause-alone
exchange-requires-clause-alone c =
    rw c.get.ensures
    (has_no_anchors c.self.inside.model c.self.inside.simulation c.self.invariant c.args.self.now c.self.view_is (is_id_between c.args.first c.args.past) c.args.until c.args.model.now c.args.plan.now c.args.bound
    (record { same_model = c.requires.model; ahead = c.requires.ahead; late = c.requires.late; plain = c.requires.plain }))

pub exchange-requires-clause-fits : goal.exchange-requires-clause-fits
exchange-requires-clause-fits c =
    rw c.get.ensures
    (fits_there c.self.inside.model c.self.inside.simulation c.self.invariant c.args.self.now c.self.view_is (is_id_between c.args.first c.args.past) c.args.until c.args.model.now c.args.plan.now c.args.bound
    (record { same_model = c.requires.model; ahead = c.requires.ahead; late = c.requires.late; plain = c.requires.plain })
    c.in_ok-simulation.simulation c.in_ok-simulation.ensures c.edited_plans_resume.ensures.resumes c.live_tasks_are_exchanged.ensures.live)

pub ready-requires : goal.ready-requires
ready-requires c =
    (stands_exchanged c.self.inside.model c.self.inside.simulation c.self.invariant c.args.self.now c.self.view_is (is_id_between c.args.first c.args.past) c.args.until c.args.model.now c.args.plan.now c.args.bound
    (record { same_model = c.requires.model; ahead = c.requires.ahead; late = c.requires.late; plain = c.requires.plain })
    c.in_ok-simulation.simulation c.in_ok-simulation.ensures
    c.exchange.new.self (rw c.get.ensures at c.in_ok-exchange.ensures.table) c.in_ok-exchange.ensures.in_step c.in_ok-exchange.ensures.kept).tasks

pub engine_at-engine-requires : goal.engine_at-engine-requires
engine_at-engine-requires c =
    before_batch c.self.inside.model c.self.inside.simulation c.self.invariant c.args.self.now c.self.view_is (is_id_between c.args.first c.args.past) c.args.until c.args.model.now c.args.plan.now c.args.bound
    (record { same_model = c.requires.model; ahead = c.requires.ahead; late = c.requires.late; plain = c.requires.plain })
    c.in_ok-simulation.simulation c.in_ok-simulation.ensures
    c.exchange.new.self (rw c.get.ensures at c.in_ok-exchange.ensures.table) c.in_ok-exchange.ensures.in_step c.in_ok-exchange.ensures.kept c.ready.new.self c.in_ok-ready.ensures.stands
    c.edited_plans_resume.ensures.resumes c.live_tasks_are_exchanged.ensures.pruned c.edited_plans_resume.ensures.jobs c.reached_states_are_of_the_model.ensures
    c.requires.bound c.ready.new.jobs c.in_ok-ready.ensures.jobs

pub returns-clause-jobs : goal.returns-clause-jobs
returns-clause-jobs c =
    jobs_carried c.self.inside.model c.self.inside.simulation c.self.invariant c.args.self.now c.self.view_is (is_id_between c.args.first c.args.past) c.args.until c.args.model.now c.args.plan.now c.args.bound
    (record { same_model = c.requires.model; ahead = c.requires.ahead; late = c.requires.late; plain = c.requires.plain })
    c.in_ok-simulation.simulation c.in_ok-simulation.ensures
    c.exchange.new.self (rw c.get.ensures at c.in_ok-exchange.ensures.table) c.in_ok-exchange.ensures.in_step c.in_ok-exchange.ensures.kept c.ready.new.self c.in_ok-ready.ensures.stands
    c.engine_at-engine.result c.engine_at-engine.ensures.is
    c.edited_plans_resume.ensures.resumes c.live_tasks_are_exchanged.ensures.pruned c.edited_plans_resume.ensures.jobs c.reached_states_are_of_the_model.ensures

pub returns-clause-begins : goal.returns-clause-begins
returns-clause-begins c =
    none_carried c.self.inside.model c.self.inside.simulation c.self.invariant c.args.self.now c.self.view_is (is_id_between c.args.first c.args.past) c.args.until c.args.model.now c.args.plan.now c.args.bound
    (record { same_model = c.requires.model; ahead = c.requires.ahead; late = c.requires.late; plain = c.requires.plain })
    c.in_ok-simulation.simulation c.in_ok-simulation.ensures
    c.exchange.new.self (rw c.get.ensures at c.in_ok-exchange.ensures.table) c.in_ok-exchange.ensures.in_step c.in_ok-exchange.ensures.kept c.ready.new.self c.in_ok-ready.ensures.stands
    c.engine_at-engine.result c.engine_at-engine.ensures.is

pub returns-clause-instants : goal.returns-clause-instants
returns-clause-instants c =
    instants_carried c.self.inside.model c.self.inside.simulation c.self.invariant c.args.self.now c.self.view_is (is_id_between c.args.first c.args.past) c.args.until c.args.model.now c.args.plan.now c.args.bound
    (record { same_model = c.requires.model; ahead = c.requires.ahead; late = c.requires.late; plain = c.requires.plain })
    c.in_ok-simulation.simulation c.in_ok-simulation.ensures
    c.exchange.new.self (rw c.get.ensures at c.in_ok-exchange.ensures.table) c.in_ok-exchange.ensures.in_step c.in_ok-exchange.ensures.kept c.ready.new.self c.in_ok-ready.ensures.stands
    c.engine_at-engine.result c.engine_at-engine.ensures.is

pub returns-clause-time : goal.returns-clause-time
returns-clause-time c =
    time_carried c.self.inside.model c.self.inside.simulation c.self.invariant c.args.self.now c.self.view_is (is_id_between c.args.first c.args.past) c.args.until c.args.model.now c.args.plan.now c.args.bound
    (record { same_model = c.requires.model; ahead = c.requires.ahead; late = c.requires.late; plain = c.requires.plain })
    c.in_ok-simulation.simulation c.in_ok-simulation.ensures
    c.exchange.new.self (rw c.get.ensures at c.in_ok-exchange.ensures.table) c.in_ok-exchange.ensures.in_step c.in_ok-exchange.ensures.kept c.ready.new.self c.in_ok-ready.ensures.stands
    c.engine_at-engine.result c.engine_at-engine.ensures.is

pub returns-clause-spent : goal.returns-clause-spent
returns-clause-spent c =
    spent_carried c.self.inside.model c.self.inside.simulation c.self.invariant c.args.self.now c.self.view_is (is_id_between c.args.first c.args.past) c.args.until c.args.model.now c.args.plan.now c.args.bound
    (record { same_model = c.requires.model; ahead = c.requires.ahead; late = c.requires.late; plain = c.requires.plain })
    c.in_ok-simulation.simulation c.in_ok-simulation.ensures
    c.exchange.new.self (rw c.get.ensures at c.in_ok-exchange.ensures.table) c.in_ok-exchange.ensures.in_step c.in_ok-exchange.ensures.kept c.ready.new.self c.in_ok-ready.ensures.stands
    c.engine_at-engine.result c.engine_at-engine.ensures.is
