use Rattle.std.proofs.Common.{◌∙◌, sym}
use Rattle.engine_core.proofs.Transitions.{led_first, led_on, led_less, led_there, stands_before}
use Rattle.engine_core.proofs.simulation.Simulation.to_next_job.Goals as goal

pub loop-self-init : goal.loop-self-init
loop-self-init c = led_first c.args.model.now c.args.self.now c.requires

pub is_idle-requires : goal.is_idle-requires
is_idle-requires c = c.loop-self.invariant.course.tasks

pub on-requires-clause-course : goal.on-requires-clause-course
on-requires-clause-course c = c.loop-self.invariant.course

pub on-requires-clause-idle : goal.on-requires-clause-idle
on-requires-clause-idle c = sym c.is_idle.ensures ∙ c.loop-self-test.true

pub loop-self-preserved : goal.loop-self-preserved
loop-self-preserved c =
    led_on c.what_has_ended_may_be_left_out.ensures.step c.args.model.now c.cells.ensures.valid c.args.self.now c.loop-self.self c.loop-self.invariant
    (sym c.is_idle.ensures ∙ c.loop-self-test.true) c.on.new.self c.in_ok-on.ensures

pub loop-self-smaller : goal.loop-self-smaller
loop-self-smaller c =
    led_less c.what_has_ended_may_be_left_out.ensures.step c.args.model.now c.cells.ensures.valid c.args.self.now c.loop-self.self c.loop-self.invariant
    (sym c.is_idle.ensures ∙ c.loop-self-test.true) c.on.new.self c.in_ok-on.ensures c.reached_states_are_of_the_model.ensures c.weight_falls.ensures.falls

pub ready-requires : goal.ready-requires
ready-requires c = c.loop-self.invariant.course.tasks

pub returns-clause-before : goal.returns-clause-before
returns-clause-before c =
    stands_before c.args.model.now c.args.self.now c.loop-self.self c.ready.new.self c.ready.new.jobs c.loop-self.invariant (sym c.is_idle.ensures ∙ c.loop-self-test.false)
    c.in_ok-ready.ensures.stands c.in_ok-ready.ensures.jobs

pub returns-clause-request : goal.returns-clause-request
returns-clause-request c = c.in_ok-ready.ensures.stands.request ∙ c.loop-self.invariant.request

pub returns-clause-leads : goal.returns-clause-leads
returns-clause-leads c =
    led_there c.args.model.now c.args.self.now c.loop-self.self c.ready.new.self c.loop-self.invariant (sym c.is_idle.ensures ∙ c.loop-self-test.false) c.in_ok-ready.ensures.stands
