-- The first generation, and then at most one for each number that a path may have.
use Rattle.std.proofs.Common.{◌≡◌, ◌+◌, ◌-◌, ◌∙◌, List, refl, ap, sym, arith, length}
use Rattle.aerie_base.specs.Paths.{child_limit}
use Rattle.run_data.specs.TaskFrames.{Frame}
use Rattle.run_data.specs.Records.{unmatched}
use Rattle.engine_core.proofs.BatchLoop.{begins, can_run, stopped, iterated, one_less, pays_on, looks_on, ended, out_of_iterations}
use Rattle.engine_core.specs.BatchRuns.{ran_on}
use Rattle.engine_core.proofs.batches.generations.all_frames.Goals as goal

pub run_generation-requires-clause-jobs : goal.run_generation-requires-clause-jobs
run_generation-requires-clause-jobs g c =
    can_run c.args.model.now c.args.bound c.args.spent c.args.jobs.now child_limit c.new-made.result.items (c.args.bound - c.args.spent) c.args.jobs.now
    (begins c.args.model.now c.args.bound c.args.spent c.args.jobs.now c.new-made.result.items c.new-made.ensures.items c.requires.spent c.requires.jobs)
    c.steps_are_small.ensures.jobs c.steps_are_small.ensures.small c.budget_decides_the_end_alone.ensures.within c.cells.ensures.valid c.requires.bound (omega arith)

pub returns-in_default-clause-frames : goal.returns-in_default-clause-frames
returns-in_default-clause-frames g c =
    stopped c.args.model.now c.args.bound c.args.spent c.args.jobs.now child_limit c.new-made.result.items (c.args.bound - c.args.spent) c.args.jobs.now
    (begins c.args.model.now c.args.bound c.args.spent c.args.jobs.now c.new-made.result.items c.new-made.ensures.items c.requires.spent c.requires.jobs)
    c.waves_go_by_what_is_left.ensures.limit c.requires.jobs.apart c.run_generation.new.made.items c.in_ok-first.first c.in_default.is c.in_ok-first.ensures.iteration

pub loop-iteration-init : goal.loop-iteration-init
loop-iteration-init g c =
    let free : unmatched c.new-made.result.items (g.S.Stepper.records c.args.stepper.now) ≡ 0 = ap (λ (l : List Frame). unmatched l (g.S.Stepper.records c.args.stepper.now)) c.new-made.ensures.items in
    let none : length c.new-made.result.items ≡ 0 = ap (λ (l : List Frame). length l) c.new-made.ensures.items in
    record {
      stands =
          iterated c.args.model.now c.args.bound c.args.spent c.args.jobs.now child_limit c.new-made.result.items (c.args.bound - c.args.spent) c.args.jobs.now
          (begins c.args.model.now c.args.bound c.args.spent c.args.jobs.now c.new-made.result.items c.new-made.ensures.items c.requires.spent c.requires.jobs)
          c.waves_go_by_what_is_left.ensures.frames c.same_by_generations.ensures.frames c.steps_are_small.ensures.generation c.cells.ensures.valid c.requires.bound (omega arith)
          c.run_generation.new.made.items c.in_ok-first.first c.in-Some.dues c.in-Some.left c.in-Some.is c.in_ok-first.ensures.iteration;
      pays =
          pays_on c.in_ok-first.first (c.in-Some.dues, c.in-Some.left) (g.S.Stepper.records c.args.stepper.now) (g.S.Stepper.records c.args.stepper.now) c.new-made.result.items c.run_generation.new.made.items
          c.args.steps.now c.args.steps.now c.run_generation.new.steps c.in-Some.is refl (omega (arith, free)) c.in_ok-first.ensures.pays;
      few_looks =
          looks_on c.in_ok-first.first (c.in-Some.dues, c.in-Some.left) c.new-made.result.items c.run_generation.new.made.items
          c.args.looks.now c.args.looks.now c.run_generation.new.looks c.in-Some.is (omega (arith, none)) c.in_ok-first.ensures.few_looks;
      ran = c.run_generation.ensures.ran;
    }

pub returns-then-len-eq0-clause-frames : goal.returns-then-len-eq0-clause-frames
returns-then-len-eq0-clause-frames g c =
    ended c.args.model.now c.args.bound c.args.spent c.args.jobs.now (child_limit - c.loop-iteration.iteration) c.loop-iteration.made.items c.loop-iteration.left c.loop-iteration.dues
    (sym c.len.ensures ∙ c.if-len-eq0.true) c.loop-iteration.invariant.stands

pub run_generation-requires-in-loop-iteration-clause-model : goal.run_generation-requires-in-loop-iteration-clause-model
run_generation-requires-in-loop-iteration-clause-model g c = (c.loop-iteration.invariant.ran.models c.args.model.now).0 c.requires.model

pub run_generation-requires-in-loop-iteration-clause-fuel : goal.run_generation-requires-in-loop-iteration-clause-fuel
run_generation-requires-in-loop-iteration-clause-fuel g c = let paid = c.loop-iteration.invariant.stands.paid in omega (arith, paid)

pub run_generation-requires-in-loop-iteration-clause-jobs : goal.run_generation-requires-in-loop-iteration-clause-jobs
run_generation-requires-in-loop-iteration-clause-jobs g c =
    can_run c.args.model.now c.args.bound c.args.spent c.args.jobs.now (child_limit - (c.loop-iteration.iteration + 1)) c.loop-iteration.made.items c.loop-iteration.left c.loop-iteration.dues
    (one_less c.args.model.now c.args.bound c.args.spent c.args.jobs.now c.loop-iteration.iteration c.loop-iteration.made.items c.loop-iteration.left c.loop-iteration.dues c.loop-iteration-test.true c.loop-iteration.invariant.stands)
    c.steps_are_small.ensures.jobs c.steps_are_small.ensures.small c.budget_decides_the_end_alone.ensures.within c.cells.ensures.valid c.requires.bound (omega arith)

pub returns-in_err-next-clause-ran : goal.returns-in_err-next-clause-ran
returns-in_err-next-clause-ran g c = ran_on c.loop-iteration.invariant.ran c.run_generation-in-loop-iteration.ensures.ran

pub returns-in_default-next-clause-frames : goal.returns-in_default-next-clause-frames
returns-in_default-next-clause-frames g c =
    stopped c.args.model.now c.args.bound c.args.spent c.args.jobs.now (child_limit - (c.loop-iteration.iteration + 1)) c.loop-iteration.made.items c.loop-iteration.left c.loop-iteration.dues
    (one_less c.args.model.now c.args.bound c.args.spent c.args.jobs.now c.loop-iteration.iteration c.loop-iteration.made.items c.loop-iteration.left c.loop-iteration.dues c.loop-iteration-test.true c.loop-iteration.invariant.stands)
    c.waves_go_by_what_is_left.ensures.limit c.requires.jobs.apart c.run_generation-in-loop-iteration.new.made.items c.in_ok-next.next c.in_default-next.is c.in_ok-next.ensures.iteration

pub returns-in_default-next-clause-ran : goal.returns-in_default-next-clause-ran
returns-in_default-next-clause-ran g c = ran_on c.loop-iteration.invariant.ran c.run_generation-in-loop-iteration.ensures.ran

pub loop-iteration-preserved : goal.loop-iteration-preserved
loop-iteration-preserved g c = record {
  stands =
      iterated c.args.model.now c.args.bound c.args.spent c.args.jobs.now (child_limit - (c.loop-iteration.iteration + 1)) c.loop-iteration.made.items c.loop-iteration.left c.loop-iteration.dues
      (one_less c.args.model.now c.args.bound c.args.spent c.args.jobs.now c.loop-iteration.iteration c.loop-iteration.made.items c.loop-iteration.left c.loop-iteration.dues c.loop-iteration-test.true c.loop-iteration.invariant.stands)
      c.waves_go_by_what_is_left.ensures.frames c.same_by_generations.ensures.frames c.steps_are_small.ensures.generation c.cells.ensures.valid c.requires.bound (omega arith)
      c.run_generation-in-loop-iteration.new.made.items c.in_ok-next.next c.in-Some-next.later c.in-Some-next.rest c.in-Some-next.is c.in_ok-next.ensures.iteration;
  pays =
      pays_on c.in_ok-next.next (c.in-Some-next.later, c.in-Some-next.rest) (g.S.Stepper.records c.loop-iteration.stepper) (g.S.Stepper.records c.args.stepper.now) c.loop-iteration.made.items
      c.run_generation-in-loop-iteration.new.made.items c.args.steps.now c.loop-iteration.steps c.run_generation-in-loop-iteration.new.steps c.in-Some-next.is c.loop-iteration.invariant.ran.records
      c.loop-iteration.invariant.pays c.in_ok-next.ensures.pays;
  few_looks =
      looks_on c.in_ok-next.next (c.in-Some-next.later, c.in-Some-next.rest) c.loop-iteration.made.items c.run_generation-in-loop-iteration.new.made.items
      c.args.looks.now c.loop-iteration.looks c.run_generation-in-loop-iteration.new.looks c.in-Some-next.is c.loop-iteration.invariant.few_looks c.in_ok-next.ensures.few_looks;
  ran = ran_on c.loop-iteration.invariant.ran c.run_generation-in-loop-iteration.ensures.ran;
}

pub returns-clause-frames : goal.returns-clause-frames
returns-clause-frames g c =
    out_of_iterations c.args.model.now c.args.bound c.args.spent c.args.jobs.now c.loop-iteration.made.items c.loop-iteration.left c.loop-iteration.dues c.loop-iteration.iteration c.loop-iteration-test.false c.loop-iteration.invariant.stands
