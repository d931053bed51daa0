-- The ready jobs one after another, each with the number of children that its task has made.
use Rattle.std.proofs.Common.{◌≡◌, ◌∙◌, ℕ, ◌+◌, ◌<◌, ◌≤◌, IsTrue, List, ◌∷◌, length, map, get_or, drop, slice_get, Some, sym, ap, subst, arith}
use Rattle.std.proofs.lemmas.List.{length-map}
use Rattle.aerie_base.specs.Ranges.{number_limit, step_limit}
use Rattle.aerie_base.specs.declared.models.model.Parts.{Parts}
use Rattle.aerie_base.specs.models.ValidModel.{valid_model}
use Rattle.run_data.specs.declared.jobs.Job.{Job}
use Rattle.run_data.specs.laws.SmallSteps.{IsJobWithin}
use Rattle.engine_core.specs.EngineStates.{jobs_in}
use Rattle.resimulate.proofs.EngineBatches.{jobs_from, each_there, jobs_within, made_few, ready_first, ready_more, ready_none, ready_last}
use Rattle.resimulate.proofs.walk.fitting_frames.Goals as goal

-- an index of the listed jobs is one of the jobs
is_below : (jobs : List (ℕ × Job)) (listed : List Job) (at : ℕ) → listed ≡ map (λ job. job.1) jobs → at < length listed → at < length jobs
is_below jobs listed at is less = let long = ap (λ (l : List Job). length l) is ∙ length-map jobs (λ job. job.1) in omega (arith, less, long)

-- where the listed jobs end, the jobs do
is_past : (jobs : List (ℕ × Job)) (listed : List Job) (at : ℕ) → listed ≡ map (λ job. job.1) jobs → length listed ≤ at → length jobs ≤ at
is_past jobs listed at is most = let long = ap (λ (l : List Job). length l) is ∙ length-map jobs (λ job. job.1) in omega (arith, most, long)

here : (jobs : List (ℕ × Job)) (listed : List Job) (at number : ℕ) (job : Job) → listed ≡ map (λ job. job.1) jobs → at < length listed → slice_get (map (λ one. one.0) jobs) at ≡ Some number →
    job ≡ get_or listed at job → drop at jobs ≡ (number, job) ∷ drop (at + 1) jobs
here jobs listed at number job is less made there = jobs_from jobs at number job (is_below jobs listed at is less) made (there ∙ ap (λ (l : List Job). get_or l at job) is)

pub loop-at-init : goal.loop-at-init
loop-at-init c = ready_first c.args.engine.now c.args.old.now c.clear.new.self.items c.clear.ensures.items

pub made-number-requires : goal.made-number-requires
made-number-requires c = is_below (jobs_in c.args.engine.now.point) c.ready-jobs.result.now c.loop-at.at c.ready-jobs.ensures.jobs c.loop-at-test.true

pub fit_job-requires : goal.fit_job-requires
fit_job-requires c =
    let valid = subst (λ (m : Parts). IsTrue (valid_model m)) (sym c.requires.model) c.cells.ensures.valid in
    let jobs = jobs_in c.args.engine.now.point in
    let is = here jobs c.ready-jobs.result.now c.loop-at.at c.made-number.result c.index-jobs-at.result c.ready-jobs.ensures.jobs c.loop-at-test.true c.made-number.ensures c.index-jobs-at.is in
    record {
      bound = subst (λ n. n ≤ step_limit) c.requires.bound c.ready-jobs.ensures.stands.bound;
      old = c.requires.old;
      number =
          each_there (λ (job : ℕ × Job). job.0 ≤ step_limit) jobs c.loop-at.at (c.made-number.result, c.index-jobs-at.result) (drop (c.loop-at.at + 1) jobs)
          (made_few c.reached_states_are_of_the_model.ensures c.args.engine.now c.ready-jobs.ensures.stands valid c.tasks_stand_by_number.ensures.distinct c.tasks_stand_by_number.ensures.itself
          c.tasks_stand_by_number.ensures.found) is;
      within =
          subst (λ (m : Parts). IsJobWithin m number_limit c.index-jobs-at.result) c.requires.model
          (each_there (λ (job : ℕ × Job). IsJobWithin c.args.engine.now.model number_limit job.1) jobs c.loop-at.at (c.made-number.result, c.index-jobs-at.result) (drop (c.loop-at.at + 1) jobs)
          (jobs_within c.reached_states_are_of_the_model.ensures c.args.engine.now c.ready-jobs.ensures.stands valid) is);
    }

pub returns-then-not-yes : goal.returns-then-not-yes
returns-then-not-yes c =
    ready_none c.args.engine.now c.args.old.now c.args.model.now c.args.bound c.requires.model c.requires.bound c.loop-at.at c.made-number.result c.index-jobs-at.result c.loop-at.found.items c.fit_job.new.found.items
    (here (jobs_in c.args.engine.now.point) c.ready-jobs.result.now c.loop-at.at c.made-number.result c.index-jobs-at.result c.ready-jobs.ensures.jobs c.loop-at-test.true c.made-number.ensures c.index-jobs-at.is)
    c.loop-at.invariant c.in_ok-yes.yes c.if-not-yes.true c.in_ok-yes.ensures

pub loop-at-preserved : goal.loop-at-preserved
loop-at-preserved c =
    ready_more c.args.engine.now c.args.old.now c.args.model.now c.args.bound c.requires.model c.requires.bound c.loop-at.at c.made-number.result c.index-jobs-at.result c.loop-at.found.items c.fit_job.new.found.items
    (here (jobs_in c.args.engine.now.point) c.ready-jobs.result.now c.loop-at.at c.made-number.result c.index-jobs-at.result c.ready-jobs.ensures.jobs c.loop-at-test.true c.made-number.ensures c.index-jobs-at.is)
    c.loop-at.invariant c.in_ok-yes.yes c.if-not-yes.false c.in_ok-yes.ensures

pub returns : goal.returns
returns c =
    ready_last c.args.engine.now c.args.old.now c.loop-at.at c.loop-at.found.items
    (is_past (jobs_in c.args.engine.now.point) c.ready-jobs.result.now c.loop-at.at c.ready-jobs.ensures.jobs (omega (arith, c.loop-at-test.false))) c.loop-at.invariant
