-- What is found and what is run, woven together, is the wave of all jobs.
use Rattle.std.proofs.Common.{◌≡◌, ◌∙◌, [], List, Some, length, ap, subst, sym}
use Rattle.std.specs.List.{All}
use Rattle.aerie_base.specs.declared.models.model.Parts.{Parts}
use Rattle.run_data.specs.declared.jobs.Job.{Job}
use Rattle.run_data.specs.declared.steppers.Wave.{Wave}
use Rattle.run_data.specs.declared.steppers.Wave.TheVariants.{Frames, Spent}
use Rattle.run_data.specs.Jobs.{IsJobOf}
use Rattle.run_data.specs.Waves.{unless_spent, wave_of, IsFrugal}
use Rattle.batch_run.specs.Answers.{AreAnswers, missed, woven}
use Rattle.batch_run.specs.Spreads.{SpreadStepper, stored_in}
use Rattle.batch_run.proofs.Opening.{if_both, if_ok}
use Rattle.batch_run.proofs.Weaving.{IsNothing, alone_frugal, as_many, missed_are, spent_is, wave_frugal, wave_is}
use Rattle.batch_run.proofs.spread.Spread.look_up_and_run.Goals as goal

pub returns-then-is_none_found-clause-frugal : goal.returns-then-is_none_found-clause-frugal
returns-then-is_none_found-clause-frugal g c =
    let answers = c.in_ok-answers.answers in
    let jobs = c.args.jobs.now in
    let seen = subst (λ (spread : SpreadStepper). AreAnswers spread.book.model (stored_in spread) jobs answers) c.self.view_is c.in_ok-answers.ensures.answers in
    let are = subst (λ (model : Parts). AreAnswers model (stored_in c.args.self.now) jobs answers) c.requires.of.book seen in
    let none = subst (All IsNothing) c.as_slice.ensures (c.is_none_found.ensures c.if-is_none_found.true) in
    if_both (λ (wave : Wave). wave ≡ wave_of c.args.model.now c.args.fuel jobs) (λ (wave : Wave). IsFrugal wave [] c.args.steps.now c.run.new.steps)
    (λ (wave : Wave). IsFrugal wave (stored_in c.args.self.now) c.args.steps.now c.run.new.steps)
    (λ wave is within.
    alone_frugal c.steps_are_valid_records.ensures.fit c.steps_are_valid_records.ensures.pass c.args.model.now (stored_in c.args.self.now) c.args.fuel c.records_are_found_by_equality.ensures.states
    c.records_are_found_by_equality.ensures.reads c.depends_on_reads.ensures.view jobs answers wave c.args.steps.now c.run.new.steps are none is within) c.run.result c.run.ensures.wave c.run.ensures.frugal

pub missed_jobs-requires : goal.missed_jobs-requires
missed_jobs-requires g c =
    let answers = c.in_ok-answers.answers in
    let jobs = c.args.jobs.now in
    ap length c.as_slice-2.ensures ∙ as_many _ _ jobs answers c.in_ok-answers.ensures.answers

pub run-requires-2-clause-jobs : goal.run-requires-2-clause-jobs
run-requires-2-clause-jobs g c κs within =
    subst (All (IsJobOf c.args.model.now)) (sym (c.as_slice-3.ensures ∙ c.in_ok-rest.ensures)) (missed_are (IsJobOf c.args.model.now) c.args.jobs.now c.as_slice-2.result.now c.requires.jobs)

pub returns-in-Frames-clause-wave : goal.returns-in-Frames-clause-wave
returns-in-Frames-clause-wave g c =
    let answers = c.in_ok-answers.answers in
    let jobs = c.args.jobs.now in
    let seen = subst (λ (spread : SpreadStepper). AreAnswers spread.book.model (stored_in spread) jobs answers) c.self.view_is c.in_ok-answers.ensures.answers in
    let are = subst (λ (model : Parts). AreAnswers model (stored_in c.args.self.now) jobs answers) c.requires.of.book seen in
    let rest : c.as_slice-3.result.now ≡ missed jobs answers = c.as_slice-3.ensures ∙ c.in_ok-rest.ensures ∙ ap (missed jobs) c.as_slice-2.ensures in
    let run : Frames c.in-Frames.fresh ≡ wave_of c.args.model.now c.args.fuel (missed jobs answers) =
    sym c.in-Frames.is ∙ c.in_ok-fresh.ensures.wave ∙ ap (λ (these : List Job). wave_of c.args.model.now c.args.fuel these) rest in
    if_ok (λ (wave : Wave). wave ≡ unless_spent c.args.fuel (Some (woven answers c.in-Frames.fresh))) (λ (wave : Wave). wave ≡ wave_of c.args.model.now c.args.fuel jobs)
    (λ wave is.
    is
    ∙ wave_is c.steps_are_valid_records.ensures.fit c.steps_are_valid_records.ensures.pass c.args.model.now (stored_in c.args.self.now) c.args.fuel c.records_are_found_by_equality.ensures.states
    c.records_are_found_by_equality.ensures.reads c.depends_on_reads.ensures.view jobs answers c.in-Frames.fresh c.requires.jobs are run) c.weave.result c.weave.ensures

pub returns-in-Frames-clause-frugal : goal.returns-in-Frames-clause-frugal
returns-in-Frames-clause-frugal g c =
    let answers = c.in_ok-answers.answers in
    let jobs = c.args.jobs.now in
    let seen = subst (λ (spread : SpreadStepper). AreAnswers spread.book.model (stored_in spread) jobs answers) c.self.view_is c.in_ok-answers.ensures.answers in
    let are = subst (λ (model : Parts). AreAnswers model (stored_in c.args.self.now) jobs answers) c.requires.of.book seen in
    let rest : c.as_slice-3.result.now ≡ missed jobs answers = c.as_slice-3.ensures ∙ c.in_ok-rest.ensures ∙ ap (missed jobs) c.as_slice-2.ensures in
    let run : Frames c.in-Frames.fresh ≡ wave_of c.args.model.now c.args.fuel (missed jobs answers) =
    sym c.in-Frames.is ∙ c.in_ok-fresh.ensures.wave ∙ ap (λ (these : List Job). wave_of c.args.model.now c.args.fuel these) rest in
    let within = subst (λ (wave : Wave). IsFrugal wave [] c.args.steps.now c.run-2.new.steps) c.in-Frames.is c.in_ok-fresh.ensures.frugal in
    if_ok (λ (wave : Wave). wave ≡ unless_spent c.args.fuel (Some (woven answers c.in-Frames.fresh))) (λ (wave : Wave). IsFrugal wave (stored_in c.args.self.now) c.args.steps.now c.run-2.new.steps)
    (λ wave is.
    wave_frugal c.steps_are_valid_records.ensures.fit c.steps_are_valid_records.ensures.pass c.args.model.now (stored_in c.args.self.now) c.args.fuel c.records_are_found_by_equality.ensures.states
    c.records_are_found_by_equality.ensures.reads c.depends_on_reads.ensures.view jobs answers c.in-Frames.fresh wave c.args.steps.now c.run-2.new.steps are run is within) c.weave.result c.weave.ensures

pub returns-in-Spent-clause-wave : goal.returns-in-Spent-clause-wave
returns-in-Spent-clause-wave g c =
    let answers = c.in_ok-answers.answers in
    let jobs = c.args.jobs.now in
    let seen = subst (λ (spread : SpreadStepper). AreAnswers spread.book.model (stored_in spread) jobs answers) c.self.view_is c.in_ok-answers.ensures.answers in
    let are = subst (λ (model : Parts). AreAnswers model (stored_in c.args.self.now) jobs answers) c.requires.of.book seen in
    let rest : c.as_slice-3.result.now ≡ missed jobs answers = c.as_slice-3.ensures ∙ c.in_ok-rest.ensures ∙ ap (missed jobs) c.as_slice-2.ensures in
    let run : wave_of c.args.model.now c.args.fuel (missed jobs answers) ≡ Spent =
    ap (λ (these : List Job). wave_of c.args.model.now c.args.fuel these) (sym rest) ∙ sym c.in_ok-fresh.ensures.wave ∙ c.in-Spent.is in
    spent_is c.steps_are_valid_records.ensures.fit c.steps_are_valid_records.ensures.pass c.args.model.now (stored_in c.args.self.now) c.args.fuel c.records_are_found_by_equality.ensures.states
    c.records_are_found_by_equality.ensures.reads c.depends_on_reads.ensures.view jobs answers c.requires.jobs are run
