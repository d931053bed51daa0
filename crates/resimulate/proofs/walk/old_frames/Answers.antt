use Rattle.std.proofs.Common.{IsTrue, sym, subst}
use Rattle.aerie_base.specs.declared.models.model.Parts.{Parts}
use Rattle.aerie_base.specs.models.ValidModel.{valid_model}
use Rattle.resimulate.proofs.EngineBatches.{found_if, none_if, differs_beside}
use Rattle.resimulate.proofs.walk.old_frames.Goals as goal

pub returns-clause-found : goal.returns-clause-found
returns-clause-found c =
    let valid = subst (λ (m : Parts). IsTrue (valid_model m)) (sym c.requires.model) c.cells.ensures.valid in
    found_if c.reached_states_are_of_the_model.ensures c.args.engine.now c.ready.ensures.stands valid c.steps_are_small.ensures.jobs c.fitting_frames_are_the_batch.ensures.made
    c.in-Some.old.now c.fitting_frames.new.found.items c.in_ok-all.all c.in_ok-all.ensures

pub returns-clause-none : goal.returns-clause-none
returns-clause-none c =
    let valid = subst (λ (m : Parts). IsTrue (valid_model m)) (sym c.requires.model) c.cells.ensures.valid in
    λ none.
    differs_beside c.args.engine.now (λ old. old.now) c.args.beside c.in-Some.old c.in-Some.is
    (none_if c.reached_states_are_of_the_model.ensures c.args.engine.now c.ready.ensures.stands valid c.steps_are_small.ensures.jobs c.fitting_frames_are_the_batch.ensures.committed
    c.frames_of_batches_are_of_tasks.ensures c.in-Some.old.now c.fitting_frames.new.found.items c.in_ok-all.all c.in_ok-all.ensures none)
