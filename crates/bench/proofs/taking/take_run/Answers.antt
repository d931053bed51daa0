use Rattle.std.proofs.Common.{List, refl, ap, sym, subst, take, ◌∙◌}
use Rattle.std.specs.List.{All}
use Rattle.aerie_base.specs.declared.models.model.Parts.{Parts}
use Rattle.run_data.specs.declared.frames.Record.{Record}
use Rattle.run_data.specs.KeptRuns.{KeptRun}
use Rattle.run_data.specs.Records.{IsValid, record_of}
use Rattle.run_data.specs.RunFrames.{frames_in_run}
use Rattle.run_data.specs.TaskFrames.{Frame}
use Rattle.record_book.specs.StoredSteps.{book_limit}
use Rattle.resimulate.specs.SharedEnds.{SharesEnds}
use Rattle.bench.specs.Chapters.{GainsChapters, PublishesFrames}
use Rattle.bench.specs.HeldSteps.{HoldsAll, HoldsRun, HoldsRunWithin, instants_of_kept}
use Rattle.bench.specs.Noting.{unheld}
use Rattle.bench.proofs.Extending.{firsts_hold}
use Rattle.bench.proofs.KnownRuns.{is_known}
use Rattle.bench.proofs.Paying.{holds_within}
use Rattle.bench.proofs.PublishedChapters.{gains_nothing}
use Rattle.bench.proofs.taking.take_run.Goals as goal

pub note-requires-clause-model : goal.note-requires-clause-model
note-requires-clause-model g c = ap (λ (kept : KeptRun). kept.model) c.get.ensures ∙ c.requires.model

pub note-requires-clause-shares : goal.note-requires-clause-shares
note-requires-clause-shares g c =
    subst (λ (kept : KeptRun). SharesEnds (instants_of_kept c.args.old) kept.run.instants c.args.first c.args.last) (sym c.get.ensures) c.requires.shares

pub publish_frames-requires : goal.publish_frames-requires
publish_frames-requires g c =
    subst (λ (model : Parts). All (λ frame. IsValid model (record_of frame)) c.as_slice.result.now)
    (sym (c.model-model.ensures ∙ ap (λ (kept : KeptRun). kept.model) c.get-2.ensures ∙ c.requires.model))
    (subst (All (λ frame. IsValid c.args.stock.now.model (record_of frame))) (sym c.as_slice.ensures) c.in_ok-noted.ensures.valid)

pub settle-requires-clause-made : goal.settle-requires-clause-made
settle-requires-clause-made g c =
    is_known c.note.new.self c.args.made.now c.get.result.now c.get.ensures (c.requires.model ∙ sym c.in_ok-noted.ensures.model) c.in_ok-noted.ensures.held

pub returns-in_err-noted-clause-held : goal.returns-in_err-noted-clause-held
returns-in_err-noted-clause-held g c = firsts_hold book_limit c.args.stock.now.records c.note.new.self.records c.note.ensures.extends

pub returns-in_err-noted-clause-gained : goal.returns-in_err-noted-clause-gained
returns-in_err-noted-clause-gained g c = gains_nothing c.args.store.now c.args.stock.now.model c.args.publisher.now c.args.publisher.now refl

pub returns-in_err-publish_frames-clause-held : goal.returns-in_err-publish_frames-clause-held
returns-in_err-publish_frames-clause-held g c = firsts_hold book_limit c.args.stock.now.records c.note.new.self.records c.note.ensures.extends

pub returns-in_err-publish_frames-clause-gained : goal.returns-in_err-publish_frames-clause-gained
returns-in_err-publish_frames-clause-gained g c =
    subst (λ (model : Parts). GainsChapters c.args.store.now model c.args.publisher.now c.publish_frames.new.self)
    (c.model-model.ensures ∙ ap (λ (kept : KeptRun). kept.model) c.get-2.ensures ∙ c.requires.model) c.publish_frames.ensures.gained

pub returns-clause-model : goal.returns-clause-model
returns-clause-model g c = c.settle.ensures.model ∙ c.in_ok-noted.ensures.model

pub returns-clause-held : goal.returns-clause-held
returns-clause-held g c =
    subst (λ (records : List Record). HoldsAll (take book_limit c.args.stock.now.records) records) (sym c.settle.ensures.own)
    (firsts_hold book_limit c.args.stock.now.records c.note.new.self.records c.in_ok-noted.ensures.extends)

pub returns-clause-holds_run : goal.returns-clause-holds_run
returns-clause-holds_run g c =
    subst (λ (records : List Record). HoldsRunWithin records c.args.made.now.run) (sym c.settle.ensures.own)
    (holds_within c.note.new.self.records c.args.made.now.run
    (subst (λ (kept : KeptRun). HoldsRun c.note.new.self.records kept.run) c.get.ensures c.in_ok-noted.ensures.held))

pub returns-clause-gained : goal.returns-clause-gained
returns-clause-gained g c =
    subst (λ (model : Parts). GainsChapters c.args.store.now model c.args.publisher.now c.publish_frames.new.self)
    (c.model-model.ensures ∙ ap (λ (kept : KeptRun). kept.model) c.get-2.ensures ∙ c.requires.model) c.in_ok-publish_frames.ensures.gained

pub returns-clause-published : goal.returns-clause-published
returns-clause-published g c =
    subst (λ (frames : List Frame). PublishesFrames frames c.args.publisher.now c.publish_frames.new.self)
    (c.as_slice.ensures ∙ c.in_ok-noted.ensures.noted ∙ ap (λ (kept : KeptRun). unheld c.args.stock.now.records (frames_in_run kept.run)) c.get.ensures)
    c.in_ok-publish_frames.ensures.published
