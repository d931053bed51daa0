use Rattle.std.proofs.Common.{◌≡◌, List, IfOk, IfSome, OnOk, ap, sym, subst, ◌∙◌}
use Rattle.std.specs.List.{All}
use Rattle.std.proofs.lemmas.Result.{IfOk-weaker}
use Rattle.run_data.specs.declared.runs.Instant.{Instant}
use Rattle.run_data.specs.declared.runs.Run.{Run}
use Rattle.run_data.specs.Records.{IsValid, record_of}
use Rattle.run_data.specs.RunFrames.{frames_in_run}
use Rattle.run_data.specs.TaskFrames.{Frame}
use Rattle.record_book.specs.StoredSteps.{StoredSteps}
use Rattle.bench.specs.HeldSteps.{AreValidFrames, Extends, HoldsInstants, HoldsRun, instants_of_kept}
use Rattle.resimulate.specs.SharedEnds.{SharesEnds}
use Rattle.bench.specs.Noting.{unheld}
use Rattle.bench.specs.Stocks.{IsKnownIn}
use Rattle.bench.proofs.KnownRuns.{frames_of, known_old, known_still, stock_on}
use Rattle.bench.proofs.stock.Stock.note.Goals as goal

pub note_run-requires-clause-run : goal.note_run-requires-clause-run
note_run-requires-clause-run c =
    subst (λ (run : Run). AreValidFrames c.self.inside.book.model run.instants) (sym c.run.ensures.value)
    (frames_of c.fresh_runs.ensures.frames c.args.kept.now.model c.self.inside.book.model c.args.kept.now.run.plan c.args.kept.now.run.bound c.args.kept.now.run
    (ap (λ (book : StoredSteps). book.model) c.self.view_is ∙ sym c.requires.model) c.run.ensures.fresh)

pub note_run-requires-clause-old : goal.note_run-requires-clause-old
note_run-requires-clause-old c =
    subst (HoldsInstants c.self.inside.book.records) (sym c.instants_of.ensures)
    (known_old c.self.inside.book c.args.old.now (subst (λ (book : StoredSteps). IfSome c.args.old.now (IsKnownIn book)) (sym c.self.view_is) c.requires.old))

pub note_run-requires-clause-shares : goal.note_run-requires-clause-shares
note_run-requires-clause-shares c =
    subst (λ (old : List Instant). SharesEnds old c.run.result.now.instants c.args.front c.args.back) (sym c.instants_of.ensures)
    (subst (λ (run : Run). SharesEnds (instants_of_kept c.args.old.now) run.instants c.args.front c.args.back) (sym c.run.ensures.value) c.requires.shares)

pub invariant_of-self : goal.invariant_of-self
invariant_of-self c =
    stock_on c.self.inside.book c.note_run.new.book c.self.inside.none c.self.inside.latest c.self.inside.earlier c.self.invariant c.note_run.ensures.model
    c.note_run.ensures.extends

pub returns-clause-model : goal.returns-clause-model
returns-clause-model c = c.note_run.ensures.model ∙ ap (λ (book : StoredSteps). book.model) c.self.view_is

pub returns-clause-extends : goal.returns-clause-extends
returns-clause-extends c = subst (λ (book : StoredSteps). Extends book.records c.note_run.new.book.records) c.self.view_is c.note_run.ensures.extends

pub returns-clause-known : goal.returns-clause-known
returns-clause-known c =
    known_still c.self.inside.book c.note_run.new.book c.args.old.now c.note_run.ensures.model c.note_run.ensures.extends
    (subst (λ (book : StoredSteps). IfSome c.args.old.now (IsKnownIn book)) (sym c.self.view_is) c.requires.old)

pub returns-clause-noted : goal.returns-clause-noted
returns-clause-noted c =
    IfOk-weaker c.note_run.result (λ (noted : List Frame). noted ≡ unheld c.self.inside.book.records (frames_in_run c.run.result.now))
    (λ (noted : List Frame). noted ≡ unheld c.args.self.now.records (frames_in_run c.args.kept.now.run))
    (λ noted is. is
    ∙ ap (λ (book : StoredSteps). unheld book.records (frames_in_run c.run.result.now)) c.self.view_is
    ∙ ap (λ (run : Run). unheld c.args.self.now.records (frames_in_run run)) c.run.ensures.value) c.note_run.ensures.noted

pub returns-clause-valid : goal.returns-clause-valid
returns-clause-valid c =
    subst (λ (book : StoredSteps). IfOk c.note_run.result (All (λ frame. IsValid book.model (record_of frame)))) c.self.view_is c.note_run.ensures.valid

pub returns-clause-held : goal.returns-clause-held
returns-clause-held c = subst (λ (run : Run). OnOk c.note_run.result (HoldsRun c.note_run.new.book.records run)) c.run.ensures.value c.note_run.ensures.held
