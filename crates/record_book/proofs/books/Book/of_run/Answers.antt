use Rattle.std.proofs.Common.{◌≡◌, IsTrue, List, [], map, sym, subst, ap, ◌∙◌}
use Rattle.std.specs.List.{All}
use Rattle.aerie_base.specs.declared.models.model.Parts.{Parts}
use Rattle.run_data.specs.declared.frames.Record.{Record}
use Rattle.run_data.specs.declared.runs.Run.{Run}
use Rattle.run_data.specs.TaskFrames.{Frame}
use Rattle.run_data.specs.Records.{IsValid, record_of}
use Rattle.run_data.specs.RunFrames.{frames_in_instants, frames_in_run}
use Rattle.record_book.specs.StoredSteps.{has_record, with_records}
use Rattle.record_book.proofs.RunRecords.{run_is_valid, run_is_whole}
use Rattle.record_book.proofs.books.Book.of_run.Goals as goal

pub invariant_of-result : goal.invariant_of-result
invariant_of-result c =
    let run : Run = c.args.kept.now.run in
    let instants = c.as_slice.ensures ∙ ap (λ (r : Run). r.instants) c.run.ensures.value in
    let is : c.put_instants.new.index ≡ with_records [] (map record_of (frames_in_run run)) =
    c.in_ok-put_instants.ensures ∙ (λ i. with_records (c.new-index.ensures i) (map record_of (frames_in_instants (instants i)))) in
    let of_model : c.in_ok-model.model ≡ c.args.kept.now.model = c.in_ok-model.ensures ∙ c.model.ensures in
    subst (All (IsValid c.in_ok-model.model)) (sym is)
    (subst (λ (model : Parts). All (IsValid model) (with_records [] (map record_of (frames_in_run run)))) (sym of_model)
    (run_is_valid c.args.kept.now.model run (c.fresh_runs.ensures.frames c.args.kept.now.model run.plan run.bound run c.run.ensures.fresh)))

pub returns-clause-whole : goal.returns-clause-whole
returns-clause-whole c =
    let run : Run = c.args.kept.now.run in
    let instants = c.as_slice.ensures ∙ ap (λ (r : Run). r.instants) c.run.ensures.value in
    let is : c.put_instants.new.index ≡ with_records [] (map record_of (frames_in_run run)) =
    c.in_ok-put_instants.ensures ∙ (λ i. with_records (c.new-index.ensures i) (map record_of (frames_in_instants (instants i)))) in
    subst (λ (records : List Record). All (λ (frame : Frame). IsTrue (has_record records frame.before frame.reads)) (frames_in_run run)) (sym is) (run_is_whole run)
