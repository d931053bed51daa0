use Rattle.std.proofs.Common.{List, ◌≡◌, ◌≤◌, length, map, sym, subst, ap, ◌∙◌, arith}
use Rattle.std.specs.List.{All}
use Rattle.std.proofs.lemmas.List.{length-map, take_all}
use Rattle.run_data.specs.declared.frames.Record.{Record}
use Rattle.run_data.specs.Records.{IsValid, record_of}
use Rattle.record_book.specs.StoredSteps.{chapter_limit}
use Rattle.record_book.proofs.RunRecords.{all_of_frames}
use Rattle.record_book.proofs.chapters.Chapter.of_frames.Goals as goal

pub invariant_of-result : goal.invariant_of-result
invariant_of-result c =
    let all : c.loop-frame.steps ≡ map record_of c.args.frames.now =
    c.loop-frame.invariant ∙ ap (map record_of) (take_all c.loop-frame.frame-index c.args.frames.now c.loop-frame-test.false) in
    subst (λ (records : List Record). (length records ≤ chapter_limit) × All (IsValid c.args.model) records) (sym all)
    (omega (arith, c.requires.few, length-map c.args.frames.now record_of), all_of_frames (IsValid c.args.model) c.args.frames.now c.requires.valid)
