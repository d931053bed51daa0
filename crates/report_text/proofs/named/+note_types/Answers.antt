-- What both parts name.
use Rattle.std.proofs.Common.{◌++◌, nat_eq, sym, ◌∙◌}
use Rattle.std.proofs.lemmas.Result.{IfOk-equal}
use Rattle.report_text.specs.NamedByConstraints.{types_by_fold}
use Rattle.report_text.proofs.Noting.{both_noted, types_of_both}
use Rattle.report_text.proofs.named.+note_types.Goals as goal

pub returns-in_ok-note_types-in-And : goal.returns-in_ok-note_types-in-And
returns-in_ok-note_types-in-And t c =
    let left = c.get-in-And.result.now in
    let right = c.get-in-And-2.result.now in
    IfOk-equal _ _ _ _ c.note_types-in-And-2.ensures
    (both_noted nat_eq c.args.numbers.now c.note_types-in-And.new.numbers (types_by_fold left) (types_by_fold right) (types_by_fold c.args.window.now)
    (types_of_both c.args.window.now c.in-And.left c.in-And.right c.in-And.is
    ∙ (λ i. types_by_fold (sym c.get-in-And.ensures i) ++ types_by_fold (sym c.get-in-And-2.ensures i)))
    c.in_ok-note_types-in-And.ensures)
