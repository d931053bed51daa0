-- What both parts name.
use Rattle.std.proofs.Common.{◌++◌, sym, ◌∙◌}
use Rattle.std.proofs.lemmas.Result.{IfOk-equal}
use Rattle.report_text.specs.NamedByConstraints.{datasets_by_fold, has_name_of, sum_datasets}
use Rattle.report_text.proofs.Noting.{both_noted, datasets_of_both, datasets_of_sums}
use Rattle.report_text.proofs.named_datasets.+note_window.Goals as goal

pub returns-in_ok-note_window-in-And : goal.returns-in_ok-note_window-in-And
returns-in_ok-note_window-in-And t c =
    let left = c.get-in-And.result.now in
    let right = c.get-in-And-2.result.now in
    IfOk-equal _ _ _ _ c.note_window-in-And-2.ensures
    (both_noted has_name_of c.args.datasets.now c.note_window-in-And.new.datasets (datasets_by_fold left) (datasets_by_fold right) (datasets_by_fold c.args.window.now)
    (datasets_of_both c.args.window.now c.in-And.left c.in-And.right c.in-And.is
    ∙ (λ i. datasets_by_fold (sym c.get-in-And.ensures i) ++ datasets_by_fold (sym c.get-in-And-2.ensures i)))
    c.in_ok-note_window-in-And.ensures)

pub returns-in_ok-note_sum-in-Compare : goal.returns-in_ok-note_sum-in-Compare
returns-in_ok-note_sum-in-Compare t c =
    let left = c.in-Compare.left in
    let right = c.in-Compare.right in
    IfOk-equal _ _ _ _ c.note_sum-in-Compare.ensures
    (both_noted has_name_of c.args.datasets.now c.note_sum.new.datasets (sum_datasets left) (sum_datasets right) (datasets_by_fold c.args.window.now)
    (datasets_of_sums c.args.window.now left c.in-Compare.how right c.in-Compare.is) c.in_ok-note_sum-in-Compare.ensures)
