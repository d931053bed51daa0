-- What both parts name.
use Rattle.std.proofs.Common.{◌++◌, nat_eq, sym, ◌∙◌}
use Rattle.std.proofs.lemmas.Result.{IfOk-equal}
use Rattle.report_text.specs.NamedByConstraints.{resources_by_fold, sum_resources}
use Rattle.report_text.proofs.Noting.{both_noted, resources_of_both, resources_of_sums}
use Rattle.report_text.proofs.named.+note_resources.Goals as goal

pub returns-in_ok-note_resources-in-And : goal.returns-in_ok-note_resources-in-And
returns-in_ok-note_resources-in-And t c =
    let left = c.get-in-And.result.now in
    let right = c.get-in-And-2.result.now in
    IfOk-equal _ _ _ _ c.note_resources-in-And-2.ensures
    (both_noted nat_eq c.args.numbers.now c.note_resources-in-And.new.numbers (resources_by_fold left) (resources_by_fold right) (resources_by_fold c.args.window.now)
    (resources_of_both c.args.window.now c.in-And.left c.in-And.right c.in-And.is
    ∙ (λ i. resources_by_fold (sym c.get-in-And.ensures i) ++ resources_by_fold (sym c.get-in-And-2.ensures i)))
    c.in_ok-note_resources-in-And.ensures)

pub returns-in_ok-note_sum-in-Compare : goal.returns-in_ok-note_sum-in-Compare
returns-in_ok-note_sum-in-Compare t c =
    let left = c.in-Compare.left in
    let right = c.in-Compare.right in
    IfOk-equal _ _ _ _ c.note_sum-in-Compare.ensures
    (both_noted nat_eq c.args.numbers.now c.note_sum.new.numbers (sum_resources left) (sum_resources right) (resources_by_fold c.args.window.now)
    (resources_of_sums c.args.window.now left c.in-Compare.how right c.in-Compare.is) c.in_ok-note_sum-in-Compare.ensures)
