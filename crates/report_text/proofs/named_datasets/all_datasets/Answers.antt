-- What the next constraint adds is what it reads.
use Rattle.std.proofs.Common.{◌≡◌, ◌+◌, ◌++◌, ◌∙◌, ℕ, List, ap, arith, drop, get_or, suc, sym}
use Rattle.std.proofs.Math.Seq.{drop-cons}
use Rattle.constraints.specs.declared.types.Constraint.{Constraint}
use Rattle.report_text.specs.NamedByConstraints.{NamedSeries, constraint_datasets, has_name_of, noted_all, rule_datasets}
use Rattle.report_text.proofs.Noting.{noted_append}
use Rattle.report_text.proofs.named_datasets.all_datasets.Goals as goal

pub loop-constraint-preserved : goal.loop-constraint-preserved
loop-constraint-preserved c =
    let all = c.args.constraints.now in
    let at = c.loop-constraint.constraint-index in
    let one = c.constraint-item.result in
    let so_far = c.loop-constraint.datasets in
    let one_on : suc at ≡ at + 1 = omega arith in
    ap (λ (datasets : List NamedSeries). noted_all has_name_of datasets (constraint_datasets (drop (at + 1) all))) c.in_ok-note_rule.ensures
    ∙ sym (noted_append has_name_of so_far (rule_datasets one.rule) (constraint_datasets (drop (at + 1) all)))
    ∙ ap (λ (a : Constraint). noted_all has_name_of so_far (rule_datasets a.rule ++ constraint_datasets (drop (at + 1) all))) c.constraint-item.is
    ∙ ap (λ (k : ℕ). noted_all has_name_of so_far (rule_datasets (get_or all at one).rule ++ constraint_datasets (drop k all))) (sym one_on)
    ∙ ap (λ (left : List Constraint). noted_all has_name_of so_far (constraint_datasets left)) (sym (drop-cons all at one c.loop-constraint-test.true))
    ∙ c.loop-constraint.invariant
