-- Where nothing is refused, what is meant is of the model.
use Rattle.std.proofs.Common.{◌≡◌, IsTrue, List, [], None, sym, subst, ◌∙◌}
use Rattle.std.specs.List.{list_all}
use Rattle.rule_grammar.specs.declared.raw.constraints.RawConstraint.{RawConstraint}
use Rattle.constraints.specs.OfModel.{is_constraint}
use Rattle.constraints.specs.declared.types.Constraint.{Constraint}
use Rattle.rule_check.specs.ConstraintRefusals.{refusals_of_more}
use Rattle.rule_check.specs.Refusals.{noted}
use Rattle.rule_check.proofs.MeantWindows.{all_of_model}
use Rattle.rule_check.proofs.constraint.judged.Goals as goal

pub returns-in_ok-constraints_of-in-None-clause-of_model : goal.returns-in_ok-constraints_of-in-None-clause-of_model
returns-in_ok-constraints_of-in-None-clause-of_model c =
    let model = c.args.model.now in
    let datasets = c.args.datasets.now in
    let none = subst (λ (raw : List RawConstraint). noted None (refusals_of_more model datasets 256 [] raw) ≡ None) c.as_slice.ensures (sym c.judge_from.ensures ∙ c.in-None.is) in
    subst (λ (constraints : List Constraint). IsTrue (list_all (is_constraint model) constraints)) (sym c.in_ok-constraints_of-in-None.ensures)
    (all_of_model model datasets c.name.ensures.valid c.requires.series c.args.raw.now none)
