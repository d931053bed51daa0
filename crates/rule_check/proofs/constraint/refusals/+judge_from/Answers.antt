-- What is found of one constraint, and then of those behind it, is found of all of them.
use Rattle.std.proofs.Common.{◌≡◌, List, sym, subst, ◌∙◌}
use Rattle.rule_grammar.specs.declared.raw.constraints.RawConstraint.{RawConstraint}
use Rattle.rule_check.specs.ConstraintRefusals.{refusals_of_constraint, too_many_constraints}
use Rattle.rule_check.specs.Refusals.{noted}
use Rattle.rule_check.specs.RefusalLaws.{judged_next}
use Rattle.rule_check.proofs.constraint.refusals.+judge_from.Goals as goal

pub returns-else-at-eq-MOST_CONSTRAINTS : goal.returns-else-at-eq-MOST_CONSTRAINTS
returns-else-at-eq-MOST_CONSTRAINTS t c =
    let one = subst (λ (others : List RawConstraint). c.judge_constraint.new.found ≡ noted c.args.found.now (refusals_of_constraint c.args.model.now c.args.datasets.now others c.in-Some.constraint.now)) c.split_at.ensures.front c.judge_constraint.ensures in
    judged_next (refusals_of_constraint c.args.model.now c.args.datasets.now) too_many_constraints 256 c.args.constraints.now _ c.in-Some.constraint.now c.args.at c.args.found.now c.judge_constraint.new.found c.judge_from.new.found
    c.requires.few c.if-at-eq-MOST_CONSTRAINTS.false (sym c.split_at.ensures.back ∙ c.in-Some.ensures.cases.0) one c.judge_from.ensures
