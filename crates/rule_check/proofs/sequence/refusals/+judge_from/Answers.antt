-- What is found of one rule, and then of those behind it, is found of all of them.
use Rattle.std.proofs.Common.{◌≡◌, List, sym, subst, ◌∙◌}
use Rattle.rule_grammar.specs.declared.raw.sequences.RawSequenceItem.{RawSequenceItem}
use Rattle.rule_check.specs.Refusals.{noted}
use Rattle.rule_check.specs.RefusalLaws.{judged_next}
use Rattle.rule_check.specs.SequenceRefusals.{refusals_of_item, too_many_rules}
use Rattle.rule_check.proofs.sequence.refusals.+judge_from.Goals as goal

pub returns-else-at-eq-MOST_RULES : goal.returns-else-at-eq-MOST_RULES
returns-else-at-eq-MOST_RULES t c =
    let model = c.args.model.now in
    let one = subst (λ (others : List RawSequenceItem). c.judge_rule.new.found ≡ noted c.args.found.now (refusals_of_item model others c.in-Some.rule.now)) c.split_at.ensures.front c.judge_rule.ensures in
    judged_next (refusals_of_item model) too_many_rules 256 c.args.rules.now _ c.in-Some.rule.now c.args.at c.args.found.now c.judge_rule.new.found c.judge_from.new.found
    c.requires.few c.if-at-eq-MOST_RULES.false (sym c.split_at.ensures.back ∙ c.in-Some.ensures.cases.0) one c.judge_from.ensures
