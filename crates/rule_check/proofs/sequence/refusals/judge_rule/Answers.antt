-- A second spacing for the name is all that is refused of a spacing.
use Rattle.std.proofs.Common.{Bool, not, sym, ap, ◌∙◌}
use Rattle.rule_grammar.specs.declared.raw.sequences.RawSequenceRule.{RawSequenceRule}
use Rattle.rule_check.specs.declared.causes.WrongRule.TheVariants.{Duplicate}
use Rattle.diagnostics.specs.Diagnostics.{refused_unless}
use Rattle.rule_check.specs.Refusals.{noted}
use Rattle.rule_check.specs.SequenceRefusals.{refusals_of_sequence_rule}
use Rattle.rule_check.proofs.sequence.refusals.judge_rule.Goals as goal

pub returns-in-Spacing : goal.returns-in-Spacing
returns-in-Spacing c =
    c.note_unless-in-Spacing.ensures
    ∙ ap (λ (there : Bool). noted c.args.found.now (refused_unless (not there) Duplicate c.in-Spacing.name.at)) c.has_spacing_of-is_new.ensures
    ∙ sym (ap (λ (rule : RawSequenceRule). noted c.args.found.now (refusals_of_sequence_rule c.args.model.now c.args.others.now rule)) c.in-Spacing.is)
