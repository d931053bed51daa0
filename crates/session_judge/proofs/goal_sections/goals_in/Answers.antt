use Rattle.std.proofs.Common.{◌-◌, subst, sym}
use Rattle.aerie_text.specs.Marks.{AreTokensWithin}
use Rattle.session_judge.proofs.Cut.{all_tokens, part_within}
use Rattle.session_judge.proofs.goal_sections.goals_in.Goals as goal

pub read_goals-requires-clause-tokens : goal.read_goals-requires-clause-tokens
read_goals-requires-clause-tokens c =
    subst (AreTokensWithin c.args.text.now) (sym c.tokens_in-section.ensures.tokens)
    (part_within c.args.text.now c.args.tokens.now c.args.range.0 (c.args.range.1 - c.args.range.0) c.requires.tokens)

pub told_rule-requires-clause-tokens : goal.told_rule-requires-clause-tokens
told_rule-requires-clause-tokens c = all_tokens c.args.text.now c.args.tokens.now c.requires.tokens
