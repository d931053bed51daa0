use Rattle.rule_grammar.proofs.Following.Constraints.{constraints_judged}
use Rattle.rule_grammar.proofs.Following.Goals.{goals_judged}
use Rattle.rule_grammar.proofs.Following.Sequences.{sequences_judged}
use Rattle.rule_grammar.proofs.laws.rules_are_judged.Goals as goal

pub returns-clause-constraints : goal.returns-clause-constraints
returns-clause-constraints c = constraints_judged

pub returns-clause-goals : goal.returns-clause-goals
returns-clause-goals c = goals_judged

pub returns-clause-sequences : goal.returns-clause-sequences
returns-clause-sequences c = sequences_judged
