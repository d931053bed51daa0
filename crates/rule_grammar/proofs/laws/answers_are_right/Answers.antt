use Rattle.rule_grammar.specs.grammar.Rules.{constraints_rule, goals_rule, sequence_rule}
use Rattle.rule_grammar.proofs.Grammar.Alike.{constraints_alike, goals_alike, sequences_alike}
use Rattle.rule_grammar.proofs.Grammar.Verdicts.{answers_right}
use Rattle.rule_grammar.proofs.laws.answers_are_right.Goals as goal

pub returns-clause-constraints : goal.returns-clause-constraints
returns-clause-constraints c = answers_right constraints_rule constraints_alike

pub returns-clause-goals : goal.returns-clause-goals
returns-clause-goals c = answers_right goals_rule goals_alike

pub returns-clause-sequences : goal.returns-clause-sequences
returns-clause-sequences c = answers_right sequence_rule sequences_alike
