use Rattle.rule_grammar.proofs.Grammar.Alike.{constraints_alike, goals_alike, sequences_alike}
use Rattle.rule_grammar.proofs.Grammar.Predictive.{predictive}
use Rattle.rule_grammar.proofs.laws.one_token_decides.Goals as goal

pub returns-clause-decides : goal.returns-clause-decides
returns-clause-decides c = predictive

pub returns-clause-constraints : goal.returns-clause-constraints
returns-clause-constraints c = constraints_alike

pub returns-clause-goals : goal.returns-clause-goals
returns-clause-goals c = goals_alike

pub returns-clause-sequences : goal.returns-clause-sequences
returns-clause-sequences c = sequences_alike
