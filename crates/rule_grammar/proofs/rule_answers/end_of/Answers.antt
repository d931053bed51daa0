-- The last token is the one behind the others.
use Rattle.rule_grammar.proofs.LastToken.{end_is_last, end_edge, start_edge}
use Rattle.rule_grammar.proofs.rule_answers.end_of.Goals as goal

pub returns-in-Some-clause-is : goal.returns-in-Some-clause-is
returns-in-Some-clause-is c = end_is_last c.args.tokens.now _ _ c.in-Some.ensures.cases.0

pub returns-in-Some-clause-edge : goal.returns-in-Some-clause-edge
returns-in-Some-clause-edge c = end_edge c.args.text.now c.args.tokens.now _ _ c.in-Some.ensures.cases.0 c.requires c.utf8.text

pub returns-in-None-clause-edge : goal.returns-in-None-clause-edge
returns-in-None-clause-edge c = start_edge c.args.text.now c.utf8.text
