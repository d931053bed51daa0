-- What is read of a client is judged as the readings of the grammar as it is written say.
use Rattle.readers.proofs.Judged.{given_verdict}
use Rattle.session_grammar.proofs.Conforming.Commands.{client_judged}
use Rattle.session_grammar.specs.grammar.Rules.{client_rule}
use Rattle.session_grammar.specs.grammar.Written.{written}
use Rattle.session_grammar.proofs.reading.commands.client.Goals as goal

pub returns-clause-verdict : goal.returns-clause-verdict
returns-clause-verdict c = given_verdict written client_rule c.args.reader.now c.client_parts.new.reader c.client_parts.result _ c.client_parts.ensures.0 (client_judged c.args.reader.now)
