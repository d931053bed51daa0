use Rattle.session_reader.proofs.FewClients.{answered_few}
use Rattle.session_reader.proofs.sessions.session.Goals as goal

pub returns-clause-few : goal.returns-clause-few
returns-clause-few c = answered_few c.args.raw.now c.in_ok-models.models c.session_over.result c.requires.limits c.session_over.ensures.made
