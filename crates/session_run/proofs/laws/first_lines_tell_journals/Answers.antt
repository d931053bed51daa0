use Rattle.session_run.proofs.FirstLines.{journals_told, texts_told}
use Rattle.session_run.proofs.laws.first_lines_tell_journals.Goals as goal

pub returns-clause-journals : goal.returns-clause-journals
returns-clause-journals c = journals_told c.commands_are_done.ensures.few c.triples_tell_all.ensures

pub returns-clause-texts : goal.returns-clause-texts
returns-clause-texts c = texts_told c.commands_are_done.ensures.few c.triples_tell_all.ensures
