use Rattle.resimulate.proofs.UnbegunTasks.{unbegun_are_directives}
use Rattle.resimulate.proofs.laws.unbegun_tasks_are_directives.Goals as goal

pub returns : goal.returns
returns c = unbegun_are_directives c.edges_come_once.ensures.stays
