use Rattle.session_run.proofs.Apart.{reports_tell, stand_apart}
use Rattle.session_run.proofs.laws.branches_stand_apart.Goals as goal

pub returns-clause-apart : goal.returns-clause-apart
returns-clause-apart c = stand_apart c.branches_are_isolated.ensures.alike c.branches_are_isolated.ensures.others

pub returns-clause-reports : goal.returns-clause-reports
returns-clause-reports c = reports_tell
