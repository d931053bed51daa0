use Rattle.hangar_lock.proofs.Going.{all_worked, next_worked, worked_at}
use Rattle.hangar_lock.proofs.laws.work_is_done.Goals as goal

pub returns-clause-begin : goal.returns-clause-begin
returns-clause-begin c = worked_at

pub returns-clause-go_on : goal.returns-clause-go_on
returns-clause-go_on c = next_worked

pub returns-clause-end : goal.returns-clause-end
returns-clause-end c = all_worked
