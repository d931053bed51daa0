use Rattle.hangar_lock.proofs.Going.{act_begun, begun_at, begun_done, few_parts}
use Rattle.hangar_lock.proofs.laws.commands_are_done.Goals as goal

pub returns-clause-begin : goal.returns-clause-begin
returns-clause-begin c = begun_at

pub returns-clause-go_on : goal.returns-clause-go_on
returns-clause-go_on c = act_begun

pub returns-clause-few : goal.returns-clause-few
returns-clause-few c = few_parts

pub returns-clause-end : goal.returns-clause-end
returns-clause-end c = begun_done
