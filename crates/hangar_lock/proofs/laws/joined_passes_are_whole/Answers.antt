use Rattle.hangar_lock.proofs.Joining.{joined_mine, joined_whole}
use Rattle.hangar_lock.proofs.laws.joined_passes_are_whole.Goals as goal

pub returns-clause-whole : goal.returns-clause-whole
returns-clause-whole c = joined_whole

pub returns-clause-all : goal.returns-clause-all
returns-clause-all c = joined_mine
