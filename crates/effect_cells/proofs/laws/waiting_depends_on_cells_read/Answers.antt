use Rattle.effect_cells.proofs.KeptWakes.{holds_same, wakes_same, holds_where_it_wakes_now}
use Rattle.effect_cells.proofs.laws.waiting_depends_on_cells_read.Goals as goal

pub returns-clause-holds : goal.returns-clause-holds
returns-clause-holds c = λ condition cells others agree. holds_same cells others condition agree

pub returns-clause-wakes : goal.returns-clause-wakes
returns-clause-wakes c = wakes_same

pub returns-clause-now : goal.returns-clause-now
returns-clause-now c = holds_where_it_wakes_now
