use Rattle.std.proofs.Common.{sym, subst, []}
use Rattle.std.specs.List.{IsDistinct}
use Rattle.live_tasks.specs.Listing.{is_same_end}
use Rattle.live_tasks.proofs.delays.no_delays.Goals as goal

none_twice : IsDistinct is_same_end []
unfolding IsDistinct
none_twice = tt

pub returns-clause-heap : goal.returns-clause-heap
returns-clause-heap c = record { ordered = c.new.ensures.heap_order; once = subst (IsDistinct is_same_end) (sym c.new.ensures.items) none_twice }
