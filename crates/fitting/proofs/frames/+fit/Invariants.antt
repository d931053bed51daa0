use Rattle.std.proofs.Common.{◌+◌, ◌*◌, ◌≤◌, drop}
use Rattle.run_data.specs.Frames.{room_of}
use Rattle.run_data.specs.laws.Generations.{child_jobs}
use Rattle.engine_core.specs.BatchViews.{CanEmitAll}
use Rattle.fitting.specs.Fitting.{FitChild, MaySeeChildren}
use Rattle.fitting.specs.DecidedJobs.{DecidesAll}
use Rattle.fitting.proofs.frames.+fit.Given as goal

-- a child's path has room for one number less
abbrev pub decreases-fit_frame : goal.decreases-fit_frame
decreases-fit_frame l = 4 * room_of l.frame.now.path + 3

abbrev pub decreases-fit_children : goal.decreases-fit_children
decreases-fit_children l = 4 * room_of l.frame.now.path + 2

abbrev pub decreases-fit_item : goal.decreases-fit_item
decreases-fit_item l = 4 * room_of l.maker.now + 1

abbrev pub decreases-fit_child : goal.decreases-fit_child
decreases-fit_child l = 4 * room_of l.maker.now

-- the children of the items that are left decide about all of them, and they see the effects so far
abbrev pub invariant-fit_children-loop-item : goal.invariant-fit_children-loop-item
invariant-fit_children-loop-item l = record {
  decides :
      DecidesAll (FitChild l.model l.bound (room_of l.frame.path)) l.old (child_jobs l.model l.frame.path l.number l.view l.items)
      (child_jobs l.model l.frame.path l.next l.seen (drop l.item-index l.items)) l.initial.found.items l.found.items;
  can : CanEmitAll l.seen (drop l.item-index l.items);
  may : MaySeeChildren l.model (room_of l.frame.path) (child_jobs l.model l.frame.path l.next l.seen (drop l.item-index l.items));
  few : l.next ≤ l.number + l.item-index;
}
