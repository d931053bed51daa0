use Rattle.std.proofs.Common.{◌≡◌, ◌+◌, ◌≤◌, ◌++◌, take, drop}
use Rattle.run_data.specs.laws.Generations.{child_jobs}
use Rattle.engine_core.specs.BatchDues.{fresh}
use Rattle.run_data.specs.StepStates.{after_items}
use Rattle.engine_core.proofs.batches.children.with_children.Given as goal

-- the jobs so far and those of the children that are left are those of all children
abbrev pub invariant-loop-at : goal.invariant-loop-at
invariant-loop-at l = record {
  seen : l.seen ≤ l.at;
  number : l.next ≤ l.number + l.at;
  view : l.view ≡ after_items l.job.view (take l.seen l.items);
  made :
      l.all ++ fresh (child_jobs l.model l.job.path l.next (after_items l.job.view (take l.at l.items)) (drop l.at l.items))
      ≡ l.fn.others ++ fresh (child_jobs l.model l.job.path l.number l.job.view l.items);
}
