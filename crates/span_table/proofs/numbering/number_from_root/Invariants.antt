use Rattle.std.proofs.Common.{◌≡◌}
use Rattle.aerie_base.specs.PathsAbove.{so_far}
use Rattle.span_table.specs.KnownTasks.{AreLinked, Numbers, links_of}
use Rattle.span_table.proofs.numbering.number_from_root.Given as goal

-- the path where the loop is has a number
abbrev pub invariant-loop-number : goal.invariant-loop-number
invariant-loop-number l = record {
  above_is : l.above ≡ so_far l.path l.number-index;
  numbered : AreLinked (links_of l.fn.tasks.entries) → Numbers l.above l.at l.fn.tasks.entries l.tasks.entries;
}
