use Rattle.std.proofs.Common.{drop}
use Rattle.run_data.specs.Tasks.{children_in}
use Rattle.resimulate.proofs.TaskTraces.{CountsWith}
use Rattle.resimulate.proofs.traces.with_children.Given as goal

-- those before this item are counted
abbrev pub invariant-loop-item : goal.invariant-loop-item
invariant-loop-item l = CountsWith l.fn.before l.made (children_in (drop l.item-index l.item-items)) (children_in l.items)
