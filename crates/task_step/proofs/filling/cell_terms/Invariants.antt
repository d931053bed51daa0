use Rattle.std.proofs.Common.{◌≡◌, ◌++◌, drop}
use Rattle.aerie_base.specs.conditions.Filling.{cell_terms}
use Rattle.task_step.proofs.filling.cell_terms.Given as goal

-- the terms kept so far, and the terms of cells among those that are left, are all terms of cells
abbrev pub invariant-loop-term : goal.invariant-loop-term
invariant-loop-term l = l.kept ++ cell_terms (drop l.term-index l.terms) ≡ cell_terms l.terms
