use Rattle.std.proofs.Common.{take}
use Rattle.run_data.specs.laws.Orders.{EachOf}
use Rattle.resimulate.specs.Partings.{IsFreeAndLate}
use Rattle.resimulate.proofs.partings.are_plainly_late.Given as goal

-- the directives before this one are late
abbrev pub invariant-loop-directive : goal.invariant-loop-directive
invariant-loop-directive l = EachOf (IsFreeAndLate l.parting.first l.parting.past l.parting.until) (take l.directive-index l.directives)
