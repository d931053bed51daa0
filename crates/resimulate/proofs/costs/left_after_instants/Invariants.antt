use Rattle.std.proofs.Common.{◌≡◌, ◌+◌, drop}
use Rattle.run_data.specs.laws.RunCosts.{cost_of_instants}
use Rattle.resimulate.proofs.costs.left_after_instants.Given as goal

-- the instants before this one are paid for
abbrev pub invariant-loop-instant : goal.invariant-loop-instant
invariant-loop-instant l = l.less + cost_of_instants l.instants ≡ l.left + cost_of_instants (drop l.instant-index l.instants)
