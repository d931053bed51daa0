-- The parts so far with those of the lesser units behind them are the parts of all units.
use Rattle.aerie_base.proofs.Parts.{SoFar}
use Rattle.aerie_base.proofs.durations.parts_in_front.Given as goal

abbrev pub invariant-loop-unit : goal.invariant-loop-unit
invariant-loop-unit l = SoFar l.units l.bytes l.unit-index l.len l.count l.micros
