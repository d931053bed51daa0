use Rattle.std.proofs.Common.{◌-◌, ◌≤◌, [], length, take}
use Rattle.aerie_edge.specs.Written.{Receives}
use Rattle.aerie.specs.Output.{HandsOver}
use Rattle.aerie.proofs.output.write_output.Given as goal

abbrev pub invariant-loop-at : goal.invariant-loop-at
invariant-loop-at g l = record {
  within : l.at ≤ length l.text;
  received : Receives (g.K.Sink.written l.initial.sink) (g.K.Sink.written l.sink) (take l.at l.text);
  later : g.K.Sink.faults l.initial.sink ≤ g.K.Sink.faults l.sink;
  rests : HandsOver (g.K.Sink.pieces l.initial.sink) (g.K.Sink.pieces l.sink) l.text l.at [];
}

abbrev pub decreases-loop-at : goal.decreases-loop-at
decreases-loop-at g l = length l.text - l.at
