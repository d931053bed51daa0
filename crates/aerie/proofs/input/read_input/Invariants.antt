use Rattle.std.proofs.Common.{◌≡◌, ◌+◌, ◌≤◌, length}
use Rattle.std.specs.Io.KnownBytes.{Consumes}
use Rattle.aerie.proofs.input.read_input.Given as goal

abbrev pub invariant-loop-iteration : goal.invariant-loop-iteration
invariant-loop-iteration g l = record {
  iteration : l._iteration ≤ length l.bytes.items;
  most : length l.bytes.items ≤ 16_777_217;
  taken : Consumes (g.S.Source.left l.initial.source) (g.S.Source.left l.source) l.bytes.items;
  reads : g.S.Source.reads l.source ≤ g.S.Source.reads l.initial.source + l._iteration;
  later : g.S.Source.faults l.initial.source ≤ g.S.Source.faults l.source;
  room : length l.room ≡ 4096;
}
