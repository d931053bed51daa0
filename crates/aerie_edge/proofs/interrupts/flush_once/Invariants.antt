-- A call that was interrupted changes nothing that is known.
use Rattle.std.specs.Io.KnownBytes.{Keeps}
use Rattle.aerie_edge.proofs.interrupts.flush_once.Given as goal

abbrev pub invariant-loop : goal.invariant-loop
invariant-loop g l = Keeps (g.W.Write.contents l.initial.writer) (g.W.Write.contents l.writer)
