use Rattle.std.proofs.Common.{◌≡◌, None, replicate}
use Rattle.session_reader.proofs.sections.no_sections.Given as goal

abbrev pub invariant-loop : goal.invariant-loop
invariant-loop l = l.sections ≡ replicate l.counter None
