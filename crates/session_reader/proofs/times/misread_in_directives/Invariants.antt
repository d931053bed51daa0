use Rattle.std.proofs.Common.{◌≡◌, drop}
use Rattle.session_reader.specs.Times.{misread_directive, first_misread}
use Rattle.session_reader.proofs.times.misread_in_directives.Given as goal

-- those that were passed are instants
abbrev pub invariant-loop-directive : goal.invariant-loop-directive
invariant-loop-directive l = first_misread misread_directive l.directives ≡ first_misread misread_directive (drop l.directive-index l.directives)
