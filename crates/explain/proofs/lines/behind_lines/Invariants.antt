-- What stands behind the line feeds that are left, from here on, is what is looked for.
use Rattle.std.proofs.Common.{◌≡◌, drop}
use Rattle.explain.specs.Lines.{behind_lines}
use Rattle.explain.proofs.lines.behind_lines.Given as goal

abbrev pub invariant-loop-i : goal.invariant-loop-i
invariant-loop-i l = behind_lines l.left (drop l.i l.bytes) ≡ behind_lines l.fn.lines l.bytes
