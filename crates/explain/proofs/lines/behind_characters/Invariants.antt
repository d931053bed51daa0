-- What stands behind the characters that are left, from here on, is what is looked for.
use Rattle.std.proofs.Common.{◌≡◌, drop}
use Rattle.explain.specs.Lines.{behind_characters}
use Rattle.explain.proofs.lines.behind_characters.Given as goal

abbrev pub invariant-loop-i : goal.invariant-loop-i
invariant-loop-i l = behind_characters l.left (drop l.i l.bytes) ≡ behind_characters l.fn.count l.bytes
