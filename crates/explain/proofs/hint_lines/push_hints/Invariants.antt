-- What is written, and the lines of the changes that are left, are together what is wanted.
use Rattle.std.proofs.Common.{◌≡◌, ◌++◌, drop, string_bytes}
use Rattle.explain.specs.HintLines.{hint_lines}
use Rattle.explain.proofs.hint_lines.push_hints.Given as goal

abbrev pub invariant-loop-hint : goal.invariant-loop-hint
invariant-loop-hint l = string_bytes l.text ++ hint_lines l.bytes (drop l.hint-index l.hints) ≡ string_bytes l.initial.text ++ hint_lines l.bytes l.hints
