-- What is written, and what is left to be shown, are together what is wanted.
use Rattle.std.proofs.Common.{◌≡◌, ◌++◌, drop, string_bytes}
use Rattle.explain.specs.Shown.{as_shown}
use Rattle.explain.proofs.shown.push_shown.Given as goal

abbrev pub invariant-loop-byte : goal.invariant-loop-byte
invariant-loop-byte l = string_bytes l.text ++ as_shown (drop l.byte-index l.bytes) ≡ string_bytes l.initial.text ++ as_shown l.bytes
