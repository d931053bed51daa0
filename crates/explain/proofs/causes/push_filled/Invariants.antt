-- What is written, and what is left of the template, are together what is wanted.
use Rattle.std.proofs.Common.{◌≡◌, ◌++◌, drop, string_bytes}
use Rattle.explain.specs.Causes.{filled_sentence}
use Rattle.explain.proofs.causes.push_filled.Given as goal

abbrev pub invariant-loop-byte : goal.invariant-loop-byte
invariant-loop-byte l =
    string_bytes l.text ++ filled_sentence l.word l.number (drop l.byte-index l.bytes) ≡ string_bytes l.initial.text ++ filled_sentence l.word l.number l.bytes
