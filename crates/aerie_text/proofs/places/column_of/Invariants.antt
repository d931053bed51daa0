-- The column is that behind the characters so far.
use Rattle.std.proofs.Common.{◌≡◌, length, take}
use Rattle.std.specs.Str.{chars}
use Rattle.aerie_text.specs.Places.{column_of}
use Rattle.aerie_text.proofs.places.column_of.Given as goal

abbrev pub invariant-loop-c : goal.invariant-loop-c
invariant-loop-c l = l.column ≡ column_of (take (length l.yielded) (chars l.text))
