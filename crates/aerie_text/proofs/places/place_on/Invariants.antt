-- The place is that behind the characters before the first byte and those so far.
use Rattle.std.proofs.Common.{◌≡◌, ◌+◌, length, take}
use Rattle.aerie_text.specs.Places.{chars_before, column_of, line_number}
use Rattle.aerie_text.proofs.places.place_on.Given as goal

abbrev pub invariant-loop-c : goal.invariant-loop-c
invariant-loop-c l = record {
  line : l.line ≡ line_number (take (length (chars_before l.fn.text l.fn.from) + length l.yielded) (chars_before l.fn.text l.fn.to));
  column : l.column ≡ column_of (take (length (chars_before l.fn.text l.fn.from) + length l.yielded) (chars_before l.fn.text l.fn.to));
}
