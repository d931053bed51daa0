-- The spot behind the bytes that are left is the one behind all of them.
use Rattle.std.proofs.Common.{◌≡◌, ◌≤◌, ◌+◌, drop}
use Rattle.explain.specs.Spots.{spot_after}
use Rattle.explain.proofs.spots.spot_at.Given as goal

abbrev pub invariant-loop-byte : goal.invariant-loop-byte
invariant-loop-byte l = record {
  line : l.line ≤ l.byte-index + 1;
  column : l.column ≤ l.byte-index + 1;
  after : spot_after (drop l.byte-index l.before) (record { line = l.line; column = l.column }) ≡ spot_after l.before (record { line = 1; column = 1 });
}
