-- The tokens so far, with those that are read behind the place, are those of the text.
use Rattle.std.proofs.Common.{◌≡◌, ◌≤◌, ◌-◌, length, drop}
use Rattle.aerie_text.specs.Tokens.{tokens_from, tokens_of, with_tokens}
use Rattle.aerie_text.proofs.scanner.scan.Given as goal

abbrev pub invariant-loop-at : goal.invariant-loop-at
invariant-loop-at l = record {
  within : l.at ≤ length l.bytes;
  read : with_tokens l.tokens (tokens_from l.at 0 (drop l.at l.bytes)) ≡ tokens_of l.bytes;
}

abbrev pub decreases-loop-at : goal.decreases-loop-at
decreases-loop-at l = length l.bytes - l.at
