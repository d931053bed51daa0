use Rattle.std.proofs.Common.{◌≡◌, map}
use Rattle.std.specs.String.{string_bytes}
use Rattle.session_run.specs.Rounds.{texts_without}
use Rattle.session_run.proofs.in_turn.empty_texts.Given as goal

abbrev pub invariant-loop-number : goal.invariant-loop-number
invariant-loop-number l = map string_bytes l.texts.items ≡ texts_without l.number
