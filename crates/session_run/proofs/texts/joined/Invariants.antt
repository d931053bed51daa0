use Rattle.std.proofs.Common.{◌≡◌, ◌++◌, map}
use Rattle.std.specs.String.{string_bytes}
use Rattle.std.specs.Vec.Iter.{into_iter_items}
use Rattle.session_run.specs.Joined.{joined_texts}
use Rattle.session_run.proofs.texts.joined.Given as goal

-- the texts so far, with what is left behind them, are all
abbrev pub invariant-loop-text : goal.invariant-loop-text
invariant-loop-text l = string_bytes l.whole ++ joined_texts (map string_bytes (into_iter_items l.text-iterator)) ≡ joined_texts (map string_bytes l.fn.texts.items)
