-- What the rules so far mean, and what those behind them mean.
use Rattle.std.proofs.Common.{◌≡◌, ◌++◌, drop}
use Rattle.rule_check.specs.SequenceMeaning.{rules_of, spacings_of}
use Rattle.rule_check.proofs.sequence.meaning.sequencing_of.Given as goal

abbrev pub invariant-loop-item : goal.invariant-loop-item
invariant-loop-item l =
    (rules_of l.fn.model l.item-items ≡ l.rules ++ rules_of l.fn.model (drop l.item-index l.item-items))
    × (spacings_of l.item-items ≡ l.spacings ++ spacings_of (drop l.item-index l.item-items))
