use Rattle.std.proofs.Common.{◌≡◌, take}
use Rattle.rule_check.specs.SequenceMeaning.{meant_words}
use Rattle.rule_check.proofs.sequence.meaning.meant_words.Given as goal

-- so many were made as were passed, each the one that is meant
abbrev pub invariant-loop-word : goal.invariant-loop-word
invariant-loop-word l = l.meant ≡ meant_words l.fn.model l.fn.parameters (take l.word-index l.words)
