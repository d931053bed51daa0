-- The values of the words so far, and those of the words behind.
use Rattle.std.proofs.Common.{◌≡◌, drop}
use Rattle.span_table.specs.AsDefined.{defined_span}
use Rattle.seq_expand.specs.Sending.{word_values as values_of_words}
use Rattle.seq_expand.proofs.Values.{in_front}
use Rattle.seq_expand.proofs.sending.word_values.Given as goal

abbrev pub invariant-loop-word : goal.invariant-loop-word
invariant-loop-word l =
    values_of_words (defined_span l.span) l.fn.words ≡ in_front l.values (values_of_words (defined_span l.span) (drop l.word-index l.words))
