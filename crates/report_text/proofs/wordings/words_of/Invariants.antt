-- The words of the enumerations so far.
use Rattle.std.proofs.Common.{◌≡◌, map, take}
use Rattle.report_text.specs.Wordings.{variant_words}
use Rattle.report_text.proofs.wordings.words_of.Given as goal

abbrev pub invariant-loop-enum_type : goal.invariant-loop-enum_type
invariant-loop-enum_type l = l.words ≡ map variant_words (take l.enum_type-index l.enums)
