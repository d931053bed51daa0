-- The words of the variants so far.
use Rattle.std.proofs.Common.{◌≡◌, map, take}
use Rattle.plan_edit.specs.Arguments.{written_variant}
use Rattle.report_text.proofs.wordings.variant_words.Given as goal

abbrev pub invariant-loop-variant : goal.invariant-loop-variant
invariant-loop-variant l = l.words ≡ map (written_variant l.enum_type) (take l.variant-index l.variant-items)
