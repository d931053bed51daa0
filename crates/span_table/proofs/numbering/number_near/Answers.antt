use Rattle.std.proofs.Common.{◌∙◌, sym}
use Rattle.span_table.proofs.NumberedPaths.{path_here}
use Rattle.span_table.proofs.numbering.number_near.Goals as goal

pub returns-then-is_same : goal.returns-then-is_same
returns-then-is_same c =
    path_here _ c.in_ok-near.near _ _ _ c.in_ok-other.ensures.entry (sym c.get.ensures ∙ c.is_same.ensures.0 c.if-is_same.true)

pub returns-then-is_same-2 : goal.returns-then-is_same-2
returns-then-is_same-2 c =
    path_here _ c.in_ok-above.above _ _ _ c.in_ok-maker.ensures.entry (sym c.get-2.ensures ∙ c.is_same-2.ensures.0 c.if-is_same-2.true)
