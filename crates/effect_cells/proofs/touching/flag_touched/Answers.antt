use Rattle.std.proofs.Common.{◌∙◌, sym}
use Rattle.effect_cells.specs.Folded.{is_on_is}
use Rattle.effect_cells.specs.Touched.{flagged_from}
use Rattle.effect_cells.proofs.touching.flag_touched.Goals as goal

pub returns : goal.returns
returns c = c.flag_tree.ensures ∙ (λ i. flagged_from (λ cell. sym (is_on_is c.args.tree.now cell) i) 0 c.args.flags.now)
