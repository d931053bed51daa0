use Rattle.std.proofs.Common.{◌≡◌, drop}
use Rattle.effect_cells.specs.Folded.{folded_is_on}
use Rattle.effect_cells.specs.Touched.{flagged_from}
use Rattle.effect_cells.proofs.Flags.{any_is_on}
use Rattle.effect_cells.proofs.touching.+flag.Given as goal

-- with the items that are left, the flags come to what the tree makes of them
abbrev pub invariant-flag_tree-loop-part : goal.invariant-flag_tree-loop-part
invariant-flag_tree-loop-part l = flagged_from (any_is_on (drop l.part-index l.part-items)) 0 l.flags ≡ flagged_from (folded_is_on l.tree) 0 l.initial.flags
