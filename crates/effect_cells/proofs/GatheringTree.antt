-- A tree's items, and what they are worth.
use Rattle.std.proofs.Common.{◌≡◌, ℕ, Bool, Option, nat_eq, if◌then◌else◌, refl, ap}
use Rattle.effect_cells.specs.Worth.{Before, in_front, beside, magnitude, part_worth, tree_worth, part_magnitude, tree_magnitude, part_fits, tree_fits}
use Rattle.effect_cells.specs.Folded.{folded_worth, folded_part_worth, folded_magnitude, folded_part_magnitude, folded_part_fits, folded_fits}
use Rattle.effect_cells.specs.declared.effects.Effect.{Effect}
use Rattle.effect_cells.specs.declared.trees.Part.{Emit, Child, fold_out-Part, out-Part}
use Rattle.effect_cells.specs.declared.trees.Part.TheViews.{outs-Child}
use denote.Hole.Carrier.{out}
use Rattle.effect_cells.specs.declared.trees.Tree.{Tree}

pub emit_worth : (on : ℕ) (e : Effect) (cell : ℕ) (rest : Option Effect) → folded_part_worth (Emit on e) cell rest ≡ (if nat_eq on cell then in_front e rest else rest)
unfolding out-Part out
emit_worth on e cell rest = ap (λ (f : Before). f cell rest) (fold_out-Part Before (ℕ → Option Effect) part_worth tree_worth (Emit on e))

pub child_worth : (t : Tree) (cell : ℕ) (rest : Option Effect) → folded_part_worth (Child t) cell rest ≡ beside (folded_worth t cell) rest
child_worth t cell rest = rw (fold_out-Part, outs-Child) refl

pub emit_magnitude : (on : ℕ) (e : Effect) → folded_part_magnitude (Emit on e) ≡ magnitude e
unfolding out-Part out
emit_magnitude on e = fold_out-Part ℕ ℕ part_magnitude tree_magnitude (Emit on e)

pub child_magnitude : (t : Tree) → folded_part_magnitude (Child t) ≡ folded_magnitude t
child_magnitude t = rw (fold_out-Part, outs-Child) refl

pub emit_fits : (accepts : ℕ → Effect → Bool) (on : ℕ) (e : Effect) → folded_part_fits accepts (Emit on e) ≡ accepts on e
unfolding out-Part out
emit_fits accepts on e = fold_out-Part Bool Bool (part_fits accepts) tree_fits (Emit on e)

pub child_fits : (accepts : ℕ → Effect → Bool) (t : Tree) → folded_part_fits accepts (Child t) ≡ folded_fits accepts t
child_fits accepts t = rw (fold_out-Part, outs-Child) refl
