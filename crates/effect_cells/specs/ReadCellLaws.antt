-- A file of lemmas: what it proves need not be read to trust a clause.
--
-- Which cells a condition reads, at each form.
use Rattle.std.specs.Prelude.{◌≡◌, ℕ, Bool, false, ◌||◌, refl}
use Rattle.aerie_base.specs.conditions.RecursionLaws.{gives-Not, gives-And, gives-Or}
use Rattle.aerie_base.specs.declared.conditions.Cond.{Cond, Literal, Flag, Same, Compare, Not, And, Or}
use Rattle.aerie_base.specs.declared.conditions.Simple.{Simple}
use Rattle.aerie_base.specs.declared.expressions.Comparison.{Comparison}
use Rattle.aerie_base.specs.declared.linear.Linear.{Linear}
use Rattle.aerie_base.specs.declared.operands.Operand.{Operand}
use Rattle.effect_cells.specs.ReadCells.{reads_operand, reads_side, reads_terms, reads_step, reads_cell}

-- ---- at each form

pub reads-Literal : (truth : Bool) → reads_cell (Literal truth) ≡ (λ cell. false)
unfolding reads_cell
reads-Literal truth = refl

pub reads-Flag : (operand : Operand) → reads_cell (Flag operand) ≡ reads_operand operand
unfolding reads_cell
reads-Flag operand = refl

pub reads-Same : (left right : Simple) (equal : Bool) → reads_cell (Same left right equal) ≡ (λ cell. reads_side left cell || reads_side right cell)
unfolding reads_cell
reads-Same left right equal = refl

pub reads-Compare : (left : Linear) (how : Comparison) (right : Linear) →
    reads_cell (Compare left how right) ≡ (λ cell. reads_terms left.terms cell || reads_terms right.terms cell)
unfolding reads_cell
reads-Compare left how right = refl

pub reads-Not : (part : Cond) → reads_cell (Not part) ≡ reads_cell part
unfolding reads_cell
reads-Not part = gives-Not (ℕ → Bool) (λ cell. false) reads_step part

pub reads-And : (left right : Cond) → reads_cell (And left right) ≡ (λ cell. reads_cell left cell || reads_cell right cell)
unfolding reads_cell
reads-And left right = gives-And (ℕ → Bool) (λ cell. false) reads_step left right

pub reads-Or : (left right : Cond) → reads_cell (Or left right) ≡ (λ cell. reads_cell left cell || reads_cell right cell)
unfolding reads_cell
reads-Or left right = gives-Or (ℕ → Bool) (λ cell. false) reads_step left right
