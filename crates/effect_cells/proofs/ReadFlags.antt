-- Flags by cell of what a condition reads.
use Rattle.std.proofs.Common.{◌≡◌, ℕ, zero, suc, ◌+◌, ◌<◌, Bool, ◌||◌, List, [], ◌∷◌, drop, length, get_or, ap, sym, ◌∙◌, arith}
use Rattle.aerie_base.specs.declared.conditions.Cond.{Cond, Not, And, Or}
use Rattle.aerie_base.specs.declared.linear.Term.{Term}
use Rattle.effect_cells.specs.ReadCells.{reads_operand, reads_terms, reads_cell, also_read}
use Rattle.effect_cells.specs.ReadCellLaws.{reads-Not, reads-And, reads-Or}
use Rattle.effect_cells.specs.Touched.{flagged_from}
use Rattle.effect_cells.proofs.Flags.{both_flags, no_flags}

-- the same test in other words
pub flags_by : (test whole : ℕ → Bool) (flags next : List Bool) → whole ≡ test → next ≡ flagged_from test 0 flags → next ≡ flagged_from whole 0 flags
flags_by test whole flags next is n = n ∙ (λ i. flagged_from (sym is i) 0 flags)

-- one test and then another
pub flags_after : (f g whole : ℕ → Bool) (flags first second : List Bool) → whole ≡ (λ cell. f cell || g cell) → first ≡ flagged_from f 0 flags → second ≡ flagged_from g 0 first →
    second ≡ flagged_from whole 0 flags
flags_after f g whole flags first second is a b =
    b ∙ ap (flagged_from g 0) a ∙ both_flags f g 0 flags ∙ (λ i. flagged_from (sym is i) 0 flags)

pub flags_of_not : (condition part got : Cond) (flags next : List Bool) → condition ≡ Not part → got ≡ part → next ≡ also_read got flags → next ≡ also_read condition flags
flags_of_not condition part got flags next is same n =
    flags_by (reads_cell got) (reads_cell condition) flags next (ap reads_cell is ∙ reads-Not part ∙ sym (ap reads_cell same)) n

either : (left right l r : Cond) → l ≡ left → r ≡ right → ◌≡◌ {A = ℕ → Bool} (λ cell. reads_cell left cell || reads_cell right cell) (λ cell. reads_cell l cell || reads_cell r cell)
either left right l r p q = λ i cell. reads_cell (sym p i) cell || reads_cell (sym q i) cell

pub flags_of_and : (condition left right l r : Cond) (flags first second : List Bool) → condition ≡ And left right → l ≡ left → r ≡ right →
    first ≡ also_read l flags → second ≡ also_read r first → second ≡ also_read condition flags
flags_of_and condition left right l r flags first second is p q a b =
    flags_after (reads_cell l) (reads_cell r) (reads_cell condition) flags first second (ap reads_cell is ∙ reads-And left right ∙ either left right l r p q) a b

pub flags_of_or : (condition left right l r : Cond) (flags first second : List Bool) → condition ≡ Or left right → l ≡ left → r ≡ right →
    first ≡ also_read l flags → second ≡ also_read r first → second ≡ also_read condition flags
flags_of_or condition left right l r flags first second is p q a b =
    flags_after (reads_cell l) (reads_cell r) (reads_cell condition) flags first second (ap reads_cell is ∙ reads-Or left right ∙ either left right l r p q) a b

-- one more term is flagged
pub one_more_term : (terms : List Term) (i : ℕ) (d : Term) (flags next whole : List Bool) → i < length terms →
    next ≡ flagged_from (reads_operand (get_or terms i d).operand) 0 flags → flagged_from (reads_terms (drop i terms)) 0 flags ≡ whole →
    flagged_from (reads_terms (drop (i + 1) terms)) 0 next ≡ whole
one_more_term [] i d flags next whole within n h = absurd (omega arith)
one_more_term (term ∷ rest) zero d flags next whole within n h =
    ap (flagged_from (reads_terms rest) 0) n ∙ both_flags (reads_operand term.operand) (reads_terms rest) 0 flags ∙ h
one_more_term (term ∷ rest) (suc i) d flags next whole within n h =
    let next_place : suc i + 1 ≡ suc (i + 1) = omega arith in rw next_place (one_more_term rest i d flags next whole (omega arith) n h)

pub done_with_terms : (terms : List Term) (flags whole : List Bool) (n : ℕ) → n ≡ length terms → flagged_from (reads_terms (drop n terms)) 0 flags ≡ whole → flags ≡ whole
done_with_terms [] flags whole zero e h = sym (no_flags 0 flags) ∙ h
done_with_terms [] flags whole (suc n) e h = absurd (omega arith)
done_with_terms (term ∷ rest) flags whole zero e h = absurd (omega arith)
done_with_terms (term ∷ rest) flags whole (suc n) e h = done_with_terms rest flags whole n (omega arith) h
