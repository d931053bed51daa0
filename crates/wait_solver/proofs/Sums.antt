-- A linear form is summed up term by term.
use Rattle.std.proofs.Common.{◌≡◌, ℕ, suc, ◌+◌, ◌<◌, pos, List, ◌∷◌, length, drop, get_or, ◌∙◌, arith, drop-cons}
use Rattle.std.proofs.lemmas.Int.{ints}
use Rattle.aerie_base.specs.declared.linear.Term.{Term}
use Rattle.effect_cells.specs.declared.effects.CellState.{CellState}
use Rattle.wait_solver.specs.Lines.{still, sum_of_lines, term_line, terms_line}
use Rattle.wait_solver.specs.declared.lines.Line.{Line}
use Rattle.wait_solver.proofs.FormLaws.{same_line}

pub sums_swapped : (a b : Line) → sum_of_lines a b ≡ sum_of_lines b a
sums_swapped a b = same_line (sum_of_lines a b) (sum_of_lines b a) (omega (arith, ints)) (omega (arith, ints))

pub sums_join : (a b c : Line) → sum_of_lines (sum_of_lines a b) c ≡ sum_of_lines a (sum_of_lines b c)
sums_join a b c = same_line (sum_of_lines (sum_of_lines a b) c) (sum_of_lines a (sum_of_lines b c)) (omega (arith, ints)) (omega (arith, ints))

pub and_nothing : (a : Line) → sum_of_lines a (still (pos 0)) ≡ a
and_nothing a = same_line (sum_of_lines a (still (pos 0))) a (omega (arith, ints)) (omega (arith, ints))

-- one term more, and the terms that are left
pub one_more : (cells : List CellState) (terms : List Term) (i : ℕ) (none : Term) (sum line whole : Line) → i < length terms → line ≡ term_line cells (get_or terms i none) →
    sum_of_lines sum (terms_line cells (drop i terms)) ≡ whole → sum_of_lines (sum_of_lines sum line) (terms_line cells (drop (i + 1) terms)) ≡ whole
one_more cells terms i none sum line whole within is before =
    let left : drop i terms ≡ get_or terms i none ∷ drop (i + 1) terms = (let next : i + 1 ≡ suc i = omega arith in rw next (drop-cons terms i none within)) in
    let there : sum_of_lines sum (sum_of_lines (term_line cells (get_or terms i none)) (terms_line cells (drop (i + 1) terms))) ≡ whole = rw left at before in
    rw is (sums_join sum (term_line cells (get_or terms i none)) (terms_line cells (drop (i + 1) terms)) ∙ there)
