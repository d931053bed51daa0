-- Changed cells in order: the one with a number stands where those with smaller ones end, or there is none.
use Rattle.std.proofs.Common.{◌≡◌, ℕ, zero, suc, ◌+◌, ◌<◌, ◌≤◌, true, false, cond, List, [], ◌∷◌, length, get_or, Option, Some, None, nat_eq, nat_lt, refl, sym, ap, ◌∙◌, arith}
use Rattle.std.proofs.lemmas.Grind.{common_steps}
use Rattle.std.proofs.lemmas.Bool.{ne_eqb, ltb-true, ltb-false}
use Rattle.std.specs.List.Sorted.{IsPartitionedBy, IsPartitionPoint}
use Rattle.effect_cells.specs.declared.effects.CellState.{CellState}
use Rattle.profiles.specs.States.{RiseFrom, unless_later, changed_state}

abbrev pub Changed : Type 0
Changed = List (ℕ × CellState)

-- none of a smaller number is among them
none_from : (from cell : ℕ) (changed : Changed) → RiseFrom from changed → cell < from → changed_state changed cell ≡ None
none_from from cell [] rise below = refl
none_from from cell (entry ∷ rest) rise below =
    ap (λ o. unless_later o (cond (nat_eq entry.0 cell) (Some entry.1) None)) (none_from (entry.0 + 1) cell rest rise.1 (omega (arith, rise.0)))
    ∙ ap (λ b. cond b (Some entry.1) None) (ne_eqb entry.0 cell (λ same. absurd (omega (arith, rise.0))))

pub later_from : (from : ℕ) (changed : Changed) (k : ℕ) (d : ℕ × CellState) → RiseFrom from changed → k < length changed → from ≤ (get_or changed k d).0
later_from from [] k d rise within = absurd (omega arith)
later_from from (entry ∷ rest) zero d rise within = rise.0
later_from from (entry ∷ rest) (suc k) d rise within =
    let after : entry.0 + 1 ≤ (get_or rest k d).0 = later_from (entry.0 + 1) rest k d rise.1 (omega arith) in
    omega (arith, after, rise.0)

pub parted : (from cell : ℕ) (changed : Changed) → RiseFrom from changed → IsPartitionedBy (λ entry. nat_lt entry.0 cell) changed
parted from cell [] rise i j d before within less = absurd (omega arith)
parted from cell (entry ∷ rest) rise zero zero d before within less = less
parted from cell (entry ∷ rest) rise zero (suc j) d before within less =
    let after : entry.0 + 1 ≤ (get_or rest j d).0 = later_from (entry.0 + 1) rest j d rise.1 (omega arith) in
    grind (arith, common_steps)
parted from cell (entry ∷ rest) rise (suc i) zero d before within less = absurd (omega arith)
parted from cell (entry ∷ rest) rise (suc i) (suc j) d before within less = parted (entry.0 + 1) cell rest rise.1 i j d (omega arith) (omega arith) less

abbrev pub IsPoint : ℕ → Changed → ℕ → Type 0
IsPoint cell changed at = IsPartitionPoint (λ entry. nat_lt entry.0 cell ≡ true) (λ entry. nat_lt entry.0 cell ≡ false) changed at

unless_none : (o : Option CellState) → unless_later o None ≡ o
unless_none None = refl
unless_none (Some state) = refl

smaller_passed : (cell : ℕ) (entry : ℕ × CellState) (rest : Changed) → nat_lt entry.0 cell ≡ true → changed_state (entry ∷ rest) cell ≡ changed_state rest cell
smaller_passed cell entry rest less =
    let below : entry.0 < cell = ltb-true entry.0 cell less in
    ap (λ b. unless_later (changed_state rest cell) (cond b (Some entry.1) None)) (ne_eqb entry.0 cell (λ same. absurd (omega arith)))
    ∙ unless_none (changed_state rest cell)

at_point : (from cell : ℕ) (changed : Changed) (at : ℕ) (d : ℕ × CellState) → RiseFrom from changed → IsPoint cell changed at → at < length changed →
    cond (nat_eq (get_or changed at d).0 cell) (Some (get_or changed at d).1) None ≡ changed_state changed cell
at_point from cell [] at d rise point within = absurd (omega arith)
at_point from cell (entry ∷ rest) zero d rise point within =
    let not_less : nat_lt entry.0 cell ≡ false = point.1 0 d (omega arith) (omega arith) in
    let above : cell ≤ entry.0 = ltb-false entry.0 cell not_less in
    sym (ap (λ o. unless_later o (cond (nat_eq entry.0 cell) (Some entry.1) None)) (none_from (entry.0 + 1) cell rest rise.1 (omega arith)))
at_point from cell (entry ∷ rest) (suc at) d rise point within =
    at_point (entry.0 + 1) cell rest at d rise.1
    ((λ k e low high. point.0 (suc k) e (omega arith) (omega arith)), (λ k e low high. point.1 (suc k) e (omega arith) (omega arith))) (omega arith)
    ∙ sym (smaller_passed cell entry rest (point.0 0 d (omega arith) (omega arith)))

pub found_there : (cell : ℕ) (changed : Changed) (at : ℕ) (entry : ℕ × CellState) → RiseFrom 0 changed → IsPoint cell changed at → at < length changed →
    entry ≡ get_or changed at entry → cond (nat_eq entry.0 cell) (Some entry.1) None ≡ changed_state changed cell
found_there cell changed at entry rise point within is =
    ap (λ (e : ℕ × CellState). cond (nat_eq e.0 cell) (Some e.1) None) is ∙ at_point 0 cell changed at entry rise point within

pub found_none : (cell : ℕ) (changed : Changed) (at : ℕ) → IsPoint cell changed at → length changed ≤ at → None ≡ changed_state changed cell
found_none cell [] at point past = refl
found_none cell (entry ∷ rest) zero point past = absurd (omega arith)
found_none cell (entry ∷ rest) (suc at) point past =
    found_none cell rest at ((λ k e low high. point.0 (suc k) e (omega arith) (omega arith)), (λ k e low high. point.1 (suc k) e (omega arith) (omega arith))) (omega arith)
    ∙ sym (smaller_passed cell entry rest (point.0 0 entry (omega arith) (omega arith)))
