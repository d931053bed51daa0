-- The steps of the walk that gathers a tree on all cells.
use Rattle.std.proofs.lemmas.List.Sums.{sum_by-cons}
use Rattle.std.specs.List.{list_all, sum}
use Rattle.std.proofs.Common.{◌≡◌, ℕ, zero, suc, ◌+◌, ◌-◌, ◌<◌, ◌≤◌, List, [], ◌∷◌, length, get_or, map, drop, Bool, true, false, ◌&&◌, Option, Result, Ok, Err, OnOk, nat_eq, if◌then◌else◌, refl, sym, ap, ◌∙◌, arith, drop-cons}
use Rattle.std.proofs.lemmas.Bool.{false≢true}
use Rattle.effect_cells.specs.Worth.{magnitude, in_front, items_worth, part_fits, tree_fits}
use Rattle.effect_cells.specs.Folded.{folded_worth, folded_part_worth, folded_magnitude, folded_part_magnitude, folded_part_fits, folded_fits}
use Rattle.effect_cells.specs.Cells.{accepts}
use Rattle.effect_cells.specs.Gathered.{Gathered, IsReady, IsGathered, CanGather, HasRoom}
use Rattle.effect_cells.specs.declared.effects.Effect.{Effect}
use Rattle.effect_cells.specs.declared.effects.CellState.{CellState}
use Rattle.effect_cells.specs.declared.trees.Part.{Part, Emit, Child}
use Rattle.effect_cells.specs.declared.trees.Tree.{Tree, fold_out-Tree}
use Rattle.effect_cells.proofs.GatheredEffects.{child_is_beside, same_gathered}
use Rattle.effect_cells.proofs.GatheringAll.{accepted}
use Rattle.effect_cells.proofs.GatheringTree.{emit_worth, child_worth, emit_magnitude, child_magnitude, emit_fits, child_fits}

-- ---- an effect

emit_accepted : (cells : List CellState) (part : Part) (on : ℕ) (e : Effect) → part ≡ Emit on e → folded_part_fits (accepts cells) part ≡ true → accepts cells on e ≡ true
emit_accepted cells part on e is ok = sym (emit_fits (accepts cells) on e) ∙ (rw is at ok)

pub can_emit : (cells : List CellState) (part : Part) (on : ℕ) (e : Effect) (gathered : Gathered) → part ≡ Emit on e → folded_part_fits (accepts cells) part ≡ true →
    IsReady cells gathered → HasRoom (folded_part_magnitude part) gathered → CanGather on e gathered
can_emit cells part on e gathered is ok ready room =
    let inside : on < length gathered.pending = rw ready.same ((accepted cells on e (emit_accepted cells part on e is ok)).0) in
    let size : folded_part_magnitude part ≡ magnitude e = ap folded_part_magnitude is ∙ emit_magnitude on e in
    record { within = inside; small = rw (← size) (room on inside) }

-- what is gathered with an effect is gathered with the part that it is
pub emit_gathers : {E : Type 0} (cells : List CellState) (entered_at : ℕ) (part : Part) (on : ℕ) (e : Effect) (old new : Gathered) (result : Result (Unit {0}) E) → part ≡ Emit on e →
    folded_part_fits (accepts cells) part ≡ true →
    OnOk result ((cells : List CellState) (worth : ℕ → Option Effect) (size : ℕ) (before : Gathered) → accepts cells on e ≡ true → before.clock ≡ entered_at →
    IsGathered cells worth size before old → IsGathered cells (λ cell. if nat_eq on cell then in_front e (worth cell) else worth cell) (magnitude e + size) before new) →
    OnOk result ((before : Gathered) (behind : ℕ → Option Effect) (size : ℕ) → before.clock ≡ entered_at → IsGathered cells behind size before old →
    IsGathered cells (λ cell. folded_part_worth part cell (behind cell)) (folded_part_magnitude part + size) before new)
emit_gathers cells entered_at part on e old new (Err error) is ok h = tt
emit_gathers cells entered_at part on e old new (Ok done) is ok h = λ before behind size entered g.
    same_gathered cells _ _ _ _ before new
    (λ cell. sym (ap (λ (p : Part). folded_part_worth p cell (behind cell)) is ∙ emit_worth on e cell (behind cell)))
    (ap (λ n. n + size) (sym (ap folded_part_magnitude is ∙ emit_magnitude on e)))
    (h cells behind size before (emit_accepted cells part on e is ok) entered g)

-- ---- a child

pub child_kinds : (cells : List CellState) (part : Part) (t : Tree) → part ≡ Child t → folded_part_fits (accepts cells) part ≡ true → folded_fits (accepts cells) t ≡ true
child_kinds cells part t is ok = sym (child_fits (accepts cells) t) ∙ (rw is at ok)

pub child_gathers : {E : Type 0} (cells : List CellState) (entered_at : ℕ) (part : Part) (t : Tree) (old new : Gathered) (result : Result (Unit {0}) E) → part ≡ Child t →
    OnOk result (IsGathered cells (folded_worth t) (folded_magnitude t) old new) →
    OnOk result ((before : Gathered) (behind : ℕ → Option Effect) (size : ℕ) → before.clock ≡ entered_at → IsGathered cells behind size before old →
    IsGathered cells (λ cell. folded_part_worth part cell (behind cell)) (folded_part_magnitude part + size) before new)
child_gathers cells entered_at part t old new (Err error) is h = tt
child_gathers cells entered_at part t old new (Ok done) is h = λ before behind size entered g.
    same_gathered cells _ _ _ _ before new
    (λ cell. sym (ap (λ (p : Part). folded_part_worth p cell (behind cell)) is ∙ child_worth t cell (behind cell)))
    (ap (λ n. n + size) (sym (ap folded_part_magnitude is ∙ child_magnitude t)))
    (child_is_beside cells behind (folded_worth t) size (folded_magnitude t) before old new g h)

-- ---- the items of a tree

first_true : (a b : Bool) → (a && b) ≡ true → a ≡ true
first_true true b ok = refl
first_true false b ok = absurd (false≢true ok)

second_true : (a b : Bool) → (a && b) ≡ true → b ≡ true
second_true true b ok = ok
second_true false b ok = absurd (false≢true ok)

each_fits : (f : Part → Bool) (parts : List Part) (i : ℕ) (p : Part) → list_all (λ flag. flag) (map f parts) ≡ true → i < length parts → p ≡ get_or parts i p → f p ≡ true
each_fits f [] i p ok within e = absurd (omega arith)
each_fits f (x ∷ xs) zero p ok within e = rw e (first_true (f x) (list_all (λ flag. flag) (map f xs)) ok)
each_fits f (x ∷ xs) (suc i) p ok within e = each_fits f xs i p (second_true (f x) (list_all (λ flag. flag) (map f xs)) ok) (omega arith) e

pub item_fits : (accepted : ℕ → Effect → Bool) (t : Tree) (parts : List Part) (i : ℕ) (p : Part) → parts ≡ t.items → folded_fits accepted t ≡ true → i < length parts → p ≡ get_or parts i p →
    folded_part_fits accepted p ≡ true
item_fits accepted t parts i p k ok within e =
    each_fits (folded_part_fits accepted) parts i p (rw k (sym (fold_out-Tree Bool Bool (part_fits accepted) tree_fits t) ∙ ok)) within e

from_item : (parts : List Part) (left i : ℕ) (p : Part) → left ≡ suc i → left ≤ length parts → p ≡ get_or parts i p → drop i parts ≡ p ∷ drop left parts
from_item parts left i p k h e = rw k (drop-cons parts i p (omega arith) ∙ ap (λ (q : Part). q ∷ drop (suc i) parts) (sym e))

-- one more item is gathered
pub item_gathers : (cells : List CellState) (parts : List Part) (left : ℕ) (p : Part) (before after : Gathered) → 0 < left → left ≤ length parts →
    p ≡ get_or parts (left - 1) p →
    IsGathered cells (λ cell. folded_part_worth p cell (items_worth (map folded_part_worth (drop left parts)) cell))
    (folded_part_magnitude p + sum (map folded_part_magnitude (drop left parts))) before after →
    IsGathered cells (λ cell. items_worth (map folded_part_worth (drop (left - 1) parts)) cell) (sum (map folded_part_magnitude (drop (left - 1) parts))) before after
item_gathers cells parts left p before after some within e g =
    let from : drop (left - 1) parts ≡ p ∷ drop left parts = from_item parts left (left - 1) p (omega arith) within e in
    let more : sum (map folded_part_magnitude (p ∷ drop left parts)) ≡ folded_part_magnitude p + sum (map folded_part_magnitude (drop left parts)) =
    sum_by-cons (λ n. n) (folded_part_magnitude p) (map folded_part_magnitude (drop left parts)) in
    let gathered : IsGathered cells (λ cell. items_worth (map folded_part_worth (p ∷ drop left parts)) cell)
    (sum (map folded_part_magnitude (p ∷ drop left parts))) before after = rw more g in
    rw from gathered
