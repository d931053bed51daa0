-- Flags by cell of what a tree has an effect on.
use Rattle.std.specs.List.{list_any}
use Rattle.std.proofs.Common.{◌≡◌, ℕ, zero, suc, ◌+◌, ◌<◌, ◌≤◌, Bool, true, false, ◌||◌, List, [], ◌∷◌, map, drop, length, get_or, set, nat_eq, refl, ap, sym, ◌∙◌, arith}
use Rattle.std.proofs.Math.Bool.{or_assoc, or-false}
use Rattle.std.proofs.lemmas.Bool.Decides.{nat_tests}
use Rattle.effect_cells.specs.Worth.{part_is_on, tree_is_on}
use Rattle.effect_cells.specs.Folded.{folded_is_on, folded_part_is_on}
use Rattle.effect_cells.specs.Touched.{flagged_from}
use Rattle.effect_cells.specs.declared.effects.Effect.{Effect}
use Rattle.effect_cells.specs.declared.trees.Part.{Part, Emit, Child, fold_out-Part, out-Part}
use Rattle.effect_cells.specs.declared.trees.Part.TheViews.{outs-Child}
use Rattle.effect_cells.specs.declared.trees.Tree.{Tree, fold_out-Tree}
use denote.Hole.Carrier.{out}

-- the flags of one test and then of another
pub both_flags : (f g : ℕ → Bool) (from : ℕ) (flags : List Bool) → flagged_from g from (flagged_from f from flags) ≡ flagged_from (λ cell. f cell || g cell) from flags
both_flags f g from [] = refl
both_flags f g from (flag ∷ rest) = λ i. or_assoc flag (f from) (g from) i ∷ both_flags f g (from + 1) rest i

-- a test that none passes
pub no_flags : (from : ℕ) (flags : List Bool) → flagged_from (λ cell. false) from flags ≡ flags
no_flags from [] = refl
no_flags from (flag ∷ rest) = λ i. or-false flag i ∷ no_flags (from + 1) rest i

past_flag : (on from : ℕ) (flags : List Bool) → on < from → flagged_from (nat_eq on) from flags ≡ flags
past_flag on from [] past = refl
past_flag on from (flag ∷ rest) past =
    let other : nat_eq on from ≡ false = grind (arith, nat_tests) in
    rw other (λ i. or-false flag i ∷ past_flag on (from + 1) rest (omega arith) i)

flag_at : (on from k : ℕ) (flags : List Bool) → on ≡ from + k → flagged_from (nat_eq on) from flags ≡ set flags k true
flag_at on from k [] e = refl
flag_at on from zero (true ∷ rest) e = ap (λ (others : List Bool). true ∷ others) (past_flag on (from + 1) rest (omega arith))
flag_at on from zero (false ∷ rest) e =
    let here : nat_eq on from ≡ true = grind (arith, nat_tests) in
    rw here (ap (λ (others : List Bool). true ∷ others) (past_flag on (from + 1) rest (omega arith)))
flag_at on from (suc k) (flag ∷ rest) e =
    let other : nat_eq on from ≡ false = grind (arith, nat_tests) in
    rw other (λ i. or-false flag i ∷ flag_at on (from + 1) k rest (omega arith) i)

-- one cell alone
pub one_flag : (on : ℕ) (flags : List Bool) → flagged_from (nat_eq on) 0 flags ≡ set flags on true
one_flag on flags = flag_at on 0 on flags (omega arith)

-- a flag past the last changes nothing
pub set_past : (flags : List Bool) (on : ℕ) → length flags ≤ on → set flags on true ≡ flags
set_past [] on past = refl
set_past (flag ∷ rest) zero past = absurd (omega arith)
set_past (flag ∷ rest) (suc on) past = ap (λ (others : List Bool). flag ∷ others) (set_past rest on (omega arith))

-- ---- parts and trees

emit_is_on : (on : ℕ) (e : Effect) (cell : ℕ) → folded_part_is_on (Emit on e) cell ≡ nat_eq on cell
unfolding out-Part out
emit_is_on on e cell = fold_out-Part Bool Bool (part_is_on cell) tree_is_on (Emit on e)

child_is_on : (t : Tree) (cell : ℕ) → folded_part_is_on (Child t) cell ≡ folded_is_on t cell
child_is_on t cell = rw (fold_out-Part, outs-Child) refl

pub flags_of_emit : (part : Part) (on : ℕ) (e : Effect) (flags : List Bool) → part ≡ Emit on e → flagged_from (folded_part_is_on part) 0 flags ≡ set flags on true
flags_of_emit part on e flags is =
    ap (λ (p : Part). flagged_from (folded_part_is_on p) 0 flags) is
    ∙ (λ i. flagged_from (λ cell. emit_is_on on e cell i) 0 flags)
    ∙ one_flag on flags

pub flags_of_child : (part : Part) (t : Tree) (flags : List Bool) → part ≡ Child t → flagged_from (folded_part_is_on part) 0 flags ≡ flagged_from (folded_is_on t) 0 flags
flags_of_child part t flags is =
    ap (λ (p : Part). flagged_from (folded_part_is_on p) 0 flags) is
    ∙ (λ i. flagged_from (λ cell. child_is_on t cell i) 0 flags)

-- whether some item from one on has an effect on a cell
abbrev pub any_is_on : List Part → ℕ → Bool
any_is_on parts cell = list_any (λ flag. flag) (map (λ p. folded_part_is_on p cell) parts)

pub tree_is : (t : Tree) (cell : ℕ) → any_is_on t.items cell ≡ folded_is_on t cell
tree_is t cell = sym (fold_out-Tree Bool Bool (part_is_on cell) tree_is_on t)

pub starts_with_all : (t : Tree) (parts : List Part) (flags : List Bool) → parts ≡ t.items → flagged_from (any_is_on parts) 0 flags ≡ flagged_from (folded_is_on t) 0 flags
starts_with_all t parts flags is =
    ap (λ (ps : List Part). flagged_from (any_is_on ps) 0 flags) is ∙ (λ i. flagged_from (λ cell. tree_is t cell i) 0 flags)

-- one more item is flagged
pub one_more_part : (parts : List Part) (i : ℕ) (p : Part) (flags whole : List Bool) → i < length parts → p ≡ get_or parts i p →
    flagged_from (any_is_on (drop i parts)) 0 flags ≡ whole →
    flagged_from (any_is_on (drop (i + 1) parts)) 0 (flagged_from (folded_part_is_on p) 0 flags) ≡ whole
one_more_part [] i p flags whole within e h = absurd (omega arith)
one_more_part (q ∷ qs) zero p flags whole within e h =
    both_flags (folded_part_is_on p) (any_is_on qs) 0 flags
    ∙ ap (λ (r : Part). flagged_from (λ cell. folded_part_is_on r cell || any_is_on qs cell) 0 flags) e
    ∙ h
one_more_part (q ∷ qs) (suc i) p flags whole within e h =
    let next : suc i + 1 ≡ suc (i + 1) = omega arith in rw next (one_more_part qs i p flags whole (omega arith) e h)

pub done_with_all : (parts : List Part) (flags whole : List Bool) (n : ℕ) → n ≡ length parts → flagged_from (any_is_on (drop n parts)) 0 flags ≡ whole → flags ≡ whole
done_with_all [] flags whole zero e h = sym (no_flags 0 flags) ∙ h
done_with_all [] flags whole (suc n) e h = absurd (omega arith)
done_with_all (q ∷ qs) flags whole zero e h = absurd (omega arith)
done_with_all (q ∷ qs) flags whole (suc n) e h = done_with_all qs flags whole n (omega arith) h
