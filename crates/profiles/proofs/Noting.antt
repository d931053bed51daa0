-- The positions of touching instants by cell, once one more instant is known.
use Rattle.std.proofs.Common.{◌≡◌, ℕ, zero, suc, ◌+◌, ◌-◌, ◌<◌, ◌≤◌, Bool, true, false, cond, ◌||◌, List, [], ◌∷◌, ◌++◌, length, take, drop, get_or, slice_set, Option, Some, None, is_some, nat_eq, slice_get, refl, sym, ap, subst, ◌∙◌, arith, add-one, append_assoc}
use Rattle.std.proofs.Math.Seq.{take-suc}
use Rattle.std.proofs.lemmas.Bool.{false≢true, eqb-true, ne_eqb}
use Rattle.std.proofs.lemmas.Bool.Decides.{nat_tests}
use Rattle.std.proofs.lemmas.List.{drop_all, length-take-le, take_all}
use Rattle.effect_cells.specs.declared.effects.CellState.{CellState}
use Rattle.run_data.specs.declared.runs.Instant.{Instant}
use Rattle.profiles.specs.States.{RiseFrom, unless_later, changed_state}
use Rattle.profiles.specs.Followed.{ChangesRise}
use Rattle.profiles.specs.Touches.{AreTouching, HasNotedPosition, merge, position_pushed_at, touching, touching_from}
use Rattle.profiles.proofs.FoundStates.{Changed, later_from}

no_more : (l : List ℕ) → l ++ [] ≡ l
no_more [] = refl
no_more (x ∷ l) = ap (λ m. x ∷ m) (no_more l)

-- ---- one position more

pub pushed_is : (by_cell : List (List ℕ)) (cell at : ℕ) (positions : List ℕ) → cell < length by_cell → positions ≡ get_or by_cell cell positions →
    slice_set by_cell cell (positions ++ at ∷ []) ≡ position_pushed_at by_cell cell at
pushed_is [] cell at positions within is = absurd (omega arith)
pushed_is (first ∷ rest) zero at positions within is = ap (λ p. (p ++ at ∷ []) ∷ rest) is
pushed_is (first ∷ rest) (suc cell) at positions within is = ap (λ l. first ∷ l) (pushed_is rest cell at positions (omega arith) is)

pub not_pushed : (by_cell : List (List ℕ)) (cell at : ℕ) → length by_cell ≤ cell → by_cell ≡ position_pushed_at by_cell cell at
not_pushed [] cell at past = refl
not_pushed (first ∷ rest) zero at past = absurd (omega arith)
not_pushed (first ∷ rest) (suc cell) at past = ap (λ l. first ∷ l) (not_pushed rest cell at (omega arith))

pushed_count : (by_cell : List (List ℕ)) (cell at : ℕ) → length (position_pushed_at by_cell cell at) ≡ length by_cell
pushed_count [] cell at = refl
pushed_count (first ∷ rest) zero at = refl
pushed_count (first ∷ rest) (suc cell) at = ap suc (pushed_count rest cell at)

pushed_there : (by_cell : List (List ℕ)) (cell at k : ℕ) (positions : List ℕ) → slice_get by_cell k ≡ Some positions →
    slice_get (position_pushed_at by_cell cell at) k ≡ Some (positions ++ cond (nat_eq cell k) (at ∷ []) [])
pushed_there [] cell at k positions is = absurd (cc)
pushed_there (first ∷ rest) zero at zero positions is = let same : first ≡ positions = cc in ap (λ p. Some (p ++ at ∷ [])) same
pushed_there (first ∷ rest) zero at (suc k) positions is =
    let apart : nat_eq 0 (suc k) ≡ false = grind (arith, nat_tests) in
    is ∙ (ap Some (sym (no_more positions)) ∙ ap (λ b. Some (positions ++ cond b (at ∷ []) [])) (sym apart))
pushed_there (first ∷ rest) (suc cell) at zero positions is =
    let apart : nat_eq (suc cell) 0 ≡ false = grind (arith, nat_tests) in
    is ∙ (ap Some (sym (no_more positions)) ∙ ap (λ b. Some (positions ++ cond b (at ∷ []) [])) (sym apart))
pushed_there (first ∷ rest) (suc cell) at (suc k) positions is = pushed_there rest cell at k positions is ∙ ap (λ b. Some (positions ++ cond b (at ∷ []) [])) (by (nat_eq cell k) refl)
  where
    by : (b : Bool) → nat_eq cell k ≡ b → nat_eq cell k ≡ nat_eq (suc cell) (suc k)
    by b e = grind (arith, nat_tests)

-- ---- the cells of an instant

either_there : (one other : Option CellState) → is_some (unless_later one other) ≡ (is_some one || is_some other)
either_there None other = refl
either_there (Some state) other = refl

changed_more : (changed : Changed) (entry : ℕ × CellState) (k : ℕ) → is_some (changed_state (changed ++ entry ∷ []) k) ≡ (is_some (changed_state changed k) || nat_eq entry.0 k)
changed_more [] entry k = by (nat_eq entry.0 k)
  where
    by : (b : Bool) → is_some (cond b (Some entry.1) None) ≡ b
    by true = refl
    by false = refl
changed_more (first ∷ rest) entry k =
    either_there (changed_state (rest ++ entry ∷ []) k) (cond (nat_eq first.0 k) (Some first.1) None)
    ∙ (ap (λ b. b || is_some (cond (nat_eq first.0 k) (Some first.1) None)) (changed_more rest entry k)
    ∙ (exchanged (is_some (changed_state rest k)) (nat_eq entry.0 k) (is_some (cond (nat_eq first.0 k) (Some first.1) None))
    ∙ ap (λ b. b || nat_eq entry.0 k) (sym (either_there (changed_state rest k) (cond (nat_eq first.0 k) (Some first.1) None)))))
  where
    exchanged : (a b c : Bool) → ((a || b) || c) ≡ ((a || c) || b)
    exchanged true b c = refl
    exchanged false true true = refl
    exchanged false true false = refl
    exchanged false false true = refl
    exchanged false false false = refl

-- none of those before has the number of one that rises
none_before : (from : ℕ) (changed : Changed) (i : ℕ) (d : ℕ × CellState) → RiseFrom from changed → i < length changed → changed_state (take i changed) (get_or changed i d).0 ≡ None
none_before from [] i d rise within = absurd (omega arith)
none_before from (first ∷ rest) zero d rise within = refl
none_before from (first ∷ rest) (suc i) d rise within =
    let later : first.0 + 1 ≤ (get_or rest i d).0 = later_from (first.0 + 1) rest i d rise.1 (omega arith) in
    ap (λ o. unless_later o (cond (nat_eq first.0 (get_or rest i d).0) (Some first.1) None)) (none_before (first.0 + 1) rest i d rise.1 (omega arith))
    ∙ ap (λ b. cond b (Some first.1) None) (ne_eqb first.0 (get_or rest i d).0 (λ same. absurd (omega (arith, later, same))))

pub none_noted : (at : ℕ) (before : List (List ℕ)) → HasNotedPosition [] at before before
none_noted at before = record { count = refl; each = λ cell positions is. is ∙ ap Some (sym (no_more positions)) }

pub noted_more : (changed : Changed) (i at : ℕ) (entry : ℕ × CellState) (before middle after : List (List ℕ)) → RiseFrom 0 changed → i < length changed →
    entry ≡ get_or changed i entry → HasNotedPosition (take i changed) at before middle → after ≡ position_pushed_at middle entry.0 at → HasNotedPosition (take (i + 1) changed) at before after
noted_more changed i at entry before middle after rise within is noted put = record {
  count = ap length put ∙ (pushed_count middle entry.0 at ∙ noted.count);
  each = λ k positions there.
      ap (λ (l : List (List ℕ)). slice_get l k) put
      ∙ (pushed_there middle entry.0 at k (positions ++ cond (is_some (changed_state (take i changed) k)) (at ∷ []) []) (noted.each k positions there)
      ∙ ap Some (append_assoc positions (cond (is_some (changed_state (take i changed) k)) (at ∷ []) []) (cond (nat_eq entry.0 k) (at ∷ []) [])
      ∙ ap (λ l. positions ++ l) (by k (is_some (changed_state (take i changed) k)) refl (nat_eq entry.0 k) refl ∙ ap (λ b. cond b (at ∷ []) []) (sym (more k)))));
}
  where
    next : take i changed ++ entry ∷ [] ≡ take (i + 1) changed
    next = ap (λ x. take i changed ++ x ∷ []) is ∙ sym (rw add-one (take-suc changed i entry within))

    more : (k : ℕ) → is_some (changed_state (take (i + 1) changed) k) ≡ (is_some (changed_state (take i changed) k) || nat_eq entry.0 k)
    more k = ap (λ (l : Changed). is_some (changed_state l k)) (sym next) ∙ changed_more (take i changed) entry k

    none : (k : ℕ) → nat_eq entry.0 k ≡ true → changed_state (take i changed) k ≡ None
    none k e =
        ap (changed_state (take i changed)) (sym (eqb-true entry.0 k e) ∙ ap (λ (x : ℕ × CellState). x.0) is) ∙ none_before 0 changed i entry rise within

    by : (k : ℕ) (a : Bool) → is_some (changed_state (take i changed) k) ≡ a → (b : Bool) → nat_eq entry.0 k ≡ b →
        cond a (at ∷ []) [] ++ cond b (at ∷ []) [] ≡ cond (a || b) (at ∷ []) []
    by k true e true f = absurd (false≢true (ap is_some (sym (none k f)) ∙ e))
    by k true e false f = refl
    by k false e b f = refl

-- ---- instants

long : (l : List (List ℕ)) → length (l ++ [] ∷ []) ≡ length l + 1
long [] = refl
long (x ∷ l) = let further = long l in omega (arith, further)

place : (l : List (List ℕ)) (cell : ℕ) → ((k : ℕ) → k < length l → slice_get l k ≡ Some []) → cell < length l + 1 → slice_get (l ++ [] ∷ []) cell ≡ Some []
place [] zero all within = refl
place [] (suc cell) all within = absurd (omega (arith, within))
place (x ∷ l) zero all within = all 0 (omega arith)
place (x ∷ l) (suc cell) all within = place l cell (λ k below. all (suc k) (omega (arith, below))) (omega (arith, within))

pub none_touching : (count : ℕ) (by_cell : List (List ℕ)) → AreTouching [] count by_cell → AreTouching [] (count + 1) (by_cell ++ [] ∷ [])
none_touching count by_cell are = record {
  count = long by_cell ∙ ap (λ n. n + 1) are.count;
  each = λ cell within. place by_cell cell (λ k below. are.each k (let same = are.count in omega (arith, below, same))) (let same = are.count in omega (arith, within, same));
}

touching_more : (cell at : ℕ) (instants : List Instant) (instant : Instant) →
    touching_from cell at (instants ++ instant ∷ []) ≡ touching_from cell at instants ++ cond (is_some (changed_state instant.changed cell)) ((at + length instants) ∷ []) []
touching_more cell at [] instant =
    let none : at + 0 ≡ at = omega arith in ap (λ n. cond (is_some (changed_state instant.changed cell)) (n ∷ []) []) (sym none)
touching_more cell at (first ∷ rest) instant = by (is_some (changed_state first.changed cell)) (touching_more cell (suc at) rest instant)
  where
    count : suc at + length rest ≡ at + suc (length rest)
    count = omega arith

    by : (b : Bool) → touching_from cell (suc at) (rest ++ instant ∷ []) ≡
        touching_from cell (suc at) rest ++ cond (is_some (changed_state instant.changed cell)) ((suc at + length rest) ∷ []) [] →
        cond b (at ∷ touching_from cell (suc at) (rest ++ instant ∷ [])) (touching_from cell (suc at) (rest ++ instant ∷ [])) ≡
        cond b (at ∷ touching_from cell (suc at) rest) (touching_from cell (suc at) rest) ++ cond (is_some (changed_state instant.changed cell)) ((at + suc (length rest)) ∷ []) []
    by true further =
        ap (λ l. at ∷ l) further ∙ ap (λ n. at ∷ touching_from cell (suc at) rest ++ cond (is_some (changed_state instant.changed cell)) (n ∷ []) []) count
    by false further = further ∙ ap (λ n. touching_from cell (suc at) rest ++ cond (is_some (changed_state instant.changed cell)) (n ∷ []) []) count

pub touching_next : (instants : List Instant) (at : ℕ) (instant : Instant) (cells : ℕ) (before after : List (List ℕ)) → at < length instants → instant ≡ get_or instants at instant →
    AreTouching (take at instants) cells before → HasNotedPosition instant.changed at before after → AreTouching (take (at + 1) instants) cells after
touching_next instants at instant cells before after within is are noted = record {
  count = noted.count ∙ are.count;
  each = λ cell below.
      noted.each cell (touching (take at instants) cell) (are.each cell below)
      ∙ ap Some (ap (λ n. touching (take at instants) cell ++ cond (is_some (changed_state instant.changed cell)) (n ∷ []) []) count
      ∙ (sym (touching_more cell 0 (take at instants) instant) ∙ ap (λ (l : List Instant). touching l cell) next));
}
  where
    long : length (take at instants) ≡ at
    long = length-take-le at instants (omega (arith, within))

    count : at ≡ 0 + length (take at instants)
    count = let same = long in omega (arith, same)

    next : take at instants ++ instant ∷ [] ≡ take (at + 1) instants
    next = ap (λ x. take at instants ++ x ∷ []) is ∙ sym (rw add-one (take-suc instants at instant within))

-- each instant lists the cells that it changed in order
pub rise_at : (instants : List Instant) (i : ℕ) (instant : Instant) → ChangesRise instants → i < length instants → instant ≡ get_or instants i instant → RiseFrom 0 instant.changed
rise_at [] i instant rise within is = absurd (omega (arith, within))
rise_at (first ∷ rest) zero instant rise within is = subst (λ (x : Instant). RiseFrom 0 x.changed) (sym is) rise.0
rise_at (first ∷ rest) (suc i) instant rise within is = rise_at rest i instant rise.1 (omega (arith, within)) is

-- ---- merging

merge_none : (positions : List ℕ) → merge positions [] ≡ positions
merge_none [] = refl
merge_none (position ∷ positions) = refl

drop_long : (l : List ℕ) (k : ℕ) → length (drop k l) ≤ length l - k
drop_long [] zero = omega arith
drop_long [] (suc k) = omega arith
drop_long (x ∷ l) zero = omega arith
drop_long (x ∷ l) (suc k) = let further = drop_long l k in omega (arith, further)

-- the rest from a place on
pub rest_is : (l : List ℕ) (k : ℕ) → take (length l - k) (drop k l) ≡ drop k l
rest_is l k = take_all (length l - k) (drop k l) (drop_long l k)

-- once one of both is at its end, what is left of the other follows
pub merged_first : (made one other : List ℕ) (at beside : ℕ) → length one ≤ at → (made ++ drop at one) ++ drop beside other ≡ made ++ merge (drop at one) (drop beside other)
merged_first made one other at beside past =
    let none : drop at one ≡ [] = drop_all at one past in
    ap (λ l. (made ++ l) ++ drop beside other) none
    ∙ (ap (λ l. l ++ drop beside other) (no_more made) ∙ ap (λ l. made ++ merge l (drop beside other)) (sym none))

pub merged_second : (made one other : List ℕ) (at beside : ℕ) → length other ≤ beside → (made ++ drop at one) ++ drop beside other ≡ made ++ merge (drop at one) (drop beside other)
merged_second made one other at beside past =
    let none : drop beside other ≡ [] = drop_all beside other past in
    ap (λ l. (made ++ drop at one) ++ l) none
    ∙ (no_more (made ++ drop at one) ∙ (ap (λ l. made ++ l) (sym (merge_none (drop at one))) ∙ ap (λ l. made ++ merge (drop at one) l) (sym none)))
