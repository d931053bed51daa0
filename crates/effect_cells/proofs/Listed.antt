-- The cells on which something is pending, listed in order.
use Rattle.std.proofs.Common.{◌≡◌, ℕ, zero, suc, ◌+◌, ◌<◌, ◌≤◌, Bool, true, false, List, [], ◌∷◌, ◌++◌, take, length, get_or, set, None, is_some, nat_eq, nat_lt, refl, sym, ap, ◌∙◌, arith}
use Rattle.std.proofs.lemmas.Bool.{false≢true, ltb-true, ltb-false}
use Rattle.std.specs.List.{insert}
use Rattle.std.specs.List.Sorted.{IsPartitionedBy, IsPartitionPoint}
use Rattle.effect_cells.specs.Worth.{worth_of}
use Rattle.effect_cells.specs.Gathering.{pending_at, AreBlank}
use Rattle.effect_cells.specs.Gathered.{listed_from}
use Rattle.effect_cells.specs.Touched.{touched_from}
use Rattle.effect_cells.specs.TouchedCells.{is_cell_among, Touches}
use Rattle.effect_cells.specs.declared.effects.CellState.{CellState}
use Rattle.effect_cells.specs.declared.pending.Pending.{Pending}
use Rattle.effect_cells.specs.declared.trees.Tree.{Tree}
use Rattle.effect_cells.proofs.TouchedCells.{or_left, or_right, itself, same_number, default_pending}

-- a cell with something pending is listed before the others, and one without is not
with_first : (from : ℕ) (one : Pending) (rest : List Pending) → is_some one.effect ≡ true → listed_from from (one ∷ rest) ≡ from ∷ listed_from (from + 1) rest
with_first from one rest some = rw some refl

without_first : (from : ℕ) (one : Pending) (rest : List Pending) → is_some one.effect ≡ false → listed_from from (one ∷ rest) ≡ listed_from (from + 1) rest
without_first from one rest none = rw none refl

-- ---- they rise

all_from : (from : ℕ) (pending : List Pending) (k d : ℕ) → k < length (listed_from from pending) → from ≤ get_or (listed_from from pending) k d
all_from from [] = λ k d within. absurd (omega arith)
all_from from (one ∷ rest) = go (λ k d within. all_from (from + 1) rest k d within) (is_some one.effect) refl
  where
    go : ((k d : ℕ) → k < length (listed_from (from + 1) rest) → from + 1 ≤ get_or (listed_from (from + 1) rest) k d) → (v : Bool) → is_some one.effect ≡ v →
        (k d : ℕ) → k < length (listed_from from (one ∷ rest)) → from ≤ get_or (listed_from from (one ∷ rest)) k d
    go next true e zero d within = rw (with_first from one rest e) (omega arith)
    go next true e (suc k) d within =
        let later : from + 1 ≤ get_or (listed_from (from + 1) rest) k d = next k d (omega (arith, (rw (with_first from one rest e) at within))) in
        rw (with_first from one rest e) (omega (arith, later))
    go next false e k d within =
        let later : from + 1 ≤ get_or (listed_from (from + 1) rest) k d = next k d (rw (without_first from one rest e) at within) in
        rw (without_first from one rest e) (omega (arith, later))

less_too : (from other cell : ℕ) → from < other → nat_lt other cell ≡ true → nat_lt from cell ≡ true
less_too from other cell above less = at_once (nat_lt from cell) refl
  where
    at_once : (v : Bool) → nat_lt from cell ≡ v → nat_lt from cell ≡ true
    at_once true e = e
    at_once false e =
        let below : other < cell = ltb-true other cell less in
        let past : cell ≤ from = ltb-false from cell e in
        absurd (omega arith)

-- those before a cell are in front of the others
pub parted : (cell from : ℕ) (pending : List Pending) → IsPartitionedBy (λ n. nat_lt n cell) (listed_from from pending)
parted cell from [] = λ i j d before within less. absurd (omega arith)
parted cell from (one ∷ rest) = go (parted cell (from + 1) rest) (is_some one.effect) refl
  where
    with_it : IsPartitionedBy (λ n. nat_lt n cell) (listed_from (from + 1) rest) → IsPartitionedBy (λ n. nat_lt n cell) (from ∷ listed_from (from + 1) rest)
    with_it next zero zero d before within less = less
    with_it next zero (suc j) d before within less =
        let above : from + 1 ≤ get_or (listed_from (from + 1) rest) j d = all_from (from + 1) rest j d (omega arith) in
        less_too from (get_or (listed_from (from + 1) rest) j d) cell (omega (arith, above)) less
    with_it next (suc i) zero d before within less = absurd (omega arith)
    with_it next (suc i) (suc j) d before within less = next i j d (omega arith) (omega arith) less

    go : IsPartitionedBy (λ n. nat_lt n cell) (listed_from (from + 1) rest) → (v : Bool) → is_some one.effect ≡ v → IsPartitionedBy (λ n. nat_lt n cell) (listed_from from (one ∷ rest))
    go next true e = rw (with_first from one rest e) (with_it next)
    go next false e = rw (without_first from one rest e) next

-- the place of a cell in a list of numbers that rise
abbrev pub IsPlace : ℕ → List ℕ → ℕ → Type 0
IsPlace cell listed at = (at ≤ length listed) × IsPartitionPoint (λ n. nat_lt n cell ≡ true) (λ n. nat_lt n cell ≡ false) listed at

behind_first : (first cell : ℕ) (rest : List ℕ) (at : ℕ) → IsPlace cell (first ∷ rest) (suc at) → IsPlace cell rest at
behind_first first cell rest at place =
    (omega (arith, place.0), ((λ n d low high. place.1.0 (suc n) d (omega arith) (omega arith)), (λ n d low high. place.1.1 (suc n) d (omega arith) (omega arith))))

-- a cell more has something pending
pub listed_more : (from cell : ℕ) (pending : List Pending) (i at : ℕ) (one : Pending) → cell ≡ from + i → i < length pending →
    is_some (pending_at pending i).effect ≡ false → is_some one.effect ≡ true → IsPlace cell (listed_from from pending) at →
    listed_from from (set pending i one) ≡ insert (listed_from from pending) at cell
listed_more from cell [] i at one k within none some place = absurd (omega arith)
listed_more from cell (y ∷ ys) zero at one k within none some place =
    rw (with_first from one ys some, without_first from y ys none) (in_front at (rw (without_first from y ys none) at place))
  where
    here : cell ≡ from
    here = omega (arith, k)

    in_front : (at : ℕ) → IsPlace cell (listed_from (from + 1) ys) at → from ∷ listed_from (from + 1) ys ≡ insert (listed_from (from + 1) ys) at cell
    in_front zero place = ap (λ (n : ℕ). n ∷ listed_from (from + 1) ys) (sym here)
    in_front (suc at) place =
        let below : get_or (listed_from (from + 1) ys) 0 0 < cell = ltb-true _ cell (place.1.0 0 0 (omega arith) (omega arith)) in
        let above : from + 1 ≤ get_or (listed_from (from + 1) ys) 0 0 = all_from (from + 1) ys 0 0 (omega (arith, place.0)) in
        absurd (omega (arith, below, above, here))
listed_more from cell (y ∷ ys) (suc i) at one k within none some place =
    go (λ at place. listed_more (from + 1) cell ys i at one (omega (arith, k)) (omega arith) none some place) (is_some y.effect) refl
  where
    behind : ((at : ℕ) → IsPlace cell (listed_from (from + 1) ys) at → listed_from (from + 1) (set ys i one) ≡ insert (listed_from (from + 1) ys) at cell) →
        (at : ℕ) → IsPlace cell (from ∷ listed_from (from + 1) ys) at → from ∷ listed_from (from + 1) (set ys i one) ≡ insert (from ∷ listed_from (from + 1) ys) at cell
    behind next zero place =
        let above : cell ≤ from = ltb-false from cell (place.1.1 0 0 (omega arith) (omega arith)) in
        absurd (omega (arith, above, k))
    behind next (suc at) place = ap (λ (rest : List ℕ). from ∷ rest) (next at (behind_first from cell (listed_from (from + 1) ys) at place))

    go : ((at : ℕ) → IsPlace cell (listed_from (from + 1) ys) at → listed_from (from + 1) (set ys i one) ≡ insert (listed_from (from + 1) ys) at cell) →
        (v : Bool) → is_some y.effect ≡ v → listed_from from (y ∷ set ys i one) ≡ insert (listed_from from (y ∷ ys)) at cell
    go next true e = rw (with_first from y (set ys i one) e, with_first from y ys e) (behind next at (rw (with_first from y ys e) at place))
    go next false e = rw (without_first from y (set ys i one) e, without_first from y ys e) (next at (rw (without_first from y ys e) at place))

-- a cell has something else pending
pub listed_again : (from : ℕ) (pending : List Pending) (i : ℕ) (one : Pending) → i < length pending →
    is_some (pending_at pending i).effect ≡ true → is_some one.effect ≡ true → listed_from from (set pending i one) ≡ listed_from from pending
listed_again from [] i one within there some = absurd (omega arith)
listed_again from (y ∷ ys) zero one within there some = with_first from one ys some ∙ sym (with_first from y ys there)
listed_again from (y ∷ ys) (suc i) one within there some = go (listed_again (from + 1) ys i one (omega arith) there some) (is_some y.effect) refl
  where
    go : listed_from (from + 1) (set ys i one) ≡ listed_from (from + 1) ys → (v : Bool) → is_some y.effect ≡ v → listed_from from (y ∷ set ys i one) ≡ listed_from from (y ∷ ys)
    go rest true e = with_first from y (set ys i one) e ∙ ap (λ (xs : List ℕ). from ∷ xs) rest ∙ sym (with_first from y ys e)
    go rest false e = without_first from y (set ys i one) e ∙ rest ∙ sym (without_first from y ys e)

-- ---- they are those that are touched

first_among : (cell first : ℕ) (rest : List ℕ) → cell ≡ first → is_cell_among cell (first ∷ rest) ≡ true
first_among cell first rest same = or_left (nat_eq first cell) (is_cell_among cell rest) (rw same (itself first))

covers_from : (from : ℕ) (pending : List Pending) (i : ℕ) → i < length pending → is_some (pending_at pending i).effect ≡ true → is_cell_among (from + i) (listed_from from pending) ≡ true
covers_from from [] i within some = absurd (omega arith)
covers_from from (y ∷ ys) zero within some =
    rw (with_first from y ys some) (first_among (from + 0) from (listed_from (from + 1) ys) (omega arith))
covers_from from (y ∷ ys) (suc i) within some =
    let next : from + suc i ≡ from + 1 + i = omega arith in
    go (rw next (covers_from (from + 1) ys i (omega arith) some)) (is_some y.effect) refl
  where
    go : is_cell_among (from + suc i) (listed_from (from + 1) ys) ≡ true → (v : Bool) → is_some y.effect ≡ v → is_cell_among (from + suc i) (listed_from from (y ∷ ys)) ≡ true
    go rest true e = rw (with_first from y ys e) (or_right (nat_eq from (from + suc i)) (is_cell_among (from + suc i) (listed_from (from + 1) ys)) rest)
    go rest false e = rw (without_first from y ys e) rest

within_from : (from : ℕ) (pending : List Pending) (cell : ℕ) → is_cell_among cell (listed_from from pending) ≡ true → cell < from + length pending
within_from from [] cell among = absurd (false≢true among)
within_from from (y ∷ ys) cell among = go (λ among. within_from (from + 1) ys cell among) (is_some y.effect) refl
  where
    one_of : (is_cell_among cell (listed_from (from + 1) ys) ≡ true → cell < from + 1 + length ys) → (v : Bool) → nat_eq from cell ≡ v →
        is_cell_among cell (from ∷ listed_from (from + 1) ys) ≡ true → cell < from + suc (length ys)
    one_of later true e among = let same : cell ≡ from = same_number from cell e in omega (arith, same)
    one_of later false e among = omega (arith, later (rw e at among))

    go : (is_cell_among cell (listed_from (from + 1) ys) ≡ true → cell < from + 1 + length ys) → (v : Bool) → is_some y.effect ≡ v → cell < from + suc (length ys)
    go later true e = one_of later (nat_eq from cell) refl (rw (with_first from y ys e) at among)
    go later false e = omega (arith, later (rw (without_first from y ys e) at among))

pub listed_touches : (listed : List ℕ) (pending : List Pending) → listed ≡ listed_from 0 pending → Touches listed pending
listed_touches listed pending is = rw is (record {
  covers = λ cell within some. let zeroth : 0 + cell ≡ cell = omega arith in rw (← zeroth) (covers_from 0 pending cell within some);
  within = λ cell among. omega (arith, within_from 0 pending cell among);
})

-- where nothing is pending none is listed
pub none_listed : (from : ℕ) (pending : List Pending) → AreBlank pending → listed_from from pending ≡ []
none_listed from [] blank = refl
none_listed from (y ∷ ys) blank =
    let here : y.effect ≡ None = blank 0 (omega arith) in
    without_first from y ys (ap is_some here) ∙ none_listed (from + 1) ys (λ cell within. blank (suc cell) (omega arith))

-- where the worth of a tree is pending, they are those on which the tree has an effect
pub listed_are : (from : ℕ) (tree : Tree) (cells : List CellState) (pending : List Pending) → length pending ≡ length cells →
    ((i : ℕ) → i < length pending → (pending_at pending i).effect ≡ worth_of tree (from + i)) → listed_from from pending ≡ touched_from from tree cells
listed_are from tree [] [] same each = refl
listed_are from tree [] (y ∷ ys) same each = absurd (omega arith)
listed_are from tree (x ∷ xs) [] same each = absurd (omega arith)
listed_are from tree (x ∷ xs) (y ∷ ys) same each =
    go (listed_are (from + 1) tree xs ys (omega arith) (λ i within. let next : from + suc i ≡ from + 1 + i = omega arith in each (suc i) (omega arith) ∙ ap (worth_of tree) next))
    (is_some y.effect) refl
  where
    here : is_some y.effect ≡ is_some (worth_of tree from)
    here = let start : from + 0 ≡ from = omega arith in ap is_some (each 0 (omega arith)) ∙ ap (λ n. is_some (worth_of tree n)) start

    go : listed_from (from + 1) ys ≡ touched_from (from + 1) tree xs → (v : Bool) → is_some y.effect ≡ v → listed_from from (y ∷ ys) ≡ touched_from from tree (x ∷ xs)
    go rest true e =
        let there : is_some (worth_of tree from) ≡ true = sym here ∙ e in
        with_first from y ys e ∙ ap (λ (xs : List ℕ). from ∷ xs) rest ∙ rw there refl
    go rest false e =
        let there : is_some (worth_of tree from) ≡ false = sym here ∙ e in
        without_first from y ys e ∙ rest ∙ rw there refl

-- ---- a cell is touched

there_is : (pending : List Pending) (cell at : ℕ) (one : Pending) (v : Bool) → at ≡ cell → cell < length pending → is_some (get_or pending at one).effect ≡ v →
    is_some (pending_at pending cell).effect ≡ v
there_is pending cell at one v k within some = rw (← k) (ap (λ (p : Pending). is_some p.effect) (default_pending pending at one (omega (arith, k, within))) ∙ some)

pub touched_again : (pending : List Pending) (cell at : ℕ) (one : Pending) (touched : List ℕ) → touched ≡ listed_from 0 pending → at ≡ cell → cell < length pending →
    is_some (get_or pending at one).effect ≡ true → (next : Pending) → is_some next.effect ≡ true → touched ≡ listed_from 0 (set pending cell next)
touched_again pending cell at one touched listed k within some next more =
    listed ∙ sym (listed_again 0 pending cell next within (there_is pending cell at one true k within some) more)

pub touched_more : (pending : List Pending) (cell at place : ℕ) (one : Pending) (touched after : List ℕ) → touched ≡ listed_from 0 pending → at ≡ cell → cell < length pending →
    is_some (get_or pending at one).effect ≡ false → IsPlace cell (listed_from 0 pending) place → after ≡ insert touched place cell →
    (next : Pending) → is_some next.effect ≡ true → after ≡ listed_from 0 (set pending cell next)
touched_more pending cell at place one touched after listed k within none there made next some =
    made ∙ ap (λ (xs : List ℕ). insert xs place cell) listed
    ∙ sym (listed_more 0 cell pending cell place next (omega arith) within (there_is pending cell at one false k within none) some there)

-- ---- nothing is pending any more

pub all_taken : {X : Type 0} (xs ys : List X) (n : ℕ) → n ≡ length xs → take n (xs ++ ys) ≡ xs
all_taken [] ys zero e = refl
all_taken [] ys (suc n) e = absurd (omega arith)
all_taken (x ∷ xs) ys zero e = absurd (omega arith)
all_taken (x ∷ xs) ys (suc n) e = ap (λ rest. x ∷ rest) (all_taken xs ys n (omega arith))

pub none_left : (touched : List ℕ) (pending others : List Pending) (n : ℕ) → touched ≡ [] → n ≡ length pending → AreBlank pending → touched ≡ listed_from 0 (take n (pending ++ others))
none_left touched pending others n none long blank = none ∙ sym (ap (listed_from 0) (all_taken pending others n long) ∙ none_listed 0 pending blank)
