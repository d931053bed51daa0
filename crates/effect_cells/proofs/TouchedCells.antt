-- The cells that a tree touches: they alone have anything pending, so that a commit looks at them alone.
use Rattle.std.proofs.Common.{◌≡◌, ◌≢◌, ℕ, zero, suc, ◌+◌, ◌<◌, ◌≤◌, Bool, true, false, ◌||◌, List, [], ◌∷◌, ◌++◌, length, get_or, set, drop, Option, Some, None, is_some, nat_eq, nat_lt, min, refl, sym, ap, ◌∙◌, arith, get_or-set_other, get_or-set_same}
use Rattle.std.proofs.lemmas.Bool.{false≢true}
use Rattle.std.proofs.lemmas.Bool.Decides.{nat_tests}
use Rattle.std.proofs.lemmas.List.{length-set}
use Rattle.effect_cells.specs.Sums.{sum_limit}
use Rattle.effect_cells.specs.Worth.{magnitude_if_any}
use Rattle.effect_cells.specs.States.{applied_if_any, is_in_range}
use Rattle.effect_cells.specs.Cells.{first_out_from, AreInRange}
use Rattle.effect_cells.specs.Pending.{with_pending, AreSmallPending}
use Rattle.effect_cells.specs.Gathering.{pending_at, state_at, AreBlank}
use Rattle.effect_cells.specs.TouchedCells.{is_cell_among, CoversPending, Touches, lower, lowest, is_good_at}
use Rattle.effect_cells.specs.declared.effects.Effect.{Effect}
use Rattle.effect_cells.specs.declared.effects.CellState.{CellState}
use Rattle.effect_cells.specs.declared.pending.Pending.{Pending}
use Rattle.effect_cells.proofs.InRange.{first_is, rest_is, each_is}

-- ---- which cells are among some

pub same_number : (a b : ℕ) → nat_eq a b ≡ true → b ≡ a
same_number a b e = grind (arith, nat_tests)

other_number : (a b : ℕ) → nat_eq a b ≡ false → b ≢ a
other_number a b e = grind (arith, nat_tests)

pub itself : (a : ℕ) → nat_eq a a ≡ true
itself a = grind (arith, nat_tests)

pub or_right : (a b : Bool) → b ≡ true → (a || b) ≡ true
or_right true b e = refl
or_right false b e = e

pub or_left : (a b : Bool) → a ≡ true → (a || b) ≡ true
or_left true b e = refl
or_left false b e = absurd (false≢true e)

pub among_at : (xs : List ℕ) (i : ℕ) → i < length xs → is_cell_among (get_or xs i 0) xs ≡ true
among_at [] i within = absurd (omega arith)
among_at (x ∷ xs) zero within = or_left (nat_eq x x) (is_cell_among x xs) (itself x)
among_at (x ∷ xs) (suc i) within = or_right (nat_eq x (get_or xs i 0)) (is_cell_among (get_or xs i 0) xs) (among_at xs i (omega arith))

pub listed_within : (touched : List ℕ) (pending : List Pending) (i at : ℕ) → Touches touched pending → i < length touched → at ≡ get_or touched i 0 → at < length pending
listed_within touched pending i at t within e = rw e (t.within (get_or touched i 0) (among_at touched i within))

pub among_last : (x : ℕ) (xs : List ℕ) → is_cell_among x (xs ++ x ∷ []) ≡ true
among_last x [] = or_left (nat_eq x x) false (itself x)
among_last x (y ∷ ys) = or_right (nat_eq y x) (is_cell_among x (ys ++ x ∷ [])) (among_last x ys)

among_front : (c x : ℕ) (xs : List ℕ) → is_cell_among c xs ≡ true → is_cell_among c (xs ++ x ∷ []) ≡ true
among_front c x [] e = absurd (false≢true e)
among_front c x (y ∷ ys) e = go (nat_eq y c) e (among_front c x ys)
  where
    go : (v : Bool) → (v || is_cell_among c ys) ≡ true → (is_cell_among c ys ≡ true → is_cell_among c (ys ++ x ∷ []) ≡ true) → (v || is_cell_among c (ys ++ x ∷ [])) ≡ true
    go true h further = refl
    go false h further = further h

among_back : (c x : ℕ) (xs : List ℕ) (P : Type 0) → is_cell_among c (xs ++ x ∷ []) ≡ true → (is_cell_among c xs ≡ true → P) → (c ≡ x → P) → P
among_back c x [] P e front last = go (nat_eq x c) refl e
  where
    go : (v : Bool) → nat_eq x c ≡ v → (v || false) ≡ true → P
    go true t h = last (same_number x c t)
    go false t h = absurd (false≢true h)
among_back c x (y ∷ ys) P e front last = go (nat_eq y c) refl e (λ h. among_back c x ys P h (λ r. front (or_right (nat_eq y c) (is_cell_among c ys) r)) last)
  where
    go : (v : Bool) → nat_eq y c ≡ v → (v || is_cell_among c (ys ++ x ∷ [])) ≡ true → (is_cell_among c (ys ++ x ∷ []) ≡ true → P) → P
    go true t h further = front (or_left (nat_eq y c) (is_cell_among c ys) t)
    go false t h further = further h

default_state : (cells : List CellState) (i : ℕ) (d : CellState) → i < length cells → state_at cells i ≡ get_or cells i d
default_state [] i d within = absurd (omega arith)
default_state (x ∷ xs) zero d within = refl
default_state (x ∷ xs) (suc i) d within = default_state xs i d (omega arith)

pub default_pending : (pending : List Pending) (i : ℕ) (d : Pending) → i < length pending → pending_at pending i ≡ get_or pending i d
default_pending [] i d within = absurd (omega arith)
default_pending (x ∷ xs) zero d within = refl
default_pending (x ∷ xs) (suc i) d within = default_pending xs i d (omega arith)

-- ---- what is touched

pub nothing_touched : (pending : List Pending) → AreBlank pending → Touches [] pending
nothing_touched pending blank = record {
  covers = λ cell within some. let none : is_some (pending_at pending cell).effect ≡ false = rw (blank cell within) refl in absurd (false≢true (sym none ∙ some));
  within = λ cell among. absurd (false≢true among);
}

pub touches_push : (xs : List ℕ) (x : ℕ) (pending : List Pending) → x < length pending → Touches xs pending → Touches (xs ++ x ∷ []) pending
touches_push xs x pending inside t = record {
  covers = λ cell within some. among_front cell x xs (t.covers cell within some);
  within = λ cell among. among_back cell x xs (cell < length pending) among (λ e. t.within cell e) (λ e. rw e inside);
}

pub touches_set : (xs : List ℕ) (on : ℕ) (one : Pending) (pending : List Pending) → is_cell_among on xs ≡ true → Touches xs pending → Touches xs (set pending on one)
touches_set xs on one pending listed t = record {
  covers = λ cell within some. covers_one cell (omega (arith, within, length-set pending on one)) some (nat_eq on cell) refl;
  within = λ cell among. omega (arith, t.within cell among, length-set pending on one);
}
  where
    covers_one : (cell : ℕ) → cell < length pending → is_some (pending_at (set pending on one) cell).effect ≡ true → (v : Bool) → nat_eq on cell ≡ v → is_cell_among cell xs ≡ true
    covers_one cell within some true e = let here : cell ≡ on = same_number on cell e in rw here listed
    covers_one cell within some false e =
        let elsewhere : cell ≢ on = other_number on cell e in
        let same : pending_at (set pending on one) cell ≡ pending_at pending cell = rw get_or-set_other refl in
        t.covers cell within (rw (← same) some)

-- one more cell on which nothing is pending
pub blank_more : (pending : List Pending) (one : Pending) → one.effect ≡ None → AreBlank pending → AreBlank (pending ++ one ∷ [])
blank_more [] one nothing blank zero within = nothing
blank_more [] one nothing blank (suc cell) within = absurd (omega arith)
blank_more (x ∷ xs) one nothing blank zero within = blank 0 (omega arith)
blank_more (x ∷ xs) one nothing blank (suc cell) within = blank_more xs one nothing (λ i below. blank (suc i) (omega arith)) cell (omega arith)

-- ---- one cell after another is done with

from_one : (xs : List ℕ) (i : ℕ) → i < length xs → drop i xs ≡ get_or xs i 0 ∷ drop (i + 1) xs
from_one [] i within = absurd (omega arith)
from_one (x ∷ xs) zero within = refl
from_one (x ∷ xs) (suc i) within = let next : suc i + 1 ≡ suc (i + 1) = omega arith in rw next (from_one xs i (omega arith))

covers_step : (rest : List ℕ) (c : ℕ) (none : Pending) (pending : List Pending) → c < length pending → none.effect ≡ None →
    CoversPending (c ∷ rest) pending → CoversPending rest (set pending c none)
covers_step rest c none pending inside nothing covers cell below some = go (nat_eq c cell) refl
  where
    below_old : cell < length pending
    below_old = omega (arith, below, length-set pending c none)

    go : (v : Bool) → nat_eq c cell ≡ v → is_cell_among cell rest ≡ true
    go true e =
        let here : cell ≡ c = same_number c cell e in
        let at : pending_at (set pending c none) cell ≡ none = rw (here, get_or-set_same) refl in
        let blank : is_some (pending_at (set pending c none) cell).effect ≡ false = rw (at, nothing) refl in
        absurd (false≢true (sym blank ∙ some))
    go false e =
        let elsewhere : cell ≢ c = other_number c cell e in
        let same : pending_at (set pending c none) cell ≡ pending_at pending cell = rw get_or-set_other refl in
        let among : is_cell_among cell (c ∷ rest) ≡ true = covers cell below_old (rw (← same) some) in
        rw e at among

pub covers_more : (xs : List ℕ) (i c : ℕ) (none : Pending) (pending : List Pending) → i < length xs → c ≡ get_or xs i 0 → c < length pending → none.effect ≡ None →
    CoversPending (drop i xs) pending → CoversPending (drop (i + 1) xs) (set pending c none)
covers_more xs i c none pending within e inside nothing covers =
    let first : drop i xs ≡ c ∷ drop (i + 1) xs = from_one xs i within ∙ ap (λ (n : ℕ). n ∷ drop (i + 1) xs) (sym e) in
    covers_step (drop (i + 1) xs) c none pending inside nothing (rw first at covers)

pub covers_none : (xs : List ℕ) (n : ℕ) (pending : List Pending) → n ≡ length xs → CoversPending (drop n xs) pending → AreBlank pending
covers_none xs n pending last covers cell within = go (pending_at pending cell).effect refl
  where
    past : (xs : List ℕ) (n : ℕ) → n ≡ length xs → drop n xs ≡ []
    past [] zero e = refl
    past [] (suc n) e = refl
    past (x ∷ xs) zero e = absurd (omega arith)
    past (x ∷ xs) (suc n) e = past xs n (omega arith)

    go : (o : Option Effect) → (pending_at pending cell).effect ≡ o → (pending_at pending cell).effect ≡ None
    go None e = e
    go (Some x) e =
        let some : is_some (pending_at pending cell).effect ≡ true = rw e refl in
        let among : is_cell_among cell (drop n xs) ≡ true = covers cell within some in
        absurd (false≢true (rw (past xs n last) at among))

-- ---- cells with what is pending

pub length_with : (states : List CellState) (pending : List Pending) → length (with_pending states pending) ≡ length states
length_with [] pending = refl
length_with (x ∷ xs) [] = refl
length_with (x ∷ xs) (y ∷ ys) = ap suc (length_with xs ys)

-- where nothing is pending the cells stay
pub nothing_changes : (states : List CellState) (pending : List Pending) → length pending ≡ length states → AreBlank pending → with_pending states pending ≡ states
nothing_changes [] pending same blank = refl
nothing_changes (x ∷ xs) [] same blank = refl
nothing_changes (x ∷ xs) (y ∷ ys) same blank =
    let here : y.effect ≡ None = blank 0 (omega arith) in
    rw here (ap (λ (rest : List CellState). x ∷ rest) (nothing_changes xs ys (omega arith) (λ cell within. blank (suc cell) (omega arith))))

-- what is pending on a cell may be put on it at once
pub put_at_once : (states : List CellState) (pending : List Pending) (c : ℕ) (d next : CellState) (e none : Pending) → length pending ≡ length states → c < length states →
    next ≡ applied_if_any (get_or states c d) (get_or pending c e).effect → none.effect ≡ None →
    with_pending (set states c next) (set pending c none) ≡ with_pending states pending
put_at_once [] pending c d next e none same within n nothing = absurd (omega arith)
put_at_once (x ∷ xs) [] c d next e none same within n nothing = absurd (omega arith)
put_at_once (x ∷ xs) (y ∷ ys) zero d next e none same within n nothing = rw (nothing, n) refl
put_at_once (x ∷ xs) (y ∷ ys) (suc c) d next e none same within n nothing =
    ap (λ (rest : List CellState). applied_if_any x y.effect ∷ rest) (put_at_once xs ys c d next e none (omega arith) (omega arith) n nothing)

with_pending_at : (states : List CellState) (pending : List Pending) (c : ℕ) (d next : CellState) (e : Pending) → length pending ≡ length states → c < length states →
    next ≡ applied_if_any (get_or states c d) (get_or pending c e).effect → next ≡ get_or (with_pending states pending) c next
with_pending_at [] pending c d next e same within n = absurd (omega arith)
with_pending_at (x ∷ xs) [] c d next e same within n = absurd (omega arith)
with_pending_at (x ∷ xs) (y ∷ ys) zero d next e same within n = n
with_pending_at (x ∷ xs) (y ∷ ys) (suc c) d next e same within n = with_pending_at xs ys c d next e (omega arith) (omega arith) n

in_range_set : (from : ℕ) (cells : List CellState) (c : ℕ) (state : CellState) → first_out_from from cells ≡ None → is_in_range state ≡ true → first_out_from from (set cells c state) ≡ None
in_range_set from [] c state none good = refl
in_range_set from (x ∷ xs) zero state none good = rw good (rest_is from x xs none)
in_range_set from (x ∷ xs) (suc c) state none good =
    let first : is_in_range x ≡ true = first_is from x xs none in
    rw first (in_range_set (from + 1) xs c state (rest_is from x xs none) good)

-- a cell that is put stays in range, where all are with what is pending
pub range_more : (states : List CellState) (pending : List Pending) (c : ℕ) (d next : CellState) (e : Pending) → length pending ≡ length states → c < length states →
    next ≡ applied_if_any (get_or states c d) (get_or pending c e).effect → AreInRange states → AreInRange (with_pending states pending) → AreInRange (set states c next)
range_more states pending c d next e same within n range all =
    in_range_set 0 states c next range
    (each_is 0 (with_pending states pending) c next all (omega (arith, length_with states pending, within)) (with_pending_at states pending c d next e same within n))

pub small_more : (pending : List Pending) (c : ℕ) (none : Pending) → c < length pending → none.effect ≡ None → AreSmallPending pending → AreSmallPending (set pending c none)
small_more pending c none inside nothing small cell one within e = go (nat_eq c cell) refl
  where
    within_old : cell < length pending
    within_old = omega (arith, within, length-set pending c none)

    go : (v : Bool) → nat_eq c cell ≡ v → magnitude_if_any one.effect < sum_limit
    go true t =
        let here : cell ≡ c = same_number c cell t in
        let is : one ≡ none = e ∙ (rw (here, get_or-set_same) refl) in
        let nothing_here : one.effect ≡ None = ap (λ (p : Pending). p.effect) is ∙ nothing in
        rw nothing_here (omega arith)
    go false t =
        let elsewhere : cell ≢ c = other_number c cell t in
        let same : get_or (set pending c none) cell one ≡ get_or pending cell one = rw get_or-set_other refl in
        small cell one within_old (e ∙ same)

-- ---- the first cell out of range

pub one_looked_at : (good : ℕ → Bool) (xs : List ℕ) (i : ℕ) (found whole : Option ℕ) → i < length xs → lowest good found (drop i xs) ≡ whole →
    lowest good (lower found (get_or xs i 0) (good (get_or xs i 0))) (drop (i + 1) xs) ≡ whole
one_looked_at good [] i found whole within h = absurd (omega arith)
one_looked_at good (x ∷ xs) zero found whole within h = h
one_looked_at good (x ∷ xs) (suc i) found whole within h = let next : suc i + 1 ≡ suc (i + 1) = omega arith in rw next (one_looked_at good xs i found whole (omega arith) h)

pub all_looked_at : (good : ℕ → Bool) (xs : List ℕ) (n : ℕ) (found whole : Option ℕ) → n ≡ length xs → lowest good found (drop n xs) ≡ whole → found ≡ whole
all_looked_at good [] zero found whole e h = h
all_looked_at good [] (suc n) found whole e h = absurd (omega arith)
all_looked_at good (x ∷ xs) zero found whole e h = absurd (omega arith)
all_looked_at good (x ∷ xs) (suc n) found whole e h = all_looked_at good xs n found whole (omega arith) h

-- where none is found, all are good
lowest_none : (good : ℕ → Bool) (xs : List ℕ) (found : Option ℕ) → lowest good found xs ≡ None → (found ≡ None) × ((cell : ℕ) → is_cell_among cell xs ≡ true → good cell ≡ true)
lowest_none good [] found h = (h, λ cell among. absurd (false≢true among))
lowest_none good (x ∷ xs) found h =
    let rest = lowest_none good xs (lower found x (good x)) h in
    let here : good x ≡ true = good_here found (good x) refl rest.0 in
    (before found (good x) here rest.0, λ cell among. each cell here rest.1 (nat_eq x cell) refl among)
  where
    good_here : (found : Option ℕ) (v : Bool) → good x ≡ v → lower found x v ≡ None → good x ≡ true
    good_here found true e n = e
    good_here None false e n = absurd (cc)
    good_here (Some f) false e n = absurd (cc)

    before : (found : Option ℕ) (v : Bool) → v ≡ true → lower found x v ≡ None → found ≡ None
    before found true e n = n
    before found false e n = absurd (false≢true e)

    each : (cell : ℕ) → good x ≡ true → ((cell : ℕ) → is_cell_among cell xs ≡ true → good cell ≡ true) → (v : Bool) → nat_eq x cell ≡ v → (v || is_cell_among cell xs) ≡ true → good cell ≡ true
    each cell here rest true e among = let same : cell ≡ x = same_number x cell e in rw same here
    each cell here rest false e among = rest cell among

-- what is found has what all have that are not good
lowest_has : (Q : ℕ → Type 0) (good : ℕ → Bool) (xs : List ℕ) (found : Option ℕ) → ((f : ℕ) → found ≡ Some f → Q f) →
    ((x : ℕ) → is_cell_among x xs ≡ true → good x ≡ false → Q x) → (c : ℕ) → lowest good found xs ≡ Some c → Q c
lowest_has Q good [] found before each c h = before c h
lowest_has Q good (x ∷ xs) found before each c h =
    lowest_has Q good xs (lower found x (good x)) (λ f e. now found (good x) refl before f e)
    (λ y among bad. each y (or_right (nat_eq x y) (is_cell_among y xs) among) bad) c h
  where
    first : good x ≡ false → Q x
    first bad = each x (or_left (nat_eq x x) (is_cell_among x xs) (itself x)) bad

    now : (found : Option ℕ) (v : Bool) → good x ≡ v → ((f : ℕ) → found ≡ Some f → Q f) → (f : ℕ) → lower found x v ≡ Some f → Q f
    now found true e old f h = old f h
    now None false e old f h = let same : x ≡ f = (cc) in rw (← same) (first e)
    now (Some g) false e old f h =
        let same : min g x ≡ f = (cc) in
        lesser g f same (nat_lt g x) refl (old g refl) (first e)
      where
        lesser : (g f : ℕ) → min g x ≡ f → (v : Bool) → nat_lt g x ≡ v → Q g → Q x → Q f
        lesser g f m true t a b = let is : f ≡ g = grind (arith, nat_tests) in rw is a
        lesser g f m false t a b = let is : f ≡ x = grind (arith, nat_tests) in rw is b

-- and none that is not good is lower
lowest_least : (good : ℕ → Bool) (xs : List ℕ) (found : Option ℕ) (c : ℕ) → lowest good found xs ≡ Some c →
    ((cell : ℕ) → is_cell_among cell xs ≡ true → good cell ≡ false → c ≤ cell) × ((f : ℕ) → found ≡ Some f → c ≤ f)
lowest_least good [] found c h = (λ cell among bad. absurd (false≢true among), λ f e. let same : c ≡ f = (cc) in omega arith)
lowest_least good (x ∷ xs) found c h =
    let rest = lowest_least good xs (lower found x (good x)) c h in
    (λ cell among bad. each cell bad rest.0 rest.1 found (nat_eq x cell) refl among, λ f e. before found (good x) rest.1 f e)
  where
    before : (found : Option ℕ) (v : Bool) → ((f : ℕ) → lower found x v ≡ Some f → c ≤ f) → (f : ℕ) → found ≡ Some f → c ≤ f
    before found true rest f e = rest f e
    before None false rest f e = absurd (cc)
    before (Some g) false rest f e = let same : g ≡ f = (cc) in let low : c ≤ min g x = rest (min g x) refl in omega arith

    here : (found : Option ℕ) (v : Bool) → v ≡ false → ((f : ℕ) → lower found x v ≡ Some f → c ≤ f) → c ≤ x
    here found true e rest = absurd (false≢true (sym e))
    here None false e rest = rest x refl
    here (Some g) false e rest = let low : c ≤ min g x = rest (min g x) refl in omega arith

    each : (cell : ℕ) → good cell ≡ false → ((cell : ℕ) → is_cell_among cell xs ≡ true → good cell ≡ false → c ≤ cell) →
        ((f : ℕ) → lower found x (good x) ≡ Some f → c ≤ f) → (found_ : Option ℕ) → (v : Bool) → nat_eq x cell ≡ v → (v || is_cell_among cell xs) ≡ true → c ≤ cell
    each cell bad rest low found_ true e among =
        let same : cell ≡ x = same_number x cell e in
        let bad_here : good x ≡ false = rw (← same) bad in
        rw same (here found (good x) bad_here low)
    each cell bad rest low found_ false e among = rest cell among bad

-- ---- the first cell out of range

none_out : (from : ℕ) (cells : List CellState) → ((i : ℕ) → i < length cells → is_in_range (state_at cells i) ≡ true) → first_out_from from cells ≡ None
none_out from [] all = refl
none_out from (x ∷ xs) all =
    let here : is_in_range x ≡ true = all 0 (omega arith) in
    rw here (none_out (from + 1) xs (λ i within. all (suc i) (omega arith)))

out_at : (from : ℕ) (cells : List CellState) (c : ℕ) → c < length cells → is_in_range (state_at cells c) ≡ false → ((i : ℕ) → i < c → is_in_range (state_at cells i) ≡ true) →
    first_out_from from cells ≡ Some (from + c)
out_at from [] c within bad all = absurd (omega arith)
out_at from (x ∷ xs) zero within bad all = let start : from + 0 ≡ from = omega arith in rw (bad, start) refl
out_at from (x ∷ xs) (suc c) within bad all =
    let here : is_in_range x ≡ true = all 0 (omega arith) in
    let next : from + 1 + c ≡ from + suc c = omega arith in
    rw (here, ← next) (out_at (from + 1) xs c (omega arith) bad (λ i below. all (suc i) (omega arith)))

state_with : (states : List CellState) (pending : List Pending) (i : ℕ) → length pending ≡ length states → i < length states →
    state_at (with_pending states pending) i ≡ applied_if_any (state_at states i) (pending_at pending i).effect
state_with [] pending i same within = absurd (omega arith)
state_with (x ∷ xs) [] i same within = absurd (omega arith)
state_with (x ∷ xs) (y ∷ ys) zero same within = refl
state_with (x ∷ xs) (y ∷ ys) (suc i) same within = state_with xs ys i (omega arith) (omega arith)

-- the lowest of some cells that is not good is the first of all that is out of range, where all others are good
first_of_all : (cells : List CellState) (good : ℕ → Bool) (touched : List ℕ) → ((i : ℕ) → i < length cells → is_in_range (state_at cells i) ≡ good i) →
    ((i : ℕ) → i < length cells → is_cell_among i touched ≡ false → good i ≡ true) → ((i : ℕ) → is_cell_among i touched ≡ true → i < length cells) →
    lowest good None touched ≡ first_out_from 0 cells
first_of_all cells good touched is_good others within = go (lowest good None touched) refl
  where
    every : (i : ℕ) → i < length cells → ((cell : ℕ) → is_cell_among cell touched ≡ true → good cell ≡ true) → (v : Bool) → is_cell_among i touched ≡ v → good i ≡ true
    every i inside all true a = all i a
    every i inside all false a = others i inside a

    lower_good : (i c : ℕ) → i < length cells → i < c → ((cell : ℕ) → is_cell_among cell touched ≡ true → good cell ≡ false → c ≤ cell) →
        (v : Bool) → good i ≡ v → (w : Bool) → is_cell_among i touched ≡ w → good i ≡ true
    lower_good i c inside below least true g w a = g
    lower_good i c inside below least false g true a = absurd (omega (arith, least i a g))
    lower_good i c inside below least false g false a = others i inside a

    nothing_before : (Q : ℕ → Type 0) (f : ℕ) → None ≡ Some f → Q f
    nothing_before Q f n = absurd (cc)

    go : (o : Option ℕ) → lowest good None touched ≡ o → lowest good None touched ≡ first_out_from 0 cells
    go None e =
        let all = (lowest_none good touched None e).1 in
        e ∙ sym (none_out 0 cells (λ i inside. is_good i inside ∙ every i inside all (is_cell_among i touched) refl))
    go (Some c) e =
        let inside : c < length cells = lowest_has (λ (n : ℕ). n < length cells) good touched None (nothing_before _) (λ x among bad. within x among) c e in
        let bad : good c ≡ false = lowest_has (λ (n : ℕ). good n ≡ false) good touched None (nothing_before _) (λ x among bad. bad) c e in
        let least = (lowest_least good touched None c e).0 in
        let first : first_out_from 0 cells ≡ Some (0 + c) =
        out_at 0 cells c inside (is_good c inside ∙ bad)
        (λ i below. let before : i < length cells = omega (arith, inside, below) in is_good i before ∙ lower_good i c before below least (good i) refl (is_cell_among i touched) refl) in
        let zeroth : 0 + c ≡ c = omega arith in
        e ∙ (λ j. Some (sym zeroth j)) ∙ sym first

-- where nothing is pending a cell is as it was
good_elsewhere : (states : List CellState) (pending : List Pending) (touched : List ℕ) (i : ℕ) → AreInRange states → CoversPending touched pending → i < length states → i < length pending →
    (o : Option Effect) → (pending_at pending i).effect ≡ o → is_cell_among i touched ≡ false → is_good_at states pending i ≡ true
good_elsewhere states pending touched i range covers within inside None e out =
    rw e (each_is 0 states i (state_at states i) range within (default_state states i _ within))
good_elsewhere states pending touched i range covers within inside (Some x) e out =
    let some : is_some (pending_at pending i).effect ≡ true = rw e refl in
    absurd (false≢true (sym out ∙ covers i inside some))

-- the lowest of the touched cells that is not good is the first of all cells that is out of range
pub lowest_is_first : (states : List CellState) (pending : List Pending) (touched : List ℕ) → length pending ≡ length states → AreInRange states → Touches touched pending →
    lowest (is_good_at states pending) None touched ≡ first_out_from 0 (with_pending states pending)
lowest_is_first states pending touched same range t =
    first_of_all (with_pending states pending) (is_good_at states pending) touched
    (λ i within. ap is_in_range (state_with states pending i same (omega (arith, within, length_with states pending))))
    (λ i within out.
    let inside : i < length states = omega (arith, within, length_with states pending) in
    good_elsewhere states pending touched i range t.covers inside (omega (arith, same, inside)) (pending_at pending i).effect refl out)
    (λ i among. omega (arith, t.within i among, same, length_with states pending))

-- one more cell is looked at
pub next_found : (states : List CellState) (pending : List Pending) (touched : List ℕ) (i at : ℕ) (state next_state : CellState) (one : Pending) (good : Bool) (first next whole : Option ℕ) →
    length pending ≡ length states → i < length touched → at < length states → at ≡ get_or touched i 0 → state ≡ get_or states at state → one ≡ get_or pending at one →
    next_state ≡ applied_if_any state one.effect → good ≡ is_in_range next_state → next ≡ lower first (get_or touched i 0) good →
    lowest (is_good_at states pending) first (drop i touched) ≡ whole → lowest (is_good_at states pending) next (drop (i + 1) touched) ≡ whole
next_found states pending touched i at state next_state one good first next whole same within inside e s p n g f h =
    let inside_pending : at < length pending = omega (arith, same, inside) in
    let here : state_at states at ≡ state = default_state states at state inside ∙ sym s in
    let there : pending_at pending at ≡ one = default_pending pending at one inside_pending ∙ sym p in
    let is : good ≡ is_good_at states pending (get_or touched i 0) =
    g ∙ ap is_in_range n ∙ (λ j. is_in_range (applied_if_any (sym here j) (sym there j).effect)) ∙ ap (is_good_at states pending) e in
    let found : next ≡ lower first (get_or touched i 0) (is_good_at states pending (get_or touched i 0)) = f ∙ ap (lower first (get_or touched i 0)) is in
    rw found (one_looked_at (is_good_at states pending) touched i first whole within h)
