-- What records hold once more were taken in.
use Rattle.std.proofs.Common.{◌≡◌, ℕ, zero, suc, ◌≤◌, Bool, true, false, ◌&&◌, ◌||◌, IsTrue, List, [], ◌∷◌, ◌++◌, length, take, Some, slice_get, if◌then◌else◌, ◌⊎◌, inl, inr, refl, ap, sym, subst, ◌∙◌, arith, length-append}
use Rattle.std.specs.List.{All, Contains, list_any}
use Rattle.std.proofs.lemmas.List.{take-append-le, take_all}
use Rattle.std.proofs.lemmas.List.Elements.{All-cons, All-push, All-head, All-tail, Contains-append_left, Contains-append_right, Contains-push_cases}
use Rattle.effect_cells.specs.declared.effects.CellState.{CellState}
use Rattle.run_data.specs.declared.frames.Record.{Record}
use Rattle.run_data.specs.declared.tasks.TaskState.{TaskState}
use Rattle.run_data.specs.Records.{same_task, same_reads}
use Rattle.run_data.specs.SameRecords.{same_tasks_are_equal, same_reads_are_equal}
use Rattle.record_book.specs.StoredSteps.{has_record, with_record, with_records, HasFirstOf, HasNoneTwice}
use Rattle.record_book.specs.laws.TakenIn.{TakenAreHeld, HeldStay, NoOthersAreHeld, NoneIsHeldTwice}

-- ---- tests

both_true : (a b : Bool) → a ≡ true → b ≡ true → (a && b) ≡ true
both_true true b h k = k
both_true false b h k = absurd (cc)

first_true : (a b : Bool) → (a && b) ≡ true → a ≡ true
first_true true b h = refl
first_true false b h = absurd (cc)

second_true : (a b : Bool) → (a && b) ≡ true → b ≡ true
second_true true b h = h
second_true false b h = absurd (cc)

-- ---- some of a list

module _ {A : Type 0} (passes : A → Bool) where
  any_at : (items : List A) (at : ℕ) (item : A) → slice_get items at ≡ Some item → passes item ≡ true → list_any passes items ≡ true
  any_at [] at item there is = absurd (cc)
  any_at (first ∷ rest) zero item there is = by (passes first) (ap passes (let same : first ≡ item = cc in same) ∙ is)
    where
      by : (b : Bool) → b ≡ true → (b || list_any passes rest) ≡ true
      by true e = refl
      by false e = absurd (cc)
  any_at (first ∷ rest) (suc at) item there is = by (passes first) (any_at rest at item there is)
    where
      by : (b : Bool) → list_any passes rest ≡ true → (b || list_any passes rest) ≡ true
      by true e = refl
      by false e = e

  none_at : (items : List A) → ((at : ℕ) (item : A) → slice_get items at ≡ Some item → passes item ≡ true → ⊥) → list_any passes items ≡ false
  none_at [] none = refl
  none_at (first ∷ rest) none = by (passes first) refl (none_at rest (λ at. none (suc at)))
    where
      by : (b : Bool) → passes first ≡ b → list_any passes rest ≡ false → (b || list_any passes rest) ≡ false
      by true is e = absurd (none 0 first refl is)
      by false is e = e

  any_front : (items more : List A) → list_any passes items ≡ true → list_any passes (items ++ more) ≡ true
  any_front [] more e = absurd (cc)
  any_front (first ∷ rest) more e = by (passes first) (any_front rest more) e
    where
      by : (b : Bool) → (list_any passes rest ≡ true → list_any passes (rest ++ more) ≡ true) → (b || list_any passes rest) ≡ true →
          (b || list_any passes (rest ++ more)) ≡ true
      by true further is = refl
      by false further is = further is

  any_pushed : (items : List A) (item : A) → passes item ≡ true → list_any passes (items ++ item ∷ []) ≡ true
  any_pushed [] item is = by (passes item) is
    where
      by : (b : Bool) → b ≡ true → (b || false) ≡ true
      by true e = refl
      by false e = absurd (cc)
  any_pushed (first ∷ rest) item is = by (passes first) (any_pushed rest item is)
    where
      by : (b : Bool) → list_any passes (rest ++ item ∷ []) ≡ true → (b || list_any passes (rest ++ item ∷ [])) ≡ true
      by true e = refl
      by false e = e

  none_pushed : (items : List A) (item : A) → list_any passes items ≡ false → passes item ≡ false → list_any passes (items ++ item ∷ []) ≡ false
  none_pushed [] item e is = by (passes item) is
    where
      by : (b : Bool) → b ≡ false → (b || false) ≡ false
      by true e = absurd (cc)
      by false e = refl
  none_pushed (first ∷ rest) item e is = by (passes first) (λ h. none_pushed rest item h is) e
    where
      by : (b : Bool) → (list_any passes rest ≡ false → list_any passes (rest ++ item ∷ []) ≡ false) → (b || list_any passes rest) ≡ false →
          (b || list_any passes (rest ++ item ∷ [])) ≡ false
      by true further e = absurd (cc)
      by false further e = further e

  none_first : (n : ℕ) (items : List A) → list_any passes items ≡ false → list_any passes (take n items) ≡ false
  none_first zero items e = refl
  none_first (suc n) [] e = refl
  none_first (suc n) (first ∷ rest) e = by (passes first) (none_first n rest) e
    where
      by : (b : Bool) → (list_any passes rest ≡ false → list_any passes (take n rest) ≡ false) → (b || list_any passes rest) ≡ false →
          (b || list_any passes (take n rest)) ≡ false
      by true further e = absurd (cc)
      by false further e = further e

  head_false : (first : A) (rest : List A) → list_any passes (first ∷ rest) ≡ false → passes first ≡ false
  head_false first rest e = by (passes first) e
    where
      by : (b : Bool) → (b || list_any passes rest) ≡ false → b ≡ false
      by true e = absurd (cc)
      by false e = refl

  tail_false : (first : A) (rest : List A) → list_any passes (first ∷ rest) ≡ false → list_any passes rest ≡ false
  tail_false first rest e = by (passes first) e
    where
      by : (b : Bool) → (b || list_any passes rest) ≡ false → list_any passes rest ≡ false
      by true e = absurd (cc)
      by false e = e

-- ---- one record

-- whether a record has this state and these reads
abbrev is_like : TaskState → List (ℕ × CellState) → Record → Bool
is_like state reads of = same_task of.before state && same_reads of.reads reads

like_itself : (of : Record) → is_like of.before of.reads of ≡ true
like_itself of =
    both_true (same_task of.before of.before) (same_reads of.reads of.reads)
    ((same_tasks_are_equal of.before of.before).1 refl) ((same_reads_are_equal of.reads of.reads).1 refl)

pub like_if : (of : Record) (state : TaskState) (reads : List (ℕ × CellState)) → of.before ≡ state → of.reads ≡ reads → is_like state reads of ≡ true
like_if of state reads before read =
    both_true (same_task of.before state) (same_reads of.reads reads)
    ((same_tasks_are_equal of.before state).1 before) ((same_reads_are_equal of.reads reads).1 read)

like_before : (of : Record) (state : TaskState) (reads : List (ℕ × CellState)) → is_like state reads of ≡ true → of.before ≡ state
like_before of state reads is = (same_tasks_are_equal of.before state).0 (first_true (same_task of.before state) (same_reads of.reads reads) is)

like_reads : (of : Record) (state : TaskState) (reads : List (ℕ × CellState)) → is_like state reads of ≡ true → of.reads ≡ reads
like_reads of state reads is = (same_reads_are_equal of.reads reads).0 (second_true (same_task of.before state) (same_reads of.reads reads) is)

-- unlike both ways
unlike_back : (of other : Record) → is_like other.before other.reads of ≡ false → is_like of.before of.reads other ≡ false
unlike_back of other not = by (is_like of.before of.reads other) refl
  where
    by : (b : Bool) → is_like of.before of.reads other ≡ b → is_like of.before of.reads other ≡ false
    by false e = e
    by true e =
        let back : is_like other.before other.reads of ≡ true =
        like_if of other.before other.reads (sym (like_before other of.before of.reads e)) (sym (like_reads other of.before of.reads e)) in
        absurd (cc)

-- ---- whether there is one

pub has_if : (records : List Record) (at : ℕ) (of : Record) (state : TaskState) (reads : List (ℕ × CellState)) → slice_get records at ≡ Some of →
    of.before ≡ state → of.reads ≡ reads → has_record records state reads ≡ true
has_if records at of state reads there before read = any_at (is_like state reads) records at of there (like_if of state reads before read)

pub has_not : (records : List Record) (state : TaskState) (reads : List (ℕ × CellState)) →
    ((at : ℕ) (of : Record) → slice_get records at ≡ Some of → of.before ≡ state → of.reads ≡ reads → ⊥) → has_record records state reads ≡ false
has_not records state reads none =
    none_at (is_like state reads) records (λ at of there is. none at of there (like_before of state reads is) (like_reads of state reads is))

-- ---- one more

pub with_known : (records : List Record) (of : Record) → has_record records of.before of.reads ≡ true → with_record records of ≡ records
with_known records of is = by (has_record records of.before of.reads) is
  where
    by : (b : Bool) → b ≡ true → (if b then records else records ++ of ∷ []) ≡ records
    by true e = refl
    by false e = absurd (cc)

pub with_new : (records : List Record) (of : Record) → has_record records of.before of.reads ≡ false → with_record records of ≡ records ++ of ∷ []
with_new records of is = by (has_record records of.before of.reads) is
  where
    by : (b : Bool) → b ≡ false → (if b then records else records ++ of ∷ []) ≡ records ++ of ∷ []
    by true e = absurd (cc)
    by false e = refl

-- what holds where a record is known and where it is new holds with it
module _ (P : List Record → Type 0) (records : List Record) (of : Record) where
  with_either : (has_record records of.before of.reads ≡ true → P records) → (has_record records of.before of.reads ≡ false → P (records ++ of ∷ [])) → P (with_record records of)
  with_either known new = by (has_record records of.before of.reads) refl
    where
      by : (b : Bool) → has_record records of.before of.reads ≡ b → P (with_record records of)
      by true is = subst P (sym (with_known records of is)) (known is)
      by false is = subst P (sym (with_new records of is)) (new is)

-- ---- several more

pub all_with : (P : Record → Type 0) (records more : List Record) → All P records → All P more → All P (with_records records more)
all_with P records [] all others = all
all_with P records (of ∷ rest) all others =
    all_with P (with_record records of) rest
    (with_either (All P) records of (λ is. all) (λ is. All-push P records of all (All-head P of rest others))) (All-tail P of rest others)

pub with_appended : (records more others : List Record) → with_records records (more ++ others) ≡ with_records (with_records records more) others
with_appended records [] others = refl
with_appended records (of ∷ rest) others = with_appended (with_record records of) rest others

has_still : (records more : List Record) (state : TaskState) (reads : List (ℕ × CellState)) → has_record records state reads ≡ true →
    has_record (with_records records more) state reads ≡ true
has_still records [] state reads is = is
has_still records (of ∷ rest) state reads is =
    has_still (with_record records of) rest state reads
    (with_either (λ r. has_record r state reads ≡ true) records of (λ known. is) (λ new. any_front (is_like state reads) records (of ∷ []) is))

has_new : (records : List Record) (of : Record) → has_record (with_record records of) of.before of.reads ≡ true
has_new records of =
    with_either (λ r. has_record r of.before of.reads ≡ true) records of (λ is. is)
    (λ new. any_pushed (is_like of.before of.reads) records of (like_itself of))

pub taken_are_held : TakenAreHeld
taken_are_held records [] = λ at other lt. absurd (omega arith)
taken_are_held records (of ∷ rest) =
    All-cons (λ (one : Record). IsTrue (has_record (with_records (with_record records of) rest) one.before one.reads)) of rest
    (has_still (with_record records of) rest of.before of.reads (has_new records of)) (taken_are_held (with_record records of) rest)

pub held_stay : HeldStay
held_stay records [] one there = there
held_stay records (of ∷ rest) one there =
    held_stay (with_record records of) rest one
    (with_either (λ r. Contains r one) records of (λ is. there) (λ is. Contains-append_left records (of ∷ []) one there))

pub no_others : NoOthersAreHeld
no_others records [] one there = inl there
no_others records (of ∷ rest) one there = by (no_others (with_record records of) rest one there)
  where
    here : (of ≡ one) → Contains (of ∷ rest) one
    here same = (0, omega arith, same)

    first : Contains (with_record records of) one → Contains records one ⊎ Contains (of ∷ rest) one
    first = with_either (λ r. Contains r one → Contains records one ⊎ Contains (of ∷ rest) one) records of (λ is. inl) (λ is has. pushed (Contains-push_cases records of one has))
      where
        pushed : Contains records one ⊎ (of ≡ one) → Contains records one ⊎ Contains (of ∷ rest) one
        pushed (inl has) = inl has
        pushed (inr same) = inr (here same)

    by : Contains (with_record records of) one ⊎ Contains rest one → Contains records one ⊎ Contains (of ∷ rest) one
    by (inl has) = first has
    by (inr has) = inr (Contains-append_right (of ∷ []) rest one has)

-- ---- none twice

twice_pushed : (records : List Record) (of : Record) → HasNoneTwice records → has_record records of.before of.reads ≡ false → HasNoneTwice (records ++ of ∷ [])
twice_pushed [] of none new = (refl, tt)
twice_pushed (first ∷ rest) of none new = (
  none_pushed (is_like first.before first.reads) rest of none.0 (unlike_back first of (head_false (is_like of.before of.reads) first rest new)),
  twice_pushed rest of none.1 (tail_false (is_like of.before of.reads) first rest new),
)

pub none_twice : NoneIsHeldTwice
none_twice records [] none = none
none_twice records (of ∷ rest) none =
    none_twice (with_record records of) rest (with_either HasNoneTwice records of (λ is. none) (λ new. twice_pushed records of none new))

pub none_twice_first : (n : ℕ) (records : List Record) → HasNoneTwice records → HasNoneTwice (take n records)
none_twice_first zero records none = tt
none_twice_first (suc n) [] none = tt
none_twice_first (suc n) (first ∷ rest) none = (none_first (is_like first.before first.reads) n rest none.0, none_twice_first n rest none.1)

-- ---- what stood before stands in front

begins : (base records : List Record) (of : Record) → length base ≤ length records → take (length base) records ≡ base →
    (length base ≤ length (with_record records of)) × (take (length base) (with_record records of) ≡ base)
begins base records of le is =
    with_either (λ r. (length base ≤ length r) × (take (length base) r ≡ base)) records of (λ known. (le, is))
    (λ new. (omega (arith, length-append records (of ∷ [])), take-append-le (length base) records (of ∷ []) le ∙ is))

begins_with : (base records more : List Record) → length base ≤ length records → take (length base) records ≡ base → take (length base) (with_records records more) ≡ base
begins_with base records [] le is = is
begins_with base records (of ∷ rest) le is = let one = begins base records of le is in begins_with base (with_record records of) rest one.0 one.1

pub undone : (records more made : List Record) → HasFirstOf records more made → take (length records) made ≡ records
undone records more made (count, is) =
    ap (take (length records)) is ∙ begins_with records records (take count more) (omega arith) (take_all (length records) records (omega arith))
