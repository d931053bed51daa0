-- The times of the spans of a type, gathered one after another.
use Rattle.std.proofs.Common.{◌≡◌, ℕ, ◌+◌, ◌<◌, ◌≤◌, Bool, true, false, ◌&&◌, ◌||◌, List, ◌++◌, length, drop, map, get_or, refl, sym, ap, subst, ◌∙◌, nat_eq, if◌then◌else◌}
use Rattle.std.proofs.lemmas.List.Folds.{list_any-append}
use Rattle.span_table.specs.declared.span.Span.{Span}
use Rattle.span_table.specs.AsDefined.{defined_span}
use Rattle.windows.specs.Times.{Interval, covers, contains, AreIntervals}
use Rattle.constraints.specs.Holding.{some_covers, times_of}
use Rattle.constraints.specs.Meeting.{times_if}
use Rattle.constraints.proofs.Merging.{cut_at, none_left}

-- the times gathered and those of the spans that are left are those of all
abbrev pub Gathered : ℕ → ℕ → List Interval → List Span → List Span → Type 0
Gathered reach kind made rest whole =
    (t : ℕ) → (contains made t || some_covers reach kind (map defined_span rest) t) ≡ some_covers reach kind (map defined_span whole) t

grouped : (a b c d : Bool) → ((a || (if d then b else false)) || c) ≡ (a || ((d && b) || c))
grouped true b c d = refl
grouped false true c true = refl
grouped false false c true = refl
grouped false b c false = refl

if_contains : (test : Bool) (one : Interval) (t : ℕ) → contains (times_if test one) t ≡ (if test then covers one t else false)
if_contains true one t = or_none (covers one t)
  where
    or_none : (b : Bool) → (b || false) ≡ b
    or_none true = refl
    or_none false = refl
if_contains false one t = refl

pub gathered_more : (reach kind i : ℕ) (made new : List Interval) (whole : List Span) (span : Span) (test : Bool) (times : Interval) → i < length whole → span ≡ get_or whole i span →
    test ≡ nat_eq span.kind kind → times ≡ times_of reach (defined_span span) → new ≡ made ++ times_if test times → Gathered reach kind made (drop i whole) whole → Gathered reach kind new (drop (i + 1) whole) whole
gathered_more reach kind i made new whole span test times within is tested times_are pushed before t =
    ap (λ (l : List Interval). contains l t || some_covers reach kind (map defined_span (drop (i + 1) whole)) t) pushed
    ∙ ap (λ b. b || some_covers reach kind (map defined_span (drop (i + 1) whole)) t) (list_any-append (λ interval. covers interval t) made (times_if test times) ∙ ap (λ b. contains made t || b) (if_contains test times t))
    ∙ grouped (contains made t) (covers times t) (some_covers reach kind (map defined_span (drop (i + 1) whole)) t) test
    ∙ (λ j. contains made t || ((tested j && covers (times_are j) t) || some_covers reach kind (map defined_span (drop (i + 1) whole)) t))
    ∙ ap (λ (l : List Span). contains made t || some_covers reach kind (map defined_span l) t) (sym (cut_at whole i span within is))
    ∙ before t

pub gathered_all : (reach kind i : ℕ) (made : List Interval) (whole : List Span) → length whole ≤ i → Gathered reach kind made (drop i whole) whole → (t : ℕ) → contains made t ≡ some_covers reach kind (map defined_span whole) t
gathered_all reach kind i made whole past before t =
    or_none (contains made t) ∙ ap (λ (l : List Span). contains made t || some_covers reach kind (map defined_span l) t) (sym (none_left whole i past)) ∙ before t
  where
    or_none : (b : Bool) → b ≡ (b || false)
    or_none true = refl
    or_none false = refl

-- intervals of a set that has the same times
pub same_times : (reach : ℕ) (one other : ℕ → Bool) (intervals : List Interval) → ((t : ℕ) → t < reach → one t ≡ other t) → AreIntervals reach one intervals → AreIntervals reach other intervals
same_times reach one other intervals same are = record { in_order = are.in_order; times = λ t below. are.times t below ∙ same t below }

pub same_times_to : (reach made_reach : ℕ) (one other : ℕ → Bool) (intervals : List Interval) → made_reach ≡ reach → ((t : ℕ) → t < reach → one t ≡ other t) → AreIntervals made_reach one intervals →
    AreIntervals made_reach other intervals
same_times_to reach made_reach one other intervals is same are = same_times made_reach one other intervals (λ t below. same t (subst (λ n. t < n) is below)) are
