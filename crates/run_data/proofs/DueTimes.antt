-- The next time of a run lies after the time where it stands, and no delay ends before it.
use Rattle.std.proofs.Common.{◌≡◌, ℕ, zero, suc, ◌+◌, ◌-◌, ◌<◌, ◌≤◌, min, Bool, true, false, List, [], ◌∷◌, Option, Some, None, if◌then◌else◌, refl, sym, ap, ◌∙◌, arith}
use Rattle.std.proofs.lemmas.Bool.{false≢true}
use Rattle.std.proofs.Math.Nat.{min-le_left, min-le_right, le-min}
use Rattle.aerie_base.specs.declared.conditions.Cond.{Cond}
use Rattle.aerie_base.specs.TimeOrder.{earlier}
use Rattle.effect_cells.specs.declared.effects.CellState.{CellState}
use Rattle.effect_cells.specs.declared.effects.CellState.TheVariants.{Counter, Register, Volume}
use Rattle.effect_cells.specs.Cells.{passed}
use Rattle.effect_cells.specs.States.{state_after, volume_of}
use Rattle.effect_cells.specs.SumLaws.{flowed_zero}
use Rattle.effect_cells.specs.Searching.{found_or, least_from}
use Rattle.effect_cells.specs.WakeTimes.{holds_on, holds_in, wake_time}
use Rattle.run_data.specs.Tasks.{TaskPhase, anchored, ready, delayed, waiting, calling, over, Task, Table, on_each, woken, woken_phase, job_if_ready, ready_jobs}
use Rattle.run_data.specs.declared.jobs.Job.{Job}
use Rattle.run_data.specs.Fresh.{from_now, due_time, least_due}
use Rattle.run_data.specs.DelayLaws.{EndsWhere}
use Rattle.run_data.specs.TaskLaws.{Each}

-- a delay ends after this time
abbrev pub EndsAfter : ℕ → TaskPhase → Type 0
EndsAfter now = EndsWhere (λ until. now < until)

-- a condition does not hold
abbrev pub StillWaits : List CellState → TaskPhase → Type 0
StillWaits cells (waiting condition state) = holds_on cells condition ≡ false
StillWaits cells (delayed until state) = Unit {0}
StillWaits cells (anchored to edge start state) = Unit {0}
StillWaits cells (ready state) = Unit {0}
StillWaits cells (calling child into state) = Unit {0}
StillWaits cells (over result) = Unit {0}

-- a delay does not end before the next time, and there is none where there is no such time
abbrev pub EndsNotBefore : Option ℕ → TaskPhase → Type 0
EndsNotBefore None (delayed until state) = ⊥
EndsNotBefore (Some time) (delayed until state) = time ≤ until
EndsNotBefore next (anchored to edge start state) = Unit {0}
EndsNotBefore next (ready state) = Unit {0}
EndsNotBefore next (waiting condition state) = Unit {0}
EndsNotBefore next (calling child into state) = Unit {0}
EndsNotBefore next (over result) = Unit {0}

abbrev pub IsAfter : ℕ → Option ℕ → Type 0
IsAfter now None = Unit {0}
IsAfter now (Some time) = now < time

-- ---- no time passes

later_none : (state : CellState) → state_after 0 state ≡ state
later_none (Counter number) = refl
later_none (Register value flag) = refl
later_none (Volume volume rate) = ap volume_of (flowed_zero (volume, rate))

pub passed_none : (cells : List CellState) → passed cells 0 ≡ cells
passed_none [] = refl
passed_none (state ∷ rest) = λ i. later_none state i ∷ passed_none rest i

-- ---- what a search finds

found_at_least : (test : ℕ → Bool) (from count found : ℕ) → least_from test from count ≡ Some found → from ≤ found
found_at_least test from zero found e = absurd (cc)
found_at_least test from (suc count) found e = by (test from) e (found_at_least test (from + 1) count found)
  where
    by : (passes : Bool) → found_or from passes (λ _. least_from test (from + 1) count) ≡ Some found →
        (least_from test (from + 1) count ≡ Some found → from + 1 ≤ found) → from ≤ found
    by true e further = let same : from ≡ found = cc in omega arith
    by false e further = omega (arith, further e)

found_later : (test : ℕ → Bool) (count found : ℕ) → test 0 ≡ false → least_from test 0 count ≡ Some found → 0 < found
found_later test zero found fails e = absurd (cc)
found_later test (suc count) found fails e = by (test 0) fails e
  where
    by : (passes : Bool) → passes ≡ false → found_or 0 passes (λ _. least_from test (0 + 1) count) ≡ Some found → 0 < found
    by true t e = absurd (false≢true (sym t))
    by false t e = omega (arith, found_at_least test (0 + 1) count found e)

wakes_later : (cells : List CellState) (condition : Cond) (limit found : ℕ) → holds_on cells condition ≡ false → wake_time cells condition limit ≡ Some found → 0 < found
wakes_later cells condition limit found fails e =
    found_later (holds_in cells condition) limit found (ap (λ c. holds_on c condition) (passed_none cells) ∙ fails) e

-- ---- the next time

after_is_after : (now : ℕ) (found : Option ℕ) → ((dt : ℕ) → found ≡ Some dt → 0 < dt) → IsAfter now (from_now now found)
after_is_after now None h = tt
after_is_after now (Some dt) h = omega (arith, h dt refl)

due_is_after : (now horizon : ℕ) (cells : List CellState) (phase : TaskPhase) → EndsAfter now phase → StillWaits cells phase → IsAfter now (due_time now horizon cells phase)
due_is_after now horizon cells (delayed until state) ends waits = ends
due_is_after now horizon cells (waiting condition state) ends waits =
    after_is_after now (wake_time cells condition (horizon - now)) (λ dt. wakes_later cells condition (horizon - now) dt waits)
due_is_after now horizon cells (anchored to edge start state) ends waits = tt
due_is_after now horizon cells (ready state) ends waits = tt
due_is_after now horizon cells (calling child into state) ends waits = tt
due_is_after now horizon cells (over result) ends waits = tt

min_less : (now a b : ℕ) → now < a → now < b → now < min a b
min_less now a b h k =
    let least : now + 1 ≤ min a b = le-min (omega arith) (omega arith) in omega arith

earlier_is_after : (now : ℕ) (first rest : Option ℕ) → IsAfter now first → IsAfter now rest → IsAfter now (earlier first rest)
earlier_is_after now None rest h k = k
earlier_is_after now (Some time) None h k = h
earlier_is_after now (Some time) (Some other) h k = min_less now time other h k

pub least_is_after : (now horizon : ℕ) (cells : List CellState) (table : Table) → Each (EndsAfter now) table → Each (StillWaits cells) table →
    IsAfter now (least_due now horizon cells table)
least_is_after now horizon cells [] ends waits = tt
least_is_after now horizon cells (entry ∷ rest) ends waits =
    earlier_is_after now (due_time now horizon cells entry.1.phase) (least_due now horizon cells rest)
    (due_is_after now horizon cells entry.1.phase ends.0 waits.0) (least_is_after now horizon cells rest ends.1 waits.1)

-- ---- no delay ends before it

min_left : (a b c : ℕ) → a ≤ c → min a b ≤ c
min_left a b c h = omega (arith, min-le_left a b)

earlier_left : (now horizon : ℕ) (cells : List CellState) (phase : TaskPhase) (rest : Option ℕ) → EndsNotBefore (earlier (due_time now horizon cells phase) rest) phase
earlier_left now horizon cells (delayed until state) None = omega arith
earlier_left now horizon cells (delayed until state) (Some time) = min_left until time until (omega arith)
earlier_left now horizon cells (waiting condition state) rest = tt
earlier_left now horizon cells (anchored to edge start state) rest = tt
earlier_left now horizon cells (ready state) rest = tt
earlier_left now horizon cells (calling child into state) rest = tt
earlier_left now horizon cells (over result) rest = tt

min_right : (a b c : ℕ) → b ≤ c → min a b ≤ c
min_right a b c h = omega (arith, min-le_right a b)

earlier_right : (first rest : Option ℕ) (phase : TaskPhase) → EndsNotBefore rest phase → EndsNotBefore (earlier first rest) phase
earlier_right None rest phase h = h
earlier_right (Some time) None (delayed until state) h = absurd h
earlier_right (Some time) (Some other) (delayed until state) h = min_right time other until h
earlier_right (Some time) rest (waiting condition state) h = tt
earlier_right (Some time) rest (anchored to edge start state) h = tt
earlier_right (Some time) rest (ready state) h = tt
earlier_right (Some time) rest (calling child into state) h = tt
earlier_right (Some time) rest (over result) h = tt

each_right : (first rest : Option ℕ) (table : Table) → Each (EndsNotBefore rest) table → Each (EndsNotBefore (earlier first rest)) table
each_right first rest [] each = tt
each_right first rest (entry ∷ entries) each = (earlier_right first rest entry.1.phase each.0, each_right first rest entries each.1)

pub none_ends_before : (now horizon : ℕ) (cells : List CellState) (table : Table) → Each (EndsNotBefore (least_due now horizon cells table)) table
none_ends_before now horizon cells [] = tt
none_ends_before now horizon cells (entry ∷ rest) = (
  earlier_left now horizon cells entry.1.phase (least_due now horizon cells rest),
  each_right (due_time now horizon cells entry.1.phase) (least_due now horizon cells rest) rest (none_ends_before now horizon cells rest),
)

-- ---- where no task is ready

none_here : (cells : List CellState) (path : List ℕ) (task : Task) (phase : TaskPhase) (rest : List (ℕ × Job)) →
    job_if_ready cells path task (woken_phase cells phase) rest ≡ [] → StillWaits cells phase × (rest ≡ [])
none_here cells path task (waiting condition state) rest e = by (holds_on cells condition) e
  where
    by : (holds : Bool) → job_if_ready cells path task (if holds then ready state else waiting condition state) rest ≡ [] → (holds ≡ false) × (rest ≡ [])
    by true e = absurd (cc)
    by false e = (refl, e)
none_here cells path task (ready state) rest e = absurd (cc)
none_here cells path task (delayed until state) rest e = (tt, e)
none_here cells path task (anchored to edge start state) rest e = (tt, e)
none_here cells path task (calling child into state) rest e = (tt, e)
none_here cells path task (over result) rest e = (tt, e)

pub none_ready : (cells : List CellState) (table : Table) → ready_jobs cells (on_each (woken cells) table) ≡ [] → Each (StillWaits cells) table
none_ready cells [] e = tt
none_ready cells (entry ∷ rest) e =
    let h = none_here cells entry.0 (woken cells entry.0 entry.1) entry.1.phase (ready_jobs cells (on_each (woken cells) rest)) e in
    (h.0, none_ready cells rest h.1)
