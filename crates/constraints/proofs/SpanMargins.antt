-- How far from a span a window may hold otherwise than for no span, and what its parts have to be known of near a time, form by form.
use Rattle.std.proofs.Common.{◌≡◌, ℕ, ◌+◌, ◌-◌, ◌<◌, ◌≤◌, ℤ, Bool, true, false, cond, not, ◌&&◌, ◌||◌, IsTrue, Option, Some, None, Result, Ok, Err, IfOk, max, min, refl, sym, ap, subst, ◌∙◌, arith, nat_le, nat_lt, unsigned_abs}
use Rattle.std.proofs.lemmas.Grind.{common_steps}
use Rattle.aerie_base.specs.declared.memory.OutOfMemory.{OutOfMemory}
use Rattle.aerie_base.specs.declared.models.model.Parts.{Parts}
use Rattle.run_data.specs.declared.runs.Run.{Run}
use Rattle.windows.specs.Times.{Interval, TimeSet, InOrder, covers, contains, shifted_contains, long_contains, replaced_contains, AreIntervals}
use Rattle.windows.specs.Intervals.{intervals_of}
use Rattle.windows.specs.IntervalLaws.{is_the_list, they_are}
use Rattle.constraints.specs.declared.sources.Sources.{Sources}
use Rattle.constraints.specs.declared.span_windows.SpanWindow.{SpanWindow, Times, Lasting, And, Or, Not, Shift, Longer}
use Rattle.constraints.specs.declared.types.Window.{Window}
use Rattle.constraints.specs.Holding.{bound_covers, window_holds}
use Rattle.constraints.specs.Judging.{times_not_held}
use Rattle.constraints.specs.OverSources.{HoldsAsWindow}
use Rattle.constraints.specs.SpanWindows.{HasTimesWithin, IsMargin, KeepsLongWithin, KeepsShiftedWithin, farther, holds_for, holds_for_step}
use Rattle.constraints.proofs.Nearness.{moved_near, long_near}
use Rattle.constraints.proofs.SpanParts.{fold_times, fold_lasting, fold_and, fold_or, fold_not, fold_shift, fold_longer}

-- ---- what it is at each form

module _ (reach : ℕ) (bound : Option Interval) (t : ℕ) where
  at_times : (window : SpanWindow) (set : TimeSet) → window ≡ Times set → holds_for reach window bound t ≡ contains set.intervals t
  at_times window set is = ap (λ (w : SpanWindow). holds_for reach w bound t) is ∙ ap (λ (f : ℕ → Bool). f t) (fold_times (ℕ → Bool) (holds_for_step reach bound) set)

  at_lasting : (window : SpanWindow) → window ≡ Lasting → holds_for reach window bound t ≡ bound_covers bound t
  at_lasting window is = ap (λ (w : SpanWindow). holds_for reach w bound t) is ∙ ap (λ (f : ℕ → Bool). f t) (fold_lasting (ℕ → Bool) (holds_for_step reach bound))

  at_and : (window one other : SpanWindow) → window ≡ And one other → holds_for reach window bound t ≡ (holds_for reach one bound t && holds_for reach other bound t)
  at_and window one other is = ap (λ (w : SpanWindow). holds_for reach w bound t) is ∙ ap (λ (f : ℕ → Bool). f t) (fold_and (ℕ → Bool) (holds_for_step reach bound) one other)

  at_or : (window one other : SpanWindow) → window ≡ Or one other → holds_for reach window bound t ≡ (holds_for reach one bound t || holds_for reach other bound t)
  at_or window one other is = ap (λ (w : SpanWindow). holds_for reach w bound t) is ∙ ap (λ (f : ℕ → Bool). f t) (fold_or (ℕ → Bool) (holds_for_step reach bound) one other)

  at_not : (window part : SpanWindow) → window ≡ Not part → holds_for reach window bound t ≡ not (holds_for reach part bound t)
  at_not window part is = ap (λ (w : SpanWindow). holds_for reach w bound t) is ∙ ap (λ (f : ℕ → Bool). f t) (fold_not (ℕ → Bool) (holds_for_step reach bound) part)

  at_shift : (window part : SpanWindow) (start end : ℤ) → window ≡ Shift part start end → holds_for reach window bound t ≡ shifted_contains start end (intervals_of reach (holds_for reach part bound)) t
  at_shift window part start end is = ap (λ (w : SpanWindow). holds_for reach w bound t) is ∙ ap (λ (f : ℕ → Bool). f t) (fold_shift (ℕ → Bool) (holds_for_step reach bound) part start end)

  at_longer : (window part : SpanWindow) (least : ℕ) → window ≡ Longer part least → holds_for reach window bound t ≡ long_contains least (intervals_of reach (holds_for reach part bound)) t
  at_longer window part least is = ap (λ (w : SpanWindow). holds_for reach w bound t) is ∙ ap (λ (f : ℕ → Bool). f t) (fold_longer (ℕ → Bool) (holds_for_step reach bound) part least)

-- ---- margins

module _ (reach : ℕ) (window : SpanWindow) where
  pub times_margin : (set : TimeSet) (margin : ℕ) → window ≡ Times set → IsMargin reach window margin
  times_margin set margin is one other t below near = at_times reach one t window set is ∙ sym (at_times reach other t window set is)

  pub lasting_margin : (margin : ℕ) → window ≡ Lasting → IsMargin reach window margin
  lasting_margin margin is one other t below near = at_lasting reach one t window is ∙ near t below (omega arith) (omega arith) ∙ sym (at_lasting reach other t window is)

  pub and_margin : (left right : SpanWindow) (m n : ℕ) → window ≡ And left right → IsMargin reach left m → IsMargin reach right n → IsMargin reach window (max m n)
  and_margin left right m n is on_left on_right one other t below near =
      let first = on_left one other t below (λ u within after before. near u within (omega arith) (omega arith)) in
      let second = on_right one other t below (λ u within after before. near u within (omega arith) (omega arith)) in
      at_and reach one t window left right is ∙ (λ i. first i && second i) ∙ sym (at_and reach other t window left right is)

  pub or_margin : (left right : SpanWindow) (m n : ℕ) → window ≡ Or left right → IsMargin reach left m → IsMargin reach right n → IsMargin reach window (max m n)
  or_margin left right m n is on_left on_right one other t below near =
      let first = on_left one other t below (λ u within after before. near u within (omega arith) (omega arith)) in
      let second = on_right one other t below (λ u within after before. near u within (omega arith) (omega arith)) in
      at_or reach one t window left right is ∙ (λ i. first i || second i) ∙ sym (at_or reach other t window left right is)

  pub not_margin : (part : SpanWindow) (m : ℕ) → window ≡ Not part → IsMargin reach part m → IsMargin reach window m
  not_margin part m is inner one other t below near =
      at_not reach one t window part is ∙ ap not (inner one other t below near) ∙ sym (at_not reach other t window part is)

  pub shift_margin : (part : SpanWindow) (start end : ℤ) (m : ℕ) → window ≡ Shift part start end → IsMargin reach part m → IsMargin reach window (min reach (m + farther start end))
  shift_margin part start end m is inner one other t below near =
      at_shift reach one t window part start end is
      ∙ moved_near reach (farther start end) t start end (holds_for reach part one) (holds_for reach part other) (omega arith) (omega arith)
      (λ u within after before. inner one other u within (λ v inside later sooner. near v inside (omega arith) (omega arith)))
      ∙ sym (at_shift reach other t window part start end is)

  pub longer_margin : (part : SpanWindow) (least m : ℕ) → window ≡ Longer part least → IsMargin reach part m → IsMargin reach window (min reach (m + least))
  longer_margin part least m is inner one other t below near =
      at_longer reach one t window part least is
      ∙ long_near reach least t (holds_for reach part one) (holds_for reach part other)
      (λ u within after before. inner one other u within (λ v inside later sooner. near v inside (omega arith) (omega arith)))
      ∙ sym (at_longer reach other t window part least is)

-- ---- near a time

-- maximal intervals, moved or long, of a set that has the times of a test near these
pub shifted_kept : (start end : ℤ) (from to : ℕ) (part made : TimeSet) → InOrder part.reach 0 part.intervals → to ≤ part.reach → made.reach ≡ part.reach →
    AreIntervals made.reach (λ t. shifted_contains start end part.intervals t) made.intervals → KeepsShiftedWithin start end from to part made
shifted_kept start end from to part made order within same are test near t after before =
    are.times t (subst (λ n. t < n) (sym same) (omega arith))
    ∙ ap (λ l. shifted_contains start end l t) (is_the_list part.reach (λ u. contains part.intervals u) part.intervals (record { in_order = order; times = λ u below. refl }))
    ∙ moved_near part.reach (farther start end) t start end (λ u. contains part.intervals u) test (omega arith) (omega arith) (λ u below later sooner. near u (omega arith) (omega arith))

pub long_kept_near : (least from to : ℕ) (part made : TimeSet) → InOrder part.reach 0 part.intervals → to ≤ part.reach → made.reach ≡ part.reach →
    AreIntervals made.reach (λ t. long_contains least part.intervals t) made.intervals → KeepsLongWithin least from to part made
long_kept_near least from to part made order within same are test near t after before =
    are.times t (subst (λ n. t < n) (sym same) (omega arith))
    ∙ ap (λ l. long_contains least l t) (is_the_list part.reach (λ u. contains part.intervals u) part.intervals (record { in_order = order; times = λ u below. refl }))
    ∙ long_near part.reach least t (λ u. contains part.intervals u) test (λ u below later sooner. near u (omega arith) (omega arith))

module _ (reach from to : ℕ) (window : SpanWindow) (bound : Option Interval) where
  pub times_near : (set : TimeSet) (result : Result TimeSet OutOfMemory) → window ≡ Times set → IfOk result (HasTimesWithin from to (λ t. contains set.intervals t)) →
      IfOk result (HasTimesWithin from to (holds_for reach window bound))
  times_near set (Ok made) is has = λ t after before. has t after before ∙ sym (at_times reach bound t window set is)
  times_near set (Err e) is has = has

  pub and_near : (left right : SpanWindow) (one other : TimeSet) (result : Result TimeSet OutOfMemory) → window ≡ And left right → to ≤ reach → one.reach ≡ reach →
      HasTimesWithin from to (holds_for reach left bound) one → HasTimesWithin from to (holds_for reach right bound) other →
      IfOk result (λ made. made.reach ≡ one.reach) → IfOk result (λ made. AreIntervals made.reach (λ t. contains one.intervals t && contains other.intervals t) made.intervals) →
      IfOk result (HasTimesWithin from to (holds_for reach window bound))
  and_near left right one other (Ok made) is within same on_left on_right reach_is are = λ t after before.
      are.times t (subst (λ n. t < n) (sym (reach_is ∙ same)) (omega arith)) ∙ (λ i. on_left t after before i && on_right t after before i) ∙ sym (at_and reach bound t window left right is)
  and_near left right one other (Err e) is within same on_left on_right reach_is are = are

  pub or_near : (left right : SpanWindow) (one other : TimeSet) (result : Result TimeSet OutOfMemory) → window ≡ Or left right → to ≤ reach → one.reach ≡ reach →
      HasTimesWithin from to (holds_for reach left bound) one → HasTimesWithin from to (holds_for reach right bound) other →
      IfOk result (λ made. made.reach ≡ one.reach) → IfOk result (λ made. AreIntervals made.reach (λ t. contains one.intervals t || contains other.intervals t) made.intervals) →
      IfOk result (HasTimesWithin from to (holds_for reach window bound))
  or_near left right one other (Ok made) is within same on_left on_right reach_is are = λ t after before.
      are.times t (subst (λ n. t < n) (sym (reach_is ∙ same)) (omega arith)) ∙ (λ i. on_left t after before i || on_right t after before i) ∙ sym (at_or reach bound t window left right is)
  or_near left right one other (Err e) is within same on_left on_right reach_is are = are

  pub not_near : (part : SpanWindow) (inner : TimeSet) (result : Result TimeSet OutOfMemory) → window ≡ Not part → to ≤ reach → inner.reach ≡ reach →
      HasTimesWithin from to (holds_for reach part bound) inner →
      IfOk result (λ made. made.reach ≡ inner.reach) → IfOk result (λ made. AreIntervals made.reach (λ t. not (contains inner.intervals t)) made.intervals) →
      IfOk result (HasTimesWithin from to (holds_for reach window bound))
  not_near part inner (Ok made) is within same has reach_is are = λ t after before.
      are.times t (subst (λ n. t < n) (sym (reach_is ∙ same)) (omega arith)) ∙ ap not (has t after before) ∙ sym (at_not reach bound t window part is)
  not_near part inner (Err e) is within same has reach_is are = are

  pub shift_near : (part : SpanWindow) (start end : ℤ) (far first last : ℕ) (inner : TimeSet) (result : Result TimeSet OutOfMemory) → window ≡ Shift part start end → inner.reach ≡ reach →
      far ≡ farther start end → first ≡ from - far → last ≡ min reach (to + far) → HasTimesWithin first last (holds_for reach part bound) inner → IfOk result (KeepsShiftedWithin start end from to inner) →
      IfOk result (HasTimesWithin from to (holds_for reach window bound))
  shift_near part start end far first last inner (Ok made) is same far_is first_is last_is has kept = λ t after before.
      kept (holds_for reach part bound) (λ u later sooner. has u (omega arith) (omega arith)) t after before
      ∙ ap (λ n. shifted_contains start end (intervals_of n (holds_for reach part bound)) t) same
      ∙ sym (at_shift reach bound t window part start end is)
  shift_near part start end far first last inner (Err e) is same far_is first_is last_is has kept = kept

  pub longer_near : (part : SpanWindow) (least first last : ℕ) (inner : TimeSet) (result : Result TimeSet OutOfMemory) → window ≡ Longer part least → inner.reach ≡ reach →
      first ≡ from - least → last ≡ min reach (to + least) → HasTimesWithin first last (holds_for reach part bound) inner → IfOk result (KeepsLongWithin least from to inner) →
      IfOk result (HasTimesWithin from to (holds_for reach window bound))
  longer_near part least first last inner (Ok made) is same first_is last_is has kept = λ t after before.
      kept (holds_for reach part bound) (λ u later sooner. has u (omega arith) (omega arith)) t after before
      ∙ ap (λ n. long_contains least (intervals_of n (holds_for reach part bound)) t) same
      ∙ sym (at_longer reach bound t window part least is)
  longer_near part least first last inner (Err e) is same first_is last_is has kept = kept

pub lasting_near : (reach from to : ℕ) (window : SpanWindow) (times : Interval) (result : Result TimeSet OutOfMemory) → window ≡ Lasting → to ≤ reach → IfOk result (HasTimesWithin 0 reach (covers times)) →
    IfOk result (HasTimesWithin from to (holds_for reach window (Some times)))
lasting_near reach from to window times (Ok made) is within has = λ t after before. has t (omega arith) (omega arith) ∙ sym (at_lasting reach (Some times) t window is)
lasting_near reach from to window times (Err e) is within has = has

-- ---- a span's set, put together

-- no time that is near one which is outside of the widened span is covered by the span
not_covered : (reach margin from to : ℕ) (times : Interval) (t u : ℕ) → from ≡ times.0 - margin → to ≡ min reach (times.1 + margin) → t < reach → t ≤ u + margin → u ≤ t + margin → covers (from, to) t ≡ false →
    covers times u ≡ false
not_covered reach margin from to times t u from_is to_is below after before out = go (covers times u) refl
  where
    go : (b : Bool) → covers times u ≡ b → covers times u ≡ false
    go false e = e
    go true e = absurd (
        let begun : times.0 ≤ u = grind (arith, common_steps) in
        let lasts : u < times.1 = grind (arith, common_steps) in
        let later : from ≤ t = omega arith in
        let sooner : t < to = omega arith in
        grind (arith, common_steps)
        )

not_cond : (b x y : Bool) → cond b (not x) (not y) ≡ not (cond b x y)
not_cond true x y = refl
not_cond false x y = refl

pub patched_set : (sources : Sources) (window : Window) (parts : SpanWindow) (times : Interval) (margin from to : ℕ) (outside held inside made : TimeSet) → HoldsAsWindow sources window parts →
    outside ≡ times_not_held sources.model.now sources.run.now window None → IsMargin sources.run.now.reach parts margin →
    from ≡ times.0 - margin → to ≡ min sources.run.now.reach (times.1 + margin) → held.reach ≡ sources.run.now.reach → HasTimesWithin from to (holds_for sources.run.now.reach parts (Some times)) held →
    inside.reach ≡ held.reach → AreIntervals inside.reach (λ t. not (contains held.intervals t)) inside.intervals → made.reach ≡ outside.reach →
    AreIntervals made.reach (λ t. replaced_contains outside.intervals inside.intervals (from, to) t) made.intervals →
    made ≡ times_not_held sources.model.now sources.run.now window (Some times)
patched_set sources window parts times margin from to outside held inside made as_window outside_is is_margin from_is to_is held_reach has inside_reach inside_are made_reach made_are =
    let is = is_the_list reach (λ t. not (holds (Some times) t)) made.intervals (record { in_order = subst (λ n. InOrder n 0 made.intervals) same made_are.in_order; times = at }) in
    λ i. record { reach = same i; intervals = is i }
  where
    reach : ℕ
    reach = sources.run.now.reach

    holds : Option Interval → ℕ → Bool
    holds bound t = window_holds sources.model.now sources.run.now window bound t

    same : made.reach ≡ reach
    same = made_reach ∙ ap (λ (s : TimeSet). s.reach) outside_is

    near : Interval
    near = (from, to)

    for_none : (t : ℕ) → t < reach → contains outside.intervals t ≡ not (holds None t)
    for_none t below = ap (λ (s : TimeSet). contains s.intervals t) outside_is ∙ (they_are reach (λ u. not (holds None u))).times t below

    at : (t : ℕ) → t < reach → contains made.intervals t ≡ not (holds (Some times) t)
    at t below = made_are.times t (subst (λ n. t < n) (sym same) below) ∙ go (covers near t) refl
      where
        go : (b : Bool) → covers near t ≡ b → cond b (contains inside.intervals t) (contains outside.intervals t) ≡ not (holds (Some times) t)
        go true e =
            let after : from ≤ t = grind (arith, common_steps) in
            let before : t < to = grind (arith, common_steps) in
            inside_are.times t (subst (λ n. t < n) (sym (inside_reach ∙ held_reach)) below) ∙ ap not (has t after before ∙ as_window (Some times) t below)
        go false e =
            for_none t below
            ∙ ap not (sym (as_window None t below) ∙ sym (is_margin (Some times) None t below (λ u within later sooner. not_covered reach margin from to times t u from_is to_is below later sooner e)) ∙ as_window (Some times) t below)
