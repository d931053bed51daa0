-- A window that speaks of a span under no `shift` and no `longer`: outside of the span's times it holds as for no span, and within
-- them as for one that lasts as long as the run.
use Rattle.std.proofs.Common.{◌≡◌, ℕ, ◌<◌, Bool, true, false, not, cond, ◌&&◌, ◌||◌, List, Option, Some, None, refl, sym, ap, subst, ◌∙◌, arith}
use Rattle.std.proofs.lemmas.Grind.{common_steps}
use Rattle.aerie_base.specs.declared.models.model.Parts.{Parts}
use Rattle.run_data.specs.declared.runs.Run.{Run}
use Rattle.windows.specs.Times.{Interval, TimeSet, covers, replaced_contains, shifted_contains, long_contains, AreIntervals}
use Rattle.windows.specs.Intervals.{intervals_of}
use Rattle.windows.specs.IntervalLaws.{is_the_list, they_are}
use Rattle.constraints.specs.Judging.{times_not_held}
use Rattle.constraints.specs.declared.types.Window.{Window, Literal, During, DuringBound, Truth, Same, Compare, Not', And', Or', Shift', Longer', end_of-Window, more_of-Window}
use Rattle.constraints.specs.Holding.{window_holds, bound_covers}
use Rattle.constraints.specs.Local.{marks, is_local}

left_false : (a b : Bool) → (a || b) ≡ false → a ≡ false
left_false true b e = e
left_false false b e = refl

right_false : (a b : Bool) → (a || b) ≡ false → b ≡ false
right_false true true e = e
right_false true false e = refl
right_false false b e = e

left_true : (a b : Bool) → (a && b) ≡ true → a ≡ true
left_true true b e = refl
left_true false b e = e

right_true : (a b : Bool) → (a && b) ≡ true → b ≡ true
right_true true b e = e
right_true false true e = refl
right_true false false e = e

not_true : (a : Bool) → not a ≡ true → a ≡ false
not_true true e = sym e
not_true false e = refl

module _ (model : Parts) (run : Run) (one other : Option Interval) where
  -- what does not speak of the span is the same for every span
  pub silent : (window : Window) (t : ℕ) → (marks window).0 ≡ false → window_holds model run window one t ≡ window_holds model run window other t
  unfolding marks window_holds
  silent (Literal truth) t none = refl
  silent (During kind) t none = refl
  silent DuringBound t none = absurd (Prim.grind (arith, common_steps))
  silent (Truth reading) t none = refl
  silent (Same resource value equal) t none = refl
  silent (Compare left how right) t none = refl
  silent (Not' s (more_of-Window part end_of-Window)) t none = ap not (silent part t none)
  silent (And' s (more_of-Window left end_of-Window) u (more_of-Window right end_of-Window)) t none =
      (λ i. silent left t (left_false _ _ none) i && silent right t (right_false (marks left).0 _ none) i)
  silent (Or' s (more_of-Window left end_of-Window) u (more_of-Window right end_of-Window)) t none =
      (λ i. silent left t (left_false _ _ none) i || silent right t (right_false (marks left).0 _ none) i)
  silent (Shift' s (more_of-Window part end_of-Window) start end) t none =
      (λ i. shifted_contains start end (intervals_of run.reach (λ u. silent part u none i)) t)
  silent (Longer' s (more_of-Window part end_of-Window) least) t none =
      (λ i. long_contains least (intervals_of run.reach (λ u. silent part u none i)) t)

  -- of a window that is local, only whether the span covers the time counts
  pub agree : (window : Window) (t : ℕ) → is_local window ≡ true → bound_covers one t ≡ bound_covers other t → window_holds model run window one t ≡ window_holds model run window other t
  unfolding marks window_holds
  agree (Literal truth) t near same = refl
  agree (During kind) t near same = refl
  agree DuringBound t near same = same
  agree (Truth reading) t near same = refl
  agree (Same resource value equal) t near same = refl
  agree (Compare left how right) t near same = refl
  agree (Not' s (more_of-Window part end_of-Window)) t near same = ap not (agree part t near same)
  agree (And' s (more_of-Window left end_of-Window) u (more_of-Window right end_of-Window)) t near same =
      (λ i. agree left t (left_true _ _ near) same i && agree right t (right_true (is_local left) _ near) same i)
  agree (Or' s (more_of-Window left end_of-Window) u (more_of-Window right end_of-Window)) t near same =
      (λ i. agree left t (left_true _ _ near) same i || agree right t (right_true (is_local left) _ near) same i)
  agree (Shift' s (more_of-Window part end_of-Window) start end) t near same = silent (Shift' s (more_of-Window part end_of-Window) start end) t (not_true _ near)
  agree (Longer' s (more_of-Window part end_of-Window) least) t near same = silent (Longer' s (more_of-Window part end_of-Window) least) t (not_true _ near)

-- the span that lasts as long as the run covers each time of the run
covers_all : (reach t : ℕ) → t < reach → covers (0, reach) t ≡ true
covers_all reach t below = grind (arith, common_steps)

pub spliced : (model : Parts) (run : Run) (window : Window) (times : Interval) (t : ℕ) → is_local window ≡ true → t < run.reach →
    window_holds model run window (Some times) t ≡ cond (covers times t) (window_holds model run window (Some (0, run.reach)) t) (window_holds model run window None t)
spliced model run window times t near below = go (covers times t) refl
  where
    go : (b : Bool) → covers times t ≡ b → window_holds model run window (Some times) t ≡ cond b (window_holds model run window (Some (0, run.reach)) t) (window_holds model run window None t)
    go true e = agree model run (Some times) (Some (0, run.reach)) window t near (e ∙ sym (covers_all run.reach t below))
    go false e = agree model run (Some times) None window t near e

not_cond : (b x y : Bool) → cond b (not x) (not y) ≡ not (cond b x y)
not_cond true x y = refl
not_cond false x y = refl

-- so where it does not hold is one of two answers that do not speak of the span
pub spliced_intervals : (model : Parts) (run : Run) (window : Window) (times : Interval) (outside inside made : List Interval) → is_local window ≡ true →
    AreIntervals run.reach (λ t. not (window_holds model run window None t)) outside → AreIntervals run.reach (λ t. not (window_holds model run window (Some (0, run.reach)) t)) inside →
    AreIntervals run.reach (λ t. replaced_contains outside inside times t) made → AreIntervals run.reach (λ t. not (window_holds model run window (Some times) t)) made
spliced_intervals model run window times outside inside made near for_none for_all is = record {
  in_order = is.in_order;
  times = λ t below.
      is.times t below
      ∙ ((λ i. cond (covers times t) (for_all.times t below i) (for_none.times t below i))
      ∙ (not_cond (covers times t) (window_holds model run window (Some (0, run.reach)) t) (window_holds model run window None t)
      ∙ ap not (sym (spliced model run window times t near below))));
}

pub spliced_set : (model : Parts) (run : Run) (window : Window) (times : Interval) (outside inside made : TimeSet) → is_local window ≡ true → outside ≡ times_not_held model run window None →
    inside ≡ times_not_held model run window (Some (0, run.reach)) → made.reach ≡ outside.reach → AreIntervals made.reach (λ t. replaced_contains outside.intervals inside.intervals times t) made.intervals →
    made ≡ times_not_held model run window (Some times)
spliced_set model run window times outside inside made near outside_is inside_is reach replaced =
    let same : made.reach ≡ run.reach = reach ∙ ap (λ (s : TimeSet). s.reach) outside_is in
    let none = subst (λ (l : List Interval). AreIntervals run.reach (λ t. not (window_holds model run window None t)) l) (sym (ap (λ (s : TimeSet). s.intervals) outside_is)) (they_are run.reach (λ t. not (window_holds model run window None t))) in
    let all =
    subst (λ (l : List Interval). AreIntervals run.reach (λ t. not (window_holds model run window (Some (0, run.reach)) t)) l) (sym (ap (λ (s : TimeSet). s.intervals) inside_is))
    (they_are run.reach (λ t. not (window_holds model run window (Some (0, run.reach)) t))) in
    let cut = subst (λ n. AreIntervals n (λ t. replaced_contains outside.intervals inside.intervals times t) made.intervals) same replaced in
    let is = is_the_list run.reach (λ t. not (window_holds model run window (Some times) t)) made.intervals (spliced_intervals model run window times outside.intervals inside.intervals made.intervals near none all cut) in
    λ i. record { reach = same i; intervals = is i }
