-- A window whose parts that do not speak of a span were evaluated holds as the window does.
use Rattle.std.proofs.Common.{◌≡◌, ℕ, zero, suc, ◌<◌, ℤ, Bool, false, cond, not, ◌&&◌, ◌||◌, IsTrue, IfOk, Result, Ok, Err, Option, None, refl, sym, ap, subst, ◌∙◌, arith, nat_eq}
use Rattle.std.proofs.lemmas.Grind.{common_steps}
use Rattle.aerie_base.specs.declared.memory.OutOfMemory.{OutOfMemory}
use Rattle.aerie_base.specs.declared.models.model.Parts.{Parts}
use Rattle.run_data.specs.declared.runs.Run.{Run}
use Rattle.windows.specs.Times.{Interval, TimeSet, contains, shifted_contains, long_contains, AreIntervals}
use Rattle.windows.specs.Intervals.{one_time_more, intervals_of}
use Rattle.constraints.specs.declared.sources.Sources.{Sources}
use Rattle.constraints.specs.declared.types.Window.{Window, fold-Window}
use Rattle.constraints.specs.declared.types.Window as window
use Rattle.constraints.specs.declared.types.Window.TheOpen.{Window-F}
use Rattle.constraints.specs.declared.span_windows.SpanWindow.{SpanWindow, Times, Lasting, And, Or, Not, Shift, Longer, fold-SpanWindow, fold_out-SpanWindow, out-SpanWindow}
use Rattle.constraints.specs.declared.span_windows.SpanWindow.TheOpen.{SpanWindow-F}
use Rattle.constraints.specs.declared.span_windows.SpanWindow.TheViews.{outs-And, outs-Or, outs-Not, outs-Shift, outs-Longer}
use denote.Hole.Carrier.{out}
use Rattle.constraints.specs.Evaluating.{holds_by_fold, marks_by_fold}
use Rattle.constraints.specs.Holding.{window_holds, window_holds_step}
use Rattle.constraints.specs.Local.{marks}
use Rattle.constraints.specs.OverSources.{HoldsAsFolded, HoldsAsWindow, folded_over}
use Rattle.constraints.specs.Recursion.{window_gives}
use Rattle.constraints.specs.RecursionLaws.{gives_fold, gives-And, gives-Or, gives-Not, gives-Shift, gives-Longer}
use Rattle.constraints.specs.SpanWindows.{holds_for, holds_for_step, is_below, is_below_step}
use Rattle.constraints.proofs.Folds.{holds_is, marks_are}
use Rattle.constraints.proofs.Splicing.{silent}

-- ---- the fold at each form

module _ (A : Type 0) (step : SpanWindow-F A → A) where
  pub fold_times : (set : TimeSet) → fold-SpanWindow A step (Times set) ≡ step (SpanWindow-F.Times set)
  unfolding out-SpanWindow out
  fold_times set = fold_out-SpanWindow A step (Times set)

  pub fold_lasting : fold-SpanWindow A step Lasting ≡ step SpanWindow-F.Lasting
  unfolding out-SpanWindow out
  fold_lasting = fold_out-SpanWindow A step Lasting

  pub fold_and : (left right : SpanWindow) → fold-SpanWindow A step (And left right) ≡ step (SpanWindow-F.And (fold-SpanWindow A step left) (fold-SpanWindow A step right))
  fold_and left right = rw (fold_out-SpanWindow, outs-And) refl

  pub fold_or : (left right : SpanWindow) → fold-SpanWindow A step (Or left right) ≡ step (SpanWindow-F.Or (fold-SpanWindow A step left) (fold-SpanWindow A step right))
  fold_or left right = rw (fold_out-SpanWindow, outs-Or) refl

  pub fold_not : (part : SpanWindow) → fold-SpanWindow A step (Not part) ≡ step (SpanWindow-F.Not (fold-SpanWindow A step part))
  fold_not part = rw (fold_out-SpanWindow, outs-Not) refl

  pub fold_shift : (part : SpanWindow) (start end : ℤ) → fold-SpanWindow A step (Shift part start end) ≡ step (SpanWindow-F.Shift (fold-SpanWindow A step part) start end)
  fold_shift part start end = rw (fold_out-SpanWindow, outs-Shift) refl

  pub fold_longer : (part : SpanWindow) (least : ℕ) → fold-SpanWindow A step (Longer part least) ≡ step (SpanWindow-F.Longer (fold-SpanWindow A step part) least)
  fold_longer part least = rw (fold_out-SpanWindow, outs-Longer) refl

-- ---- the fold of a window at forms with parts

module _ (A : Type 0) (nothing : A) (step : Window-F A → A) where
  folds : (w : Window) → window_gives A nothing step w ≡ fold-Window A step w
  folds w = gives_fold A nothing step w

  window_and : (left right : Window) → fold-Window A step (window.And left right) ≡ step (Window-F.And (fold-Window A step left) (fold-Window A step right))
  window_and left right = sym (folds (window.And left right)) ∙ gives-And A nothing step left right ∙ (λ i. step (Window-F.And (folds left i) (folds right i)))

  window_or : (left right : Window) → fold-Window A step (window.Or left right) ≡ step (Window-F.Or (fold-Window A step left) (fold-Window A step right))
  window_or left right = sym (folds (window.Or left right)) ∙ gives-Or A nothing step left right ∙ (λ i. step (Window-F.Or (folds left i) (folds right i)))

  window_not : (part : Window) → fold-Window A step (window.Not part) ≡ step (Window-F.Not (fold-Window A step part))
  window_not part = sym (folds (window.Not part)) ∙ gives-Not A nothing step part ∙ (λ i. step (Window-F.Not (folds part i)))

  window_shift : (part : Window) (start end : ℤ) → fold-Window A step (window.Shift part start end) ≡ step (Window-F.Shift (fold-Window A step part) start end)
  window_shift part start end = sym (folds (window.Shift part start end)) ∙ gives-Shift A nothing step part start end ∙ (λ i. step (Window-F.Shift (folds part i) start end))

  window_longer : (part : Window) (least : ℕ) → fold-Window A step (window.Longer part least) ≡ step (Window-F.Longer (fold-Window A step part) least)
  window_longer part least = sym (folds (window.Longer part least)) ∙ gives-Longer A nothing step part least ∙ (λ i. step (Window-F.Longer (folds part i) least))

-- ---- tests that agree below the reach

-- they have the same maximal intervals
pub same_intervals : (reach : ℕ) (f g : ℕ → Bool) → ((t : ℕ) → t < reach → f t ≡ g t) → intervals_of reach f ≡ intervals_of reach g
same_intervals zero f g alike = refl
same_intervals (suc n) f g alike =
    let before = same_intervals n f g (λ t below. alike t (omega arith)) in
    let here = alike n (omega arith) in
    λ i. cond (here i) (one_time_more (before i) n) (before i)

-- ---- what holds of each form

module _ (sources : Sources) where
  abbrev reach : ℕ
  reach = sources.run.now.reach

  abbrev steps : Option Interval → Window-F (ℕ → Bool) → ℕ → Bool
  steps bound = window_holds_step sources.model.now sources.run.now bound

  pub lasting_holds : (w : Window) → w ≡ window.DuringBound → HoldsAsFolded sources w Lasting
  lasting_holds w is bound t below =
      ap (λ (f : ℕ → Bool). f t) (fold_lasting (ℕ → Bool) (holds_for_step reach bound))
      ∙ sym (ap (λ (v : Window). folded_over sources v bound t) is ∙ ap (λ (f : ℕ → Bool). f t) (sym (gives_fold (ℕ → Bool) (λ u. false) (steps bound) window.DuringBound)))

  pub and_holds : (w left right : Window) (one other : SpanWindow) → w ≡ window.And left right → HoldsAsFolded sources left one → HoldsAsFolded sources right other → HoldsAsFolded sources w (And one other)
  and_holds w left right one other is on_left on_right bound t below =
      ap (λ (f : ℕ → Bool). f t) (fold_and (ℕ → Bool) (holds_for_step reach bound) one other)
      ∙ (λ i. on_left bound t below i && on_right bound t below i)
      ∙ sym (ap (λ (v : Window). folded_over sources v bound t) is ∙ ap (λ (f : ℕ → Bool). f t) (window_and (ℕ → Bool) (λ u. false) (steps bound) left right))

  pub or_holds : (w left right : Window) (one other : SpanWindow) → w ≡ window.Or left right → HoldsAsFolded sources left one → HoldsAsFolded sources right other → HoldsAsFolded sources w (Or one other)
  or_holds w left right one other is on_left on_right bound t below =
      ap (λ (f : ℕ → Bool). f t) (fold_or (ℕ → Bool) (holds_for_step reach bound) one other)
      ∙ (λ i. on_left bound t below i || on_right bound t below i)
      ∙ sym (ap (λ (v : Window). folded_over sources v bound t) is ∙ ap (λ (f : ℕ → Bool). f t) (window_or (ℕ → Bool) (λ u. false) (steps bound) left right))

  pub not_holds : (w part : Window) (one : SpanWindow) → w ≡ window.Not part → HoldsAsFolded sources part one → HoldsAsFolded sources w (Not one)
  not_holds w part one is inner bound t below =
      ap (λ (f : ℕ → Bool). f t) (fold_not (ℕ → Bool) (holds_for_step reach bound) one)
      ∙ ap not (inner bound t below)
      ∙ sym (ap (λ (v : Window). folded_over sources v bound t) is ∙ ap (λ (f : ℕ → Bool). f t) (window_not (ℕ → Bool) (λ u. false) (steps bound) part))

  pub shift_holds : (w part : Window) (one : SpanWindow) (start end s e : ℤ) → w ≡ window.Shift part start end → s ≡ start → e ≡ end → HoldsAsFolded sources part one → HoldsAsFolded sources w (Shift one s e)
  shift_holds w part one start end s e is start_is end_is inner bound t below =
      ap (λ (f : ℕ → Bool). f t) (fold_shift (ℕ → Bool) (holds_for_step reach bound) one s e)
      ∙ (λ i. shifted_contains (start_is i) (end_is i) (same_intervals reach (holds_for reach one bound) (folded_over sources part bound) (inner bound) i) t)
      ∙ sym (ap (λ (v : Window). folded_over sources v bound t) is ∙ ap (λ (f : ℕ → Bool). f t) (window_shift (ℕ → Bool) (λ u. false) (steps bound) part start end))

  pub longer_holds : (w part : Window) (one : SpanWindow) (least : ℕ) → w ≡ window.Longer part least → HoldsAsFolded sources part one → HoldsAsFolded sources w (Longer one least)
  longer_holds w part one least is inner bound t below =
      ap (λ (f : ℕ → Bool). f t) (fold_longer (ℕ → Bool) (holds_for_step reach bound) one least)
      ∙ (λ i. long_contains least (same_intervals reach (holds_for reach one bound) (folded_over sources part bound) (inner bound) i) t)
      ∙ sym (ap (λ (v : Window). folded_over sources v bound t) is ∙ ap (λ (f : ℕ → Bool). f t) (window_longer (ℕ → Bool) (λ u. false) (steps bound) part least))

  -- what was evaluated for no span, of a window that speaks of none
  pub silent_holds : (w : Window) (made : TimeSet) → (marks_by_fold w).0 ≡ false → made.reach ≡ sources.run.now.reach → AreIntervals made.reach (window_holds sources.model.now sources.run.now w None) made.intervals →
      HoldsAsFolded sources w (Times made)
  silent_holds w made none same are bound t below =
      ap (λ (f : ℕ → Bool). f t) (fold_times (ℕ → Bool) (holds_for_step reach bound) made)
      ∙ are.times t (subst (λ n. t < n) (sym same) below)
      ∙ silent sources.model.now sources.run.now None bound w t (ap (λ (m : Bool × Bool). m.0) (marks_are w) ∙ none)
      ∙ ap (λ (f : ℕ → Bool). f t) (holds_is sources.model.now sources.run.now w bound)

  pub as_window : (w : Window) (made : SpanWindow) → HoldsAsFolded sources w made → HoldsAsWindow sources w made
  as_window w made folded bound t below = folded bound t below ∙ sym (ap (λ (f : ℕ → Bool). f t) (holds_is sources.model.now sources.run.now w bound))

  pub as_window_result : (w : Window) (result : Result SpanWindow OutOfMemory) → IfOk result (HoldsAsFolded sources w) → IfOk result (HoldsAsWindow sources w)
  as_window_result w (Ok made) folded = as_window w made folded
  as_window_result w (Err e) folded = folded

-- ---- the reach of its sets

module _ (reach : ℕ) where
  pub times_below : (set : TimeSet) → set.reach ≡ reach → IsTrue (is_below reach (Times set))
  times_below set same = let here = fold_times Bool (is_below_step reach) set in here ∙ (grind arith)

  pub lasting_below : IsTrue (is_below reach Lasting)
  lasting_below = fold_lasting Bool (is_below_step reach)

  pub and_below : (one other : SpanWindow) → IsTrue (is_below reach one) → IsTrue (is_below reach other) → IsTrue (is_below reach (And one other))
  and_below one other left right = fold_and Bool (is_below_step reach) one other ∙ (λ i. left i && right i)

  pub or_below : (one other : SpanWindow) → IsTrue (is_below reach one) → IsTrue (is_below reach other) → IsTrue (is_below reach (Or one other))
  or_below one other left right = fold_or Bool (is_below_step reach) one other ∙ (λ i. left i && right i)

  pub not_below : (one : SpanWindow) → IsTrue (is_below reach one) → IsTrue (is_below reach (Not one))
  not_below one inner = fold_not Bool (is_below_step reach) one ∙ inner

  pub shift_below : (one : SpanWindow) (start end : ℤ) → IsTrue (is_below reach one) → IsTrue (is_below reach (Shift one start end))
  shift_below one start end inner = fold_shift Bool (is_below_step reach) one start end ∙ inner

  pub longer_below : (one : SpanWindow) (least : ℕ) → IsTrue (is_below reach one) → IsTrue (is_below reach (Longer one least))
  longer_below one least inner = fold_longer Bool (is_below_step reach) one least ∙ inner
