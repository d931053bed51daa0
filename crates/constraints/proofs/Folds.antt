-- What is defined by a recursion that computes is what the fold gives.
use Rattle.std.proofs.Common.{◌≡◌, ℕ, ℤ, Bool, false, true, ◌&&◌, Option, Result, Ok, Err, IfOk, IsTrue, refl, sym, ap, subst, ◌∙◌, arith, unsigned_abs, true≢false, to_z, of_z}
use Rattle.std.specs.Int.{w64}
use Rattle.std.proofs.lemmas.Bool.{leb-true}
use Rattle.std.proofs.lemmas.Int.{to_z-of_z, fits_signed_from_abs}
use Rattle.aerie_base.specs.declared.memory.OutOfMemory.{OutOfMemory}
use Rattle.windows.specs.Intervals.{intervals_of}
use Rattle.aerie_base.specs.declared.models.model.Parts.{Parts}
use Rattle.run_data.specs.declared.runs.Run.{Run}
use Rattle.windows.specs.Times.{Interval, TimeSet, AreIntervals, shifted_contains, long_contains}
use Rattle.constraints.specs.declared.types.Window.{Window, Shift, Longer, fold-Window}
use Rattle.constraints.specs.declared.types.Window.TheOpen.{Window-F}
use Rattle.constraints.specs.Evaluating.{holds_by_fold, is_window_by_fold, marks_by_fold}
use Rattle.constraints.specs.Holding.{window_holds, window_holds_step}
use Rattle.constraints.specs.Local.{marks, marks_step}
use Rattle.constraints.specs.OfModel.{is_shift, is_window, window_step}
use Rattle.constraints.specs.RecursionLaws.{gives_fold, gives-Shift, gives-Longer}

pub holds_is : (model : Parts) (run : Run) (window : Window) (bound : Option Interval) → window_holds model run window bound ≡ holds_by_fold model run window bound
unfolding window_holds
holds_is model run window bound = gives_fold (ℕ → Bool) (λ t. false) (window_holds_step model run bound) window

pub window_is : (model : Parts) (window : Window) → is_window model window ≡ is_window_by_fold model window
unfolding is_window
window_is model window = gives_fold Bool false (window_step model) window

pub marks_are : (window : Window) → marks window ≡ marks_by_fold window
unfolding marks
marks_are window = gives_fold (Bool × Bool) (false, true) marks_step window

fold_shift : (A : Type 0) (nothing : A) (step : Window-F A → A) (part : Window) (start end : ℤ) → fold-Window A step (Shift part start end) ≡ step (Window-F.Shift (fold-Window A step part) start end)
fold_shift A nothing step part start end =
    sym (gives_fold A nothing step (Shift part start end)) ∙ gives-Shift A nothing step part start end ∙ ap (λ (x : A). step (Window-F.Shift x start end)) (gives_fold A nothing step part)

fold_longer : (A : Type 0) (nothing : A) (step : Window-F A → A) (part : Window) (least : ℕ) → fold-Window A step (Longer part least) ≡ step (Window-F.Longer (fold-Window A step part) least)
fold_longer A nothing step part least =
    sym (gives_fold A nothing step (Longer part least)) ∙ gives-Longer A nothing step part least ∙ ap (λ (x : A). step (Window-F.Longer x least)) (gives_fold A nothing step part)

left_of : (a b : Bool) → IsTrue (a && b) → IsTrue a
left_of true b both = refl
left_of false b both = both

right_of : (a b : Bool) → IsTrue (a && b) → IsTrue b
right_of true b both = both
right_of false b both = absurd (true≢false (sym both))

pub handed_shift : (x : ℤ) → IsTrue (is_shift x) → to_z w64 (of_z w64 x) ≡ x
handed_shift x is = let small = leb-true (unsigned_abs x) 1_000_000_000_000_000 is in to_z-of_z w64 x (fits_signed_from_abs w64 x (omega (arith, small)))

-- what is handed on of both numbers of a moved window is these
pub shift_handed : (model : Parts) (window part : Window) (start end : ℤ) → window ≡ Shift part start end → IsTrue (is_window_by_fold model window) → (to_z w64 (of_z w64 start) ≡ start) × (to_z w64 (of_z w64 end) ≡ end)
shift_handed model window part start end is typed =
    let good : IsTrue ((is_window_by_fold model part && is_shift start) && is_shift end) =
    subst IsTrue (ap (is_window_by_fold model) is ∙ fold_shift Bool false (window_step model) part start end) typed in (
      handed_shift start (right_of (is_window_by_fold model part) (is_shift start) (left_of (is_window_by_fold model part && is_shift start) (is_shift end) good)),
      handed_shift end (right_of (is_window_by_fold model part && is_shift start) (is_shift end) good),
    )

pub shift_held : (model : Parts) (run : Run) (window : Window) (bound : Option Interval) (part : Window) (start end : ℤ) (inner : TimeSet) (result : Result TimeSet OutOfMemory) → window ≡ Shift part start end →
    IsTrue (is_window_by_fold model window) → inner.reach ≡ run.reach → AreIntervals inner.reach (holds_by_fold model run part bound) inner.intervals →
    IfOk result (λ made. (test : ℕ → Bool) → AreIntervals inner.reach test inner.intervals →
    AreIntervals made.reach (λ t. shifted_contains (to_z w64 (of_z w64 start)) (to_z w64 (of_z w64 end)) (intervals_of inner.reach test) t) made.intervals) →
    IfOk result (λ made. AreIntervals made.reach (holds_by_fold model run window bound) made.intervals)
shift_held model run window bound part start end inner (Ok made) is typed reach held shifted =
    let handed = shift_handed model window part start end is typed in
    let start_is = handed.0 in
    let end_is = handed.1 in
    let whole = ap (λ (w : Window). holds_by_fold model run w bound) is ∙ fold_shift (ℕ → Bool) (λ t. false) (window_holds_step model run bound) part start end in
    subst (λ (f : ℕ → Bool). AreIntervals made.reach f made.intervals)
    ((λ i t. shifted_contains (start_is i) (end_is i) (intervals_of (reach i) (holds_by_fold model run part bound)) t) ∙ sym whole)
    (shifted (holds_by_fold model run part bound) held)
shift_held model run window bound part start end inner (Err e) is typed reach held shifted = shifted

pub longer_held : (model : Parts) (run : Run) (window : Window) (bound : Option Interval) (part : Window) (least : ℕ) (inner : TimeSet) (result : Result TimeSet OutOfMemory) → window ≡ Longer part least →
    inner.reach ≡ run.reach → AreIntervals inner.reach (holds_by_fold model run part bound) inner.intervals →
    IfOk result (λ made. (test : ℕ → Bool) → AreIntervals inner.reach test inner.intervals → AreIntervals made.reach (λ t. long_contains least (intervals_of inner.reach test) t) made.intervals) →
    IfOk result (λ made. AreIntervals made.reach (holds_by_fold model run window bound) made.intervals)
longer_held model run window bound part least inner (Ok made) is reach held long =
    let whole = ap (λ (w : Window). holds_by_fold model run w bound) is ∙ fold_longer (ℕ → Bool) (λ t. false) (window_holds_step model run bound) part least in
    subst (λ (f : ℕ → Bool). AreIntervals made.reach f made.intervals)
    ((λ i t. long_contains least (intervals_of (reach i) (holds_by_fold model run part bound)) t) ∙ sym whole)
    (long (holds_by_fold model run part bound) held)
longer_held model run window bound part least inner (Err e) is reach held long = long
