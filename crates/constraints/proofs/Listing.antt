-- Violations listed one after another.
use Rattle.std.proofs.Common.{◌≡◌, ℕ, ◌+◌, ◌<◌, ◌≤◌, Bool, not, List, [], ◌∷◌, ◌++◌, length, drop, map, get_or, refl, sym, ap, subst, ◌∙◌, Option}
use Rattle.aerie_base.specs.declared.models.model.Parts.{Parts}
use Rattle.run_data.specs.declared.runs.Run.{Run}
use Rattle.span_table.specs.declared.span.Span.{Span}
use Rattle.span_table.specs.AsDefined.{defined_span}
use Rattle.windows.specs.Times.{Interval, TimeSet, contains, AreIntervals}
use Rattle.windows.specs.Intervals.{intervals_of}
use Rattle.windows.specs.IntervalLaws.{is_the_list}
use Rattle.constraints.specs.declared.types.Window.{Window}
use Rattle.constraints.specs.declared.violation.Violation.{Violation}
use Rattle.constraints.specs.Judging.{violations_if}
use Rattle.constraints.specs.Violating.{listed, violations_of_spans}
use Rattle.constraints.proofs.Merging.{append_none, cut_at, none_left}
use Rattle.constraints.proofs.SpanTimes.{same_times}

-- ---- sets

pub set_is : (reach : ℕ) (f : ℕ → Bool) (made : TimeSet) → made.reach ≡ reach → AreIntervals made.reach f made.intervals → made ≡ record { reach = reach; intervals = intervals_of reach f }
set_is reach f made same are =
    let is = is_the_list reach f made.intervals (subst (λ n. AreIntervals n f made.intervals) same are) in
    λ i. record { reach = same i; intervals = is i }

pub not_set_is : (reach : ℕ) (f : ℕ → Bool) (times made : TimeSet) → times.reach ≡ reach → AreIntervals times.reach f times.intervals → made.reach ≡ times.reach →
    AreIntervals made.reach (λ t. not (contains times.intervals t)) made.intervals → made ≡ record { reach = reach; intervals = intervals_of reach (λ t. not (f t)) }
not_set_is reach f times made same are made_same made_are =
    set_is reach (λ t. not (f t)) made (made_same ∙ same)
    (same_times made.reach _ _ made.intervals (λ t below. ap not (are.times t (subst (λ n. t < n) made_same below))) made_are)

-- ---- lists

append_again : {A : Type 0} (made more rest : List A) → (made ++ more) ++ rest ≡ made ++ (more ++ rest)
append_again [] more rest = refl
append_again (y ∷ made) more rest = ap (λ l. y ∷ l) (append_again made more rest)

pub listed_some : (path : Option (List ℕ)) (reach : ℕ) (intervals : List Interval) → (intervals ≡ [] → ⊥) → listed path reach intervals ≡ (record { path = path; intervals = record { reach = reach; intervals = intervals } }) ∷ []
listed_some path reach [] some = absurd (some refl)
listed_some path reach (first ∷ rest) some = refl

pub listed_none : (path : Option (List ℕ)) (reach : ℕ) (intervals : List Interval) → intervals ≡ [] → listed path reach intervals ≡ []
listed_none path reach intervals none = ap (λ (l : List Interval). listed path reach l) none

module _ (model : Parts) (run : Run) (kind : ℕ) (window : Window) (spans : List Span) (i : ℕ) where
  pub violations_more : (span : Span) (found new : List Violation) → i < length spans → span ≡ get_or spans i span → new ≡ found ++ violations_if model run kind window (defined_span span) →
      found ++ violations_of_spans model run kind window (map defined_span (drop i spans)) ≡ violations_of_spans model run kind window (map defined_span spans) →
      new ++ violations_of_spans model run kind window (map defined_span (drop (i + 1) spans)) ≡ violations_of_spans model run kind window (map defined_span spans)
  violations_more span found new within is pushed before =
      ap (λ l. l ++ violations_of_spans model run kind window (map defined_span (drop (i + 1) spans))) pushed
      ∙ append_again found (violations_if model run kind window (defined_span span)) (violations_of_spans model run kind window (map defined_span (drop (i + 1) spans)))
      ∙ ap (λ (l : List Span). found ++ violations_of_spans model run kind window (map defined_span l)) (sym (cut_at spans i span within is))
      ∙ before

  pub violations_all : (found : List Violation) → length spans ≤ i →
      found ++ violations_of_spans model run kind window (map defined_span (drop i spans)) ≡ violations_of_spans model run kind window (map defined_span spans) →
      found ≡ violations_of_spans model run kind window (map defined_span spans)
  violations_all found past before =
      sym (append_none found) ∙ ap (λ (l : List Span). found ++ violations_of_spans model run kind window (map defined_span l)) (sym (none_left spans i past)) ∙ before
