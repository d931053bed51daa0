-- The sweep over spans, one after another.
use Rattle.std.proofs.Common.{◌≡◌, ℕ, ◌+◌, ◌<◌, ◌≤◌, List, [], ◌∷◌, ◌++◌, length, drop, map, get_or, refl, sym, ap, ◌∙◌}
use Rattle.span_table.specs.declared.span.Span.{Span}
use Rattle.span_table.specs.AsDefined.{defined_span}
use Rattle.windows.specs.Times.{Interval, contains}
use Rattle.constraints.specs.declared.meeting.Ends.{Ends}
use Rattle.constraints.specs.Meeting.{ByStart, HaveOwnPaths, no_ends, ends_with, meetings_of, swept}
use Rattle.constraints.specs.Violating.{meet}
use Rattle.constraints.proofs.Meetings.{swept_is}
use Rattle.constraints.proofs.Merging.{append_none, cut_at, none_left}

append_again : {A : Type 0} (made more rest : List A) → (made ++ more) ++ rest ≡ made ++ (more ++ rest)
append_again [] more rest = refl
append_again (y ∷ made) more rest = ap (λ l. y ∷ l) (append_again made more rest)

module _ (reach one other : ℕ) where
  pub swept_none : (ends : Ends) (made : List Interval) (spans : List Span) → made ≡ [] → ends ≡ no_ends →
      made ++ swept reach one other ends (map defined_span spans) ≡ swept reach one other no_ends (map defined_span spans)
  swept_none ends made spans none first = (λ i. none i ++ swept reach one other (first i) (map defined_span spans))

  pub swept_more : (spans : List Span) (i : ℕ) (span : Span) (made new : List Interval) (ends next : Ends) → i < length spans → span ≡ get_or spans i span →
      new ≡ made ++ meetings_of reach one other ends (defined_span span) → next ≡ ends_with reach one other ends (defined_span span) →
      made ++ swept reach one other ends (map defined_span (drop i spans)) ≡ swept reach one other no_ends (map defined_span spans) →
      new ++ swept reach one other next (map defined_span (drop (i + 1) spans)) ≡ swept reach one other no_ends (map defined_span spans)
  swept_more spans i span made new ends next within is pushed next_is before =
      (λ j. pushed j ++ swept reach one other (next_is j) (map defined_span (drop (i + 1) spans)))
      ∙ append_again made (meetings_of reach one other ends (defined_span span)) (swept reach one other (ends_with reach one other ends (defined_span span)) (map defined_span (drop (i + 1) spans)))
      ∙ ap (λ (l : List Span). made ++ swept reach one other ends (map defined_span l)) (sym (cut_at spans i span within is))
      ∙ before

  pub swept_times : (spans : List Span) (i : ℕ) (made : List Interval) (ends : Ends) → length spans ≤ i → ByStart (map defined_span spans) → HaveOwnPaths (map defined_span spans) →
      made ++ swept reach one other ends (map defined_span (drop i spans)) ≡ swept reach one other no_ends (map defined_span spans) →
      (t : ℕ) → t < reach → contains made t ≡ meet reach one other (map defined_span spans) t
  swept_times spans i made ends past order own before t below =
      ap (λ (l : List Interval). contains l t)
      (sym (append_none made) ∙ ap (λ (l : List Span). made ++ swept reach one other ends (map defined_span l)) (sym (none_left spans i past)) ∙ before)
      ∙ swept_is reach one other t (map defined_span spans) order own
