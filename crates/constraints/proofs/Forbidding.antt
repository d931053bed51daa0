-- Two types that exclude one another: what the sweep takes and gives, over the spans of a run.
use Rattle.std.proofs.Common.{◌≡◌, ℕ, Bool, true, false, not, List, map, None, refl, ap, subst, ◌∙◌}
use Rattle.aerie_base.specs.declared.models.model.Parts.{Parts}
use Rattle.run_data.specs.declared.runs.Run.{Run}
use Rattle.run_data.specs.Spans.{SpanOf, spans_of}
use Rattle.span_table.specs.declared.span.Span.{Span}
use Rattle.span_table.specs.AsDefined.{defined_span}
use Rattle.windows.specs.Times.{TimeSet, AreIntervals}
use Rattle.constraints.specs.Violating.{listed, meet, where_not}
use Rattle.constraints.specs.declared.violation.Violation.{Violation}
use Rattle.constraints.proofs.Listing.{set_is}
use Rattle.constraints.proofs.SpanTimes.{same_times}

not_not : (b : Bool) → b ≡ not (not b)
not_not true = refl
not_not false = refl

pub met_set : (model : Parts) (run : Run) (one other : ℕ) (spans : List Span) (made : TimeSet) (found : List Violation) → map defined_span spans ≡ spans_of model run → made.reach ≡ run.reach →
    AreIntervals made.reach (meet run.reach one other (map defined_span spans)) made.intervals → found ≡ listed None made.reach made.intervals →
    found ≡ where_not None run.reach (λ t. not (meet run.reach one other (spans_of model run) t))
met_set model run one other spans made found exact reach are found_is =
    let meets = subst (λ (l : List SpanOf). AreIntervals made.reach (meet run.reach one other l) made.intervals) exact are in
    let twice = same_times made.reach (meet run.reach one other (spans_of model run)) (λ t. not (not (meet run.reach one other (spans_of model run) t))) made.intervals
    (λ t below. not_not (meet run.reach one other (spans_of model run) t)) meets in
    let is = set_is run.reach (λ t. not (not (meet run.reach one other (spans_of model run) t))) made reach twice in
    found_is ∙ ap (λ (s : TimeSet). listed None s.reach s.intervals) is
