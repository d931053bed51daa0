-- A task of an activity has the span that its first frame begins.
use Rattle.std.proofs.Common.{◌≡◌, inl, inr, ℕ, suc, Bool, true, false, ◌&&◌, ◌||◌, List, [], ◌∷◌, ◌++◌, length, take, Option, Some, None, slice_get, refl, sym, ap, ◌∙◌, subst, if◌then◌else◌}
use Rattle.std.proofs.Math.Seq.{take-append_seam}
use Rattle.std.proofs.lemmas.List.{length-map}
use Rattle.std.specs.List.{list_any}
use Rattle.aerie_base.specs.declared.values.Value.{Value}
use Rattle.aerie_base.specs.declared.values.Kind.{Kind}
use Rattle.aerie_base.specs.declared.models.EnumType.{EnumType}
use Rattle.aerie_base.specs.declared.models.Activity.{Activity}
use Rattle.aerie_base.specs.declared.models.model.Parts.{Parts}
use Rattle.aerie_base.specs.models.Signatures.{parameter_kinds}
use Rattle.aerie_base.specs.models.Values.{is_value_of}
use Rattle.aerie_base.specs.plans.OfModel.{are_values_of, takes}
use Rattle.run_data.specs.TaskFrames.{Frame}
use Rattle.run_data.specs.declared.tasks.BodyId.{BodyId}
use Rattle.run_data.specs.declared.tasks.BodyId.TheVariants as body
use Rattle.run_data.specs.declared.runs.Run.{Run}
use Rattle.run_data.specs.Spans.{SpanOf, Timed, is_of_path, task_ended, span_if, span_of_body, spans_from, put_span, sorted_spans, spans_of, comes_first, parameters_of, timed}
use Rattle.run_data.specs.TaskStates.{activity_begun}
use Rattle.span_table.specs.PlannedSpans.{IsOneOf}
use Rattle.span_table.specs.SpanLaws.{first_frame}
use Rattle.span_table.proofs.Planned.Paths.{same_is}

-- ---- one of these

among_front : {A : Type 0} (item : A) (items others : List A) → IsOneOf item items → IsOneOf item (items ++ others)
among_front item [] others among = absurd among
among_front item (first ∷ rest) others (inl e) = inl e
among_front item (first ∷ rest) others (inr among) = inr (among_front item rest others among)

among_back : {A : Type 0} (item : A) (items others : List A) → IsOneOf item others → IsOneOf item (items ++ others)
among_back item [] others among = among
among_back item (first ∷ rest) others among = inr (among_back item rest others among)

-- ---- in order

among_put : (span one : SpanOf) (spans : List SpanOf) → IsOneOf span (one ∷ spans) → IsOneOf span (put_span one spans)
among_put span one [] among = among
among_put span one (first ∷ rest) among = by (comes_first one first) among (among_put span one rest)
  where
    by : (before : Bool) → IsOneOf span (one ∷ first ∷ rest) → (IsOneOf span (one ∷ rest) → IsOneOf span (put_span one rest)) →
        IsOneOf span (if before then one ∷ first ∷ rest else first ∷ put_span one rest)
    by true among further = among
    by false (inl e) further = inr (further (inl e))
    by false (inr (inl e)) further = inl e
    by false (inr (inr among)) further = inr (further (inr among))

among_sorted : (span : SpanOf) (spans : List SpanOf) → IsOneOf span spans → IsOneOf span (sorted_spans spans)
among_sorted span [] among = absurd among
among_sorted span (first ∷ rest) (inl e) = among_put span first (sorted_spans rest) (inl e)
among_sorted span (first ∷ rest) (inr among) = among_put span first (sorted_spans rest) (inr (among_sorted span rest among))

-- ---- the span of a first frame

module _ (all : List Timed) (model : Parts) (path : List ℕ) (time kind : ℕ) (frame : Frame) (begins : frame.before.kind ≡ body.Activity kind) where
  abbrev begun_span : SpanOf
  begun_span = span_if (task_ended all frame.path) all model time frame kind

  at_first : (before : List Timed) → list_any (is_of_path path) before ≡ false → path ≡ frame.path →
      IsOneOf begun_span (if list_any (is_of_path frame.path) before then [] else span_of_body all model time frame frame.before.kind)
  at_first before none same =
      subst (λ (p : List ℕ). IsOneOf begun_span (if list_any (is_of_path p) before then [] else span_of_body all model time frame frame.before.kind)) same
      (subst (λ (b : Bool). IsOneOf begun_span (if b then [] else span_of_body all model time frame frame.before.kind)) (sym none)
      (subst (λ (k : BodyId). IsOneOf begun_span (span_of_body all model time frame k)) (sym begins) (inl refl)))

  among_from : (before entries : List Timed) → list_any (is_of_path path) before ≡ false → first_frame entries path ≡ Some (time, frame) →
      IsOneOf begun_span (spans_from all model before entries)
  among_from before [] none first = absurd (cc)
  among_from before (entry ∷ rest) none first = by (is_of_path path entry) refl first (among_from (entry ∷ before) rest)
    where
      by : (of : Bool) → is_of_path path entry ≡ of → (if of then Some entry else first_frame rest path) ≡ Some (time, frame) →
          (list_any (is_of_path path) (entry ∷ before) ≡ false → first_frame rest path ≡ Some (time, frame) → IsOneOf begun_span (spans_from all model (entry ∷ before) rest)) →
          IsOneOf begun_span (spans_from all model before (entry ∷ rest))
      by true of e further =
          let same : entry ≡ (time, frame) = cc in
          among_front begun_span _ (spans_from all model (entry ∷ before) rest)
          (subst (λ (x : Timed). IsOneOf begun_span (if list_any (is_of_path x.1.path) before then [] else span_of_body all model x.0 x.1 x.1.before.kind)) (sym same)
          (at_first before none (same_is path frame.path (ap (is_of_path path) (sym same) ∙ of))))
      by false of e further =
          among_back begun_span _ (spans_from all model (entry ∷ before) rest)
          (further (ap (λ (b : Bool). b || list_any (is_of_path path) before) of ∙ none) e)

-- the task has its span among those of the run
pub begun_has_span : (model : Parts) (run : Run) (path : List ℕ) (time kind : ℕ) (frame : Frame) → frame.before.kind ≡ body.Activity kind →
    first_frame (timed run.instants) path ≡ Some (time, frame) →
    IsOneOf (span_if (task_ended (timed run.instants) frame.path) (timed run.instants) model time frame kind) (spans_of model run)
begun_has_span model run path time kind frame begins first =
    among_sorted _ (spans_from (timed run.instants) model [] (timed run.instants))
    (among_from (timed run.instants) model path time kind frame begins [] (timed run.instants) refl first)

-- ---- what the span has

pub record IsSpanWith (model : Parts) (time : ℕ) (frame : Frame) (kind : ℕ) (span : SpanOf) : Type 0 where
  pub path : span.path ≡ frame.path
  pub kind_is : span.kind ≡ kind
  pub arguments : span.arguments ≡ take (parameters_of (slice_get model.activities kind)) frame.before.locals
  pub start : span.start ≡ time

pub span_has : (ended : Bool) (all : List Timed) (model : Parts) (time : ℕ) (frame : Frame) (kind : ℕ) → IsSpanWith model time frame kind (span_if ended all model time frame kind)
span_has true all model time frame kind = record { path = refl; kind_is = refl; arguments = refl; start = refl }
span_has false all model time frame kind = record { path = refl; kind_is = refl; arguments = refl; start = refl }

-- ---- its arguments

both : (a b : Bool) → (a && b) ≡ true → (a ≡ true) × (b ≡ true)
both true true h = (refl, refl)
both true false h = absurd (cc)
both false b h = absurd (cc)

as_many : (enums : List EnumType) (kinds : List Kind) (values : List Value) → are_values_of enums kinds values ≡ true → length values ≡ length kinds
as_many enums [] [] h = refl
as_many enums [] (value ∷ values) h = absurd (cc)
as_many enums (kind ∷ kinds) [] h = absurd (cc)
as_many enums (kind ∷ kinds) (value ∷ values) h =
    ap suc (as_many enums kinds values (both (is_value_of enums kind value) (are_values_of enums kinds values) h).1)

length_kinds : (activity : Activity) → length (parameter_kinds activity) ≡ length activity.parameters
length_kinds activity = length-map activity.parameters (λ parameter. parameter.kind)

pub arguments_taken : (model : Parts) (kind : ℕ) (arguments : List Value) → takes model.enums (slice_get model.activities kind) arguments ≡ true →
    take (parameters_of (slice_get model.activities kind)) (activity_begun model kind arguments).locals ≡ arguments
arguments_taken model kind arguments h = by (slice_get model.activities kind) h _
  where
    by : (activity : Option Activity) → takes model.enums activity arguments ≡ true → (rest : List Value) → take (parameters_of activity) (arguments ++ rest) ≡ arguments
    by None h rest = absurd (cc)
    by (Some activity) h rest =
        ap (λ (n : ℕ). take n (arguments ++ rest)) (sym (as_many model.enums (parameter_kinds activity) arguments h ∙ length_kinds activity))
        ∙ take-append_seam arguments rest
