-- Frames that tell the same begin the same spans.
use Rattle.std.proofs.Common.{◌≡◌, ℕ, Bool, true, false, not, cond, ◌&&◌, ◌||◌, List, [], ◌∷◌, ◌++◌, map, Option, refl, sym, ap, ◌∙◌}
use Rattle.std.specs.List.{list_all, list_any}
use Rattle.aerie_base.specs.declared.values.Value.{Value}
use Rattle.aerie_base.specs.declared.models.model.Parts.{Parts}
use Rattle.aerie_base.specs.Paths.{is_prefix}
use Rattle.run_data.specs.declared.frames.Status.{Status}
use Rattle.run_data.specs.declared.frames.Status.TheVariants as status
use Rattle.run_data.specs.declared.tasks.BodyId.{BodyId}
use Rattle.run_data.specs.declared.tasks.BodyId.TheVariants as body
use Rattle.run_data.specs.Spans.{SpanOf, Timed, is_of_path, is_done, returned, or_returned, body_ended, task_ended, last_time, result_in, span_if, span_of_body, spans_from}
use Rattle.span_reuse.specs.Telling.{plain_status, told_of_spans}
use Rattle.span_reuse.proofs.SomeTasks.{span_with}

-- ---- one frame

abbrev plain : Status → Status
plain of = plain_status (is_done of) (returned of)

done_is : (of : Status) → is_done (plain of) ≡ is_done of
done_is (status.Done result) = refl
done_is (status.Delayed by next) = refl
done_is (status.Waiting condition next) = refl
done_is (status.Calling into next) = refl
done_is (status.Faulted fault) = refl

result_is : (a : Bool) (of : Status) (x y : Option Value) → x ≡ y →
    or_returned (a && is_done (plain of)) (returned (plain of)) x ≡ or_returned (a && is_done of) (returned of) y
result_is false of x y e = e
result_is true (status.Done result) x y e = refl
result_is true (status.Delayed by next) x y e = e
result_is true (status.Waiting condition next) x y e = e
result_is true (status.Calling into next) x y e = e
result_is true (status.Faulted fault) x y e = e

-- ---- one task

begun_told : (path : List ℕ) (before : List Timed) → list_any (is_of_path path) (map told_of_spans before) ≡ list_any (is_of_path path) before
begun_told path [] = refl
begun_told path (entry ∷ rest) = ap (λ b. is_of_path path entry || b) (begun_told path rest)

ended_told : (path : List ℕ) (all : List Timed) → body_ended (map told_of_spans all) path ≡ body_ended all path
ended_told path [] = refl
ended_told path (entry ∷ rest) =
    ap (λ b. (is_of_path path entry && b) || body_ended (map told_of_spans rest) path) (done_is entry.1.status)
    ∙ ap (λ b. (is_of_path path entry && is_done entry.1.status) || b) (ended_told path rest)

module _ (all : List Timed) (path : List ℕ) where
  abbrev finished : List Timed → List Timed → Bool
  finished whole frames = list_all (λ entry. not (is_prefix path entry.1.path) || body_ended whole entry.1.path) frames

  finished_told : (frames : List Timed) → finished (map told_of_spans all) (map told_of_spans frames) ≡ finished all frames
  finished_told [] = refl
  finished_told (entry ∷ rest) =
      ap (λ b. (not (is_prefix path entry.1.path) || b) && finished (map told_of_spans all) (map told_of_spans rest)) (ended_told entry.1.path all)
      ∙ ap (λ b. (not (is_prefix path entry.1.path) || body_ended all entry.1.path) && b) (finished_told rest)

  last_told : (frames : List Timed) (time : ℕ) → last_time (map told_of_spans frames) path time ≡ last_time frames path time
  last_told [] time = refl
  last_told (entry ∷ rest) time = last_told rest (cond (is_prefix path entry.1.path) entry.0 time)

  result_told : (frames : List Timed) → result_in (map told_of_spans frames) path ≡ result_in frames path
  result_told [] = refl
  result_told (entry ∷ rest) = result_is (is_of_path path entry) entry.1.status (result_in (map told_of_spans rest) path) (result_in rest path) (result_told rest)

-- ---- all of them

same_if : (model : Parts) (all : List Timed) (entry : Timed) (kind : ℕ) (b : Bool) →
    span_if b all model entry.0 (told_of_spans entry).1 kind ≡ span_if b all model entry.0 entry.1 kind
same_if model all entry kind true = refl
same_if model all entry kind false = refl

module _ (all : List Timed) (model : Parts) where
  body_told : (entry : Timed) (of : BodyId) → span_of_body (map told_of_spans all) model entry.0 (told_of_spans entry).1 of ≡ span_of_body all model entry.0 entry.1 of
  body_told entry (body.Activity kind) =
      ap (λ span. span ∷ [])
      (same_if model (map told_of_spans all) entry kind (task_ended (map told_of_spans all) entry.1.path)
      ∙ span_with model entry.0 entry.1 (map told_of_spans all) all kind (task_ended (map told_of_spans all) entry.1.path) (task_ended all entry.1.path)
      (finished_told all entry.1.path all) (last_told all entry.1.path all entry.0) (result_told all entry.1.path all))
  body_told entry (body.Daemon number) = refl

  abbrev begin_with : Timed → Bool → List SpanOf
  begin_with entry known = cond known [] (span_of_body all model entry.0 entry.1 entry.1.before.kind)

  spans_told : (before rest : List Timed) → spans_from (map told_of_spans all) model (map told_of_spans before) (map told_of_spans rest) ≡ spans_from all model before rest
  spans_told before [] = refl
  spans_told before (entry ∷ rest) =
      ap (λ known. cond known [] (span_of_body (map told_of_spans all) model entry.0 (told_of_spans entry).1 entry.1.before.kind)
      ++ spans_from (map told_of_spans all) model (told_of_spans entry ∷ map told_of_spans before) (map told_of_spans rest)) (begun_told entry.1.path before)
      ∙ (ap (λ l. cond (list_any (is_of_path entry.1.path) before) [] l ++ spans_from (map told_of_spans all) model (told_of_spans entry ∷ map told_of_spans before) (map told_of_spans rest))
      (body_told entry entry.1.before.kind)
      ∙ ap (λ l. begin_with entry (list_any (is_of_path entry.1.path) before) ++ l) (spans_told (entry ∷ before) rest))

-- frames that tell the same begin the same spans
pub spans_alike : (model : Parts) (frames others : List Timed) → map told_of_spans frames ≡ map told_of_spans others →
    spans_from frames model [] frames ≡ spans_from others model [] others
spans_alike model frames others same =
    sym (spans_told frames model [] frames) ∙ (ap (λ l. spans_from l model [] l) same ∙ spans_told others model [] others)
