-- Frames, and one frame more: what is then known of a body and of a path.
use Rattle.std.proofs.Common.{◌≡◌, ℕ, ◌≤◌, Bool, true, false, not, cond, is_some, ◌&&◌, ◌||◌, List, [], ◌∷◌, ◌++◌, length, Option, Some, None, refl, sym, ap, subst, ◌∙◌}
use Rattle.std.specs.List.{list_any}
use Rattle.std.specs.Cmp.Lexicographic.{same_text}
use Rattle.std.proofs.lemmas.List.Folds.{list_any-append}
use Rattle.std.proofs.lemmas.Cmp.{nat_list_eq_equiv}
use Rattle.std.proofs.lemmas.Bool.{false≢true}
use Rattle.aerie_base.specs.declared.values.Value.{Value}
use Rattle.aerie_base.specs.Paths.{is_prefix}
use Rattle.run_data.specs.declared.frames.Status.{Status}
use Rattle.run_data.specs.Spans.{Timed, same_path, is_done, returned, is_of_path, body_ended, result_in, or_returned}
use Rattle.span_table.specs.declared.body_states.BodyState.{BodyState}
use Rattle.span_table.specs.declared.body_states.BodyState.TheVariants.{Over}
use Rattle.span_table.specs.BodyStates.{is_open_state, state_if, body_after, is_open_after, state_by, noted_state}
use Rattle.span_table.specs.declared.known_tasks.Ending.{Ending}
use Rattle.span_table.specs.declared.known_tasks.Ending.TheVariants.{After}
use Rattle.span_table.specs.Begun.{last_after}
use Rattle.span_table.specs.KnownTasks.{TaskList, AreLinked, EndsAbove, IsPathAt, Links, Numbers, PutsBody, body_state_in, ending_of, known_task, links_of}
use Rattle.span_table.specs.Progress.{KnowsTasks}

or_false : (b : Bool) → (b || false) ≡ b
or_false true = refl
or_false false = refl

-- ---- lists of frames

any_more : (test : Timed → Bool) (frames : List Timed) (frame : Timed) → list_any test (frames ++ frame ∷ []) ≡ (list_any test frames || test frame)
any_more test frames frame =
    list_any-append test frames (frame ∷ []) ∙ ap (λ b. list_any test frames || b) (or_false (test frame))

result_step : (b ended : Bool) (result all before rest : Option Value) → all ≡ cond ended before rest →
    or_returned b result all ≡ cond (b || ended) (or_returned b result before) rest
result_step true ended result all before rest e = refl
result_step false ended result all before rest e = e

result_more : (path : List ℕ) (frames : List Timed) (frame : Timed) →
    result_in (frames ++ frame ∷ []) path ≡
    cond (body_ended frames path) (result_in frames path) (or_returned (is_of_path path frame && is_done frame.1.status) (returned frame.1.status) None)
result_more path [] frame = refl
result_more path (first ∷ frames) frame =
    result_step (is_of_path path first && is_done first.1.status) (body_ended frames path) (returned first.1.status) (result_in (frames ++ frame ∷ []) path)
    (result_in frames path) (or_returned (is_of_path path frame && is_done frame.1.status) (returned frame.1.status) None) (result_more path frames frame)

-- the last time
pub last_more : (found : Option ℕ) (path : List ℕ) (frames : List Timed) (frame : Timed) →
    last_after found (frames ++ frame ∷ []) path ≡ cond (is_prefix path frame.1.path) (Some frame.0) (last_after found frames path)
last_more found path [] frame = refl
last_more found path (first ∷ frames) frame = last_more (cond (is_prefix path first.1.path) (Some first.0) found) path frames frame

-- ---- one body

-- a body that has ended has begun
pub ended_begun : (path : List ℕ) (frames : List Timed) → body_ended frames path ≡ true → list_any (is_of_path path) frames ≡ true
ended_begun path [] ended = ended
ended_begun path (first ∷ frames) ended = go (is_of_path path first) (is_done first.1.status) ended (ended_begun path frames)
  where
    go : (b d : Bool) → ((b && d) || body_ended frames path) ≡ true → (body_ended frames path ≡ true → list_any (is_of_path path) frames ≡ true) →
        (b || list_any (is_of_path path) frames) ≡ true
    go true d e rest = refl
    go false d e rest = rest e

of_it : (begun ended d : Bool) (result returns : Option Value) (status : Status) → is_done status ≡ d → returned status ≡ returns → (ended ≡ true → begun ≡ true) →
    state_if (begun || true) (ended || (true && d)) (cond ended result (or_returned (true && d) returns None)) ≡ Some (noted_state (state_if begun ended result) status)
of_it true true d result returns status is gives valid = refl
of_it true false true result returns status is gives valid = ap (λ r. Some (Over r)) (sym gives) ∙ ap (λ b. Some (state_by b (returned status))) (sym is)
of_it true false false result returns status is gives valid = ap (λ b. Some (state_by b (returned status))) (sym is)
of_it false true d result returns status is gives valid = absurd (false≢true (valid refl))
of_it false false true result returns status is gives valid = ap (λ r. Some (Over r)) (sym gives) ∙ ap (λ b. Some (state_by b (returned status))) (sym is)
of_it false false false result returns status is gives valid = ap (λ b. Some (state_by b (returned status))) (sym is)

of_another : (begun ended d : Bool) (result returns : Option Value) →
    state_if (begun || false) (ended || (false && d)) (cond ended result (or_returned (false && d) returns None)) ≡ state_if begun ended result
of_another true true d result returns = refl
of_another true false d result returns = refl
of_another false true d result returns = refl
of_another false false d result returns = refl

-- what is known of a body once one more frame is known
pub body_more : (frames : List Timed) (frame : Timed) (path : List ℕ) →
    body_after (frames ++ frame ∷ []) path ≡
    cond (same_path frame.1.path path) (Some (noted_state (body_after frames frame.1.path) frame.1.status)) (body_after frames path)
body_more frames frame path = go (same_path path frame.1.path) refl
  where
    parts : (b : Bool) → same_path path frame.1.path ≡ b → body_after (frames ++ frame ∷ []) path ≡
        state_if (list_any (is_of_path path) frames || b) (body_ended frames path || (b && is_done frame.1.status))
        (cond (body_ended frames path) (result_in frames path) (or_returned (b && is_done frame.1.status) (returned frame.1.status) None))
    parts b e =
        ap (λ x. state_if x (body_ended (frames ++ frame ∷ []) path) (result_in (frames ++ frame ∷ []) path)) (any_more (is_of_path path) frames frame)
        ∙ (ap (λ x. state_if (list_any (is_of_path path) frames || is_of_path path frame) x (result_in (frames ++ frame ∷ []) path))
        (any_more (λ entry. is_of_path path entry && is_done entry.1.status) frames frame)
        ∙ (ap (λ x. state_if (list_any (is_of_path path) frames || is_of_path path frame) (body_ended frames path || (is_of_path path frame && is_done frame.1.status)) x)
        (result_more path frames frame)
        ∙ ap (λ x. state_if (list_any (is_of_path path) frames || x) (body_ended frames path || (x && is_done frame.1.status))
        (cond (body_ended frames path) (result_in frames path) (or_returned (x && is_done frame.1.status) (returned frame.1.status) None))) e))

    swapped : (b : Bool) → same_path path frame.1.path ≡ b → b ≡ same_path frame.1.path path
    swapped b e = sym e ∙ nat_list_eq_equiv.symm path frame.1.path

    go : (b : Bool) → same_path path frame.1.path ≡ b → body_after (frames ++ frame ∷ []) path ≡
        cond (same_path frame.1.path path) (Some (noted_state (body_after frames frame.1.path) frame.1.status)) (body_after frames path)
    go true e =
        parts true e
        ∙ (of_it (list_any (is_of_path path) frames) (body_ended frames path) (is_done frame.1.status) (result_in frames path) (returned frame.1.status) frame.1.status refl refl
        (ended_begun path frames)
        ∙ (ap (λ p. Some (noted_state (body_after frames p) frame.1.status)) (same_text path frame.1.path (sym e))
        ∙ ap (λ b. cond b (Some (noted_state (body_after frames frame.1.path) frame.1.status)) (body_after frames path)) (swapped true e)))
    go false e =
        parts false e
        ∙ (of_another (list_any (is_of_path path) frames) (body_ended frames path) (is_done frame.1.status) (result_in frames path) (returned frame.1.status)
        ∙ ap (λ b. cond b (Some (noted_state (body_after frames frame.1.path) frame.1.status)) (body_after frames path)) (swapped false e))

pub open_is : (frames : List Timed) (path : List ℕ) → is_open_after frames path ≡ is_open_state (body_after frames path)
open_is frames path = go (list_any (is_of_path path) frames) (body_ended frames path)
  where
    go : (begun ended : Bool) → (begun && not ended) ≡ is_open_state (state_if begun ended (result_in frames path))
    go true true = refl
    go true false = refl
    go false ended = refl

-- a body is known where a frame was of it
pub begun_is : (frames : List Timed) (path : List ℕ) → is_some (body_after frames path) ≡ list_any (is_of_path path) frames
begun_is frames path = go (list_any (is_of_path path) frames) (body_ended frames path)
  where
    go : (begun ended : Bool) → is_some (state_if begun ended (result_in frames path)) ≡ begun
    go true true = refl
    go true false = refl
    go false ended = refl

-- ---- all tasks

-- once the times of a frame are noted, and its body is not
pub record AreTimed (frames : List Timed) (frame : Timed) (number : ℕ) (tasks : TaskList) : Type 0 where
  pub linked : AreLinked (links_of tasks)
  pub at : IsPathAt (links_of tasks) number frame.1.path
  pub bodies : (path : List ℕ) → body_state_in (known_task tasks path) ≡ body_after frames path
  pub endings : (path : List ℕ) → 2 ≤ length path → ending_of (known_task tasks path) ≡ After (last_after None (frames ++ frame ∷ []) path)

pub are_timed : (frames : List Timed) (frame : Timed) (number : ℕ) (before middle after : TaskList) → KnowsTasks frames before → Numbers frame.1.path number before middle →
    (AreLinked (links_of middle) → EndsAbove number (After (Some frame.0)) middle after) → AreTimed frames frame number after
are_timed frames frame number before middle after knows numbered ends =
    let end = ends numbered.linked frame.1.path numbered.there in
    record {
      linked = subst AreLinked (sym end.0) numbered.linked;
      at = subst (λ (l : Links). IsPathAt l number frame.1.path) (sym end.0) numbered.there;
      bodies = λ path. end.1 path ∙ (numbered.same.bodies path ∙ knows.bodies path);
      endings = λ path long.
          end.2 path long
          ∙ (ap (λ (e : Ending). cond (is_prefix path frame.1.path) (After (Some frame.0)) e) (numbered.same.endings path ∙ knows.endings path long)
          ∙ (within (is_prefix path frame.1.path) (last_after None frames path)
          ∙ ap After (sym (last_more None path frames frame))));
    }
  where
    within : (b : Bool) (last : Option ℕ) → cond b (After (Some frame.0)) (After last) ≡ After (cond b (Some frame.0) last)
    within true last = refl
    within false last = refl

-- the state of the frame's body is put
pub knows_more : (frames : List Timed) (frame : Timed) (number : ℕ) (before after : TaskList) (state : BodyState) → AreTimed frames frame number before →
    state ≡ noted_state (body_after frames frame.1.path) frame.1.status → PutsBody number state before after → KnowsTasks (frames ++ frame ∷ []) after
knows_more frames frame number before after state timed is puts =
    let put = puts frame.1.path timed.at in
    record {
      linked = subst AreLinked (sym put.0) timed.linked;
      bodies = λ path.
          put.1 path
          ∙ (ap (λ s. cond (same_path frame.1.path path) (Some s) (body_state_in (known_task before path))) is
          ∙ (ap (λ s. cond (same_path frame.1.path path) (Some (noted_state (body_after frames frame.1.path) frame.1.status)) s) (timed.bodies path)
          ∙ sym (body_more frames frame path)));
      endings = λ path long. put.2 path ∙ timed.endings path long;
    }

-- and where it stays as it was
pub knows_same : (frames : List Timed) (frame : Timed) (number : ℕ) (tasks : TaskList) → AreTimed frames frame number tasks →
    body_after frames frame.1.path ≡ Some (noted_state (body_after frames frame.1.path) frame.1.status) → KnowsTasks (frames ++ frame ∷ []) tasks
knows_same frames frame number tasks timed stays = record {
  linked = timed.linked;
  bodies = λ path. timed.bodies path ∙ (there (same_path frame.1.path path) path refl ∙ sym (body_more frames frame path));
  endings = timed.endings;
}
  where
    there : (b : Bool) (path : List ℕ) → same_path frame.1.path path ≡ b →
        body_after frames path ≡ cond (same_path frame.1.path path) (Some (noted_state (body_after frames frame.1.path) frame.1.status)) (body_after frames path)
    there true path e =
        ap (body_after frames) (sym (same_text frame.1.path path (sym e)))
        ∙ (stays ∙ ap (λ b. cond b (Some (noted_state (body_after frames frame.1.path) frame.1.status)) (body_after frames path)) (sym e))
    there false path e = ap (λ b. cond b (Some (noted_state (body_after frames frame.1.path) frame.1.status)) (body_after frames path)) (sym e)
