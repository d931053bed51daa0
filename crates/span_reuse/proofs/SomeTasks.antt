-- The spans of the tasks whose paths pass a test are those that the frames of these tasks begin, where what is below such a task
-- passes it too.
use Rattle.std.proofs.Common.{◌≡◌, ℕ, Bool, true, false, not, cond, ◌&&◌, ◌||◌, List, [], ◌∷◌, ◌++◌, Some, refl, sym, ap, ◌∙◌}
use Rattle.std.specs.List.{filter, list_all, list_any}
use Rattle.std.specs.Cmp.Lexicographic.{same_text}
use Rattle.std.proofs.lemmas.Bool.{false≢true}
use Rattle.aerie_base.specs.declared.models.model.Parts.{Parts}
use Rattle.aerie_base.specs.Paths.{is_prefix}
use Rattle.run_data.specs.declared.tasks.BodyId.{BodyId}
use Rattle.run_data.specs.declared.tasks.BodyId.TheVariants as body
use Rattle.run_data.specs.TaskFrames.{Frame}
use Rattle.run_data.specs.Spans.{SpanOf, Timed, same_path, is_of_path, is_done, returned, or_returned, body_ended, task_ended, last_time, result_in, span_if, span_of_body, spans_from}
use Rattle.span_reuse.specs.Roots.{frames_passing, spans_of_those}

-- what is at or below a path passes the test where the path does
abbrev pub Closed : (List ℕ → Bool) → List ℕ → Type 0
Closed test path = (other : List ℕ) → is_prefix path other ≡ true → test other ≡ test path

abbrev pub AllClosed : (List ℕ → Bool) → List Timed → Type 0
AllClosed test [] = Unit {0}
AllClosed test (entry ∷ rest) = Closed test entry.1.path × AllClosed test rest

-- ---- lists

pub filter_both : {A : Type 0} (p : A → Bool) (xs ys : List A) → filter p (xs ++ ys) ≡ filter p xs ++ filter p ys
filter_both p [] ys = refl
filter_both p (x ∷ xs) ys = go (p x) (filter_both p xs ys)
  where
    go : (c : Bool) → filter p (xs ++ ys) ≡ filter p xs ++ filter p ys →
        cond c (x ∷ filter p (xs ++ ys)) (filter p (xs ++ ys)) ≡ cond c (x ∷ filter p xs) (filter p xs) ++ filter p ys
    go true e = ap (λ l. x ∷ l) e
    go false e = e

any_of : (test : List ℕ → Bool) (tells : Timed → Bool) (frames : List Timed) →
    ((entry : Timed) → test entry.1.path ≡ false → tells entry ≡ false) → list_any tells (frames_passing test frames) ≡ list_any tells frames
any_of test tells [] fails = refl
any_of test tells (entry ∷ rest) fails = go (test entry.1.path) refl (any_of test tells rest fails)
  where
    go : (c : Bool) → test entry.1.path ≡ c → list_any tells (frames_passing test rest) ≡ list_any tells rest →
        list_any tells (cond c (entry ∷ frames_passing test rest) (frames_passing test rest)) ≡ (tells entry || list_any tells rest)
    go true is after = ap (λ b. tells entry || b) after
    go false is after = after ∙ sym (ap (λ b. b || list_any tells rest) (fails entry is))

-- ---- one task

-- a frame that does not pass is not of a path that does
elsewhere : (test : List ℕ → Bool) (path : List ℕ) (entry : Timed) → test path ≡ true → test entry.1.path ≡ false → is_of_path path entry ≡ false
elsewhere test path entry passes fails = go (same_path path entry.1.path) refl
  where
    go : (c : Bool) → same_path path entry.1.path ≡ c → c ≡ false
    go true is = absurd (false≢true (sym fails ∙ (ap test (sym (same_text path entry.1.path (sym is))) ∙ passes)))
    go false is = refl

-- nor below it
not_below : (test : List ℕ → Bool) (path : List ℕ) (entry : Timed) → Closed test path → test path ≡ true → test entry.1.path ≡ false →
    is_prefix path entry.1.path ≡ false
not_below test path entry closed passes fails = go (is_prefix path entry.1.path) refl
  where
    go : (c : Bool) → is_prefix path entry.1.path ≡ c → c ≡ false
    go true is = absurd (false≢true (sym fails ∙ (closed entry.1.path is ∙ passes)))
    go false is = refl

begun_of : (test : List ℕ → Bool) (path : List ℕ) (before : List Timed) → test path ≡ true →
    list_any (is_of_path path) (frames_passing test before) ≡ list_any (is_of_path path) before
begun_of test path before passes = any_of test (is_of_path path) before (λ entry fails. elsewhere test path entry passes fails)

ended_of : (test : List ℕ → Bool) (path : List ℕ) (all : List Timed) → test path ≡ true → body_ended (frames_passing test all) path ≡ body_ended all path
ended_of test path all passes =
    any_of test (λ entry. is_of_path path entry && is_done entry.1.status) all
    (λ entry fails. ap (λ b. b && is_done entry.1.status) (elsewhere test path entry passes fails))

module _ (test : List ℕ → Bool) (all : List Timed) (path : List ℕ) where
  abbrev finished : List Timed → List Timed → Bool
  finished whole frames = list_all (λ entry. not (is_prefix path entry.1.path) || body_ended whole entry.1.path) frames

  finished_of : Closed test path → test path ≡ true → (frames : List Timed) → finished (frames_passing test all) (frames_passing test frames) ≡ finished all frames
  finished_of closed passes [] = refl
  finished_of closed passes (entry ∷ rest) = go (test entry.1.path) refl (finished_of closed passes rest)
    where
      go : (c : Bool) → test entry.1.path ≡ c → finished (frames_passing test all) (frames_passing test rest) ≡ finished all rest →
          finished (frames_passing test all) (cond c (entry ∷ frames_passing test rest) (frames_passing test rest)) ≡
          ((not (is_prefix path entry.1.path) || body_ended all entry.1.path) && finished all rest)
      go true is after =
          ap (λ b. (not (is_prefix path entry.1.path) || b) && finished (frames_passing test all) (frames_passing test rest)) (ended_of test entry.1.path all is)
          ∙ ap (λ b. (not (is_prefix path entry.1.path) || body_ended all entry.1.path) && b) after
      go false is after = after ∙ sym (ap (λ b. (not b || body_ended all entry.1.path) && finished all rest) (not_below test path entry closed passes is))

  last_of : Closed test path → test path ≡ true → (frames : List Timed) (time : ℕ) → last_time (frames_passing test frames) path time ≡ last_time frames path time
  last_of closed passes [] time = refl
  last_of closed passes (entry ∷ rest) time = go (test entry.1.path) refl (last_of closed passes rest)
    where
      go : (c : Bool) → test entry.1.path ≡ c → ((time : ℕ) → last_time (frames_passing test rest) path time ≡ last_time rest path time) →
          last_time (cond c (entry ∷ frames_passing test rest) (frames_passing test rest)) path time ≡ last_time rest path (cond (is_prefix path entry.1.path) entry.0 time)
      go true is after = after (cond (is_prefix path entry.1.path) entry.0 time)
      go false is after =
          after time ∙ sym (ap (λ b. last_time rest path (cond b entry.0 time)) (not_below test path entry closed passes is))

  result_of : test path ≡ true → (frames : List Timed) → result_in (frames_passing test frames) path ≡ result_in frames path
  result_of passes [] = refl
  result_of passes (entry ∷ rest) = go (test entry.1.path) refl (result_of passes rest)
    where
      go : (c : Bool) → test entry.1.path ≡ c → result_in (frames_passing test rest) path ≡ result_in rest path →
          result_in (cond c (entry ∷ frames_passing test rest) (frames_passing test rest)) path ≡
          or_returned (is_of_path path entry && is_done entry.1.status) (returned entry.1.status) (result_in rest path)
      go true is after = ap (or_returned (is_of_path path entry && is_done entry.1.status) (returned entry.1.status)) after
      go false is after =
          after ∙ sym (ap (λ b. or_returned (b && is_done entry.1.status) (returned entry.1.status) (result_in rest path)) (elsewhere test path entry passes is))

-- ---- its span

module _ (model : Parts) (time : ℕ) (frame : Frame) where
  -- spans with the same end and result are the same
  pub span_with : (all whole : List Timed) (kind : ℕ) (b c : Bool) → b ≡ c → last_time all frame.path time ≡ last_time whole frame.path time →
      result_in all frame.path ≡ result_in whole frame.path → span_if b all model time frame kind ≡ span_if c whole model time frame kind
  span_with all whole kind b c e last result = ap (λ d. span_if d all model time frame kind) e ∙ go c
    where
      go : (c : Bool) → span_if c all model time frame kind ≡ span_if c whole model time frame kind
      go true = λ i. record {
        path = frame.path;
        kind = kind;
        arguments = (span_if true all model time frame kind).arguments;
        start = time;
        end = Some (last i);
        result = result i;
      }
      go false = refl

  path_is : (all : List Timed) (kind : ℕ) (b : Bool) → (span_if b all model time frame kind).path ≡ frame.path
  path_is all kind true = refl
  path_is all kind false = refl

  body_of : (test : List ℕ → Bool) (all : List Timed) → Closed test frame.path → test frame.path ≡ true → (of : BodyId) →
      span_of_body (frames_passing test all) model time frame of ≡ span_of_body all model time frame of
  body_of test all closed passes (body.Activity kind) =
      ap (λ span. span ∷ [])
      (span_with (frames_passing test all) all kind (task_ended (frames_passing test all) frame.path) (task_ended all frame.path)
      (finished_of test all frame.path closed passes all) (last_of test all frame.path closed passes all time) (result_of test all frame.path passes all))
  body_of test all closed passes (body.Daemon number) = refl

  body_stays : (test : List ℕ → Bool) (all : List Timed) → test frame.path ≡ true → (of : BodyId) →
      spans_of_those test (span_of_body all model time frame of) ≡ span_of_body all model time frame of
  body_stays test all passes (body.Activity kind) =
      let span = span_if (task_ended all frame.path) all model time frame kind in
      ap (λ b. cond b (span ∷ []) []) (ap test (path_is all kind (task_ended all frame.path)) ∙ passes)
  body_stays test all passes (body.Daemon number) = refl

  body_goes : (test : List ℕ → Bool) (all : List Timed) → test frame.path ≡ false → (of : BodyId) →
      spans_of_those test (span_of_body all model time frame of) ≡ []
  body_goes test all fails (body.Activity kind) =
      let span = span_if (task_ended all frame.path) all model time frame kind in
      ap (λ b. cond b (span ∷ []) []) (ap test (path_is all kind (task_ended all frame.path)) ∙ fails)
  body_goes test all fails (body.Daemon number) = refl

-- ---- all of them

module _ (test : List ℕ → Bool) (all : List Timed) (model : Parts) where
  abbrev begin_with : List Timed → Timed → Bool → List SpanOf
  begin_with whole entry known = cond known [] (span_of_body whole model entry.0 entry.1 entry.1.before.kind)

  first_stays : (entry : Timed) → Closed test entry.1.path → test entry.1.path ≡ true → (known : Bool) →
      spans_of_those test (begin_with all entry known) ≡ begin_with (frames_passing test all) entry known
  first_stays entry closed passes true = refl
  first_stays entry closed passes false =
      body_stays model entry.0 entry.1 test all passes entry.1.before.kind ∙ sym (body_of model entry.0 entry.1 test all closed passes entry.1.before.kind)

  first_goes : (entry : Timed) → test entry.1.path ≡ false → (known : Bool) → spans_of_those test (begin_with all entry known) ≡ []
  first_goes entry fails true = refl
  first_goes entry fails false = body_goes model entry.0 entry.1 test all fails entry.1.before.kind

  pub spans_of_some : (before rest : List Timed) → AllClosed test rest →
      spans_of_those test (spans_from all model before rest) ≡ spans_from (frames_passing test all) model (frames_passing test before) (frames_passing test rest)
  spans_of_some before [] closed = refl
  spans_of_some before (entry ∷ rest) closed =
      filter_both (λ span. test span.path) (begin_with all entry (list_any (is_of_path entry.1.path) before)) (spans_from all model (entry ∷ before) rest)
      ∙ go (test entry.1.path) refl (spans_of_some (entry ∷ before) rest closed.1)
    where
      go : (c : Bool) → test entry.1.path ≡ c →
          spans_of_those test (spans_from all model (entry ∷ before) rest) ≡
          spans_from (frames_passing test all) model (cond c (entry ∷ frames_passing test before) (frames_passing test before)) (frames_passing test rest) →
          spans_of_those test (begin_with all entry (list_any (is_of_path entry.1.path) before)) ++ spans_of_those test (spans_from all model (entry ∷ before) rest) ≡
          spans_from (frames_passing test all) model (frames_passing test before) (cond c (entry ∷ frames_passing test rest) (frames_passing test rest))
      go true is after =
          ap (λ l. l ++ spans_of_those test (spans_from all model (entry ∷ before) rest)) (first_stays entry closed.0 is (list_any (is_of_path entry.1.path) before))
          ∙ (ap (λ known. begin_with (frames_passing test all) entry known ++ spans_of_those test (spans_from all model (entry ∷ before) rest))
          (sym (begun_of test entry.1.path before is))
          ∙ ap (λ l. begin_with (frames_passing test all) entry (list_any (is_of_path entry.1.path) (frames_passing test before)) ++ l) after)
      go false is after =
          ap (λ l. l ++ spans_of_those test (spans_from all model (entry ∷ before) rest)) (first_goes entry is (list_any (is_of_path entry.1.path) before))
          ∙ after
