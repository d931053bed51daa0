-- The frames of instants, one behind another.
use Rattle.std.proofs.Common.{◌≡◌, ℕ, Bool, true, false, cond, List, [], ◌∷◌, ◌++◌, append_assoc, refl, sym, ap, ◌∙◌}
use Rattle.run_data.specs.declared.runs.Instant.{Instant}
use Rattle.run_data.specs.TaskFrames.{Frame}
use Rattle.run_data.specs.Spans.{Timed, with_time, in_batches, timed}
use Rattle.span_reuse.specs.Roots.{frames_passing}
use Rattle.span_reuse.proofs.SomeTasks.{filter_both}

with_behind : (time : ℕ) (batch : List Frame) (rest more : List Timed) → with_time time batch (rest ++ more) ≡ with_time time batch rest ++ more
with_behind time [] rest more = refl
with_behind time (frame ∷ batch) rest more = ap (λ l. (time, frame) ∷ l) (with_behind time batch rest more)

in_behind : (time : ℕ) (batches : List (List Frame)) (rest more : List Timed) → in_batches time batches (rest ++ more) ≡ in_batches time batches rest ++ more
in_behind time [] rest more = refl
in_behind time (batch ∷ batches) rest more =
    ap (with_time time batch) (in_behind time batches rest more) ∙ with_behind time batch (in_batches time batches rest) more

timed_both : (instants more : List Instant) → timed (instants ++ more) ≡ timed instants ++ timed more
timed_both [] more = refl
timed_both (instant ∷ instants) more =
    ap (in_batches instant.time instant.batches) (timed_both instants more) ∙ in_behind instant.time instant.batches (timed instants) (timed more)

nothing_behind : (frames : List Timed) → frames ++ [] ≡ frames
nothing_behind [] = refl
nothing_behind (entry ∷ frames) = ap (λ l. entry ∷ l) (nothing_behind frames)

module _ (test : List ℕ → Bool) (time : ℕ) (frame : Frame) where
  -- a frame that does not pass
  pub none_more : (made : List Instant) → test frame.path ≡ false → timed made ≡ timed made ++ frames_passing test ((time, frame) ∷ [])
  none_more made fails = sym (nothing_behind (timed made)) ∙ ap (λ b. timed made ++ cond b ((time, frame) ∷ []) []) (sym fails)

  -- a frame that does
  pub one_more : (made : List Instant) (one : Instant) → test frame.path ≡ true → timed (one ∷ []) ≡ (time, frame) ∷ [] →
      timed (made ++ one ∷ []) ≡ timed made ++ frames_passing test ((time, frame) ∷ [])
  one_more made one passes of =
      timed_both made (one ∷ []) ∙ (ap (λ l. timed made ++ l) of ∙ ap (λ b. timed made ++ cond b ((time, frame) ∷ []) []) (sym passes))

  -- in a loop: the frames so far, and those of the ones that are left
  pub one_taken : (more made left after all : List Timed) → more ≡ made ++ frames_passing test ((time, frame) ∷ []) → left ≡ (time, frame) ∷ after →
      made ++ frames_passing test left ≡ all → more ++ frames_passing test after ≡ all
  one_taken more made left after all e is so_far =
      ap (λ l. l ++ frames_passing test after) e
      ∙ (append_assoc made (frames_passing test ((time, frame) ∷ [])) (frames_passing test after)
      ∙ (ap (λ l. made ++ l) (sym (filter_both (λ (entry : Timed). test entry.1.path) ((time, frame) ∷ []) after))
      ∙ (ap (λ l. made ++ frames_passing test l) (sym is) ∙ so_far)))

-- at its end
pub none_left : (test : List ℕ → Bool) (made left all : List Timed) → left ≡ [] → made ++ frames_passing test left ≡ all → made ≡ all
none_left test made left all is so_far = sym (nothing_behind made) ∙ (ap (λ l. made ++ frames_passing test l) (sym is) ∙ so_far)
