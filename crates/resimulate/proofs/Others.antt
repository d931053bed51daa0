-- The frames of instants that do not pass a test, with one instant more.
use Rattle.std.proofs.Common.{◌≡◌, Bool, true, false, if◌then◌else◌, List, [], ◌∷◌, ◌++◌, refl, sym, ap, ◌∙◌, append_assoc}
use Rattle.std.proofs.lemmas.List.{append-nil}
use Rattle.run_data.specs.TaskFrames.{Frame}
use Rattle.run_data.specs.declared.runs.Instant.{Instant}
use Rattle.run_data.specs.RunFrames.{frames_in_batches}
use Rattle.resimulate.specs.EvenInstants.{frames_of_others}

pub one_passes : (test : Instant → Bool) (instants : List Instant) (instant : Instant) → test instant ≡ true →
    frames_of_others test (instants ++ instant ∷ []) ≡ frames_of_others test instants
one_passes test [] instant e = ap (λ (b : Bool). if b then [] else frames_in_batches instant.batches ++ []) e
one_passes test (first ∷ rest) instant e =
    ap (λ (l : List Frame). if test first then l else frames_in_batches first.batches ++ l) (one_passes test rest instant e)

pub one_fails : (test : Instant → Bool) (instants : List Instant) (instant : Instant) → test instant ≡ false →
    frames_of_others test (instants ++ instant ∷ []) ≡ frames_of_others test instants ++ frames_in_batches instant.batches
one_fails test [] instant e =
    ap (λ (b : Bool). if b then [] else frames_in_batches instant.batches ++ []) e ∙ append-nil (frames_in_batches instant.batches)
one_fails test (first ∷ rest) instant e =
    ap (λ (l : List Frame). if test first then l else frames_in_batches first.batches ++ l) (one_fails test rest instant e)
    ∙ by (test first)
  where
    by : (b : Bool) →
        (if b then frames_of_others test rest ++ frames_in_batches instant.batches else frames_in_batches first.batches ++ (frames_of_others test rest ++ frames_in_batches instant.batches))
        ≡ (if b then frames_of_others test rest else frames_in_batches first.batches ++ frames_of_others test rest) ++ frames_in_batches instant.batches
    by true = refl
    by false = sym (append_assoc (frames_in_batches first.batches) (frames_of_others test rest) (frames_in_batches instant.batches))

pub batches_more : (batches : List (List Frame)) (frames : List Frame) → frames_in_batches (batches ++ frames ∷ []) ≡ frames_in_batches batches ++ frames
batches_more [] frames = append-nil frames
batches_more (first ∷ rest) frames = ap (λ (l : List Frame). first ++ l) (batches_more rest frames) ∙ sym (append_assoc first (frames_in_batches rest) frames)
