-- The records of the frames of a run, frame by frame, batch by batch and instant by instant.
use Rattle.std.proofs.Common.{◌≡◌, ℕ, ◌+◌, ◌<◌, IsTrue, List, [], ◌∷◌, ◌++◌, length, map, take, get_or, refl, ap, sym, ◌∙◌, arith, append_assoc}
use Rattle.std.specs.List.{All}
use Rattle.std.proofs.lemmas.List.{take_more, map-append, append-nil}
use Rattle.std.proofs.lemmas.List.Elements.{All-append, All-cons, All-head, All-tail}
use Rattle.aerie_base.specs.declared.models.model.Parts.{Parts}
use Rattle.run_data.specs.TaskFrames.{Frame}
use Rattle.run_data.specs.declared.frames.Record.{Record}
use Rattle.run_data.specs.declared.runs.Instant.{Instant}
use Rattle.run_data.specs.declared.runs.Run.{Run}
use Rattle.run_data.specs.Records.{IsValid, record_of}
use Rattle.run_data.specs.RunFrames.{frames_in_batches, frames_in_instants, frames_in_run}
use Rattle.record_book.specs.StoredSteps.{has_record, with_record, with_records}
use Rattle.record_book.proofs.Holding.{all_with, taken_are_held, with_appended}

-- ---- one more of them

first_more : {A : Type 0} (items : List A) (at : ℕ) (item : A) → at < length items → item ≡ get_or items at item → take (at + 1) items ≡ take at items ++ item ∷ []
first_more items at item lt is = take_more items at item lt ∙ ap (λ one. take at items ++ one ∷ []) (sym is)

pub with_more : (records more : List Record) (at : ℕ) (of : Record) → at < length more → of ≡ get_or more at of →
    with_records records (take (at + 1) more) ≡ with_record (with_records records (take at more)) of
with_more records more at of lt is = ap (with_records records) (first_more more at of lt is) ∙ with_appended records (take at more) (of ∷ [])

-- ---- what is gathered

module _ {A : Type 0} (gathered : List A → List Frame) (one : A → List Frame)
    (joins : (items : List A) (item : A) → gathered (items ++ item ∷ []) ≡ gathered items ++ one item) (records : List Record) where
  -- the records with those of the first items
  abbrev pub WithFirst : List A → ℕ → List Record → Type 0
  WithFirst items count made = made ≡ with_records records (map record_of (gathered (take count items)))

  pub gathered_more : (items : List A) (at : ℕ) (item : A) (made next : List Record) → at < length items → item ≡ get_or items at item →
      WithFirst items at made → next ≡ with_records made (map record_of (one item)) → WithFirst items (at + 1) next
  gathered_more items at item made next lt is so_far e =
      e ∙ ap (λ r. with_records r (map record_of (one item))) so_far
      ∙ sym (with_appended records (map record_of (gathered (take at items))) (map record_of (one item)))
      ∙ ap (with_records records)
      (sym (map-append record_of (gathered (take at items)) (one item))
      ∙ ap (map record_of) (sym (joins (take at items) item) ∙ ap gathered (sym (first_more items at item lt is))))

-- frames by themselves
abbrev pub alone : Frame → List Frame
alone frame = frame ∷ []

pub frames_join : (frames : List Frame) (frame : Frame) → frames ++ frame ∷ [] ≡ frames ++ alone frame
frames_join frames frame = refl

pub batches_join : (batches : List (List Frame)) (frames : List Frame) → frames_in_batches (batches ++ frames ∷ []) ≡ frames_in_batches batches ++ frames
batches_join [] frames = append-nil frames
batches_join (first ∷ rest) frames = ap (λ r. first ++ r) (batches_join rest frames) ∙ sym (append_assoc first (frames_in_batches rest) frames)

abbrev pub frames_of_instant : Instant → List Frame
frames_of_instant instant = frames_in_batches instant.batches

pub instants_join : (instants : List Instant) (instant : Instant) → frames_in_instants (instants ++ instant ∷ []) ≡ frames_in_instants instants ++ frames_of_instant instant
instants_join [] instant = append-nil (frames_in_batches instant.batches)
instants_join (first ∷ rest) instant =
    ap (λ r. frames_in_batches first.batches ++ r) (instants_join rest instant)
    ∙ sym (append_assoc (frames_in_batches first.batches) (frames_in_instants rest) (frames_of_instant instant))

-- ---- each of them

none_of : {A : Type 0} (P : A → Type 0) → All P []
none_of P at other lt = absurd (omega arith)

module _ (P : Frame → Type 0) where
  all_in_batches : (batches : List (List Frame)) → All (All P) batches → All P (frames_in_batches batches)
  all_in_batches [] all = none_of P
  all_in_batches (frames ∷ rest) all =
      All-append P frames (frames_in_batches rest) (All-head (All P) frames rest all) (all_in_batches rest (All-tail (All P) frames rest all))

  all_in_instants : (instants : List Instant) → All (λ (instant : Instant). All (All P) instant.batches) instants → All P (frames_in_instants instants)
  all_in_instants [] all = none_of P
  all_in_instants (instant ∷ rest) all =
      All-append P (frames_in_batches instant.batches) (frames_in_instants rest)
      (all_in_batches instant.batches (All-head (λ (instant : Instant). All (All P) instant.batches) instant rest all))
      (all_in_instants rest (All-tail (λ (instant : Instant). All (All P) instant.batches) instant rest all))

module _ (P : Record → Type 0) where
  pub all_of_frames : (frames : List Frame) → All (λ frame. P (record_of frame)) frames → All P (map record_of frames)
  all_of_frames [] all = none_of P
  all_of_frames (frame ∷ rest) all =
      All-cons P (record_of frame) (map record_of rest) (All-head (λ frame. P (record_of frame)) frame rest all)
      (all_of_frames rest (All-tail (λ frame. P (record_of frame)) frame rest all))

  all_to_frames : (frames : List Frame) → All P (map record_of frames) → All (λ frame. P (record_of frame)) frames
  all_to_frames [] all = none_of (λ frame. P (record_of frame))
  all_to_frames (frame ∷ rest) all =
      All-cons (λ frame. P (record_of frame)) frame rest (All-head P (record_of frame) (map record_of rest) all)
      (all_to_frames rest (All-tail P (record_of frame) (map record_of rest) all))

-- the records of a run are valid where its frames are
pub run_is_valid : (model : Parts) (run : Run) → All (λ (instant : Instant). All (All (λ frame. IsValid model (record_of frame))) instant.batches) run.instants →
    All (IsValid model) (with_records [] (map record_of (frames_in_run run)))
run_is_valid model run all =
    all_with (IsValid model) [] (map record_of (frames_in_run run)) (none_of (IsValid model))
    (all_of_frames (IsValid model) (frames_in_run run) (all_in_instants (λ frame. IsValid model (record_of frame)) run.instants all))

-- there is one for each frame
pub run_is_whole : (run : Run) → All (λ frame. IsTrue (has_record (with_records [] (map record_of (frames_in_run run))) frame.before frame.reads)) (frames_in_run run)
run_is_whole run =
    all_to_frames (λ of. IsTrue (has_record (with_records [] (map record_of (frames_in_run run))) of.before of.reads)) (frames_in_run run)
    (taken_are_held [] (map record_of (frames_in_run run)))
