-- Frames that were published, chapter by chapter.
use Rattle.std.proofs.Common.{◌≡◌, ℕ, zero, suc, ◌+◌, ◌-◌, ◌≤◌, ◌⊎◌, inl, inr, List, [], ◌∷◌, ◌++◌, length, map, take, drop, slice_range, refl, ap, sym, subst, ◌∙◌, arith, append_assoc}
use Rattle.std.specs.List.{All}
use Rattle.std.proofs.lemmas.List.{append-nil, length-drop, length-map, length-take-le, take_all}
use Rattle.std.proofs.Math.Seq.{drop-append_seam}
use Rattle.std.proofs.lemmas.List.Elements.{All-drop, All-head, All-nil, All-push, All-tail, All-take}
use Rattle.aerie_base.specs.declared.models.model.Parts.{Parts}
use Rattle.boxcar.specs.Table.{Shelves}
use Rattle.history_store.specs.Publishing.{PublishedChapter, receipt_of}
use Rattle.record_book.specs.StoredSteps.{chapter_limit}
use Rattle.run_data.specs.Batches.{cost_of}
use Rattle.run_data.specs.Records.{record_of}
use Rattle.run_data.specs.TaskFrames.{Frame}
use Rattle.bench.specs.Chapters.{AreFull, EndsChapter, GainsChapters, IsReceiptOf, PublishesFrames, chapter_of, cost_of_chapters, cost_of_records, gained}

-- ---- costs

cost_then : (frames more : List Frame) → cost_of (frames ++ more) ≡ cost_of frames + cost_of more
cost_then [] more = omega arith
cost_then (frame ∷ frames) more = omega (arith, cost_then frames more)

records_cost : (frames : List Frame) → cost_of_records (map record_of frames) ≡ cost_of frames
records_cost [] = refl
records_cost (frame ∷ frames) = ap (λ cost. frame.cost + cost) (records_cost frames)

chapters_then : (chapters : List PublishedChapter) (last : PublishedChapter) →
    cost_of_chapters (chapters ++ last ∷ []) ≡ cost_of_chapters chapters + cost_of_records last.chapter.records
chapters_then [] last = omega arith
chapters_then (chapter ∷ chapters) last = omega (arith, chapters_then chapters last)

-- ---- full chapters

abbrev pub IsWhole : PublishedChapter → Type 0
IsWhole receipt = length receipt.chapter.records ≡ chapter_limit

all_whole : (chapters : List PublishedChapter) → All IsWhole chapters → AreFull chapters
all_whole [] all = tt
all_whole (last ∷ []) all = omega (arith, All-head IsWhole last [] all)
all_whole (receipt ∷ next ∷ rest) all = (All-head IsWhole receipt (next ∷ rest) all, all_whole (next ∷ rest) (All-tail IsWhole receipt (next ∷ rest) all))

whole_then : (chapters : List PublishedChapter) (last : PublishedChapter) → All IsWhole chapters → 1 ≤ length last.chapter.records → AreFull (chapters ++ last ∷ [])
whole_then [] last all some = some
whole_then (receipt ∷ []) last all some = (All-head IsWhole receipt [] all, some)
whole_then (receipt ∷ next ∷ rest) last all some =
    (All-head IsWhole receipt (next ∷ rest) all, whole_then (next ∷ rest) last (All-tail IsWhole receipt (next ∷ rest) all) some)

-- ---- so far

-- the chapters of the frames in front of a place are published: each is whole, unless that was the last
pub record Published (store : Shelves) (model : Parts) (frames : List Frame) (from : ℕ) (before after : List PublishedChapter) : Type 0 where
  pub within : from ≤ length frames
  pub chapters : List PublishedChapter
  pub behind : after ≡ before ++ chapters
  pub own : All (IsReceiptOf store model) chapters
  pub whole : All IsWhole chapters ⊎ ((from ≡ length frames) × AreFull chapters)
  pub cost : cost_of_chapters chapters ≡ cost_of (take from frames)

pub nothing_published : (store : Shelves) (model : Parts) (frames : List Frame) (before after : List PublishedChapter) → after ≡ before →
    Published store model frames 0 before after
nothing_published store model frames before after same = record {
  within = omega arith;
  chapters = [];
  behind = same ∙ sym (append-nil before);
  own = All-nil (IsReceiptOf store model);
  whole = inl (All-nil IsWhole);
  cost = refl;
}

are_full : (store : Shelves) (model : Parts) (frames : List Frame) (from : ℕ) (before after : List PublishedChapter)
    (so_far : Published store model frames from before after) → AreFull so_far.chapters
are_full store model frames from before after so_far = by so_far.whole
  where
    by : All IsWhole so_far.chapters ⊎ ((from ≡ length frames) × AreFull so_far.chapters) → AreFull so_far.chapters
    by (inl all) = all_whole so_far.chapters all
    by (inr (last, full)) = full

pub gains : (store : Shelves) (model : Parts) (frames : List Frame) (from : ℕ) (before after : List PublishedChapter) →
    Published store model frames from before after → GainsChapters store model before after
gains store model frames from before after so_far =
    let are : gained before after ≡ so_far.chapters = ap (drop (length before)) so_far.behind ∙ drop-append_seam before so_far.chapters in
    record {
      earlier_stay = so_far.behind ∙ ap (λ chapters. before ++ chapters) (sym are);
      own = subst (All (IsReceiptOf store model)) (sym are) so_far.own;
      full = subst AreFull (sym are) (are_full store model frames from before after so_far);
    }

pub gained_cost : (store : Shelves) (model : Parts) (frames : List Frame) (from : ℕ) (before after : List PublishedChapter) →
    Published store model frames from before after → cost_of_chapters (gained before after) ≡ cost_of (take from frames)
gained_cost store model frames from before after so_far =
    ap cost_of_chapters (ap (drop (length before)) so_far.behind ∙ drop-append_seam before so_far.chapters) ∙ so_far.cost

pub all_published : (store : Shelves) (model : Parts) (frames : List Frame) (from : ℕ) (before after : List PublishedChapter) →
    Published store model frames from before after → length frames ≤ from → PublishesFrames frames before after
all_published store model frames from before after so_far le =
    inl (omega (arith, gained_cost store model frames from before after so_far, ap cost_of (take_all from frames le)))

-- ---- one chapter more

abbrev no_frames : List Frame
no_frames = []

take_nil : (n : ℕ) → take n no_frames ≡ no_frames
take_nil zero = refl
take_nil (suc n) = refl

take_on : (at n : ℕ) (frames : List Frame) → take at frames ++ take n (drop at frames) ≡ take (at + n) frames
take_on zero n frames = ap (λ count. take count frames) (omega arith)
take_on (suc at) n [] = take_nil n ∙ sym (take_nil (suc at + n))
take_on (suc at) n (frame ∷ frames) =
    let more : suc at + n ≡ suc (at + n) = omega arith in
    ap (λ rest. frame ∷ rest) (take_on at n frames) ∙ ap (λ count. take count (frame ∷ frames)) (sym more)

cost_on : (at to : ℕ) (frames : List Frame) → at ≤ to → cost_of (take to frames) ≡ cost_of (take at frames) + cost_of (slice_range frames at to)
cost_on at to frames le =
    let more : at + (to - at) ≡ to = omega (arith, le) in
    ap (λ n. cost_of (take n frames)) (sym more) ∙ ap cost_of (sym (take_on at (to - at) frames)) ∙ cost_then (take at frames) (take (to - at) (drop at frames))

long_slice : (frames : List Frame) (at to : ℕ) → at ≤ to → to ≤ length frames → length (slice_range frames at to) ≡ to - at
long_slice frames at to le within = length-take-le (to - at) (drop at frames) (omega (arith, length-drop at frames, le, within))

module _ (store : Shelves) (model : Parts) (frames : List Frame) (from to : ℕ) (ends : EndsChapter from (length frames) to) where
  long : length (map record_of (slice_range frames from to)) ≡ to - from
  long = length-map (slice_range frames from to) record_of ∙ long_slice frames from to (omega (arith, ends.onward)) ends.within

  pub few : length (slice_range frames from to) ≤ chapter_limit
  few = by ends.whole
    where
      by : (to ≡ from + chapter_limit) ⊎ ((to ≡ length frames) × (length frames ≤ from + chapter_limit)) → length (slice_range frames from to) ≤ chapter_limit
      by (inl is) = omega (arith, is, long_slice frames from to (omega (arith, ends.onward)) ends.within)
      by (inr (last, le)) = omega (arith, last, le, long_slice frames from to (omega (arith, ends.onward)) ends.within)

  pub published_more : (before between after : List PublishedChapter) → Published store model frames from before between →
      after ≡ between ++ receipt_of store (chapter_of model (slice_range frames from to)) ∷ [] → Published store model frames to before after
  published_more before between after so_far is = record {
    within = ends.within;
    chapters = so_far.chapters ++ receipt_of store (chapter_of model (slice_range frames from to)) ∷ [];
    behind = is ∙ ap (λ receipts. receipts ++ receipt_of store (chapter_of model (slice_range frames from to)) ∷ []) so_far.behind ∙ append_assoc before so_far.chapters (receipt_of store (chapter_of model (slice_range frames from to)) ∷ []);
    own = All-push (IsReceiptOf store model) so_far.chapters (receipt_of store (chapter_of model (slice_range frames from to))) so_far.own (record { store_ = refl; model_ = refl });
    whole = by so_far.whole ends.whole;
    cost =
        chapters_then so_far.chapters (receipt_of store (chapter_of model (slice_range frames from to)))
        ∙ ap (λ cost. cost + cost_of_records (map record_of (slice_range frames from to))) so_far.cost
        ∙ ap (λ cost. cost_of (take from frames) + cost) (records_cost (slice_range frames from to))
        ∙ sym (cost_on from to frames (omega (arith, ends.onward)));
  }
    where
      by : All IsWhole so_far.chapters ⊎ ((from ≡ length frames) × AreFull so_far.chapters) →
          (to ≡ from + chapter_limit) ⊎ ((to ≡ length frames) × (length frames ≤ from + chapter_limit)) →
          All IsWhole (so_far.chapters ++ receipt_of store (chapter_of model (slice_range frames from to)) ∷ []) ⊎ ((to ≡ length frames) × AreFull (so_far.chapters ++ receipt_of store (chapter_of model (slice_range frames from to)) ∷ []))
      by (inr (last, full)) ends_at = absurd (omega (arith, last, ends.onward, ends.within))
      by (inl all) (inl is) = inl (All-push IsWhole so_far.chapters (receipt_of store (chapter_of model (slice_range frames from to))) all (omega (arith, long, is)))
      by (inl all) (inr (last, le)) = inr (last, whole_then so_far.chapters (receipt_of store (chapter_of model (slice_range frames from to))) all (omega (arith, long, ends.onward)))

pub gains_nothing : (store : Shelves) (model : Parts) (before after : List PublishedChapter) → after ≡ before → GainsChapters store model before after
gains_nothing store model before after same = gains store model [] 0 before after (nothing_published store model [] before after same)

pub of_part : (P : Frame → Type 0) (frames : List Frame) (from to : ℕ) → All P frames → All P (slice_range frames from to)
of_part P frames from to all = All-take P (to - from) (drop from frames) (All-drop P from frames all)
