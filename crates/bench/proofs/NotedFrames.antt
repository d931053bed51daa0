-- Frames that were noted, one after another.
use Rattle.std.proofs.Common.{◌≡◌, ℕ, zero, suc, ◌+◌, ◌<◌, ◌≤◌, Bool, true, false, ◌&&◌, ◌||◌, IsTrue, List, [], ◌∷◌, ◌++◌, Some, length, take, drop, get_or, slice_get, slice_index_or, if◌then◌else◌, refl, ap, sym, subst, ◌∙◌, arith, append_assoc, length-append}
use Rattle.std.specs.List.{All, Contains, list_any}
use Rattle.std.proofs.lemmas.List.{append-nil, length-take-le, take-append-drop, take_more}
use Rattle.std.proofs.lemmas.List.Elements.{All-append, All-contains, All-cons, All-head, All-nil, All-tail, Contains-append_right}
use Rattle.effect_cells.specs.declared.effects.CellState.{CellState}
use Rattle.run_data.specs.declared.frames.Record.{Record}
use Rattle.run_data.specs.declared.runs.Instant.{Instant}
use Rattle.run_data.specs.declared.tasks.TaskState.{TaskState}
use Rattle.run_data.specs.Batches.{cost_of}
use Rattle.run_data.specs.Records.{has_fit, record_of, same_reads, same_task, unmatched}
use Rattle.run_data.specs.RunFrames.{frames_in_batches, frames_in_instants}
use Rattle.run_data.specs.SameRecords.{same_reads_are_equal, same_tasks_are_equal}
use Rattle.run_data.specs.TaskFrames.{Frame}
use Rattle.record_book.specs.StoredSteps.{HasNoneTwice, IsHeldIn, IsPlaceOfRecord, has_record, with_record}
use Rattle.bench.specs.HeldSteps.{Extends}
use Rattle.bench.specs.Noting.{HasSameStep, IsSameStep, Notes, batches_of, unheld}
use Rattle.bench.proofs.Extending.{all_held_on, first_stay, first_then, held_on, more_then, nothing_more, with_one_more}

-- ---- the place of a record tells whether it was held

or_first : (a b : Bool) → IsTrue a → IsTrue (a || b)
or_first true b h = refl
or_first false b h = absurd (cc)

or_second : (a b : Bool) → IsTrue b → IsTrue (a || b)
or_second true b h = refl
or_second false b h = h

or_neither : (a b : Bool) → a ≡ false → b ≡ false → (a || b) ≡ false
or_neither true b h k = absurd (cc)
or_neither false b h k = k

both : (a b : Bool) → IsTrue a → IsTrue b → IsTrue (a && b)
both true b h k = k
both false b h k = absurd (cc)

front_true : (a b : Bool) → IsTrue (a && b) → IsTrue a
front_true true b h = refl
front_true false b h = absurd (cc)

back_true : (a b : Bool) → IsTrue (a && b) → IsTrue b
back_true true b h = h
back_true false b h = absurd (cc)

no_truth : (a : Bool) → (IsTrue a → ⊥) → a ≡ false
no_truth true h = absurd (h refl)
no_truth false h = refl

module _ (state : TaskState) (reads : List (ℕ × CellState)) where
  abbrev passes : Record → Bool
  passes of = same_task of.before state && same_reads of.reads reads

  passes_by : (of : Record) → of.before ≡ state → of.reads ≡ reads → IsTrue (passes of)
  passes_by of before read = both (same_task of.before state) (same_reads of.reads reads) ((same_tasks_are_equal of.before state).1 before) ((same_reads_are_equal of.reads reads).1 read)

  state_by : (of : Record) → IsTrue (passes of) → of.before ≡ state
  state_by of agreed = (same_tasks_are_equal of.before state).0 (front_true (same_task of.before state) (same_reads of.reads reads) agreed)

  reads_by : (of : Record) → IsTrue (passes of) → of.reads ≡ reads
  reads_by of agreed = (same_reads_are_equal of.reads reads).0 (back_true (same_task of.before state) (same_reads of.reads reads) agreed)

  -- a record among some that passes
  passes_there : (records : List Record) (at : ℕ) (of : Record) → slice_get records at ≡ Some of → IsTrue (passes of) → IsTrue (list_any passes records)
  passes_there [] at of there agreed = absurd (cc)
  passes_there (one ∷ records) zero of there agreed =
      or_first (passes one) (list_any passes records) (subst (λ (r : Record). IsTrue (passes r)) (let same : of ≡ one = cc in same) agreed)
  passes_there (one ∷ records) (suc at) of there agreed = or_second (passes one) (list_any passes records) (passes_there records at of there agreed)

  within : (first more : List Record) (at : ℕ) (of : Record) → slice_get (first ++ more) at ≡ Some of → IsTrue (passes of) → at < length first →
      IsTrue (list_any passes first)
  within [] more at of there agreed lt = absurd (omega (arith, lt))
  within (one ∷ first) more zero of there agreed lt =
      or_first (passes one) (list_any passes first) (subst (λ (r : Record). IsTrue (passes r)) (let same : of ≡ one = cc in same) agreed)
  within (one ∷ first) more (suc at) of there agreed lt = or_second (passes one) (list_any passes first) (within first more at of there agreed (omega (arith, lt)))

  behind : (first more : List Record) (at : ℕ) (of : Record) → slice_get (first ++ more) at ≡ Some of → IsTrue (passes of) → length first ≤ at →
      HasNoneTwice (first ++ more) → list_any passes first ≡ false
  behind [] more at of there agreed le once = refl
  behind (one ∷ first) more zero of there agreed le once = absurd (omega (arith, le))
  behind (one ∷ first) more (suc at) of there agreed le once =
      or_neither (passes one) (list_any passes first) (no_truth (passes one) differs) (behind first more at of there agreed (omega (arith, le)) once.1)
    where
      differs : IsTrue (passes one) → ⊥
      differs one_agrees =
          let nothing : has_record (first ++ more) state reads ≡ false = (λ i. has_record (first ++ more) (sym (state_by one one_agrees) i) (sym (reads_by one one_agrees) i)) ∙ once.0 in
          let some : list_any passes (first ++ more) ≡ true = passes_there (first ++ more) at of there agreed in
          absurd (cc)

module _ (state : TaskState) (reads : List (ℕ × CellState)) where
  -- one of the records that passes
  pub passing_one : (records : List Record) → IsTrue (has_record records state reads) →
      (of : Record) × Contains records of × (of.before ≡ state) × (of.reads ≡ reads)
  passing_one [] agreed = absurd (cc)
  passing_one (one ∷ records) agreed = by (passes state reads one) refl (λ later. passing_one records later) agreed
    where
      by : (is : Bool) → passes state reads one ≡ is → (IsTrue (has_record records state reads) →
          (of : Record) × Contains records of × (of.before ≡ state) × (of.reads ≡ reads)) → IsTrue (is || list_any (passes state reads) records) →
          (of : Record) × Contains (one ∷ records) of × (of.before ≡ state) × (of.reads ≡ reads)
      by true is among agreed = (one, (0, omega arith, refl), state_by state reads one is, reads_by state reads one is)
      by false is among agreed =
          let later = among agreed in
          (later.0, Contains-append_right (one ∷ []) records later.0 later.1, later.2, later.3)

  at_place : (records : List Record) (of : Record) (at : ℕ) → at < length records → slice_index_or records at of ≡ of → IsTrue (passes state reads of) →
      IsTrue (list_any (passes state reads) records)
  at_place [] of at lt is agreed = absurd (omega (arith, lt))
  at_place (one ∷ records) of zero lt is agreed =
      or_first (passes state reads one) (list_any (passes state reads) records) (subst (λ (r : Record). IsTrue (passes state reads r)) (sym is) agreed)
  at_place (one ∷ records) of (suc at) lt is agreed =
      or_second (passes state reads one) (list_any (passes state reads) records) (at_place records of at (omega (arith, lt)) is agreed)

  pub passing_contained : (records : List Record) (of : Record) → Contains records of → of.before ≡ state → of.reads ≡ reads →
      IsTrue (has_record records state reads)
  passing_contained records of there before read = at_place records of there.0 there.1 there.2 (passes_by state reads of before read)

-- ---- which frames are noted

pub unheld_none : (first : List Record) (frame : Frame) → IsTrue (has_fit first frame) → unheld first (frame ∷ []) ≡ []
unheld_none first frame held = ap (λ agreed. if agreed then [] else frame ∷ []) held

pub unheld_one : (first : List Record) (frame : Frame) → has_fit first frame ≡ false → unheld first (frame ∷ []) ≡ frame ∷ []
unheld_one first frame missing = ap (λ agreed. if agreed then [] else frame ∷ []) missing

unheld_then : (first : List Record) (frames more : List Frame) → unheld first (frames ++ more) ≡ unheld first frames ++ unheld first more
unheld_then first [] more = refl
unheld_then first (frame ∷ frames) more = by (has_fit first frame) (unheld_then first frames more)
  where
    by : (held : Bool) → unheld first (frames ++ more) ≡ unheld first frames ++ unheld first more →
        (if held then unheld first (frames ++ more) else frame ∷ unheld first (frames ++ more))
        ≡ (if held then unheld first frames else frame ∷ unheld first frames) ++ unheld first more
    by true e = e
    by false e = ap (λ all. frame ∷ all) e

pub unheld_all : (P : Frame → Type 0) (records : List Record) (frames : List Frame) → All P frames → All P (unheld records frames)
unheld_all P records [] all = All-nil P
unheld_all P records (frame ∷ frames) all =
    by (has_fit records frame) (All-head P frame frames all) (unheld_all P records frames (All-tail P frame frames all))
  where
    by : (held : Bool) → P frame → All P (unheld records frames) → All P (if held then unheld records frames else frame ∷ unheld records frames)
    by true one rest = rest
    by false one rest = All-cons P frame (unheld records frames) one rest

pub unheld_cost : (records : List Record) (frames : List Frame) → cost_of (unheld records frames) ≡ unmatched frames records
unheld_cost records [] = refl
unheld_cost records (frame ∷ frames) = by (has_fit records frame) (unheld_cost records frames)
  where
    by : (held : Bool) → cost_of (unheld records frames) ≡ unmatched frames records →
        cost_of (if held then unheld records frames else frame ∷ unheld records frames) ≡ (if held then unmatched frames records else frame.cost + unmatched frames records)
    by true e = e
    by false e = ap (λ cost. frame.cost + cost) e

-- ---- one after another

pub noted_nothing : (first records after : List Record) (noted later : List Frame) → after ≡ records → later ≡ noted → Notes first [] records after noted later
noted_nothing first records after noted later same is = record {
  extends = nothing_more records after same;
  held = All-nil (IsHeldIn after);
  is_noted = is ∙ sym (append-nil noted);
}

pub noted_then : (first before between after : List Record) (frames more : List Frame) (noted noted_between noted_after : List Frame) →
    Notes first frames before between noted noted_between → Notes first more between after noted_between noted_after →
    Notes first (frames ++ more) before after noted noted_after
noted_then first before between after frames more noted noted_between noted_after one two = record {
  extends = more_then before between after one.extends two.extends;
  held = All-append (IsHeldIn after) frames more (all_held_on between after two.extends frames one.held) two.held;
  is_noted =
      two.is_noted ∙ ap (λ frames. frames ++ unheld first more) one.is_noted ∙ append_assoc noted (unheld first frames) (unheld first more)
      ∙ ap (λ frames. noted ++ frames) (sym (unheld_then first frames more));
}

-- a frame whose step is held among the first records is not noted
pub noted_held : (count : ℕ) (records after : List Record) (frame : Frame) (noted later : List Frame) → after ≡ records → later ≡ noted →
    IsHeldIn (take count records) frame → Notes (take count records) (frame ∷ []) records after noted later
noted_held count records after frame noted later same is held = record {
  extends = nothing_more records after same;
  held = All-cons (IsHeldIn after) frame []
      (held_on (take count records) after (more_then (take count records) records after (first_then count records) (nothing_more records after same)) frame held)
      (All-nil (IsHeldIn after));
  is_noted = is ∙ sym (append-nil noted) ∙ ap (λ frames. noted ++ frames) (sym (unheld_none (take count records) frame held));
}

-- ---- a frame whose step was put into the book

module _ (count : ℕ) (before after : List Record) (frame : Frame) (at : ℕ) (few : count ≤ length before)
    (extends : Extends before after) (once : HasNoneTwice after) (place : IsPlaceOfRecord after frame.before frame.reads at) where
  agrees : IsTrue (passes frame.before frame.reads place.of)
  agrees = passes_by frame.before frame.reads place.of place.before place.reads_

  held_after : IsHeldIn after frame
  held_after = passes_there frame.before frame.reads after at place.of place.there agrees

  long : length (take count after) ≡ count
  long = length-take-le count after (let is = ap length extends.is ∙ length-append before extends.more in omega (arith, few, is))

  there_split : slice_get (take count after ++ drop count after) at ≡ Some place.of
  there_split = ap (λ records. slice_get records at) (take-append-drop count after) ∙ place.there

  same_first : take count after ≡ take count before
  same_first = first_stay count before after few extends

  pub noted_new : count ≤ at → (noted later : List Frame) → later ≡ noted ++ frame ∷ [] → Notes (take count before) (frame ∷ []) before after noted later
  noted_new le noted later is = record {
    extends = extends;
    held = All-cons (IsHeldIn after) frame [] held_after (All-nil (IsHeldIn after));
    is_noted = is ∙ ap (λ frames. noted ++ frames) (sym (unheld_one (take count before) frame not_held));
  }
    where
      not_held : has_fit (take count before) frame ≡ false
      not_held =
          ap (λ records. has_record records frame.before frame.reads) (sym same_first)
          ∙ behind frame.before frame.reads (take count after) (drop count after) at place.of there_split agrees (omega (arith, long, le))
          (subst HasNoneTwice (sym (take-append-drop count after)) once)

  pub noted_old : at < count → (noted later : List Frame) → later ≡ noted → Notes (take count before) (frame ∷ []) before after noted later
  noted_old lt noted later is = record {
    extends = extends;
    held = All-cons (IsHeldIn after) frame [] held_after (All-nil (IsHeldIn after));
    is_noted = is ∙ sym (append-nil noted) ∙ ap (λ frames. noted ++ frames) (sym (unheld_none (take count before) frame first_held));
  }
    where
      first_held : IsTrue (has_fit (take count before) frame)
      first_held =
          subst (λ records. IsTrue (has_record records frame.before frame.reads)) same_first
          (within frame.before frame.reads (take count after) (drop count after) at place.of there_split agrees (omega (arith, long, lt)))

pub noted_put_new : (count : ℕ) (before after : List Record) (frame : Frame) (step : Record) (at : ℕ) (noted later : List Frame) → step ≡ record_of frame →
    after ≡ with_record before step → count ≤ length before → HasNoneTwice after → IsPlaceOfRecord after step.before step.reads at → count ≤ at →
    later ≡ noted ++ frame ∷ [] → Notes (take count before) (frame ∷ []) before after noted later
noted_put_new count before after frame step at noted later is put few once place le noted_is =
    noted_new count before after frame at few (with_one_more before after step put) once
    (subst (λ (of : Record). IsPlaceOfRecord after of.before of.reads at) is place) le noted later noted_is

pub noted_put_old : (count : ℕ) (before after : List Record) (frame : Frame) (step : Record) (at : ℕ) (noted later : List Frame) → step ≡ record_of frame →
    after ≡ with_record before step → count ≤ length before → HasNoneTwice after → IsPlaceOfRecord after step.before step.reads at → at < count →
    later ≡ noted → Notes (take count before) (frame ∷ []) before after noted later
noted_put_old count before after frame step at noted later is put few once place lt noted_is =
    noted_old count before after frame at few (with_one_more before after step put) once
    (subst (λ (of : Record). IsPlaceOfRecord after of.before of.reads at) is place) lt noted later noted_is

-- a frame that is like one whose step is held
pub like_held : (records : List Record) (old : List Frame) (frame : Frame) → All (IsHeldIn records) old → HasSameStep old frame → IsHeldIn records frame
like_held records old frame all has =
    let held : IsTrue (has_record records has.other.before has.other.reads) = All-contains (IsHeldIn records) old has.other all has.there in
    subst (λ state. IsTrue (has_record records state frame.reads)) has.like.before
    (subst (λ reads. IsTrue (has_record records has.other.before reads)) has.like.reads held)

pub noted_like : (count : ℕ) (records after : List Record) (old : List Frame) (frame : Frame) (noted later : List Frame) →
    All (IsHeldIn (take count records)) old → HasSameStep old frame → after ≡ records → later ≡ noted →
    Notes (take count records) (frame ∷ []) records after noted later
noted_like count records after old frame noted later all has same is =
    noted_held count records after frame noted later same is (like_held (take count records) old frame all has)

-- ---- gathered frames

first_items : {A : Type 0} (items : List A) (at : ℕ) (item : A) → at < length items → item ≡ get_or items at item → take (at + 1) items ≡ take at items ++ item ∷ []
first_items items at item lt is = take_more items at item lt ∙ ap (λ one. take at items ++ one ∷ []) (sym is)

module _ {A : Type 0} (gathered : List A → List Frame) (one : A → List Frame)
    (joins : (items : List A) (item : A) → gathered (items ++ item ∷ []) ≡ gathered items ++ one item) where
  pub noted_more : (items : List A) (at : ℕ) (item : A) (count : ℕ) (before between after : List Record) (noted noted_between noted_after : List Frame) →
      count ≤ length before → at < length items → item ≡ get_or items at item →
      Notes (take count before) (gathered (take at items)) before between noted noted_between →
      Notes (take count between) (one item) between after noted_between noted_after →
      Notes (take count before) (gathered (take (at + 1) items)) before after noted noted_after
  noted_more items at item count before between after noted noted_between noted_after few lt is so_far next =
      subst (λ (frames : List Frame). Notes (take count before) frames before after noted noted_after)
      (sym (ap gathered (first_items items at item lt is) ∙ joins (take at items) item))
      (noted_then (take count before) before between after (gathered (take at items)) (one item) noted noted_between noted_after so_far
      (subst (λ (first : List Record). Notes first (one item) between after noted_between noted_after) (first_stay count before between few so_far.extends) next))

abbrev pub alone : Frame → List Frame
alone frame = frame ∷ []

pub frames_join : (frames : List Frame) (frame : Frame) → frames ++ frame ∷ [] ≡ frames ++ alone frame
frames_join frames frame = refl

pub batches_join : (batches : List (List Frame)) (frames : List Frame) → frames_in_batches (batches ++ frames ∷ []) ≡ frames_in_batches batches ++ frames
batches_join [] frames = append-nil frames
batches_join (first ∷ rest) frames = ap (λ r. first ++ r) (batches_join rest frames) ∙ sym (append_assoc first (frames_in_batches rest) frames)

abbrev pub frames_of_instant : Instant → List Frame
frames_of_instant instant = frames_in_batches instant.batches

pub instants_join : (instants : List Instant) (instant : Instant) → frames_in_instants (instants ++ instant ∷ []) ≡ frames_in_instants instants ++ frames_of_instant instant
instants_join [] instant = append-nil (frames_in_batches instant.batches)
instants_join (first ∷ rest) instant =
    ap (λ r. frames_in_batches first.batches ++ r) (instants_join rest instant)
    ∙ sym (append_assoc (frames_in_batches first.batches) (frames_in_instants rest) (frames_in_batches instant.batches))

-- ---- what holds of all, of one of them

pub of_item : {A : Type 0} (P : A → Type 0) (items : List A) (at : ℕ) (item : A) → at < length items → item ≡ get_or items at item → All P items → P item
of_item P items at item lt is all = subst P (sym is) (all at item lt)

pub of_frames_at : (P : Frame → Type 0) (batches : List (List Frame)) (at : ℕ) → All (All P) batches → All P (get_or batches at [])
of_frames_at P [] at all = All-nil P
of_frames_at P (frames ∷ batches) zero all = All-head (All P) frames batches all
of_frames_at P (frames ∷ batches) (suc at) all = of_frames_at P batches at (All-tail (All P) frames batches all)

pub of_batches_at : (P : Frame → Type 0) (instants : List Instant) (at : ℕ) → All (λ (instant : Instant). All (All P) instant.batches) instants →
    All (All P) (batches_of (slice_get instants at))
of_batches_at P [] at all = All-nil (All P)
of_batches_at P (instant ∷ instants) zero all = All-head (λ (instant : Instant). All (All P) instant.batches) instant instants all
of_batches_at P (instant ∷ instants) (suc at) all = of_batches_at P instants at (All-tail (λ (instant : Instant). All (All P) instant.batches) instant instants all)

-- ---- all frames of a run, and all frames of each batch of each instant

all_front : (P : Frame → Type 0) (frames more : List Frame) → All P (frames ++ more) → All P frames
all_front P [] more all = All-nil P
all_front P (frame ∷ frames) more all = All-cons P frame frames (All-head P frame (frames ++ more) all) (all_front P frames more (All-tail P frame (frames ++ more) all))

all_back : (P : Frame → Type 0) (frames more : List Frame) → All P (frames ++ more) → All P more
all_back P [] more all = all
all_back P (frame ∷ frames) more all = all_back P frames more (All-tail P frame (frames ++ more) all)

by_batches : (P : Frame → Type 0) (batches : List (List Frame)) → All P (frames_in_batches batches) → All (All P) batches
by_batches P [] all = All-nil (All P)
by_batches P (frames ∷ rest) all =
    All-cons (All P) frames rest (all_front P frames (frames_in_batches rest) all) (by_batches P rest (all_back P frames (frames_in_batches rest) all))

pub by_instants : (P : Frame → Type 0) (instants : List Instant) → All P (frames_in_instants instants) → All (λ (instant : Instant). All (All P) instant.batches) instants
by_instants P [] all = All-nil (λ (instant : Instant). All (All P) instant.batches)
by_instants P (instant ∷ rest) all =
    All-cons (λ (instant : Instant). All (All P) instant.batches) instant rest
    (by_batches P instant.batches (all_front P (frames_in_batches instant.batches) (frames_in_instants rest) all))
    (by_instants P rest (all_back P (frames_in_batches instant.batches) (frames_in_instants rest) all))

in_batches : (P : Frame → Type 0) (batches : List (List Frame)) → All (All P) batches → All P (frames_in_batches batches)
in_batches P [] all = All-nil P
in_batches P (frames ∷ rest) all = All-append P frames (frames_in_batches rest) (All-head (All P) frames rest all) (in_batches P rest (All-tail (All P) frames rest all))

pub in_instants : (P : Frame → Type 0) (instants : List Instant) → All (λ (instant : Instant). All (All P) instant.batches) instants → All P (frames_in_instants instants)
in_instants P [] all = All-nil P
in_instants P (instant ∷ rest) all =
    All-append P (frames_in_batches instant.batches) (frames_in_instants rest)
    (in_batches P instant.batches (All-head (λ (instant : Instant). All (All P) instant.batches) instant rest all))
    (in_instants P rest (All-tail (λ (instant : Instant). All (All P) instant.batches) instant rest all))

-- an old frame at a place
pub has_like_at : (old : List Frame) (frame : Frame) (at : ℕ) (other : Frame) → slice_get old at ≡ Some other → IsSameStep frame other → HasSameStep old frame
has_like_at old frame at other there like = record { other = other; there = contained old at other there; like = like }
  where
    contained : (old : List Frame) (at : ℕ) (other : Frame) → slice_get old at ≡ Some other → Contains old other
    contained [] at other there = absurd (cc)
    contained (one ∷ old) zero other there = (0, omega arith, (let same : one ≡ other = cc in same))
    contained (one ∷ old) (suc at) other there = Contains-append_right (one ∷ []) old other (contained old at other there)
