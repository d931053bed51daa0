-- What a completed run pays for.
use Rattle.std.proofs.Common.{◌≡◌, ℕ, ◌+◌, ◌<◌, ◌≤◌, Bool, true, false, ◌⊎◌, inl, inr, IsTrue, List, [], ◌∷◌, ◌++◌, Option, Some, None, IfSome, length, map, min, take, if◌then◌else◌, refl, ap, sym, subst, ◌∙◌, arith}
use Rattle.std.specs.List.{All, Contains}
use Rattle.std.proofs.lemmas.Bool.{cases_lt}
use Rattle.std.proofs.lemmas.List.{append-nil, length-take-le, take_all}
use Rattle.std.proofs.lemmas.List.Elements.{All-cons, All-contains, All-head, All-nil, All-tail, Contains-append_cases, Contains-append_left, Contains-append_right}
use Rattle.run_data.specs.declared.frames.Record.{Record}
use Rattle.run_data.specs.declared.runs.Instant.{Instant}
use Rattle.run_data.specs.declared.runs.Run.{Run}
use Rattle.run_data.specs.KeptRuns.{KeptRun}
use Rattle.run_data.specs.Records.{has_fit, record_of, unmatched}
use Rattle.run_data.specs.RunFrames.{PaysForRun, frames_in_batches, frames_in_instants, frames_in_run}
use Rattle.run_data.specs.TaskFrames.{Frame}
use Rattle.record_book.specs.StoredSteps.{IsHeldIn, StoredSteps, book_limit, has_record, records_in_run}
use Rattle.resimulate.specs.EvenInstants.{PaysForUneven, frames_of_others}
use Rattle.aerie_base.specs.declared.models.model.Parts.{Parts}
use Rattle.body_code.specs.declared.instructions.Instruction.{Instruction}
use Rattle.body_code.specs.ModelCodes.{AreCodesOf}
use Rattle.run_data.specs.Waves.{RoseAlike, last_count}
use Rattle.bench.specs.HeldSteps.{Extends, HoldsAll, HoldsRun, HoldsRunWithin, records_of_kept}
use Rattle.bench.specs.Stocks.{IsKnownIn}
use Rattle.bench.specs.Chapters.{PublishesFrames, PublishesWhatRan, cost_of_chapters, gained}
use Rattle.bench.specs.Noting.{unheld}
use Rattle.history_store.specs.Publishing.{PublishedChapter, most_published}
use Rattle.bench.proofs.Extending.{front_holds, holds_more}
use Rattle.bench.proofs.NotedFrames.{passing_contained, passing_one, unheld_cost}

-- ---- more records leave less to pay for

module _ (few many : List Record) (more : (frame : Frame) → IsTrue (has_fit few frame) → IsTrue (has_fit many frame)) where
  pub less_to_pay : (frames : List Frame) → unmatched frames many ≤ unmatched frames few
  less_to_pay [] = omega arith
  less_to_pay (frame ∷ frames) = by (has_fit few frame) (has_fit many frame) (more frame) (less_to_pay frames)
    where
      by : (held has : Bool) → (IsTrue held → IsTrue has) → unmatched frames many ≤ unmatched frames few →
          (if has then unmatched frames many else frame.cost + unmatched frames many) ≤ (if held then unmatched frames few else frame.cost + unmatched frames few)
      by true true keeps le = le
      by true false keeps le = absurd (let untrue = keeps refl in cc)
      by false true keeps le = omega (arith, le)
      by false false keeps le = omega (arith, le)

-- ---- the records that were held, and those of a run whose frames are held

of_records : (P : Record → Type 0) (frames : List Frame) → All (λ frame. P (record_of frame)) frames → All P (map record_of frames)
of_records P [] all = All-nil P
of_records P (frame ∷ frames) all =
    All-cons P (record_of frame) (map record_of frames) (All-head (λ frame. P (record_of frame)) frame frames all)
    (of_records P frames (All-tail (λ frame. P (record_of frame)) frame frames all))

pub fits_many : (held : List Record) (run : Run) (many : List Record) → HoldsAll held many → HoldsRun many run → (frame : Frame) →
    IsTrue (has_fit (held ++ records_in_run run) frame) → IsTrue (has_fit many frame)
fits_many held run many all whole frame fits =
    let found = passing_one frame.before frame.reads (held ++ records_in_run run) fits in
    by found.0 (found.2) (found.3) (Contains-append_cases held (records_in_run run) found.0 found.1)
  where
    by : (of : Record) → of.before ≡ frame.before → of.reads ≡ frame.reads → Contains held of ⊎ Contains (records_in_run run) of → IsTrue (has_fit many frame)
    by of before read (inl there) = passing_contained frame.before frame.reads many of (all of there) before read
    by of before read (inr there) =
        subst (λ state. IsTrue (has_record many state frame.reads)) before
        (subst (λ reads. IsTrue (has_record many of.before reads)) read
        (All-contains (λ (of : Record). IsTrue (has_record many of.before of.reads)) (records_in_run run) of
        (of_records (λ (of : Record). IsTrue (has_record many of.before of.reads)) (frames_in_run run) whole) there))

pub fits_more : (held many : List Record) → HoldsAll held many → (frame : Frame) → IsTrue (has_fit held frame) → IsTrue (has_fit many frame)
fits_more held many all frame fits =
    let found = passing_one frame.before frame.reads held fits in
    passing_contained frame.before frame.reads many found.0 (all found.0 found.1) found.2 found.3

pub pays_less : (run : Run) (few many : List Record) (steps after : ℕ) → ((frame : Frame) → IsTrue (has_fit few frame) → IsTrue (has_fit many frame)) →
    PaysForRun run many steps after → PaysForRun run few steps after
pays_less run few many steps after more pays done = omega (arith, pays done, less_to_pay few many more (frames_in_run run))

-- with what a kept run has, where there is one, and all of it is held
fits_known : (held : List Record) (book : StoredSteps) (old : Option KeptRun) → HoldsAll held book.records → IfSome old (IsKnownIn book) →
    (frame : Frame) → IsTrue (has_fit (held ++ records_of_kept old) frame) → IsTrue (has_fit book.records frame)
fits_known held book None all known frame fits =
    fits_more held book.records all frame (subst (λ (records : List Record). IsTrue (has_fit records frame)) (append-nil held) fits)
fits_known held book (Some kept) all known frame fits = fits_many held kept.run book.records all known.held frame fits

pub pays_known : (run : Run) (held : List Record) (book : StoredSteps) (old : Option KeptRun) (steps after : ℕ) → Extends held book.records →
    IfSome old (IsKnownIn book) → PaysForRun run book.records steps after → PaysForRun run (held ++ records_of_kept old) steps after
pays_known run held book old steps after extends known pays =
    pays_less run (held ++ records_of_kept old) book.records steps after (fits_known held book old (holds_more held book.records extends) known) pays

-- with the same records behind what is held
fits_front : (held many more : List Record) → HoldsAll held many → (frame : Frame) → IsTrue (has_fit (held ++ more) frame) → IsTrue (has_fit (many ++ more) frame)
fits_front held many more all frame fits = fits_more (held ++ more) (many ++ more) both frame fits
  where
    by : (of : Record) → Contains held of ⊎ Contains more of → Contains (many ++ more) of
    by of (inl there) = Contains-append_left many more of (all of there)
    by of (inr there) = Contains-append_right many more of there

    both : HoldsAll (held ++ more) (many ++ more)
    both of there = by of (Contains-append_cases held more of there)

pub pays_front : (run : Run) (count : ℕ) (before after more : List Record) (steps steps_after : ℕ) → Extends before after →
    PaysForRun run (after ++ more) steps steps_after → PaysForRun run (take count before ++ more) steps steps_after
pays_front run count before after more steps steps_after extends pays =
    pays_less run (take count before ++ more) (after ++ more) steps steps_after (fits_front (take count before) after more (front_holds count before after extends)) pays

-- ---- where no instant passes, all frames are paid for

others_all : (instants : List Instant) → frames_of_others (λ instant. false) instants ≡ frames_in_instants instants
others_all [] = refl
others_all (instant ∷ rest) = ap (λ frames. frames_in_batches instant.batches ++ frames) (others_all rest)

pub pays_for_all : (old run : Run) (records : List Record) (steps after : ℕ) → PaysForUneven old run records steps after → PaysForRun run records steps after
pays_for_all old run records steps after pays done =
    subst (λ frames. after ≤ steps + unmatched frames records) (others_all run.instants) (pays done (λ instant. false) (λ instant passed. absurd (cc)))

-- ---- what was run is published

pub published_ran : (run : Run) (records : List Record) (before receipts : List PublishedChapter) (steps after : ℕ) → PaysForRun run records steps after →
    PublishesFrames (unheld records (frames_in_run run)) before receipts → PublishesWhatRan run before receipts steps after
published_ran run records before receipts steps after pays published done = by published
  where
    by : PublishesFrames (unheld records (frames_in_run run)) before receipts →
        (after ≤ steps + cost_of_chapters (gained before receipts)) ⊎ (length receipts ≡ most_published)
    by (inl le) = inl (omega (arith, pays done, le, unheld_cost records (frames_in_run run)))
    by (inr full) = inr full

-- ---- a run whose frames are all held among more records

-- where the first 200,000 records and the frames are few enough together, those are all records, or there are no frames
pub holds_within : (records : List Record) (run : Run) → HoldsRun records run → HoldsRunWithin (take book_limit records) run
holds_within records run all few = by (cases_lt book_limit (length records))
  where
    short : length records ≤ book_limit → HoldsRun (take book_limit records) run
    short le = subst (λ (held : List Record). HoldsRun held run) (sym (take_all book_limit records le)) all

    none : (frames : List Frame) → length frames ≡ 0 → All (IsHeldIn (take book_limit records)) frames
    none [] zero_long = All-nil (IsHeldIn (take book_limit records))
    none (frame ∷ frames) zero_long = absurd (omega (arith, zero_long))

    by : (book_limit < length records) ⊎ (length records ≤ book_limit) → HoldsRun (take book_limit records) run
    by (inr le) = short le
    by (inl lt) = none (frames_in_run run) (omega (arith, lt, few, length-take-le book_limit records (omega (arith, lt))))

-- ---- over a stock

pub pays_stored : (run : Run) (records none : List Record) (steps after : ℕ) → none ≡ [] → PaysForRun run (records ++ none) steps after → PaysForRun run records steps after
pays_stored run records none steps after is pays =
    subst (λ (all : List Record). PaysForRun run all steps after) (ap (λ rest. records ++ rest) is ∙ append-nil records) pays

pub codes_of : (model other : Parts) (codes : List (List Instruction)) → other ≡ model → AreCodesOf model codes → AreCodesOf other codes
codes_of model other codes is are = subst (λ (of : Parts). AreCodesOf of codes) (sym is) are

-- a count of 64 bits that rose from 0 as the steps did
pub counted : (from opened told count before after : ℕ) → from ≡ 0 → told ≡ opened → told ≤ last_count → count ≡ told →
    RoseAlike (min from last_count) before (min opened last_count) after → RoseAlike 0 before count after
counted from opened told count before after none is small same rose = (rose.0, λ rise by. let risen = rose.1 rise by in omega (arith, none, is, small, same, risen))
