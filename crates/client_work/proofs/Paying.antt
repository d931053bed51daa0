-- What a simulation beside a kept run pays for.
use Rattle.std.proofs.Common.{◌≡◌, ℕ, ◌+◌, ◌-◌, ◌≤◌, ◌||◌, Bool, true, false, IsTrue, List, [], ◌∷◌, ◌++◌, Option, Some, refl, sym, ap, subst, ◌∙◌, true≢false, arith, if◌then◌else◌}
use Rattle.aerie_base.specs.declared.models.model.Parts.{Parts}
use Rattle.bench.specs.HeldSteps.{records_of_kept}
use Rattle.record_book.specs.StoredSteps.{records_in_run}
use Rattle.run_data.specs.declared.frames.Record.{Record}
use Rattle.run_data.specs.KeptRuns.{KeptRun}
use Rattle.run_data.specs.Records.{has_fit, unmatched}
use Rattle.run_data.specs.RunFrames.{PaysForRun, frames_in_run}
use Rattle.run_data.specs.TaskFrames.{Frame}
use Rattle.run_data.specs.Waves.{RoseAlike}
use Rattle.client_work.specs.Benches.{IsPassedOn}
use Rattle.client_work.specs.Counts.{PaysBeside}

-- ---- more records leave less to pay for

module _ (few all : List Record) (more : (frame : Frame) → IsTrue (has_fit few frame) → IsTrue (has_fit all frame)) where
  less_to_pay : (frames : List Frame) → unmatched frames all ≤ unmatched frames few
  less_to_pay [] = omega arith
  less_to_pay (frame ∷ frames) = by (has_fit few frame) (has_fit all frame) (more frame) (less_to_pay frames)
    where
      by : (held has : Bool) → (IsTrue held → IsTrue has) → unmatched frames all ≤ unmatched frames few →
          (if has then unmatched frames all else frame.cost + unmatched frames all) ≤ (if held then unmatched frames few else frame.cost + unmatched frames few)
      by true true also le = le
      by true false also le = absurd (true≢false (sym (also refl)))
      by false true also le = omega (arith, le)
      by false false also le = omega (arith, le)

or_else : (one other : Bool) → IsTrue other → IsTrue (one || other)
or_else true other is = refl
or_else false other is = is

fits_behind : (records more : List Record) (frame : Frame) → IsTrue (has_fit more frame) → IsTrue (has_fit (records ++ more) frame)
fits_behind [] more frame fits = fits
fits_behind (of ∷ records) more frame fits = or_else _ _ (fits_behind records more frame fits)

-- ---- what a count comes to

counted : (run : KeptRun) (few all : List Record) (steps after statements : ℕ) → ((frame : Frame) → IsTrue (has_fit few frame) → IsTrue (has_fit all frame)) →
    PaysForRun run.run all steps after → RoseAlike 0 steps statements after → PaysForRun run.run few 0 statements
counted run few all steps after statements more pays rose done =
    let rise : after ≡ steps + (after - steps) = omega (arith, rose.0) in
    omega (arith, rose.0, rose.1 (after - steps) rise, pays done, less_to_pay few all more (frames_in_run run.run))

pub pays_beside : (model : Parts) (made : KeptRun) (records : List Record) (kept passed : Option KeptRun) (steps after statements : ℕ) →
    made.model ≡ model → IsPassedOn model kept passed → PaysForRun made.run (records ++ records_of_kept passed) steps after → RoseAlike 0 steps statements after →
    PaysBeside made kept statements
pays_beside model made records kept passed steps after statements of_model is pays rose = record {
  at_most = counted made [] (records ++ records_of_kept passed) steps after statements (λ frame none. absurd (true≢false (sym none))) pays rose;
  beside = λ old there same.
      let whole : records_of_kept passed ≡ records_in_run old.run = ap records_of_kept (is.whenever old there (same ∙ of_model)) in
      counted made (records_in_run old.run) (records ++ records_in_run old.run) steps after statements (fits_behind records (records_in_run old.run))
      (subst (λ (rest : List Record). PaysForRun made.run (records ++ rest) steps after) whole pays) rose;
}
