-- A step that is found is that of the job, and a step that is run is one that no stored step fits.
use Rattle.std.proofs.Common.{◌≡◌, ◌≤◌, ◌<◌, ℕ, Bool, true, false, ◌&&◌, List, [], ◌∷◌, ◌++◌, Some, None, length, arith, refl, sym, ap, ◌∙◌, subst, nat_lt}
use Rattle.std.proofs.lemmas.List.Elements.{All-head, All-tail}
use Rattle.aerie_base.specs.declared.models.model.Parts.{Parts}
use Rattle.record_book.specs.StoredSteps.{FitsView}
use Rattle.run_data.specs.declared.frames.Record.{Record}
use Rattle.run_data.specs.declared.jobs.Job.{Job}
use Rattle.run_data.specs.TaskFrames.{Frame, frame_with}
use Rattle.run_data.specs.Frames.{frame_of, job_step}
use Rattle.run_data.specs.Jobs.{AreCellsOf}
use Rattle.run_data.specs.Records.{Agrees, has_fit, record_of, same_reads, same_task, stepped_record}
use Rattle.run_data.specs.Steps.{Stepped}
use Rattle.run_data.specs.Waves.{frames_of, unless_spent, with_step}
use Rattle.run_data.specs.laws.ValidRecords.{SameReadsAreEqual, SameTasksAreEqual, ValidRecordsFit, ValidRecordsPass}
use Rattle.batch_run.specs.Answers.{HasNoStep, IsFoundFor}
use Rattle.batch_run.proofs.Joining.{spent_by}

-- ---- found

module _ (fit : ValidRecordsFit) (pass : ValidRecordsPass) (model : Parts) (fuel : ℕ) (job : Job) (cells : AreCellsOf model job.view) where
  stepped : (of : Record) (step : Stepped) → stepped_record job.state step ≡ Some of → with_step job step (Some []) ≡ Some (frame_with job.path of ∷ [])
  stepped of None is = absurd (cc)
  stepped of (Some (status, so_far)) is =
      let same : record_of (frame_of job status so_far) ≡ of = cc in
      ap (λ (one : Record). Some (frame_with job.path one ∷ [])) same

  by_cost : (of : Record) (frame : Frame) → frame ≡ frame_with job.path of → (past : Bool) → nat_lt fuel of.cost ≡ past → (of.cost ≤ fuel → frames_of model fuel (job ∷ []) ≡ Some (frame_with job.path of ∷ [])) →
      (fuel < of.cost → frames_of model fuel (job ∷ []) ≡ None) → unless_spent fuel (Some (frame ∷ [])) ≡ unless_spent fuel (frames_of model fuel (job ∷ []))
  by_cost of frame is true past fits passes =
      let more : fuel < of.cost = grind (arith, past) in
      let cost : frame.cost ≡ of.cost = ap (λ (one : Frame). one.cost) is in
      spent_by fuel (frame ∷ []) (omega (arith, more, cost)) ∙ ap (unless_spent fuel) (sym (passes more))
  by_cost of frame is false past fits passes =
      let enough : of.cost ≤ fuel = grind (arith, past) in
      ap (λ (one : Frame). unless_spent fuel (Some (one ∷ []))) is ∙ ap (unless_spent fuel) (sym (fits enough))

  -- the frame of a step that was found tells what the job's own step does
  pub found_is : (frame : Frame) → IsFoundFor model job frame → unless_spent fuel (Some (frame ∷ [])) ≡ unless_spent fuel (frames_of model fuel (job ∷ []))
  found_is frame (of, (valid, fits, is)) =
      by_cost of frame is (nat_lt fuel of.cost) refl
      (λ enough. stepped of (job_step model fuel job) (fit model fuel job of valid fits.before cells fits.reads enough))
      (λ more. ap (λ (step : Stepped). with_step job step (Some [])) (pass model fuel job of valid fits.before cells fits.reads more))

-- ---- run

module _ (states : SameTasksAreEqual) (reads : SameReadsAreEqual) (job : Job) where
  abbrev IsUnfit : Record → Type 0
  IsUnfit of = FitsView job.state job.view of → ⊥

  -- no record that does not fit the job has the state and the reads of its frame
  unlike : (of : Record) (frame : Frame) → frame.before ≡ job.state → Agrees job.view frame.reads → (FitsView job.state job.view of → ⊥) →
      (test : Bool) → same_task of.before frame.before && same_reads of.reads frame.reads ≡ test → test ≡ false
  unlike of frame before agrees none false is = refl
  unlike of frame before agrees none true is =
      let same_state : same_task of.before frame.before ≡ true = grind (arith, is) in
      let same_cells : same_reads of.reads frame.reads ≡ true = grind (arith, is) in
      let state : of.before ≡ frame.before = (states of.before frame.before).0 (search same_state) in
      let read : of.reads ≡ frame.reads = (reads of.reads frame.reads).0 (search same_cells) in
      absurd (none (record { before = state ∙ before; reads = subst (Agrees job.view) (sym read) agrees }))

  pub fits_none : (records : List Record) (frame : Frame) → frame.before ≡ job.state → Agrees job.view frame.reads → HasNoStep records job → has_fit records frame ≡ false
  fits_none [] frame before agrees none = refl
  fits_none (of ∷ records) frame before agrees none =
      let first = unlike of frame before agrees (All-head IsUnfit of records none) (same_task of.before frame.before && same_reads of.reads frame.reads) refl in
      rw first (fits_none records frame before agrees (All-tail IsUnfit of records none))

-- ---- nothing stored

-- two books without a step have none together
pub none_stored : (book kept : List Record) → length book ≡ 0 → length kept ≡ 0 → book ++ kept ≡ []
none_stored [] [] none none_kept = refl
none_stored [] (of ∷ kept) none none_kept = absurd (omega (arith, none_kept))
none_stored (of ∷ book) kept none none_kept = absurd (omega (arith, none))
