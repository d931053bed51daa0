-- Steps and valid records.
use Rattle.std.proofs.Common.{◌≡◌, ℕ, ◌<◌, ◌≤◌, Some, None, refl, sym, ap, ◌∙◌, subst, arith}
use Rattle.aerie_base.specs.declared.models.model.Parts.{Parts}
use Rattle.run_data.specs.declared.tasks.TaskState.{TaskState}
use Rattle.run_data.specs.declared.jobs.Job.{Job}
use Rattle.run_data.specs.declared.frames.Record.{Record}
use Rattle.run_data.specs.declared.frames.Status.{Status}
use Rattle.run_data.specs.StepStates.{StepState}
use Rattle.run_data.specs.Frames.{job_step, read_from}
use Rattle.run_data.specs.Jobs.{AreCellsOf}
use Rattle.run_data.specs.Records.{Agrees, IsValid, record_of, stepped_record}
use Rattle.run_data.specs.Steps.{Stepped, step_of}
use Rattle.run_data.specs.TaskStates.{body_of}
use Rattle.run_data.specs.laws.Reads.{seeing}
use Rattle.run_data.specs.laws.ValidRecords.{FramesAreValid, ValidRecordsFit, ValidRecordsPass}
use Rattle.run_data.proofs.Budgets.{cost_is_within, same_within_cost}
use Rattle.run_data.proofs.Reading.{both_are, frame_depends}

pub frames_are_valid : FramesAreValid
frames_are_valid model budget job status so_far cells e =
    λ view of_model agrees.
    (let again = frame_depends model budget job.path job.state job.view view status so_far e (of_model.count ∙ sym cells) agrees in
    ap (stepped_record job.state)
    (same_within_cost (body_of model job.state.kind) job.state view budget so_far.cost status (seeing view so_far) again.0 (omega arith))
    ∙ ap (λ frame. Some (record_of frame)) again.1)

-- how the step of a record ended, where it is that of a state in a view
record StepOf (before : TaskState) (stepped : Stepped) (of : Record) : Type 0 where
  status : Status
  so_far : StepState
  is : stepped ≡ Some (status, so_far)
  cost : so_far.cost ≡ of.cost

step_of_record : (before : TaskState) (stepped : Stepped) (of : Record) → stepped_record before stepped ≡ Some of → StepOf before stepped of
step_of_record before None of e = absurd (cc)
step_of_record before (Some (status, so_far)) of e =
    let same : record {
      before = before;
      reads = read_from 0 so_far.read_flags so_far.view;
      items = so_far.items;
      status = status;
      cost = so_far.cost;
    } ≡ of = cc in
    record { status = status; so_far = so_far; is = refl; cost = ap (λ (r : Record). r.cost) same }

module _ (model : Parts) (budget : ℕ) (job : Job) (of : Record) (valid : IsValid model of) (state : of.before ≡ job.state) (cells : AreCellsOf model job.view)
    (agrees : Agrees job.view of.reads) where
  abbrev step_within : ℕ → Stepped
  step_within budget = step_of (body_of model job.state.kind) job.state job.view budget

  is_record : stepped_record job.state (step_within of.cost) ≡ Some of
  is_record = subst (λ before. stepped_record before (step_of (body_of model before.kind) before job.view of.cost) ≡ Some of) state (valid job.view cells agrees)

  fits : of.cost ≤ budget → stepped_record job.state (job_step model budget job) ≡ Some of
  fits less =
      let step = step_of_record job.state (step_within of.cost) of is_record in
      ap (stepped_record job.state)
      (same_within_cost (body_of model job.state.kind) job.state job.view of.cost budget step.status step.so_far step.is (omega (arith, step.cost)) ∙ sym step.is)
      ∙ is_record

  passes : budget < of.cost → (stepped : Stepped) → step_within budget ≡ stepped → stepped ≡ None
  passes less None e = refl
  passes less (Some (status, so_far)) e =
      let step = step_of_record job.state (step_within of.cost) of is_record in
      let within = cost_is_within (body_of model job.state.kind) job.state job.view budget status so_far e in
      let again : step_within of.cost ≡ Some (status, so_far) =
      same_within_cost (body_of model job.state.kind) job.state job.view budget of.cost status so_far e (omega arith) in
      let same = (both_are status step.status so_far step.so_far (sym again ∙ step.is)).1 in
      let costs : so_far.cost ≡ step.so_far.cost = ap (λ (c : StepState). c.cost) same in
      absurd (omega (arith, within, costs, step.cost))

pub valid_records_fit : ValidRecordsFit
valid_records_fit model budget job of valid state cells agrees less = fits model budget job of valid state cells agrees less

pub valid_records_pass : ValidRecordsPass
valid_records_pass model budget job of valid state cells agrees less =
    passes model budget job of valid state cells agrees less (job_step model budget job) refl
