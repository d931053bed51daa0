use Rattle.parting.proofs.PlainLateness.{plainly_late_is_late}
use Rattle.parting.proofs.Resuming.{resumes, same_jobs, have_not_started}
use Rattle.parting.proofs.laws.edited_plans_resume.Goals as goal

pub returns : goal.returns
returns c =
    let of_model = c.reached_states_are_of_the_model.ensures in
    let frames_of = c.frames_of_batches_are_of_tasks.ensures in
    let falls = c.weight_falls.ensures.falls in
    let side_by_side = c.plans_that_differ_late_run_side_by_side.ensures.states in
    record {
      resumes = resumes of_model frames_of falls side_by_side;
      jobs = same_jobs of_model frames_of falls side_by_side;
      unbegun = have_not_started of_model frames_of falls side_by_side;
      late = plainly_late_is_late;
    }
