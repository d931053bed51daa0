-- What is counted of the answers to the commands of a session.
use Rattle.std.specs.Prelude.{ℕ, ◌+◌, Bool, true, false, not, IsTrue, min, List, [], ◌∷◌, length}
use Rattle.std.specs.List.{list_all}
use Rattle.aerie_base.specs.declared.models.model.Parts.{Parts}
use Rattle.constraints.specs.OfModel.{is_constraint}
use Rattle.constraints.specs.Violating.{violations_of}
use Rattle.constraints.specs.declared.types.Constraint.{Constraint}
use Rattle.goals.specs.Goals.{is_completed}
use Rattle.goals.specs.declared.status.GoalStatus.{GoalStatus}
use Rattle.hangar_core.specs.declared.replies.Reply.{Reply}
use Rattle.hangar_core.specs.declared.replies.Reply.TheVariants.{Opened, Dropped, Added, Edited, Loaded, Fetched, Attached, Placed}
use Rattle.report_text.specs.declared.answers.Answer.{Answer}
use Rattle.report_text.specs.declared.answers.Answer.TheVariants as answer
use Rattle.run_data.specs.Spans.{spans_of}
use Rattle.run_data.specs.Waves.{last_count}
use Rattle.run_data.specs.laws.Weights.{one_if}
use Rattle.run_data.specs.declared.runs.Run.{Run}
use Rattle.session_run.specs.declared.summary.Summary.{Summary}

-- ---- simulations

-- the violations that are listed of constraints by a run
abbrev pub violation_count : Parts → Run → List Constraint → ℕ
violation_count model run [] = 0
violation_count model run (constraint ∷ constraints) =
    length (violations_of model run constraint) + violation_count model run constraints

-- ---- schedules

-- the ids that are listed as placed
abbrev pub placed_count : List GoalStatus → ℕ
placed_count [] = 0
placed_count (status ∷ later) = length status.placed + placed_count later

-- ---- refusals

-- whether a workspace refuses something
abbrev pub is_refusal : Reply → Bool
is_refusal (Opened revision) = false
is_refusal Dropped = false
is_refusal (Added id revision) = false
is_refusal (Edited revision) = false
is_refusal (Loaded first count revision) = false
is_refusal (Fetched revision plan kept) = false
is_refusal Attached = false
is_refusal (Placed revision) = false
is_refusal other = true

abbrev pub is_refused : Answer → Bool
is_refused (answer.Reply reply) = is_refusal reply
is_refused answer.OtherModel = true
is_refused (answer.MergeRefused error) = true
is_refused other = false

-- ---- one answer

-- simulations that completed
abbrev pub completed_in : Answer → ℕ
completed_in (answer.Report report) = one_if (is_completed report.run.run.outcome)
completed_in other = 0

-- simulations that did not
abbrev pub stopped_in : Answer → ℕ
stopped_in (answer.Report report) = one_if (not (is_completed report.run.run.outcome))
stopped_in other = 0

-- spans of simulations
abbrev pub spans_in : Answer → ℕ
spans_in (answer.Report report) = length (spans_of report.run.model report.run.run)
spans_in other = 0

-- violations that are listed of simulations
abbrev pub violations_in : Answer → ℕ
violations_in (answer.Report report) = violation_count report.run.model report.run.run report.constraints
violations_in other = 0

-- directives that schedules list as placed
abbrev pub placed_in : Answer → ℕ
placed_in (answer.Schedule report) = placed_count report.goals
placed_in other = 0

abbrev pub refused_in : Answer → ℕ
refused_in told = one_if (is_refused told)

-- a command
abbrev pub command_in : Answer → ℕ
command_in told = 1

-- ---- all answers

abbrev pub total : (Answer → ℕ) → List Answer → ℕ
total count [] = 0
total count (told ∷ later) = count told + total count later

-- a count of 64 bits, which stands still at its last value
abbrev pub total_counted : (Answer → ℕ) → List Answer → ℕ
total_counted count answers = min (total count answers) last_count

-- what is counted of the answers to commands
abbrev pub summary_of : List Answer → Summary
summary_of answers = record {
  commands = total_counted command_in answers;
  completed = total_counted completed_in answers;
  placed = total_counted placed_in answers;
  refused = total_counted refused_in answers;
  spans = total_counted spans_in answers;
  stopped = total_counted stopped_in answers;
  violations = total_counted violations_in answers;
}

-- what is counted of an answer that is no report
abbrev pub counts_otherwise : ℕ → Bool → Summary
counts_otherwise placed refused =
    record { commands = 1; completed = 0; placed = placed; refused = one_if refused; spans = 0; stopped = 0; violations = 0 }

-- ---- what can be counted

-- the constraints of a report are of the model of its run
abbrev pub HasItsConstraints : Answer → Type 0
HasItsConstraints (answer.Report report) = IsTrue (list_all (is_constraint report.run.model) report.constraints)
HasItsConstraints other = Unit {0}
