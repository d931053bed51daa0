-- What is told of a command, by the replies to what it did.
use Rattle.std.specs.Prelude.{ℕ, Bool, true, false, List, get_or, Option, Some, None, Result, Ok, Err, if◌then◌else◌}
use Rattle.aerie_base.specs.declared.models.model.Parts.{Parts}
use Rattle.aerie_base.specs.declared.plans.Plan.{Plan}
use Rattle.commands.specs.declared.commands.Command.{Command}
use Rattle.commands.specs.declared.commands.Command.TheVariants.{New, Fork, Drop, Edit, Migrate, Show, Simulate, Schedule, Merge, Expand}
use Rattle.hangar_core.specs.declared.replies.Reply.{Reply}
use Rattle.hangar_core.specs.declared.replies.Reply.TheVariants as reply
use Rattle.plan_merge.specs.declared.answers.Merged.{Merged}
use Rattle.plan_merge.specs.declared.answers.MergeError.{MergeError}
use Rattle.plan_merge.specs.Merging.{merge_of}
use Rattle.goals.specs.declared.status.GoalStatus.{GoalStatus}
use Rattle.seq_expand.specs.Expanding.{sequence_of}
use Rattle.report_text.specs.declared.answers.Answer.{Answer}
use Rattle.report_text.specs.declared.answers.Answer.TheVariants as answer
use Rattle.client_work.specs.declared.missions.Mission.{Mission}
use Rattle.client_work.specs.Meanings.{ruled_by, simulated, scheduled, are_of_one_model}

-- the reply to a part of a command; `NoBranch` where the command has no such part, of which nothing is told
abbrev pub reply_to : List Reply → ℕ → Reply
reply_to replies part = get_or replies part reply.NoBranch

-- what is told of a fetched branch, or else the refusal of the fetch
abbrev pub by_fetched : Reply → (ℕ → Plan → Answer) → Answer
by_fetched (reply.Fetched revision plan kept) told = told revision plan
by_fetched other told = answer.Reply other

-- whether a run was kept on its branch
abbrev pub is_attached : Reply → Bool
is_attached reply.Attached = true
is_attached other = false

-- how many statements a simulation ran, where that is told
abbrev pub count_told : Mission → ℕ → Option ℕ
count_told mission statements = if mission.form.stats then Some statements else None

-- the report of a fetched plan, by the reply to the Attach, with the count of statements where one is told
abbrev pub report_of : Mission → Option ℕ → ℕ → Plan → Reply → Answer
report_of mission count revision plan attach = answer.Report (record {
  start = mission.start;
  run = simulated mission.models mission.bound plan;
  constraints = (ruled_by mission.models plan).constraints;
  revision = revision;
  attached = is_attached attach;
  statements = count;
  detail = mission.form.detail;
})

-- the commands that the run of a fetched plan gives
abbrev pub sequence_told : Mission → ℕ → Plan → Answer
sequence_told mission revision plan = answer.Expanded (record {
  start = mission.start;
  run = simulated mission.models mission.bound plan;
  sequence = sequence_of (ruled_by mission.models plan).model (ruled_by mission.models plan).sequence (simulated mission.models mission.bound plan).run;
  revision = revision;
})

-- what was made of goals by so many trials for a plan of a model, by the reply to the Place
abbrev pub schedule_told : Mission → Parts → List GoalStatus → ℕ → Reply → Answer
schedule_told mission model goals trials (reply.Placed revision) =
    answer.Schedule (record { model = model; revision = revision; goals = goals; trials = trials; detail = mission.form.detail })
schedule_told mission model goals trials other = answer.Reply other

-- a merge that added these directives, likewise
abbrev pub merge_placed : List ℕ → Reply → Answer
merge_placed added (reply.Placed revision) = answer.Merge revision added
merge_placed added other = answer.Reply other

abbrev pub merged_or_refused : Result Merged MergeError → Reply → Answer
merged_or_refused (Ok merged) place = merge_placed merged.added place
merged_or_refused (Err error) place = answer.MergeRefused error

-- what becomes of a base, a source and a target that were fetched
abbrev pub merge_told : Plan → Plan → Plan → Reply → Answer
merge_told base source target place =
    if are_of_one_model base source target then merged_or_refused (merge_of base source target) place else answer.OtherModel

-- what is told of a command, by the replies to its parts
abbrev pub command_told : Mission → Option ℕ → Command → List Reply → Answer
command_told mission count (New branch) replies = answer.Reply (reply_to replies 0)
command_told mission count (Fork branch source) replies = answer.Reply (reply_to replies 0)
command_told mission count (Drop branch) replies = answer.Reply (reply_to replies 0)
command_told mission count (Edit branch edit) replies = answer.Reply (reply_to replies 0)
command_told mission count (Migrate branch model) replies = answer.Reply (reply_to replies 0)
command_told mission count (Show branch) replies = answer.Reply (reply_to replies 0)
command_told mission count (Simulate branch) replies =
    by_fetched (reply_to replies 0) (λ revision plan. report_of mission count revision plan (reply_to replies 1))
command_told mission count (Schedule branch) replies =
    by_fetched (reply_to replies 0) (λ revision plan.
    schedule_told mission (ruled_by mission.models plan).model (scheduled mission.models mission.bound plan).goals
    (scheduled mission.models mission.bound plan).trials (reply_to replies 1))
command_told mission count (Merge target source base) replies =
    by_fetched (reply_to replies 0) (λ _ target_plan. by_fetched (reply_to replies 1) (λ _ source_plan. by_fetched (reply_to replies 2) (λ _ base_plan.
    merge_told base_plan source_plan target_plan (reply_to replies 3))))
command_told mission count (Expand branch) replies =
    by_fetched (reply_to replies 0) (λ revision plan. sequence_told mission revision plan)
