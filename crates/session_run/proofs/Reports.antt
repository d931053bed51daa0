-- The constraints of each report that is told are of the model of its run.
use Rattle.std.proofs.Common.{◌≡◌, IfOk, OnOk, ℕ, zero, suc, Bool, true, false, IsTrue, List, [], ◌∷◌, Option, None, Result, Ok, Err, if◌then◌else◌, slice_get, refl}
use Rattle.std.specs.List.{AllByRecursion, list_all}
use Rattle.aerie_base.specs.declared.models.model.Parts.{Parts}
use Rattle.aerie_base.specs.declared.plans.Plan.{Plan}
use Rattle.constraints.specs.OfModel.{is_constraint}
use Rattle.goals.specs.declared.status.GoalStatus.{GoalStatus}
use Rattle.commands.specs.declared.commands.Command.{Command}
use Rattle.commands.specs.declared.commands.Command.TheVariants.{New, Fork, Drop, Edit, Migrate, Show, Simulate, Schedule, Merge, Expand}
use Rattle.hangar_core.specs.declared.replies.Reply.{Reply}
use Rattle.hangar_core.specs.declared.replies.Reply.TheVariants as reply
use Rattle.plan_merge.specs.declared.answers.Merged.{Merged}
use Rattle.plan_merge.specs.declared.answers.MergeError.{MergeError}
use Rattle.plan_merge.specs.Merging.{merge_of}
use Rattle.report_text.specs.declared.answers.Answer.{Answer}
use Rattle.report_text.specs.declared.answers.Answer.TheVariants as answer
use Rattle.session_run.specs.summary.Summaries.{HasItsConstraints}
use Rattle.client_work.specs.declared.missions.Mission.{Mission}
use Rattle.client_work.specs.declared.missions.RuledModel.{RuledModel}
use Rattle.client_work.specs.Meanings.{are_of_one_model, ruled_by, ruled_or_nothing, scheduled}
use Rattle.client_work.specs.Told.{by_fetched, command_told, count_told, merge_placed, merge_told, merged_or_refused, reply_to, report_of, schedule_told, sequence_told}
use Rattle.client_work.specs.Working.{IsRuled}

-- ---- rules of the model of a plan

of_model : (models : List RuledModel) (place : ℕ) → AllByRecursion IsRuled models →
    IsTrue (list_all (is_constraint (ruled_or_nothing (slice_get models place)).model) (ruled_or_nothing (slice_get models place)).constraints)
of_model [] place all = refl
of_model (ruled ∷ models) zero all = all.0.constraints
of_model (ruled ∷ models) (suc place) all = of_model models place all.1

-- ---- by the replies

fetched_has : (said : Reply) (told : ℕ → Plan → Answer) → ((revision : ℕ) (plan : Plan) → HasItsConstraints (told revision plan)) → HasItsConstraints (by_fetched said told)
fetched_has (reply.Fetched revision plan kept) told each = each revision plan
fetched_has (reply.Opened revision) told each = tt
fetched_has reply.Dropped told each = tt
fetched_has (reply.Added id revision) told each = tt
fetched_has (reply.Edited revision) told each = tt
fetched_has (reply.Loaded first count revision) told each = tt
fetched_has reply.Attached told each = tt
fetched_has (reply.Placed revision) told each = tt
fetched_has reply.NoBranch told each = tt
fetched_has reply.BranchExists told each = tt
fetched_has reply.TooManyBranches told each = tt
fetched_has reply.NoMapping told each = tt
fetched_has (reply.Unmapped id) told each = tt
fetched_has (reply.Misfit id number) told each = tt
fetched_has (reply.Edit refusal) told each = tt
fetched_has (reply.Stale seen now) told each = tt

schedule_has : (mission : Mission) (model : Parts) (goals : List GoalStatus) (trials : ℕ) (said : Reply) → HasItsConstraints (schedule_told mission model goals trials said)
schedule_has mission model goals trials (reply.Placed revision) = tt
schedule_has mission model goals trials (reply.Fetched revision plan kept) = tt
schedule_has mission model goals trials (reply.Opened revision) = tt
schedule_has mission model goals trials reply.Dropped = tt
schedule_has mission model goals trials (reply.Added id revision) = tt
schedule_has mission model goals trials (reply.Edited revision) = tt
schedule_has mission model goals trials (reply.Loaded first count revision) = tt
schedule_has mission model goals trials reply.Attached = tt
schedule_has mission model goals trials reply.NoBranch = tt
schedule_has mission model goals trials reply.BranchExists = tt
schedule_has mission model goals trials reply.TooManyBranches = tt
schedule_has mission model goals trials reply.NoMapping = tt
schedule_has mission model goals trials (reply.Unmapped id) = tt
schedule_has mission model goals trials (reply.Misfit id number) = tt
schedule_has mission model goals trials (reply.Edit refusal) = tt
schedule_has mission model goals trials (reply.Stale seen now) = tt

placed_has : (added : List ℕ) (said : Reply) → HasItsConstraints (merge_placed added said)
placed_has added (reply.Placed revision) = tt
placed_has added (reply.Fetched revision plan kept) = tt
placed_has added (reply.Opened revision) = tt
placed_has added reply.Dropped = tt
placed_has added (reply.Added id revision) = tt
placed_has added (reply.Edited revision) = tt
placed_has added (reply.Loaded first count revision) = tt
placed_has added reply.Attached = tt
placed_has added reply.NoBranch = tt
placed_has added reply.BranchExists = tt
placed_has added reply.TooManyBranches = tt
placed_has added reply.NoMapping = tt
placed_has added (reply.Unmapped id) = tt
placed_has added (reply.Misfit id number) = tt
placed_has added (reply.Edit refusal) = tt
placed_has added (reply.Stale seen now) = tt

either_has : (made : Result Merged MergeError) (said : Reply) → HasItsConstraints (merged_or_refused made said)
either_has (Ok merged) said = placed_has merged.added said
either_has (Err error) said = tt

merge_has : (base source target : Plan) (said : Reply) → HasItsConstraints (merge_told base source target said)
merge_has base source target said = go (are_of_one_model base source target)
  where
    go : (alike : Bool) → HasItsConstraints (if alike then merged_or_refused (merge_of base source target) said else answer.OtherModel)
    go true = either_has (merge_of base source target) said
    go false = tt

-- ---- by the command

pub told_has : (mission : Mission) → AllByRecursion IsRuled mission.models → (count : Option ℕ) (command : Command) (replies : List Reply) →
    HasItsConstraints (command_told mission count command replies)
told_has mission ruled count (New branch) replies = tt
told_has mission ruled count (Fork branch source) replies = tt
told_has mission ruled count (Drop branch) replies = tt
told_has mission ruled count (Edit branch edit) replies = tt
told_has mission ruled count (Migrate branch model) replies = tt
told_has mission ruled count (Show branch) replies = tt
told_has mission ruled count (Simulate branch) replies =
    fetched_has (reply_to replies 0) (λ revision plan. report_of mission count revision plan (reply_to replies 1))
    (λ revision plan. of_model mission.models plan.model ruled)
told_has mission ruled count (Schedule branch) replies =
    fetched_has (reply_to replies 0)
    (λ revision plan. schedule_told mission (ruled_by mission.models plan).model (scheduled mission.models mission.bound plan).goals (scheduled mission.models mission.bound plan).trials (reply_to replies 1))
    (λ revision plan. schedule_has mission (ruled_by mission.models plan).model (scheduled mission.models mission.bound plan).goals (scheduled mission.models mission.bound plan).trials (reply_to replies 1))
told_has mission ruled count (Merge target source base) replies =
    fetched_has (reply_to replies 0)
    (λ _ target_plan. by_fetched (reply_to replies 1) (λ _ source_plan. by_fetched (reply_to replies 2) (λ _ base_plan. merge_told base_plan source_plan target_plan (reply_to replies 3))))
    (λ _ target_plan.
    fetched_has (reply_to replies 1)
    (λ _ source_plan. by_fetched (reply_to replies 2) (λ _ base_plan. merge_told base_plan source_plan target_plan (reply_to replies 3)))
    (λ _ source_plan.
    fetched_has (reply_to replies 2) (λ _ base_plan. merge_told base_plan source_plan target_plan (reply_to replies 3))
    (λ _ base_plan. merge_has base_plan source_plan target_plan (reply_to replies 3))))
told_has mission ruled count (Expand branch) replies =
    fetched_has (reply_to replies 0) (λ revision plan. sequence_told mission revision plan) (λ revision plan. tt)

-- where statements are not told, no count is
pub none_told : (mission : Mission) (statements : ℕ) → mission.form.stats ≡ false → count_told mission statements ≡ None
none_told mission statements uncounted = rw uncounted refl

pub counted_if : {A E : Type 0} (result : Result A E) (P Q : Type 0) → (P → Q) → OnOk result P → IfOk result (λ _. Q)
counted_if (Ok value) P Q so h = so h
counted_if (Err error) P Q so h = tt
