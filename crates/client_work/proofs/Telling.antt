-- What is told of commands can be printed.
use Rattle.std.proofs.Common.{◌≡◌, refl, sym, subst, ℕ, zero, suc, ◌<◌, Bool, true, false, List, [], ◌∷◌, length, Option, Result, Ok, Err, if◌then◌else◌, arith}
use Rattle.std.specs.List.{AllByRecursion}
use Rattle.aerie_base.specs.declared.models.model.Parts.{Parts}
use Rattle.aerie_base.specs.declared.plans.Plan.{Plan}
use Rattle.goals.specs.declared.status.GoalStatus.{GoalStatus}
use Rattle.commands.specs.declared.commands.Command.{Command}
use Rattle.commands.specs.declared.commands.Command.TheVariants.{New, Fork, Drop, Edit, Migrate, Show, Simulate, Schedule, Merge, Expand}
use Rattle.hangar_core.specs.declared.replies.Reply.{Reply}
use Rattle.hangar_core.specs.declared.replies.Reply.TheVariants as reply
use Rattle.hangar_lock.specs.Passes.{LockView, PassView}
use Rattle.plan_merge.specs.declared.answers.Merged.{Merged}
use Rattle.plan_merge.specs.declared.answers.MergeError.{MergeError}
use Rattle.plan_merge.specs.Merging.{merge_of}
use Rattle.report_text.specs.declared.answers.Answer.{Answer}
use Rattle.report_text.specs.declared.answers.Answer.TheVariants as answer
use Rattle.client_work.specs.declared.missions.Mission.{Mission}
use Rattle.client_work.specs.Meanings.{are_of_one_model, ruled_by, scheduled}
use Rattle.client_work.specs.Told.{by_fetched, command_told, merge_placed, merge_told, merged_or_refused, reply_to, report_of, schedule_told, sequence_told}
use Rattle.client_work.specs.Working.{CanBeTold, IsAtWork, IsPlanAt, IsReplyAt}
use Rattle.client_work.proofs.ModelPositions.{of_mission}

-- a part of a command that was replied to, or one that there is not
known_at : (lock : LockView) (replies : List Reply) (part : ℕ) → AllByRecursion (IsReplyAt lock) replies → IsReplyAt lock (reply_to replies part)
known_at lock [] part all = tt
known_at lock (said ∷ replies) zero all = all.0
known_at lock (said ∷ replies) (suc part) all = known_at lock replies part all.1

module _ (mission : Mission) (lock : LockView) (pass : PassView) (at : IsAtWork mission lock pass) where
  some_model : 0 < length mission.models
  some_model = let some = at.some_model in omega (arith, some)

  reply_can : (said : Reply) → IsReplyAt lock said → CanBeTold mission (answer.Reply said)
  reply_can (reply.Fetched revision plan kept) known = record { some_model = some_model; shown = (of_mission mission lock pass at plan known.0).within; of_model = tt }
  reply_can (reply.Opened revision) known = record { some_model = some_model; shown = tt; of_model = tt }
  reply_can reply.Dropped known = record { some_model = some_model; shown = tt; of_model = tt }
  reply_can (reply.Added id revision) known = record { some_model = some_model; shown = tt; of_model = tt }
  reply_can (reply.Edited revision) known = record { some_model = some_model; shown = tt; of_model = tt }
  reply_can (reply.Loaded first count revision) known = record { some_model = some_model; shown = tt; of_model = tt }
  reply_can reply.Attached known = record { some_model = some_model; shown = tt; of_model = tt }
  reply_can (reply.Placed revision) known = record { some_model = some_model; shown = tt; of_model = tt }
  reply_can reply.NoBranch known = record { some_model = some_model; shown = tt; of_model = tt }
  reply_can reply.BranchExists known = record { some_model = some_model; shown = tt; of_model = tt }
  reply_can reply.TooManyBranches known = record { some_model = some_model; shown = tt; of_model = tt }
  reply_can reply.NoMapping known = record { some_model = some_model; shown = tt; of_model = tt }
  reply_can (reply.Unmapped id) known = record { some_model = some_model; shown = tt; of_model = tt }
  reply_can (reply.Misfit id number) known = record { some_model = some_model; shown = tt; of_model = tt }
  reply_can (reply.Edit refusal) known = record { some_model = some_model; shown = tt; of_model = tt }
  reply_can (reply.Stale seen now) known = record { some_model = some_model; shown = tt; of_model = tt }

  fetched_can : (said : Reply) (told : ℕ → Plan → Answer) → IsReplyAt lock said → ((revision : ℕ) (plan : Plan) → IsPlanAt lock plan → CanBeTold mission (told revision plan)) →
      CanBeTold mission (by_fetched said told)
  fetched_can (reply.Fetched revision plan kept) told known each = each revision plan known.0
  fetched_can (reply.Opened revision) told known each = reply_can (reply.Opened revision) known
  fetched_can reply.Dropped told known each = reply_can reply.Dropped known
  fetched_can (reply.Added id revision) told known each = reply_can (reply.Added id revision) known
  fetched_can (reply.Edited revision) told known each = reply_can (reply.Edited revision) known
  fetched_can (reply.Loaded first count revision) told known each = reply_can (reply.Loaded first count revision) known
  fetched_can reply.Attached told known each = reply_can reply.Attached known
  fetched_can (reply.Placed revision) told known each = reply_can (reply.Placed revision) known
  fetched_can reply.NoBranch told known each = reply_can reply.NoBranch known
  fetched_can reply.BranchExists told known each = reply_can reply.BranchExists known
  fetched_can reply.TooManyBranches told known each = reply_can reply.TooManyBranches known
  fetched_can reply.NoMapping told known each = reply_can reply.NoMapping known
  fetched_can (reply.Unmapped id) told known each = reply_can (reply.Unmapped id) known
  fetched_can (reply.Misfit id number) told known each = reply_can (reply.Misfit id number) known
  fetched_can (reply.Edit refusal) told known each = reply_can (reply.Edit refusal) known
  fetched_can (reply.Stale seen now) told known each = reply_can (reply.Stale seen now) known

  report_can : (count : Option ℕ) (revision : ℕ) (plan : Plan) (said : Reply) → IsPlanAt lock plan → CanBeTold mission (report_of mission count revision plan said)
  report_can count revision plan said is = record {
    some_model = some_model;
    shown = tt;
    of_model = record { run = refl; constraints = (of_mission mission lock pass at plan is).ruled.constraints };
  }

  sequence_can : (revision : ℕ) (plan : Plan) → CanBeTold mission (sequence_told mission revision plan)
  sequence_can revision plan = record { some_model = some_model; shown = tt; of_model = tt }

  schedule_can : (model : Parts) (goals : List GoalStatus) (trials : ℕ) (said : Reply) → IsReplyAt lock said → CanBeTold mission (schedule_told mission model goals trials said)
  schedule_can model goals trials (reply.Placed revision) known = record { some_model = some_model; shown = tt; of_model = tt }
  schedule_can model goals trials (reply.Fetched revision plan kept) known = reply_can (reply.Fetched revision plan kept) known
  schedule_can model goals trials (reply.Opened revision) known = reply_can (reply.Opened revision) known
  schedule_can model goals trials reply.Dropped known = reply_can reply.Dropped known
  schedule_can model goals trials (reply.Added id revision) known = reply_can (reply.Added id revision) known
  schedule_can model goals trials (reply.Edited revision) known = reply_can (reply.Edited revision) known
  schedule_can model goals trials (reply.Loaded first count revision) known = reply_can (reply.Loaded first count revision) known
  schedule_can model goals trials reply.Attached known = reply_can reply.Attached known
  schedule_can model goals trials reply.NoBranch known = reply_can reply.NoBranch known
  schedule_can model goals trials reply.BranchExists known = reply_can reply.BranchExists known
  schedule_can model goals trials reply.TooManyBranches known = reply_can reply.TooManyBranches known
  schedule_can model goals trials reply.NoMapping known = reply_can reply.NoMapping known
  schedule_can model goals trials (reply.Unmapped id) known = reply_can (reply.Unmapped id) known
  schedule_can model goals trials (reply.Misfit id number) known = reply_can (reply.Misfit id number) known
  schedule_can model goals trials (reply.Edit refusal) known = reply_can (reply.Edit refusal) known
  schedule_can model goals trials (reply.Stale seen now) known = reply_can (reply.Stale seen now) known

  placed_can : (added : List ℕ) (said : Reply) → IsReplyAt lock said → CanBeTold mission (merge_placed added said)
  placed_can added (reply.Placed revision) known = record { some_model = some_model; shown = tt; of_model = tt }
  placed_can added (reply.Fetched revision plan kept) known = reply_can (reply.Fetched revision plan kept) known
  placed_can added (reply.Opened revision) known = reply_can (reply.Opened revision) known
  placed_can added reply.Dropped known = reply_can reply.Dropped known
  placed_can added (reply.Added id revision) known = reply_can (reply.Added id revision) known
  placed_can added (reply.Edited revision) known = reply_can (reply.Edited revision) known
  placed_can added (reply.Loaded first count revision) known = reply_can (reply.Loaded first count revision) known
  placed_can added reply.Attached known = reply_can reply.Attached known
  placed_can added reply.NoBranch known = reply_can reply.NoBranch known
  placed_can added reply.BranchExists known = reply_can reply.BranchExists known
  placed_can added reply.TooManyBranches known = reply_can reply.TooManyBranches known
  placed_can added reply.NoMapping known = reply_can reply.NoMapping known
  placed_can added (reply.Unmapped id) known = reply_can (reply.Unmapped id) known
  placed_can added (reply.Misfit id number) known = reply_can (reply.Misfit id number) known
  placed_can added (reply.Edit refusal) known = reply_can (reply.Edit refusal) known
  placed_can added (reply.Stale seen now) known = reply_can (reply.Stale seen now) known

  either_can : (made : Result Merged MergeError) (said : Reply) → IsReplyAt lock said → CanBeTold mission (merged_or_refused made said)
  either_can (Ok merged) said known = placed_can merged.added said known
  either_can (Err error) said known = record { some_model = some_model; shown = tt; of_model = tt }

  merge_can : (base source target : Plan) (said : Reply) → IsReplyAt lock said → CanBeTold mission (merge_told base source target said)
  merge_can base source target said known = go (are_of_one_model base source target)
    where
      go : (alike : Bool) → CanBeTold mission (if alike then merged_or_refused (merge_of base source target) said else answer.OtherModel)
      go true = either_can (merge_of base source target) said known
      go false = record { some_model = some_model; shown = tt; of_model = tt }

  can_be_told : (count : Option ℕ) (command : Command) (replies : List Reply) → AllByRecursion (IsReplyAt lock) replies → CanBeTold mission (command_told mission count command replies)
  can_be_told count (New branch) replies all = reply_can (reply_to replies 0) (known_at lock replies 0 all)
  can_be_told count (Fork branch source) replies all = reply_can (reply_to replies 0) (known_at lock replies 0 all)
  can_be_told count (Drop branch) replies all = reply_can (reply_to replies 0) (known_at lock replies 0 all)
  can_be_told count (Edit branch edit) replies all = reply_can (reply_to replies 0) (known_at lock replies 0 all)
  can_be_told count (Migrate branch model) replies all = reply_can (reply_to replies 0) (known_at lock replies 0 all)
  can_be_told count (Show branch) replies all = reply_can (reply_to replies 0) (known_at lock replies 0 all)
  can_be_told count (Simulate branch) replies all =
      fetched_can (reply_to replies 0) (λ revision plan. report_of mission count revision plan (reply_to replies 1)) (known_at lock replies 0 all)
      (λ revision plan is. report_can count revision plan (reply_to replies 1) is)
  can_be_told count (Schedule branch) replies all =
      fetched_can (reply_to replies 0)
      (λ revision plan. schedule_told mission (ruled_by mission.models plan).model (scheduled mission.models mission.bound plan).goals (scheduled mission.models mission.bound plan).trials (reply_to replies 1))
      (known_at lock replies 0 all)
      (λ revision plan is.
      schedule_can (ruled_by mission.models plan).model (scheduled mission.models mission.bound plan).goals (scheduled mission.models mission.bound plan).trials (reply_to replies 1) (known_at lock replies 1 all))
  can_be_told count (Merge target source base) replies all =
      fetched_can (reply_to replies 0)
      (λ _ target_plan. by_fetched (reply_to replies 1) (λ _ source_plan. by_fetched (reply_to replies 2) (λ _ base_plan. merge_told base_plan source_plan target_plan (reply_to replies 3))))
      (known_at lock replies 0 all) (λ _ target_plan _.
      fetched_can (reply_to replies 1)
      (λ _ source_plan. by_fetched (reply_to replies 2) (λ _ base_plan. merge_told base_plan source_plan target_plan (reply_to replies 3))) (known_at lock replies 1 all) (λ _ source_plan _.
      fetched_can (reply_to replies 2) (λ _ base_plan. merge_told base_plan source_plan target_plan (reply_to replies 3)) (known_at lock replies 2 all) (λ _ base_plan _.
      merge_can base_plan source_plan target_plan (reply_to replies 3) (known_at lock replies 3 all))))
  can_be_told count (Expand branch) replies all =
      fetched_can (reply_to replies 0) (λ revision plan. sequence_told mission revision plan) (known_at lock replies 0 all) (λ revision plan is. sequence_can revision plan)

  -- by the replies that a pass of the lock knows
  pub answer_can : (count : Option ℕ) (command : Command) (replies : List Reply) (told : Answer) → told ≡ command_told mission count command replies →
      AllByRecursion (IsReplyAt pass.lock) replies → CanBeTold mission told
  answer_can count command replies told same known =
      subst (CanBeTold mission) (sym same)
      (can_be_told count command replies (subst (λ (l : LockView). AllByRecursion (IsReplyAt l) replies) at.own known))
