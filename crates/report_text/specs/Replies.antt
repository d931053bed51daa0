-- What is told of a command, as the value that is printed: whose it is, and under `ok` what came of it or under `refused` why
-- nothing did.
use Rattle.std.specs.Prelude.{ℕ, Bool, List, [], ◌∷◌, codes, option_map}
use Rattle.serde_json.specs.Data.{Data, member, no_members, object, string}
use Rattle.aerie_base.specs.declared.models.model.Parts.{Parts}
use Rattle.aerie_base.specs.declared.plans.Plan.{Plan}
use Rattle.json_line.specs.Json.{object_of}
use Rattle.hangar_core.specs.declared.replies.Reply.{Reply}
use Rattle.hangar_core.specs.declared.replies.Reply.TheVariants as reply
use Rattle.json_line.specs.Parts.{member_if}
use Rattle.plan_edit.specs.ShownPlan.{json_of_plan}
use Rattle.refusal_text.specs.EditRefusals.{edit_data, merge_refusal_data, misfit_data, unmapped_data}
use Rattle.json_line.specs.Numbers.{natural_data}
use Rattle.refusal_text.specs.Named.{named_data}
use Rattle.report_text.specs.GoalLines.{naturals_data, schedule_data}
use Rattle.report_text.specs.Reports.{IsReportOf, name_told, report_data}
use Rattle.report_text.specs.SequenceLines.{sequence_data}
use Rattle.report_text.specs.declared.answers.Answer.{Answer}
use Rattle.report_text.specs.declared.answers.Answer.TheVariants as answer

-- the name and the value of a member
abbrev pub Member : Type 0
Member = List ℕ × Data

abbrev pub as_ok : Data → Member
as_ok what = (codes "ok", what)

abbrev pub as_refused : Data → Member
as_refused why = (codes "refused", why)

-- ---- what is accepted

-- a branch that is gone
abbrev pub branch_data : List ℕ → Data
branch_data branch = object_of ((codes "branch", string branch) ∷ [])

-- a branch at a revision
abbrev pub revision_data : List ℕ → ℕ → Data
revision_data branch revision = object_of ((codes "branch", string branch) ∷ (codes "revision", natural_data revision) ∷ [])

-- a directive that is added
abbrev pub added_data : List ℕ → ℕ → ℕ → Data
added_data branch id revision =
    object_of ((codes "branch", string branch) ∷ (codes "id", natural_data id) ∷ (codes "revision", natural_data revision) ∷ [])

-- directives that are loaded: how many, and the id of the first
abbrev pub loaded_data : List ℕ → ℕ → ℕ → ℕ → Data
loaded_data branch count first revision =
    object_of ((codes "branch", string branch)
    ∷ (codes "count", natural_data count)
    ∷ (codes "first", natural_data first)
    ∷ (codes "revision", natural_data revision)
    ∷ [])

-- a plan that is shown
abbrev pub shown_data : List ℕ → Parts → Bool → ℕ → Plan → Data
shown_data branch model named revision plan =
    object (member (codes "branch") (string branch)
    (member_if (codes "model") (option_map string (name_told named model))
    (member (codes "plan") (json_of_plan model plan)
    (member (codes "revision") (natural_data revision) no_members))))

-- a merge: the ids of the directives that it added
abbrev pub merged_data : List ℕ → List ℕ → ℕ → Data
merged_data branch added revision =
    object_of ((codes "added", naturals_data added)
    ∷ (codes "branch", string branch)
    ∷ (codes "revision", natural_data revision)
    ∷ [])

-- ---- refusals

-- a branch that is no longer as it was fetched
abbrev pub stale_data : ℕ → ℕ → Data
stale_data seen now =
    object_of ((codes "name", string (codes "Stale")) ∷ (codes "now", natural_data now) ∷ (codes "seen", natural_data seen) ∷ [])

-- ---- replies

-- what a workspace answers
abbrev pub reply_member : List ℕ → Parts → Bool → Reply → Member
reply_member branch model named (reply.Opened revision) = as_ok (revision_data branch revision)
reply_member branch model named reply.Dropped = as_ok (branch_data branch)
reply_member branch model named (reply.Added id revision) = as_ok (added_data branch id revision)
reply_member branch model named (reply.Edited revision) = as_ok (revision_data branch revision)
reply_member branch model named (reply.Loaded first count revision) = as_ok (loaded_data branch count first revision)
reply_member branch model named (reply.Fetched revision plan kept) = as_ok (shown_data branch model named revision plan)
reply_member branch model named reply.Attached = as_ok (branch_data branch)
reply_member branch model named (reply.Placed revision) = as_ok (revision_data branch revision)
reply_member branch model named reply.NoBranch = as_refused (named_data (codes "NoBranch"))
reply_member branch model named reply.BranchExists = as_refused (named_data (codes "BranchExists"))
reply_member branch model named reply.TooManyBranches = as_refused (named_data (codes "TooManyBranches"))
reply_member branch model named reply.NoMapping = as_refused (named_data (codes "NoMapping"))
reply_member branch model named (reply.Unmapped id) = as_refused (unmapped_data id)
reply_member branch model named (reply.Misfit id number) = as_refused (misfit_data id number)
reply_member branch model named (reply.Edit error) = as_refused (edit_data error)
reply_member branch model named (reply.Stale seen now) = as_refused (stale_data seen now)

-- what the program answers to a command
abbrev pub answer_member : List ℕ → Parts → Bool → Answer → Member
answer_member branch model named (answer.Reply reply) = reply_member branch model named reply
answer_member branch model named (answer.Report report) = as_ok (report_data branch model named report)
answer_member branch model named (answer.Schedule report) = as_ok (schedule_data branch model report)
answer_member branch model named (answer.Merge revision added) = as_ok (merged_data branch added revision)
answer_member branch model named answer.OtherModel = as_refused (named_data (codes "OtherModel"))
answer_member branch model named (answer.MergeRefused error) = as_refused (merge_refusal_data error)
answer_member branch model named (answer.Expanded report) = as_ok (sequence_data branch model report)

-- the value of the line that tells a client's command, counted from 0
abbrev pub reply_data : List ℕ → ℕ → List ℕ → Parts → Bool → Answer → Data
reply_data client command branch model named answer =
    object (member (codes "client") (string client)
    (member (codes "command") (natural_data command)
    (member (answer_member branch model named answer).0 (answer_member branch model named answer).1 no_members)))

-- an answer that is no report of a simulation
abbrev pub IsNoReport : Answer → Type 0
IsNoReport (answer.Report report) = ⊥
IsNoReport _ = Unit {0}

-- an answer is told with a model: a report is of it
abbrev pub IsAnswerOfModel : Parts → Answer → Type 0
IsAnswerOfModel model (answer.Report report) = IsReportOf model report
IsAnswerOfModel model _ = Unit {0}
