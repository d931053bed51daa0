-- The lines that are printed of commands.
use Rattle.std.specs.Prelude.{ℕ, suc, ◌+◌, List, [], ◌∷◌, ◌++◌, length, map, nat_eq, nat_lt, slice_get}
use Rattle.std.specs.List.{filter}
use Rattle.aerie_base.specs.declared.models.model.Parts.{Parts}
use Rattle.json_line.specs.Json.{line_of}
use Rattle.commands.specs.Branches.{branch_of}
use Rattle.commands.specs.declared.commands.Command.{Command}
use Rattle.hangar_core.specs.declared.replies.Reply.{Reply}
use Rattle.hangar_core.specs.declared.replies.Reply.TheVariants.{Fetched}
use Rattle.report_text.specs.declared.answers.Answer.{Answer}
use Rattle.report_text.specs.declared.answers.Answer.TheVariants as answer
use Rattle.report_text.specs.Replies.{reply_data}
use Rattle.client_work.specs.declared.missions.Mission.{Mission}
use Rattle.hangar_core.specs.Journals.{Entries}
use Rattle.hangar_lock.specs.ClientEntries.{reply_of}
use Rattle.client_work.specs.Meanings.{ruled_by, ruled_or_nothing}
use Rattle.client_work.specs.Told.{command_told, count_told}
use Rattle.client_work.specs.Counts.{PaysAsReplied}

-- a client: its name and its number
pub record ClientOf : Type 0 where
  pub name : List ℕ
  pub number : ℕ

abbrev pub first_model : Mission → Parts
first_model mission = (ruled_or_nothing (slice_get mission.models 0)).model

-- the model of the plan that is shown, or the first one: lines of other replies do not name one
abbrev pub model_shown : Mission → Reply → Parts
model_shown mission (Fetched revision plan kept) = (ruled_by mission.models plan).model
model_shown mission other = first_model mission

-- the model of what is told, likewise
abbrev pub model_told : Mission → Answer → Parts
model_told mission (answer.Reply reply) = model_shown mission reply
model_told mission (answer.Report report) = report.run.model
model_told mission (answer.Schedule report) = report.model
model_told mission (answer.Expanded report) = report.run.model
model_told mission other = first_model mission

-- the line of a client's command with a number, of which this is told; it names the model where the session has several
abbrev pub told_line : Mission → List ℕ → ℕ → Command → Answer → List ℕ
told_line mission client number command answer =
    line_of (reply_data client number (branch_of command) (model_told mission answer) (nat_lt 1 (length mission.models)) answer)

-- ---- all commands of a client

-- what was replied to the parts of the command with a number, by the client's entries
abbrev pub replies_to : ℕ → Entries → List Reply
replies_to number entries = map reply_of (filter (λ x. nat_eq x.0.command number) entries)

-- what is told of a client's commands, counted from a number, by the client's entries, with how many statements each of them ran
abbrev pub told_text : Mission → ClientOf → (ℕ → ℕ) → Entries → ℕ → List Command → List ℕ
told_text mission client counts entries number [] = []
told_text mission client counts entries number (command ∷ commands) =
    told_line mission client.name number command (command_told mission (count_told mission (counts 0)) command (replies_to number entries))
    ++ told_text mission client (λ later. counts (suc later)) entries (number + 1) commands

-- each of these counts is one that its command may tell
abbrev pub ArePaidFor : Mission → (ℕ → ℕ) → Entries → ℕ → List Command → Type 0
ArePaidFor mission counts entries number [] = Unit {0}
ArePaidFor mission counts entries number (command ∷ commands) =
    PaysAsReplied mission command (replies_to number entries) (counts 0) × ArePaidFor mission (λ later. counts (suc later)) entries (number + 1) commands
