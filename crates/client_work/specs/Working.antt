-- What the commands of a client do with its pass, and what is told of them.
use Rattle.std.specs.Prelude.{◌≡◌, ℕ, ◌+◌, ◌≤◌, ◌<◌, IsTrue, List, [], ◌∷◌, ◌++◌, length, map}
use Rattle.std.specs.List.{AllByRecursion, list_all}
use Rattle.aerie_base.specs.Ranges.{step_limit}
use Rattle.aerie_base.specs.declared.models.model.Parts.{Parts}
use Rattle.aerie_base.specs.declared.plans.Plan.{Plan}
use Rattle.constraints.specs.OfModel.{is_constraint}
use Rattle.goals.specs.OfModel.{is_goal}
use Rattle.seq_expand.specs.OfModel.{have_shifts}
use Rattle.run_data.specs.Waves.{RoseAlike}
use Rattle.hangar_core.specs.declared.actions.Action.{Action}
use Rattle.commands.specs.declared.commands.Command.{Command}
use Rattle.commands.specs.declared.commands.Command.TheVariants.{Simulate}
use Rattle.hangar_core.specs.declared.entries.Entry.{Entry}
use Rattle.hangar_core.specs.declared.replies.Reply.{Reply}
use Rattle.hangar_core.specs.Fits.{IsCommand}
use Rattle.hangar_core.specs.ValidWorkspaces.{IsPlanIn, IsReplyOf}
use Rattle.hangar_core.specs.Journals.{Entries}
use Rattle.hangar_lock.specs.Passes.{LockView, PassView}
use Rattle.hangar_lock.specs.Places.{Places}
use Rattle.hangar_lock.specs.ClientEntries.{RisesTo, reply_of, own_entry}
use Rattle.hangar_core.specs.declared.replies.Reply.TheVariants.{Fetched}
use Rattle.report_text.specs.declared.answers.Answer.{Answer}
use Rattle.report_text.specs.declared.answers.Answer.TheVariants as answer
use Rattle.report_text.specs.Replies.{IsAnswerOfModel}
use Rattle.client_work.specs.declared.missions.Mission.{Mission}
use Rattle.client_work.specs.declared.missions.RuledModel.{RuledModel}
use Rattle.client_work.specs.declared.workplace.Assignment.{Assignment}
use Rattle.client_work.specs.declared.workplace.ClientCommand.{ClientCommand}
use Rattle.client_work.specs.declared.workplace.NumberedClient.{NumberedClient}
use Rattle.client_work.specs.declared.workplace.Worker.{Worker}
use Rattle.client_work.specs.Lines.{ClientOf, model_told, told_line}
use Rattle.client_work.specs.Meanings.{meanings_of}
use Rattle.client_work.specs.Told.{count_told, command_told}
use Rattle.client_work.specs.Counts.{IsRise, PaysAsReplied}

-- ---- what clients are given

-- the rules are of the model
pub record IsRuled (ruled : RuledModel) : Type 0 where
  pub constraints : IsTrue (list_all (is_constraint ruled.model) ruled.constraints)
  pub goals : IsTrue (list_all (is_goal ruled.model) ruled.goals)
  pub shifts : IsTrue (list_all have_shifts ruled.sequence.rules)

abbrev pub ruled_models : List RuledModel → List Parts
ruled_models models = map (λ ruled. ruled.model) models

-- a pass of a lock that was opened with the models of the mission
pub record IsAtWork (mission : Mission) (lock : LockView) (pass : PassView) : Type 0 where
  pub own : pass.lock ≡ lock
  pub some_model : 1 ≤ length mission.models
  pub models : lock.opened.workspace.models ≡ ruled_models mission.models
  pub ruled : AllByRecursion IsRuled mission.models
  pub bound : mission.bound ≤ step_limit

-- a pass of the lock at whose workplace a command is carried out
abbrev pub IsAssignedTo : {R G : Type 0} → Assignment R G → PassView → Type 0
IsAssignedTo assignment pass = IsAtWork assignment.workplace.now.mission.now assignment.workplace.now.lock.now pass

-- benches under the bound of the mission
abbrev pub AreBenchesAt : {R G : Type 0} → Assignment R G → ℕ → Type 0
AreBenchesAt assignment benches = benches ≡ assignment.workplace.now.mission.now.bound

-- what the lock answers: a plan that it tells of is of the mission
abbrev pub IsReplyAt : LockView → Reply → Type 0
IsReplyAt lock = IsReplyOf lock.opened.workspace.models lock.opened.workspace.duration

abbrev pub IsPlanAt : LockView → Plan → Type 0
IsPlanAt lock = IsPlanIn lock.opened.workspace.models lock.opened.workspace.duration

-- ---- what a pass gains

-- the entry of an action as a part of a command
abbrev pub entry_of : ClientCommand → ℕ → Action → Entry
entry_of whose part action = record { client = whose.client; command = whose.command; part = part; action = action }

abbrev pub own_entries : Places → Entries
own_entries places = map own_entry places

abbrev pub replies_of : Places → List Reply
replies_of places = map reply_of (own_entries places)

-- a pass has gained just these places, behind all that it had seen
pub record HasGained (before after : PassView) (gained : Places) : Type 0 where
  pub mine : after.mine ≡ before.mine ++ gained
  pub rises : RisesTo (length before.seen) (length after.seen) gained
  pub lock : after.lock ≡ before.lock
  pub stands : after.stands ≡ before.stands
  pub split : after.split ≡ before.split

-- just this entry, with this reply
pub record HasOneMore (before after : PassView) (entry : Entry) (reply : Reply) : Type 0 where
  pub place : ℕ
  pub gains : HasGained before after ((place, (entry, reply)) ∷ [])
  pub known : IsReplyAt before.lock reply

-- ---- what is told

-- the count of a simulate command is how far the steps rose in it
abbrev pub IsCount : Command → ℕ → ℕ → ℕ → Type 0
IsCount (Simulate branch) statements before after = RoseAlike 0 before statements after
IsCount other statements before after = Unit {0}

-- the plan of a branch that is shown is of the mission
abbrev pub IsShownPlan : Mission → Answer → Type 0
IsShownPlan mission (answer.Reply (Fetched revision plan kept)) = plan.model < length mission.models
IsShownPlan mission other = Unit {0}

-- what can be printed
pub record CanBeTold (mission : Mission) (answer : Answer) : Type 0 where
  pub some_model : 0 < length mission.models
  pub shown : IsShownPlan mission answer
  pub of_model : IsAnswerOfModel (model_told mission answer) answer

-- ---- who works

-- how far a worker is: its pass, and how many statements were simulated
pub record WorkState : Type 0 where
  pub pass : PassView
  pub steps : ℕ

abbrev pub work_state_at : PassView → ℕ → WorkState
work_state_at pass steps = record { pass = pass; steps = steps }

abbrev pub work_state : {L K : Type 0} → Worker L K → WorkState
work_state worker = work_state_at worker.pass.now worker.steps.now

-- a worker later: it has the pass, the benches and the counters that it had, and no count of statements falls
pub record IsLater {L K : Type 0} (before after : Worker L K) : Type 0 where
  pub pass : after.pass.ghost_name ≡ before.pass.ghost_name
  pub benches : after.benches.ghost_name ≡ before.benches.ghost_name
  pub bound : after.benches.now ≡ before.benches.now
  pub steps : after.steps.ghost_name ≡ before.steps.ghost_name
  pub looks : after.looks.ghost_name ≡ before.looks.ghost_name
  pub rise : before.steps.now ≤ after.steps.now

-- ---- commands

-- a command of a client, behind the replies to its first actions
pub record Begun : Type 0 where
  pub mission : Mission
  pub whose : ClientCommand
  pub command : Command
  pub replies : List Reply

abbrev pub begun_with : Mission → ClientCommand → Command → List Reply → Begun
begun_with mission whose command replies = record { mission = mission; whose = whose; command = command; replies = replies }

abbrev pub begun : {R G : Type 0} → Assignment R G → Command → List Reply → Begun
begun assignment command replies = begun_with assignment.workplace.now.mission.now assignment.whose command replies

-- what is left of a command was done: its other parts are entered, each once and in order, and what is told of the command is by
-- the replies to all
pub record IsCarriedOn (of : Begun) (before after : WorkState) (telling : Answer) : Type 0 where
  pub gained : Places
  pub gains : HasGained before.pass after.pass gained
  pub parts : IsCommand (meanings_of of.mission.models of.mission.bound) of.whose.client of.whose.command of.command of.replies (own_entries gained)
  pub statements : ℕ
  pub counted : IsCount of.command statements before.steps after.steps
  pub paid : PaysAsReplied of.mission of.command (of.replies ++ replies_of gained) statements
  pub known : AllByRecursion (IsReplyAt before.pass.lock) (replies_of gained)
  pub told : telling ≡ command_told of.mission (count_told of.mission statements) of.command (of.replies ++ replies_of gained)

-- ---- clients

-- a client's commands, counted from a number, were done one after another with these entries, this text is told of them, and the
-- simulations that are told took so many steps together
module _ (mission : Mission) (client : ClientOf) where
  abbrev pub IsWorkTold : ℕ → List Command → Entries → List ℕ → ℕ → Type 0
  IsWorkTold number [] entries text total = (entries ≡ []) × (text ≡ []) × (total ≡ 0)
  IsWorkTold number (command ∷ commands) entries text total =
      (own later : Entries) × (statements : ℕ) × (rest : List ℕ) × (entries ≡ own ++ later)
      × IsCommand (meanings_of mission.models mission.bound) client.number number command [] own
      × PaysAsReplied mission command (map reply_of own) statements
      × (text ≡ told_line mission client.name number command (command_told mission (count_told mission statements) command (map reply_of own)) ++ rest)
      × (rise others : ℕ) × IsRise command statements rise × (total ≡ rise + others)
      × IsWorkTold (number + 1) commands later rest others

-- a command of a client with its number, of which a line is told
pub record ToldCommand : Type 0 where
  pub mission : Mission
  pub client : ClientOf
  pub number : ℕ
  pub command : Command

abbrev pub told_command_by : Mission → ClientOf → ℕ → Command → ToldCommand
told_command_by mission client number command = record { mission = mission; client = client; number = number; command = command }

abbrev pub told_command : {R G : Type 0} → Assignment R G → List ℕ → Command → ToldCommand
told_command assignment name command =
    told_command_by assignment.workplace.now.mission.now (record { name = name; number = assignment.whose.client }) assignment.whose.command command

-- a client's command was done with a pass, and this line is told of it
pub record IsCommandDone (of : ToldCommand) (before after : WorkState) (line : List ℕ) : Type 0 where
  pub gained : Places
  pub gains : HasGained before.pass after.pass gained
  pub parts : IsCommand (meanings_of of.mission.models of.mission.bound) of.client.number of.number of.command [] (own_entries gained)
  pub statements : ℕ
  pub counted : IsCount of.command statements before.steps after.steps
  pub paid : PaysAsReplied of.mission of.command (replies_of gained) statements
  pub told : line ≡ told_line of.mission of.client.name of.number of.command (command_told of.mission (count_told of.mission statements) of.command (replies_of gained))

-- the commands of a client
pub record ClientWork : Type 0 where
  pub mission : Mission
  pub client : ClientOf
  pub commands : List Command

abbrev pub work_of : Mission → ClientOf → List Command → ClientWork
work_of mission client commands = record { mission = mission; client = client; commands = commands }

abbrev pub client_of : NumberedClient → ClientOf
client_of client = record { name = client.name.now; number = client.number }

-- a client's commands were done with a pass, and this text is told of them
pub record IsWorkDone (work : ClientWork) (before after : PassView) (text : List ℕ) : Type 0 where
  pub gained : Places
  pub gains : HasGained before after gained
  pub total : ℕ
  pub told : IsWorkTold work.mission work.client 0 work.commands (own_entries gained) text total
