-- What the clients of a session work on, and what they do with it.
use Rattle.std.specs.Prelude.{◌≡◌, ℕ, ◌+◌, Bool, false, List, [], ◌∷◌, get_or, length, map, replicate}
use Rattle.commands.specs.declared.commands.Command.{Command}
use Rattle.hangar_core.specs.declared.workspaces.Workspace.{Workspace}
use Rattle.hangar_core.specs.Fits.{Meanings}
use Rattle.hangar_core.specs.ValidWorkspaces.{first_workspace}
use Rattle.session_reader.specs.declared.session.Client.{Client}
use Rattle.session_reader.specs.declared.session.ModelPart.{ModelPart}
use Rattle.session_reader.specs.declared.session.Session.{Session}
use Rattle.session_reader.specs.WellFormed.{models_in}
use Rattle.session_judge.specs.declared.judged.JudgedSession.{JudgedSession}
use Rattle.client_work.specs.declared.missions.Mission.{Mission}
use Rattle.client_work.specs.declared.missions.ReportForm.{ReportForm}
use Rattle.client_work.specs.declared.missions.RuledModel.{RuledModel}
use Rattle.client_work.specs.Meanings.{meanings_of}

-- a model with the rules that stand at its number
abbrev pub ruled_part : JudgedSession → ℕ → ModelPart → RuledModel
ruled_part judged number part = record {
  model = part.model;
  constraints = get_or judged.constraints number [];
  goals = get_or judged.goals number [];
  sequence = get_or judged.sequences number (record { rules = []; spacings = [] });
}

-- models with their rules, counted from a number
abbrev pub ruled_parts : JudgedSession → ℕ → List ModelPart → List RuledModel
ruled_parts judged number [] = []
ruled_parts judged number (part ∷ parts) = ruled_part judged number part ∷ ruled_parts judged (number + 1) parts

-- reports that do not tell how many statements were run, with details or without
abbrev pub without_stats : Bool → ReportForm
without_stats detail = record { stats = false; detail = detail }

-- what the clients work on: the models with their rules, the start, the bound of simulations and what reports tell besides
abbrev pub mission_of : JudgedSession → ℕ → ReportForm → Mission
mission_of judged bound form = record {
  models = ruled_parts judged 0 judged.session.models;
  start = judged.session.start;
  bound = bound;
  form = form;
}

-- the benches of all clients, each under the bound
abbrev pub AreBenchesOf : Mission → List Client → List ℕ → Type 0
AreBenchesOf mission clients benches = benches ≡ replicate (length clients) mission.bound

-- what their commands make of the plans that they fetch
abbrev pub session_meanings : JudgedSession → ℕ → Meanings
session_meanings judged bound = meanings_of (ruled_parts judged 0 judged.session.models) bound

-- the workspace with which a session begins
abbrev pub opening_of : Session → Workspace
opening_of session = first_workspace (models_in session) session.mappings session.branch session.plan

-- the commands of the clients, client by client
abbrev pub all_commands : List Client → List (List Command)
all_commands clients = map (λ client. client.commands) clients
