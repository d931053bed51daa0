-- Worked cases of the workspace and of journals.
use Rattle.std.specs.Prelude.{◌≡◌, ℕ, zero, suc, pos, List, [], ◌∷◌, map, codes, Some, None, refl}
use Rattle.aerie_base.specs.declared.plans.Plan.{Plan}
use Rattle.run_data.specs.KeptRuns.{KeptRun}
use Rattle.aerie_base.specs.declared.values.Kind.TheVariants as kind
use Rattle.aerie_base.specs.declared.arguments.RawValue.TheVariants as raw
use Rattle.aerie_base.specs.declared.models.model.Parts.{Parts}
use Rattle.plan_edit.specs.declared.errors.EditError.TheVariants.{NoDirective}
use Rattle.commands.specs.SessionModels.{empty_plan}
use Rattle.commands.specs.declared.edits.Edit.{Edit as PlanEdit}
use Rattle.commands.specs.declared.edits.Edit.TheVariants as edit
use Rattle.hangar_core.specs.declared.actions.Action.{Action}
use Rattle.hangar_core.specs.declared.actions.Action.TheVariants as action
use Rattle.hangar_core.specs.declared.actions.Action.TheVariants.{New, Fork, Drop, Fetch, Place, Migrate}
use Rattle.hangar_core.specs.declared.replies.Reply.{Reply}
use Rattle.hangar_core.specs.declared.replies.Reply.TheVariants.{Opened, Dropped, Added, Fetched, Placed, NoBranch, BranchExists, NoMapping, Stale, Edit, TooManyBranches}
use Rattle.hangar_core.specs.declared.branches.Branch.{Branch}
use Rattle.commands.specs.declared.commands.Command.{Command}
use Rattle.commands.specs.declared.commands.Command.TheVariants as command
use Rattle.hangar_core.specs.declared.workspaces.Workspace.{Workspace}
use Rattle.hangar_core.specs.Fits.{Meanings, triple_of}
use Rattle.hangar_core.specs.Serial.{serial}
use Rattle.hangar_core.specs.ValidWorkspaces.{first_workspace}
use Rattle.hangar_core.specs.Steps.{step}

abbrev model : Parts
model = record {
  name = codes "m";
  enums = [];
  cells = [];
  resources = [];
  activities = record {
    name = codes "Bump";
    parameters = record { name = codes "by"; kind = kind.Int; default = None } ∷ [];
    result = None;
    requires_ = [];
    slots = 1;
    body = [];
  } ∷ [];
  daemons = [];
}

abbrev first : Workspace
first = first_workspace (model ∷ []) [] (codes "main") (empty_plan 100)

-- the replies to some actions, one after another
abbrev replies : Workspace → List Action → List Reply
replies workspace [] = []
replies workspace (action ∷ rest) = (step workspace action).0 ∷ replies (step workspace action).1 rest

-- a directive more
abbrev bump : PlanEdit
bump = edit.Add (record { start = 5; anchor = None }) (codes "Bump") (record { name = codes "by"; value = raw.Int (pos 3) } ∷ [])

abbrev add : List ℕ → Action
add branch = action.Edit branch bump

-- ---- replies

-- the second of two that fetched the same revision comes too late
pub the_second_place_is_stale : replies first (Fetch (codes "main") ∷ Fetch (codes "main") ∷ Place (codes "main") 0 (empty_plan 100) ∷ Place (codes "main") 0 (empty_plan 100) ∷ [])
    ≡ Fetched 0 (empty_plan 100) None ∷ Fetched 0 (empty_plan 100) None ∷ Placed 1 ∷ Stale 0 1 ∷ []
unfolding step
the_second_place_is_stale = refl

-- an edit of one branch leaves the one that was forked from it before
pub edits_and_forks : replies first (Fork (codes "y") (codes "main") ∷ add (codes "main") ∷ add (codes "main") ∷ Fetch (codes "y") ∷ [])
    ≡ Opened 0 ∷ Added 1 1 ∷ Added 2 2 ∷ Fetched 0 (empty_plan 100) None ∷ []
unfolding step
edits_and_forks = refl

-- a dropped name begins again above its last revision
pub a_name_begins_again : replies first (add (codes "main") ∷ Drop (codes "main") ∷ New (codes "main") ∷ Fetch (codes "main") ∷ [])
    ≡ Added 1 1 ∷ Dropped ∷ Opened 2 ∷ Fetched 2 (empty_plan 100) None ∷ []
unfolding step
a_name_begins_again = refl

-- what is refused raises no revision
pub refusals : replies first (action.Edit (codes "main") (edit.Remove 9) ∷ Fetch (codes "lost") ∷ New (codes "main") ∷ Fork (codes "main") (codes "lost") ∷ Migrate (codes "main") (codes "m2") ∷ add (codes "main") ∷ [])
    ≡ Edit NoDirective ∷ NoBranch ∷ BranchExists ∷ NoBranch ∷ NoMapping ∷ Added 1 1 ∷ []
unfolding step
refusals = refl

-- where 64 branches stand, no other one begins
abbrev many : ℕ → List Branch
many zero = []
many (suc count) = record { name = count ∷ []; revision = 0; plan = empty_plan 100; kept = None } ∷ many count

pub the_sixty_fifth_is_refused : (step (record first { branches = many 64 }) (New (codes "y"))).0 ≡ TooManyBranches
unfolding step
the_sixty_fifth_is_refused = refl

pub the_sixty_fourth_begins : (step (record first { branches = many 63 }) (New (codes "y"))).0 ≡ Opened 0
unfolding step
the_sixty_fourth_begins = refl

-- ---- journals

-- a schedule changes nothing, a merge gives the source's plan; no simulation is asked for
abbrev plain : (Plan → KeptRun) → Meanings
plain simulated = record { simulated = simulated; scheduled = λ plan. plan; merged = λ base source target. Some source }

abbrev adds : Command
adds = command.Edit (codes "main") bump

-- two clients go in rounds: one adds and shows, the other forks and schedules
pub in_turn : (simulated : Plan → KeptRun) →
    map triple_of (serial (plain simulated) first
    ((adds ∷ command.Show (codes "main") ∷ []) ∷ (command.Fork (codes "y") (codes "main") ∷ command.Schedule (codes "y") ∷ []) ∷ []))
    ≡ (0, 0, 0) ∷ (1, 0, 0) ∷ (0, 1, 0) ∷ (1, 1, 0) ∷ (1, 1, 1) ∷ []
unfolding step serial
in_turn simulated = refl

-- a merge has four parts where the three branches are there, and one where the target is not
pub merges : (simulated : Plan → KeptRun) →
    map triple_of (serial (plain simulated) first
    ((command.Merge (codes "main") (codes "main") (codes "main") ∷ command.Merge (codes "lost") (codes "main") (codes "main") ∷ []) ∷ []))
    ≡ (0, 0, 0) ∷ (0, 0, 1) ∷ (0, 0, 2) ∷ (0, 0, 3) ∷ (0, 1, 0) ∷ []
unfolding step serial
merges simulated = refl
