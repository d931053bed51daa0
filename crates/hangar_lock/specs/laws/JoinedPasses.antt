-- From the passes of all clients to a journal that fits.
use Rattle.std.specs.Prelude.{◌≡◌, ℕ, ◌+◌, List, [], ◌∷◌, ◌++◌, length, map, Some, slice_get}
use Rattle.std.specs.List.{filter}
use Rattle.commands.specs.declared.commands.Command.{Command}
use Rattle.hangar_core.specs.declared.workspaces.Workspace.{Workspace}
use Rattle.hangar_core.specs.Fits.{commands_of, Fits, is_of_client, Meanings}
use Rattle.hangar_core.specs.Journals.{Entries, IsReplay}
use Rattle.hangar_lock.specs.Passes.{IsWhole, joined_with, PassView}
use Rattle.hangar_lock.specs.Places.{HaveAllOf, Places, StandIn}
use Rattle.hangar_lock.specs.ClientEntries.{HasWorked, own_entry}

-- a client's commands were done with a pass, and nothing else
pub record HasWorkedAlone (meanings : Meanings) (client : ℕ) (commands : List Command) (pass : PassView) : Type 0 where
  pub start : PassView
  pub fresh : start.mine ≡ []
  pub worked : HasWorked meanings client commands start pass

-- one pass for each client
pub record AreWorked (meanings : Meanings) (clients : List (List Command)) (passes : List PassView) : Type 0 where
  pub count : length passes ≡ length clients
  pub each : (client : ℕ) (pass : PassView) → slice_get passes client ≡ Some pass →
      HasWorkedAlone meanings client (commands_of client clients) pass

-- what was done with all of them
abbrev pub all_mine : List PassView → Places
all_mine [] = []
all_mine (pass ∷ passes) = pass.mine ++ all_mine passes

-- where a journal is a replay whose places are exactly those of the passes, one for each client's work, it fits
abbrev pub JoinedPassesFit : Type 0
JoinedPassesFit = (meanings : Meanings) (opened : Workspace) (clients : List (List Command))
    (passes : List PassView) (journal : Entries) →
    AreWorked meanings clients passes → IsReplay opened journal →
    StandIn (all_mine passes) journal → HaveAllOf (all_mine passes) journal → Fits meanings opened clients journal

-- and the entries of a client's pass are those of the journal that are the client's
abbrev pub PassesHaveTheirEntries : Type 0
PassesHaveTheirEntries = (meanings : Meanings) (clients : List (List Command)) (passes : List PassView) (journal : Entries) →
    AreWorked meanings clients passes → StandIn (all_mine passes) journal → HaveAllOf (all_mine passes) journal →
    (client : ℕ) (pass : PassView) → slice_get passes client ≡ Some pass →
    map own_entry pass.mine ≡ filter (is_of_client client) journal

-- ---- passes split from the first one, and joined into it again

-- a pass that takes in others, one after another
abbrev pub joined_with_all : PassView → List PassView → PassView
joined_with_all pass [] = pass
joined_with_all pass (other ∷ others) = joined_with_all (joined_with pass other) others

-- passes that stand for one number each, in order behind a number
abbrev pub AreNumbered : ℕ → List PassView → Type 0
AreNumbered number [] = Unit {0}
AreNumbered number (pass ∷ passes) = (pass.stands ≡ (number + 1) ∷ []) × (pass.split ≡ 0) × AreNumbered (number + 1) passes

-- a first pass, and all that were split from it
pub record AreOfOneLock (first : PassView) (passes : List PassView) : Type 0 where
  pub root : first.stands ≡ 0 ∷ []
  pub split : first.split ≡ length passes
  pub numbered : AreNumbered 0 passes

-- it is whole when all are joined into it, and what was done with them is what was done with it
abbrev pub JoinedPassesAreWhole : Type 0
JoinedPassesAreWhole = (first : PassView) (passes : List PassView) →
    AreOfOneLock first passes → IsWhole (joined_with_all first passes)

abbrev pub JoinedPassesHaveAll : Type 0
JoinedPassesHaveAll = (first : PassView) (passes : List PassView) →
    (joined_with_all first passes).mine ≡ first.mine ++ all_mine passes
