-- The work of a client.
use Rattle.std.specs.Prelude.{ℕ, List}
use Rattle.commands.specs.declared.commands.Command.{Command}
use Rattle.hangar_lock.specs.Passes.{PassView}
use Rattle.hangar_lock.specs.ClientEntries.{HasWorked}
use Rattle.client_work.specs.declared.missions.Mission.{Mission}
use Rattle.client_work.specs.Lines.{ClientOf}
use Rattle.client_work.specs.Meanings.{meanings_of}
use Rattle.client_work.specs.Working.{IsWorkDone, work_of}

-- commands of which a text is told were done with the pass, one after another
abbrev pub ToldWorksAreDone : Type 0
ToldWorksAreDone = (mission : Mission) (client : ClientOf) (commands : List Command) (before after : PassView) (text : List ℕ) →
    IsWorkDone (work_of mission client commands) before after text →
    HasWorked (meanings_of mission.models mission.bound) client.number commands before after
