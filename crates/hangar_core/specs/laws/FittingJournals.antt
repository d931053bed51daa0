-- Journals that fit.
use Rattle.std.specs.Prelude.{◌≡◌, List, ◌++◌, map}
use Rattle.commands.specs.declared.commands.Command.{Command}
use Rattle.hangar_core.specs.declared.workspaces.Workspace.{Workspace}
use Rattle.hangar_core.specs.Fits.{Fits, Meanings, triple_of}
use Rattle.hangar_core.specs.Journals.{Entries, IsReplay}
use Rattle.hangar_core.specs.Serial.{serial}

-- whose part of which command each entry is determines the whole journal
abbrev pub TriplesTellAll : Type 0
TriplesTellAll = (meanings : Meanings) (first : Workspace) (clients : List (List Command)) (entries others : Entries) →
    Fits meanings first clients entries → Fits meanings first clients others →
    map triple_of entries ≡ map triple_of others → entries ≡ others

-- the journal of clients in rounds fits
abbrev pub SerialFits : Type 0
SerialFits = (meanings : Meanings) (first : Workspace) (clients : List (List Command)) →
    Fits meanings first clients (serial meanings first clients)

-- a journal that is cut behind any of its entries is still a replay
abbrev pub FrontsAreReplayed : Type 0
FrontsAreReplayed = (first : Workspace) (front rest : Entries) → IsReplay first (front ++ rest) → IsReplay first front
