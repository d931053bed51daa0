-- The journal, as the value that is printed: whose part of which command each entry is, in the order of the entries.
use Rattle.std.specs.Prelude.{map}
use Rattle.serde_json.specs.Data.{Data, array, item, no_items}
use Rattle.serde_json.specs.View.{items_of}
use Rattle.hangar_core.specs.Journals.{Entries}
use Rattle.hangar_core.specs.declared.entries.Entry.{Entry}
use Rattle.hangar_core.specs.declared.replies.Reply.{Reply}
use Rattle.json_line.specs.Numbers.{natural_data}

-- the client, the command and the part of an entry, each counted from 0
abbrev pub entry_data : Entry × Reply → Data
entry_data x =
    array (item (natural_data x.0.client) (item (natural_data x.0.command) (item (natural_data x.0.part) no_items)))

abbrev pub journal_data : Entries → Data
journal_data entries = array (items_of (map entry_data entries))
