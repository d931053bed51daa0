-- Why a session was refused, as the value that is printed.
use Rattle.std.specs.Prelude.{ℕ, [], ◌∷◌, codes, Option, option_map}
use Rattle.serde_json.specs.Data.{Data, member, no_members, object, string}
use Rattle.aerie_base.specs.declared.places.Place.{Place}
use Rattle.json_line.specs.Json.{object_of}
use Rattle.json_line.specs.Parts.{member_if}
use Rattle.refusal_text.specs.EditRefusals.{dataset_refusal_data, edit_data}
use Rattle.json_line.specs.Numbers.{natural_data}
use Rattle.refusal_text.specs.declared.refusals.Refusal.{Refusal}

-- the column and the line of a place that may be absent
abbrev pub column_in : Option Place → Option ℕ
column_in place = option_map (λ place. place.column) place

abbrev pub row_in : Option Place → Option ℕ
row_in place = option_map (λ place. place.line) place

-- the name, and of the rest what is there, a place by its line and column; the keys in the order of their bytes
abbrev pub refusal_data : Refusal → Data
refusal_data refusal =
    object (member_if (codes "at") (option_map natural_data refusal.at)
    (member_if (codes "column") (option_map natural_data (column_in refusal.place))
    (member_if (codes "edit") (option_map edit_data refusal.edit)
    (member_if (codes "fault") (option_map dataset_refusal_data refusal.fault)
    (member_if (codes "line") (option_map natural_data (row_in refusal.place))
    (member (codes "name") (string refusal.name)
    (member_if (codes "number") (option_map natural_data refusal.number)
    (member_if (codes "what") (option_map string refusal.what)
    (member_if (codes "word") (option_map string refusal.word) no_members)))))))))

-- the value of the line that tells it
abbrev pub refused_data : Data → Data
refused_data why = object_of ((codes "refused", why) ∷ [])
