-- JSON that answers are made of, as the data that it says.
use Rattle.std.specs.Prelude.{◌≡◌, ℕ, ◌≤◌, ◌∷◌, [], ◌++◌, List, Some, String, string_bytes}
use Rattle.std.specs.declared.alloc.Global.{Global}
use Rattle.serde_json.specs.Data.{Data, depth, Members, no_members, put, object}
use Rattle.serde_json.specs.View.{view}
use Rattle.serde_json.specs.Written.{compact_text, IsInOrder}
use Rattle.serde_json.specs.Read.{max_depth, read}
use Rattle.serde_json.specs.declared.value.Value.{Value}

-- the members of an object into which these are put one after another: those of one name follow one another, so the
-- last stays
abbrev pub with_fields : Members → List (List ℕ × Data) → Members
with_fields members [] = members
with_fields members (field ∷ later) = with_fields (put field.0 field.1 members) later

-- the object of these fields
abbrev pub object_of : List (List ℕ × Data) → Data
object_of fields = object (with_fields no_members fields)

-- a field as the bytes of its name and the data that it holds
abbrev pub field_data : String Global × Value → List ℕ × Data
field_data field = (string_bytes field.0, view field.1)

-- a line of output: the compact text of the data, and a line feed
abbrev pub line_of : Data → List ℕ
line_of data_ = compact_text data_ ++ 10 ∷ []

-- the line of any data, also with a float, for which JSON has more than one text: one value in JSON that reads back as
-- the data, with its keys in order, and behind it a line feed
pub record IsLineOf (line : List ℕ) (data_ : Data) : Type 0 where
  pub body : List ℕ
  pub ends : line ≡ body ++ 10 ∷ []
  pub in_order : IsInOrder body data_
  pub reads_back : depth data_ ≤ max_depth → read body ≡ Some data_
