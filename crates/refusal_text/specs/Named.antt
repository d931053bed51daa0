-- What is told by a name, or by a name and a number. The keys of each object stand in the order of their bytes.
use Rattle.std.specs.Prelude.{ℕ, List, [], ◌∷◌, codes}
use Rattle.serde_json.specs.Data.{Data, string}
use Rattle.json_line.specs.Json.{object_of}
use Rattle.json_line.specs.Numbers.{natural_data}

-- what is told by its name alone
abbrev pub named_data : List ℕ → Data
named_data name = object_of ((codes "name", string name) ∷ [])

-- what is told by its name and a number
abbrev pub numbered_data : List ℕ → ℕ → Data
numbered_data name n = object_of ((codes "name", string name) ∷ (codes "number", natural_data n) ∷ [])
