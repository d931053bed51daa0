-- What goes by a name: of several of one name the first counts.
use Rattle.std.specs.Prelude.{ℕ, List, [], ◌∷◌, ◌++◌, Option, option_and_then, option_map, slice_get, take, if◌then◌else◌}
use Rattle.aerie_base.specs.models.Names.{is_name_among}
use Rattle.diagnostics.specs.NameLists.{with_name, name_number}
use Rattle.model_check.specs.declared.tables.NameTable.{NameTable}

abbrev pub no_entries : {A : Type 0} → NameTable A
no_entries = record { names = []; values = [] }

-- the table with one more, where there is none of its name
abbrev pub with_entry : {A : Type 0} → NameTable A → List ℕ → A → NameTable A
with_entry table name value =
    record {
      names = with_name table.names name;
      values = if is_name_among name table.names then table.values else table.values ++ value ∷ [];
    }

abbrev pub numbered_value : {A : Type 0} → List A → ℕ → Option (ℕ × A)
numbered_value values number = option_map (λ value. (number, value)) (slice_get values number)

-- the number and the value of a name
abbrev pub entry_in : {A : Type 0} → List ℕ → NameTable A → Option (ℕ × A)
entry_in name table = option_and_then (numbered_value table.values) (name_number name table.names)

-- the first entries, so many
abbrev pub first_entries : {A : Type 0} → ℕ → NameTable A → NameTable A
first_entries count table = record { names = take count table.names; values = take count table.values }
