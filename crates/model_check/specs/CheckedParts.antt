-- The parts of a model as its declarations make them, one after another.
use Rattle.std.specs.Prelude.{List, [], ◌∷◌, ◌++◌}
use Rattle.aerie_base.specs.declared.models.CellStart.{CellStart}
use Rattle.aerie_base.specs.declared.models.Resource.{Resource}
use Rattle.model_reader.specs.declared.raw.items.RawItem.{RawItem}
use Rattle.model_reader.specs.declared.raw.models.RawModel.{RawModel}
use Rattle.model_reader.specs.declared.raw.names.RawName.{RawName}
use Rattle.model_check.specs.declared.parts.CheckedParts.{CheckedParts}
use Rattle.model_check.specs.declared.symbols.Symbols.{Symbols}
use Rattle.model_check.specs.ModelMeaning.{enum_of, cell_of_item, resource_of, activity_of, daemon_of, parts_of_items}
use Rattle.model_check.specs.ModelSymbols.{symbols_of}

abbrev pub no_parts : CheckedParts
no_parts = record { enums = []; cells = []; resources = []; activities = []; daemons = [] }

abbrev pub with_checked_cell : CheckedParts → RawName → CellStart → CheckedParts
with_checked_cell parts name start =
    record {
      enums = parts.enums;
      cells = parts.cells ++ (name.name, start) ∷ [];
      resources = parts.resources;
      activities = parts.activities;
      daemons = parts.daemons;
    }

abbrev pub with_checked_resource : CheckedParts → RawName → Resource → CheckedParts
with_checked_resource parts name resource =
    record {
      enums = parts.enums;
      cells = parts.cells;
      resources = parts.resources ++ (name.name, resource) ∷ [];
      activities = parts.activities;
      daemons = parts.daemons;
    }

-- the parts with those that one more declaration makes
abbrev pub with_checked_item : Symbols → CheckedParts → RawItem → CheckedParts
with_checked_item symbols parts item =
    record {
      enums = parts.enums ++ enum_of item;
      cells = parts.cells ++ cell_of_item symbols item;
      resources = parts.resources ++ resource_of symbols item;
      activities = parts.activities ++ activity_of symbols item;
      daemons = parts.daemons ++ daemon_of symbols item;
    }

abbrev pub with_checked_items : Symbols → CheckedParts → List RawItem → CheckedParts
with_checked_items symbols parts [] = parts
with_checked_items symbols parts (item ∷ rest) = with_checked_items symbols (with_checked_item symbols parts item) rest

abbrev pub checked_parts_by : Symbols → List RawItem → CheckedParts
checked_parts_by symbols items =
    record {
      enums = parts_of_items enum_of items;
      cells = parts_of_items (cell_of_item symbols) items;
      resources = parts_of_items (resource_of symbols) items;
      activities = parts_of_items (activity_of symbols) items;
      daemons = parts_of_items (daemon_of symbols) items;
    }

-- the parts of the model that is meant, but for its name
abbrev pub checked_parts : RawModel → CheckedParts
checked_parts raw = checked_parts_by (symbols_of raw.items) raw.items
