-- Which names of declarations have to differ.
use Rattle.std.specs.Prelude.{List, [], ◌∷◌}
use Rattle.model_reader.specs.declared.raw.items.RawItem.{RawItem}
use Rattle.model_reader.specs.declared.raw.items.RawItem.TheVariants as item
use Rattle.model_reader.specs.declared.raw.names.RawName.{RawName}
use Rattle.model_check.specs.declared.repeats.NameGroup.{NameGroup}
use Rattle.model_check.specs.declared.repeats.NameGroup.TheVariants.{Declared, Shown}
use Rattle.model_check.specs.ModelDiagnostics.{shared_name, resource_name}

-- the name of a cell
abbrev pub cell_name : RawItem → List RawName
cell_name (item.Counter name start) = name ∷ []
cell_name (item.Register name kind start) = name ∷ []
cell_name (item.Accumulator name volume rate) = name ∷ []
cell_name _ = []

-- the name that a declaration gives to the group, where it gives one
abbrev pub group_name : NameGroup → RawItem → List RawName
group_name Declared = shared_name
group_name Shown = resource_name
