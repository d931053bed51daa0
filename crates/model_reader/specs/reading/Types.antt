-- Reading types and reads.
use Rattle.std.specs.Prelude.{List, [], ◌∷◌}
use Rattle.readers.specs.Marks.{Mark}
use Rattle.aerie_text.specs.declared.sorts.Sort.TheVariants as sort
use Rattle.readers.specs.Parsed.{Parsed, parsed, ◌>>=◌, next_is, chosen, take_at}
use Rattle.model_reader.specs.declared.raw.reads.RawPart.{RawPart}
use Rattle.model_reader.specs.declared.raw.reads.RawPart.TheVariants as part
use Rattle.model_reader.specs.declared.raw.reads.RawRead.{RawRead}
use Rattle.model_reader.specs.declared.raw.types.RawType.{RawType}
use Rattle.model_reader.specs.declared.raw.types.RawType.TheVariants as kind
use Rattle.model_reader.specs.reading.Names.{raw_name_at, standing_for, one_standing_for}

-- NAME of an enumeration
unfoldable pub named_type_at : List Mark → Parsed RawType
named_type_at marks = do
  name ← raw_name_at marks
  parsed (kind.Named name.0) name.1

-- type = "int" | "duration" | "truth" | NAME. A duration is a whole number.
unfoldable pub type_at : List Mark → Parsed RawType
type_at marks =
    chosen (next_is sort.Int marks) (standing_for sort.Int kind.Int)
    (chosen (next_is sort.Duration marks) (standing_for sort.Duration kind.Int)
    (chosen (next_is sort.Truth marks) (standing_for sort.Truth kind.Truth) named_type_at)) marks

-- "volume" | "rate" | "conflicted"
unfoldable pub part_at : List Mark → Parsed RawPart
part_at marks =
    one_standing_for ((sort.Volume, part.Volume) ∷ (sort.Rate, part.Rate) ∷ (sort.Conflicted, part.Conflicted) ∷ []) marks

-- "." ( "volume" | "rate" | "conflicted" )
unfoldable pub dotted_part_at : List Mark → Parsed RawPart
dotted_part_at marks = do
  dot ← take_at sort.Dot marks
  part_at dot.1

-- [ "." ( "volume" | "rate" | "conflicted" ) ]
unfoldable pub read_part_at : List Mark → Parsed RawPart
read_part_at marks = chosen (next_is sort.Dot marks) dotted_part_at (parsed part.Whole) marks

-- read = NAME [ "." ( "volume" | "rate" | "conflicted" ) ]
unfoldable pub read_at : List Mark → Parsed RawRead
read_at marks = do
  name ← raw_name_at marks
  read_part ← read_part_at name.1
  parsed (record { name = name.0; part = read_part.0 }) read_part.1
