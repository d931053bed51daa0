-- Reading names, and words and symbols that stand for a value.
use Rattle.std.specs.Prelude.{List}
use Rattle.readers.specs.Marks.{Mark}
use Rattle.aerie_text.specs.declared.sorts.Sort.{Sort}
use Rattle.readers.specs.Parsed.{Parsed, parsed, ◌>>=◌, take_at, name_at, one_of_at}
use Rattle.model_reader.specs.declared.raw.names.RawName.{RawName}

-- NAME
unfoldable pub raw_name_at : List Mark → Parsed RawName
raw_name_at marks = do
  name ← name_at marks
  parsed (record { at = name.0.0; name = name.0.1 }) name.1

-- one of these words or symbols, which stands for a value
unfoldable pub one_standing_for : {A : Type 0} → List (Sort × A) → List Mark → Parsed A
one_standing_for table marks = do
  found ← one_of_at table marks
  parsed found.0.1 found.1

-- a word or a symbol that stands for a value
unfoldable pub standing_for : {A : Type 0} → Sort → A → List Mark → Parsed A
standing_for sort value marks = do
  word ← take_at sort marks
  parsed value word.1
