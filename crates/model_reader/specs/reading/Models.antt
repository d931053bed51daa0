-- Reading a model.
use Rattle.std.specs.Prelude.{List}
use Rattle.readers.specs.Marks.{Mark}
use Rattle.aerie_text.specs.declared.sorts.Sort.TheVariants as sort
use Rattle.readers.specs.Parsed.{Parsed, parsed, ◌>>=◌, take_at}
use Rattle.model_reader.specs.declared.raw.models.RawModel.{RawModel}
use Rattle.model_reader.specs.reading.Items.{items_at}
use Rattle.model_reader.specs.reading.Names.{raw_name_at}

-- model = "model" NAME "{" { item } "}"
unfoldable pub model_at : List Mark → Parsed RawModel
model_at marks = do
  word ← take_at sort.Model marks
  name ← raw_name_at word.1
  brace ← take_at sort.OpenBrace name.1
  items ← items_at brace.1
  close ← take_at sort.CloseBrace items.1
  parsed (record { name = name.0; items = items.0 }) close.1
