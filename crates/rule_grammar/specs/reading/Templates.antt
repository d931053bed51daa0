-- Reading activities with arguments, and numbers with their places.
use Rattle.std.specs.Prelude.{ℤ, List, None}
use Rattle.aerie_base.specs.declared.places.Place.{Place}
use Rattle.aerie_text.specs.declared.sorts.Sort.{Sort}
use Rattle.aerie_text.specs.declared.sorts.Sort.TheVariants as sort
use Rattle.readers.specs.Lists.{parenthesized_at}
use Rattle.readers.specs.Marks.{Mark}
use Rattle.readers.specs.Parsed.{Parsed, parsed, ◌>>=◌, take_at, number_at}
use Rattle.model_reader.specs.declared.raw.literals.RawLiteral.{RawLiteral}
use Rattle.model_reader.specs.declared.raw.names.RawName.{RawName}
use Rattle.model_reader.specs.reading.Literals.{sign_at, with_minus, literal_at}
use Rattle.model_reader.specs.reading.Names.{raw_name_at}
use Rattle.rule_grammar.specs.declared.raw.goals.RawNumber.{RawNumber}
use Rattle.rule_grammar.specs.declared.raw.goals.RawTemplate.{RawTemplate}

-- a number with its place
abbrev pub raw_number : Place × ℤ → RawNumber
raw_number number = record { at = number.0; number = number.1 }

-- NUMBER, or DURATION
unfoldable pub raw_number_at : Sort → List Mark → Parsed RawNumber
raw_number_at sort marks = do
  number ← number_at sort marks
  parsed (raw_number number.0) number.1

-- sdur = [ "-" ] DURATION, with its place
unfoldable pub placed_duration_at : List Mark → Parsed RawNumber
placed_duration_at marks = do
  sign ← sign_at marks
  time ← number_at sort.Time sign.1
  parsed (raw_number (with_minus sign.0 time.0)) time.1

-- NAME "=" literal
unfoldable pub argument_at : List Mark → Parsed (RawName × RawLiteral)
argument_at marks = do
  name ← raw_name_at marks
  sign ← take_at sort.Assign name.1
  value ← literal_at sign.1
  parsed (name.0, value.0) value.1

-- given = NAME "(" [ NAME "=" literal { "," NAME "=" literal } ] ")"
unfoldable pub template_at : List Mark → Parsed RawTemplate
template_at marks = do
  kind ← raw_name_at marks
  arguments ← parenthesized_at sort.Name None argument_at kind.1
  parsed (record { kind = kind.0; arguments = arguments.0 }) arguments.1
