-- Reading whole numbers and literals.
use Rattle.std.specs.Prelude.{ℤ, neg_ℤ, Bool, true, false, List, [], ◌∷◌, Option, Some, None}
use Rattle.aerie_base.specs.declared.places.Place.{Place}
use Rattle.readers.specs.Marks.{Mark}
use Rattle.aerie_text.specs.declared.sorts.Sort.{Sort}
use Rattle.aerie_text.specs.declared.sorts.Sort.TheVariants as sort
use Rattle.readers.specs.Parsed.{Parsed, parsed, ◌>>=◌, next_is, next_fits, is_one_of, chosen, take_at, number_at}
use Rattle.model_reader.specs.declared.raw.literals.RawLiteral.{RawLiteral}
use Rattle.model_reader.specs.declared.raw.literals.RawLiteralKind.TheVariants as kind
use Rattle.model_reader.specs.reading.Names.{raw_name_at}

-- the place of a minus
unfoldable pub minus_at : List Mark → Parsed (Option Place)
minus_at marks = do
  minus ← take_at sort.Minus marks
  parsed (Some minus.0) minus.1

-- [ "-" ]: the place of the minus, where there is one
unfoldable pub sign_at : List Mark → Parsed (Option Place)
sign_at marks = chosen (next_is sort.Minus marks) minus_at (parsed None) marks

-- a number and the place where it begins, its sign included
abbrev pub with_minus : Option Place → Place × ℤ → Place × ℤ
with_minus (Some minus) number = (minus, neg_ℤ number.1)
with_minus None number = number

-- int = [ "-" ] NUMBER
unfoldable pub int_at : List Mark → Parsed (Place × ℤ)
int_at marks = do
  sign ← sign_at marks
  number ← number_at sort.Number sign.1
  parsed (with_minus sign.0 number.0) number.1

-- NUMBER | DURATION, which is the number of its microseconds
unfoldable pub amount_at : List Mark → Parsed (Place × ℤ)
amount_at marks = chosen (next_is sort.Number marks) (number_at sort.Number) (number_at sort.Time) marks

-- [ "-" ] ( NUMBER | DURATION )
unfoldable pub amount_literal_at : List Mark → Parsed RawLiteral
amount_literal_at marks = do
  sign ← sign_at marks
  amount ← amount_at sign.1
  let number = with_minus sign.0 amount.0 in parsed (record { at = number.0; what = kind.Number number.1 }) amount.1

-- "true", or "false"
unfoldable pub truth_literal_at : Sort → Bool → List Mark → Parsed RawLiteral
truth_literal_at sort truth marks = do
  word ← take_at sort marks
  parsed (record { at = word.0; what = kind.Truth truth }) word.1

-- NAME "." NAME: a variant of an enumeration
unfoldable pub variant_literal_at : List Mark → Parsed RawLiteral
variant_literal_at marks = do
  name ← raw_name_at marks
  dot ← take_at sort.Dot name.1
  variant ← raw_name_at dot.1
  parsed (record { at = name.0.at; what = kind.Variant name.0 variant.0 }) variant.1

-- the mark begins a number or a duration, or its sign
abbrev pub begins_amount : Mark → Bool
begins_amount = is_one_of (sort.Minus ∷ sort.Number ∷ sort.Time ∷ [])

-- literal = [ "-" ] ( NUMBER | DURATION ) | "true" | "false" | NAME "." NAME
unfoldable pub literal_at : List Mark → Parsed RawLiteral
literal_at marks =
    chosen (next_fits begins_amount marks) amount_literal_at
    (chosen (next_is sort.True marks) (truth_literal_at sort.True true)
    (chosen (next_is sort.False marks) (truth_literal_at sort.False false) variant_literal_at)) marks
