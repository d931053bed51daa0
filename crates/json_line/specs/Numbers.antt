-- Numbers as data.
use Rattle.std.specs.Prelude.{ℕ, ℤ}
use Rattle.std.specs.Fmt.{signed_decimal}
use Rattle.serde_json.specs.Data.{Data, number, string, unsigned}

-- a natural number
abbrev pub natural_data : ℕ → Data
natural_data n = number (unsigned n)

-- the text of a whole number that may be too large for a number of JSON
abbrev pub digits_data : ℤ → Data
digits_data z = string (signed_decimal z)
