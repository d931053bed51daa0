-- Values whose numbers are in range.
use Rattle.aerie_base.specs.Ranges.{IsNumber}
use Rattle.aerie_base.specs.declared.values.Value.{Value}
use Rattle.aerie_base.specs.declared.values.Value.TheVariants.{Int, Truth, Variant}

-- a number of a value is in range; every value of a program is so by its type
abbrev pub HasNumber : Value → Type 0
HasNumber (Int number) = IsNumber number
HasNumber (Truth truth) = Unit {0}
HasNumber (Variant of number) = Unit {0}
