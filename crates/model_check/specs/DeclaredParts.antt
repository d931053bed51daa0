-- What declarations make, each of its sort.
use Rattle.std.specs.Prelude.{ℤ, List}
use Rattle.aerie_base.specs.declared.models.CellStart.{CellStart}
use Rattle.aerie_base.specs.declared.models.CellStart.TheVariants as cell
use Rattle.aerie_base.specs.declared.models.EnumType.{EnumType}
use Rattle.model_reader.specs.declared.raw.literals.RawLiteral.{RawLiteral}
use Rattle.model_reader.specs.declared.raw.names.RawName.{RawName}
use Rattle.model_reader.specs.declared.raw.types.RawType.{RawType}
use Rattle.model_check.specs.declared.symbols.Symbols.{Symbols}
use Rattle.model_check.specs.Literals.{literal_value}
use Rattle.model_check.specs.ModelMeaning.{names_of, kind_written, rate_of}

abbrev pub enum_type : RawName → List RawName → EnumType
enum_type name variants = record { name = name.name; variants = names_of variants }

abbrev pub register_start : Symbols → RawType → RawLiteral → CellStart
register_start symbols kind start = cell.Register (kind_written symbols kind) (literal_value symbols.enums start.what)

abbrev pub accumulator_start : ℤ → RawLiteral → CellStart
accumulator_start volume rate = cell.Accumulator volume (rate_of rate.what)
