-- What is made of a parameter, and the scope behind it.
use Rattle.std.specs.Prelude.{true}
use Rattle.aerie_base.specs.declared.models.Parameter.{Parameter}
use Rattle.model_reader.specs.declared.raw.items.RawParameter.{RawParameter}
use Rattle.model_check.specs.declared.scopes.BodyScope.{BodyScope}
use Rattle.model_check.specs.declared.symbols.Symbols.{Symbols}
use Rattle.model_check.specs.BodyScopes.{with_new_local}
use Rattle.model_check.specs.ModelMeaning.{kind_written}
use Rattle.model_check.specs.ModelSymbols.{type_kind, default_value}

abbrev pub parameter_of : Symbols → RawParameter → Parameter
parameter_of symbols parameter =
    record {
      name = parameter.name.name;
      kind = kind_written symbols parameter.kind;
      default = default_value symbols.enums parameter.default;
    }

abbrev pub with_parameter : Symbols → BodyScope → RawParameter → BodyScope
with_parameter symbols scope parameter = with_new_local scope parameter.name.name (type_kind symbols.enums parameter.kind) true
