use Rattle.std.proofs.Common.{sym, ap, ◌∙◌}
use Rattle.model_check.specs.declared.symbols.Symbols.{Symbols}
use Rattle.model_check.specs.ModelSymbols.{bare_symbols}
use Rattle.model_check.proofs.MadeParts.{enums_of_symbols}
use Rattle.model_check.proofs.parts.items_of.Goals as goal

pub items-requires : goal.items-requires
items-requires c =
    c.in_ok-bare.ensures ∙ sym (ap (λ (s : Symbols). bare_symbols s.enums) c.requires ∙ ap bare_symbols (enums_of_symbols c.args.declared.now))
