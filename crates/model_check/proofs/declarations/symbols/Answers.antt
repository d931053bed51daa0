use Rattle.model_check.proofs.MadeParts.{made_symbols}
use Rattle.model_check.proofs.declarations.symbols.Goals as goal

pub returns : goal.returns
returns c =
    made_symbols c.args.items.now (record { enums = c.in_ok-enums.enums; cells = c.in_ok-cells.cells; types = c.in_ok-types.types })
    c.in_ok-enums.ensures c.in_ok-cells.ensures c.in_ok-types.ensures
