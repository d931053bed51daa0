use Rattle.std.proofs.Common.{◌∙◌, ◌||◌, Bool, ap}
use Rattle.resimulate.specs.Origins.{has_root, origin_number}
use Rattle.resimulate.proofs.NoRoots.{none_has}
use Rattle.resimulate.proofs.traces.asks_for_none.Goals as goal

pub returns : goal.returns
returns c agreed path =
    ap (λ (all : Bool). all || has_root c.args.roots.now.keys (origin_number path)) c.if-all.false
    ∙ none_has c.args.roots.now.keys (origin_number path) (c.is_empty.ensures.0 agreed)
