use Rattle.std.proofs.Common.{◌∷◌, Some, ap, sym, ◌∙◌}
use Rattle.atomic_table.specs.Table.{rest}
use Rattle.hangar_lock.proofs.turnstile.Turnstile.take.Goals as goal

pub exchange-requires : goal.exchange-requires
exchange-requires c = let holds = c.requires.holds in (c.requires.own, (Some holds.0, holds.1 ∙ ap (λ l. (0, Some holds.0) ∷ rest l) (sym holds.1)))
