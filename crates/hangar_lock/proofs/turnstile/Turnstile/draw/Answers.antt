use Rattle.std.proofs.Common.{rules}
use mathlib.Core.Option.{none}
use Rattle.atomic_table.specs.Table.{step}
use Rattle.hangar_lock.proofs.Draw.{draws}
use Rattle.hangar_lock.proofs.turnstile.Turnstile.draw.Goals as goal

pub fetch_add-requires : goal.fetch_add-requires
fetch_add-requires c =
    let idle = c.requires.idle in
    (c.requires.own, search rules, draws _ _ _ _ (step c.args.self.now.table.shared.table_id.slots 0 1 0 none) idle.3.0 idle.0 idle.1 idle.3.1)
