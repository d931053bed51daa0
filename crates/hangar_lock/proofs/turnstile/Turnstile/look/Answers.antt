use Rattle.std.proofs.Common.{rules}
use mathlib.Core.Option.{none}
use Rattle.atomic_table.specs.Table.{step}
use Rattle.hangar_lock.proofs.Look.{looks_with}
use Rattle.hangar_lock.proofs.turnstile.Turnstile.look.Goals as goal

pub load-requires : goal.load-requires
load-requires c =
    let waits = c.requires.waits in
    (c.requires.own, search rules, looks_with _ _ _ waits.ticket _ (step c.args.self.now.table.shared.table_id.slots 1 0 0 none) waits.drawn waits.outside waits.bare)
