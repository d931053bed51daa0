use Rattle.std.proofs.Common.{rules}
use mathlib.Core.Option.{none}
use Rattle.atomic_table.specs.Table.{step}
use Rattle.hangar_lock.proofs.PassOn.{passes_with}
use Rattle.hangar_lock.proofs.turnstile.Turnstile.pass_on.Goals as goal

pub fetch_add-requires : goal.fetch_add-requires
fetch_add-requires c =
    let desk = c.requires.leaves.0 in
    let leaves = c.requires.leaves.1 in
    (c.requires.own, search rules, passes_with _ _ _ _ desk (step c.args.self.now.table.shared.table_id.slots 1 1 0 none) leaves.inside leaves.more leaves.is_desk leaves.has)
