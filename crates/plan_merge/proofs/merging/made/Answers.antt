use Rattle.std.proofs.Common.{◌≡◌, ℕ, ◌≤◌, ◌<◌, ◌^◌, arith}
use Rattle.plan_merge.proofs.Small.{are_small, small_behind}
use Rattle.plan_merge.proofs.merging.made.Goals as goal

few : (next most : ℕ) → most ≡ 4_294_967_295 → next ≤ most → next < 2 ^ 32
few next most is least = omega (arith, is, least)

pub narrowed-requires : goal.narrowed-requires
narrowed-requires c = record { small = are_small c.args.next c.args.directives.now c.requires.rising c.requires.anchors (few c.args.next c.from.result c.from.ensures c.if-next-from.false) }

pub ids-requires : goal.ids-requires
ids-requires c = record { small = small_behind c.args.directives.now c.args.kept c.requires.kept (are_small c.args.next c.args.directives.now c.requires.rising c.requires.anchors (few c.args.next c.from.result c.from.ensures c.if-next-from.false)) }
