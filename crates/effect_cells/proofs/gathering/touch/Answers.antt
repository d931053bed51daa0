-- A cell that is listed stays so, and another comes to stand in its place.
use Rattle.std.proofs.Common.{◌≡◌, ◌≤◌, ◌∙◌, length, nat_lt, sym, rules}
use Rattle.std.proofs.lemmas.List.Sorted.{IsPartitionPoint-from_clause}
use Rattle.effect_cells.specs.Gathered.{listed_from}
use Rattle.effect_cells.proofs.Listed.{parted, touched_again, touched_more}
use Rattle.effect_cells.proofs.gathering.touch.Goals as goal

pub returns-then-is_some-clause-listed : goal.returns-then-is_some-clause-listed
returns-then-is_some-clause-listed c =
    touched_again c.args.pending.now c.args.cell c.from.result c.index-pending-from.result c.args.touched.now.items c.requires.listed c.from.ensures c.requires.cell
    (sym c.is_some.ensures ∙ c.if-is_some.true)

pub returns-clause-listed : goal.returns-clause-listed
returns-clause-listed c =
    let listed : c.deref.result.now ≡ listed_from 0 c.args.pending.now = c.deref.ensures.value ∙ c.requires.listed in
    let bound : c.partition_point-place.result ≤ length (listed_from 0 c.args.pending.now) = rw listed at c.partition_point-place.ensures.bound in
    let point = IsPartitionPoint-from_clause (λ n. nat_lt n c.args.cell) _ c.partition_point-place.result (rw listed at c.partition_point-place.ensures.partitioned)
    (parted c.args.cell 0 c.args.pending.now) (λ a r q k. search rules) in
    touched_more c.args.pending.now c.args.cell c.from.result c.partition_point-place.result c.index-pending-from.result c.args.touched.now.items c.insert.new.self.items
    c.requires.listed c.from.ensures c.requires.cell (sym c.is_some.ensures ∙ c.if-is_some.false) (bound, point) c.in_ok-insert.ensures.items
