-- The two places lie in the segment, in order, and at each step the code's numbers are the segment's.
use Rattle.std.proofs.Common.{◌≡◌, ◌≤◌, ℤ, pos, ◌+ℤ◌, ◌-ℤ◌, ◌*ℤ◌, to_z, of_z, FitsSigned, ap, ◌∙◌, arith, rules}
use Rattle.std.specs.Int.{w128}
use Rattle.std.specs.Ordering.{int_cmp}
use Rattle.std.proofs.lemmas.Int.{ints, to_z-of_z}
use Rattle.windows.specs.Ends.{clipped}
use Rattle.windows.specs.Crossing.{order_at}
use Rattle.windows.proofs.Clips.{clipped_within, clipped_order, clipped_above}
use Rattle.windows.proofs.Pieces.{start_in_range, segment_pieces}
use Rattle.windows.proofs.windows.linear.join_compared.Goals as goal

pub cross-crossing-requires : goal.cross-crossing-requires
cross-crossing-requires c =
    let value = start_in_range c.args.segment.now c.args.end c.requires.span c.requires.values in
    let with = c.requires.with in
    omega (arith, ints)

pub join_where-requires-2-clause-span : goal.join_where-requires-2-clause-span
join_where-requires-2-clause-span c =
    rw (c.within-there.ensures, c.within-after.ensures)
    (clipped_order c.args.segment.now.from c.args.end _ _ (let some_time = c.requires.span in omega arith) (let near = c.cross-crossing.ensures.near in omega (arith, ints)))

pub join_where-requires-3-clause-span : goal.join_where-requires-3-clause-span
join_where-requires-3-clause-span c =
    rw c.within-after.ensures (clipped_within c.args.segment.now.from c.args.end _ (let some_time = c.requires.span in omega arith))

pub returns : goal.returns
returns c =
    let segment = c.args.segment.now in
    let value = start_in_range segment c.args.end c.requires.span c.requires.values in
    let rate : FitsSigned w128 segment.rate = search rules in
    let rate_is : to_z w128 (of_z w128 segment.rate) ≡ segment.rate = to_z-of_z w128 segment.rate rate in
    let away_is : to_z w128 (of_z w128 (to_z w128 (of_z w128 c.args.with) -ℤ to_z w128 (of_z w128 segment.value))) ≡ c.args.with -ℤ segment.value = omega (arith, ints) in
    let order : (step : ℤ) → int_cmp (segment.rate *ℤ step) (c.args.with -ℤ segment.value) ≡ order_at c.cross-crossing.result step =
    λ step. rw (rate_is, away_is) at (c.cross-crossing.ensures.order step) in
    let near = c.cross-crossing.ensures.near in
    let there : c.within-there.result ≡ clipped segment.from c.args.end (pos segment.from +ℤ c.cross-crossing.result.at) =
    c.within-there.ensures ∙ ap (clipped segment.from c.args.end) (omega (arith, ints)) in
    let after : c.within-after.result ≡ clipped segment.from c.args.end (pos segment.from +ℤ (c.cross-crossing.result.at +ℤ pos 1)) =
    c.within-after.ensures ∙ ap (clipped segment.from c.args.end) (omega (arith, ints)) in
    let some_time = c.requires.span in
    let first : segment.from ≤ c.within-there.result = rw there (clipped_above segment.from c.args.end _ (omega arith)) in
    let second : c.within-there.result ≤ c.within-after.result = rw (there, after) (clipped_order segment.from c.args.end _ _ (omega arith) (omega (arith, ints))) in
    let third : c.within-after.result ≤ c.args.end = rw after (clipped_within segment.from c.args.end _ (omega arith)) in
    segment_pieces c.args.how segment c.args.with c.cross-crossing.result c.args.end c.within-there.result c.within-after.result _ _ _ _ some_time order there after first second third
    (rw c.meets.ensures at c.in_ok-join_where.ensures) (rw c.meets-2.ensures at c.in_ok-join_where-2.ensures) (rw c.meets-3.ensures at c.in_ok-join_where-3.ensures)
