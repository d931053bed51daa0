use Rattle.std.proofs.Common.{◌≡◌, ◌+◌, ◌-◌, ◌/◌, ◌<◌, ◌≤◌, ℕ, length, arith}
use Rattle.aerie_base.proofs.PlanSearch.{nowhere, below_more, above_more, found_at}
use Rattle.aerie_base.proofs.plans.position_of_id.Goals as goal

-- the place in the middle is one of the places
inside : (from to count many : ℕ) → from < to → to ≤ count → many ≡ count → from + (to - from) / 2 < many
inside from to count many some within as_many = omega (arith, as_many)

pub returns-then-here-id-clause-found : goal.returns-then-here-id-clause-found
returns-then-here-id-clause-found g c =
    let all = g.D.HasIds.as_directives c.args.directives.now in
    found_at all (c.loop-from.from + (c.loop-from.to - c.loop-from.from) / 2) c.id_at-here.result c.args.id c.requires.rising
    (inside c.loop-from.from c.loop-from.to (length c.args.directives.now) (length all) c.loop-from-test.true c.loop-from.invariant.within (g.D.HasIds.as_many c.args.directives.now))
    c.id_at-here.ensures c.if-here-id.true

pub loop-from-preserved-then-here-id-2 : goal.loop-from-preserved-then-here-id-2
loop-from-preserved-then-here-id-2 g c =
    let all = g.D.HasIds.as_directives c.args.directives.now in
    record {
      ordered = omega (arith, c.loop-from-test.true);
      within = c.loop-from.invariant.within;
      below = below_more all (c.loop-from.from + (c.loop-from.to - c.loop-from.from) / 2) c.id_at-here.result c.args.id c.requires.rising
          (inside c.loop-from.from c.loop-from.to (length c.args.directives.now) (length all) c.loop-from-test.true c.loop-from.invariant.within (g.D.HasIds.as_many c.args.directives.now))
          c.id_at-here.ensures c.if-here-id-2.true;
      above = c.loop-from.invariant.above;
    }

pub loop-from-preserved : goal.loop-from-preserved
loop-from-preserved g c =
    let all = g.D.HasIds.as_directives c.args.directives.now in
    let as_many = g.D.HasIds.as_many c.args.directives.now in
    let middle_is = inside c.loop-from.from c.loop-from.to (length c.args.directives.now) (length all) c.loop-from-test.true c.loop-from.invariant.within as_many in
    let greater : c.args.id < c.id_at-here.result = omega (arith, c.if-here-id.false, c.if-here-id-2.false) in
    record {
      ordered = omega arith;
      within = omega (arith, middle_is, as_many);
      below = c.loop-from.invariant.below;
      above = above_more all (c.loop-from.from + (c.loop-from.to - c.loop-from.from) / 2) c.id_at-here.result c.args.id c.requires.rising middle_is
          c.id_at-here.ensures greater;
    }

pub returns-clause-found : goal.returns-clause-found
returns-clause-found g c =
    nowhere (g.D.HasIds.as_directives c.args.directives.now) c.loop-from.from c.loop-from.to c.args.id c.loop-from-test.false c.loop-from.invariant.below c.loop-from.invariant.above
