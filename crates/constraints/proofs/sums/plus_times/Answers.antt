use Rattle.std.proofs.Common.{◌≤◌, ℤ, ◌+ℤ◌, ◌*ℤ◌, min, refl, sym, subst, ap, ◌∙◌, to_z, of_z}
use Rattle.std.specs.Int.{w64}
use Rattle.std.proofs.lemmas.Int.{to_z-of_z}
use Rattle.windows.specs.Linear.{IsSum, segments_value}
use Rattle.constraints.proofs.Runs.{runs_of, segment_sums}
use Rattle.constraints.proofs.Merging.{can_add, merging_none, merging_step, merged_form, merged_values, sum_over, more_over}
use Rattle.constraints.proofs.sums.plus_times.Goals as goal
use Rattle.constraints.proofs.sums.plus_times.Goals.{then-loop-at_sum-test+else-at_more-segments, else-loop-at_sum-test}

pub loop-at_sum-init : goal.loop-at_sum-init
loop-at_sum-init c =
    rw (c.new-made.ensures, c.zero-from.ensures)
    (merging_none c.args.reach c.args.sum.now c.args.segments.now _ (runs_of c.args.reach c.args.sum.now c.requires.sum) (runs_of c.args.reach c.args.segments.now c.requires.segments))

pub added-piece-requires : goal.added-piece-requires
added-piece-requires c =
    can_add c.args.reach _ _ _ _ c.args.sum.now c.args.segments.now c.loop-at_sum.at_sum c.loop-at_sum.at_more c.loop-at_sum.from c.earlier-end.result c.index-sum-at_sum.result c.index-segments-at_more.result (to_z w64 (of_z w64 c.args.coefficient))
    c.loop-at_sum-test.true c.index-sum-at_sum.is c.if-at_more-segments.true c.index-segments-at_more.is
    (c.earlier-end.ensures ∙ (λ i. min (c.end_of-end_one.ensures i) (c.end_of-end_more.ensures i))) c.loop-at_sum.invariant
    (segment_sums c.args.reach c.args.sum.now c.requires.sum) (segment_sums c.args.reach c.args.segments.now c.requires.segments)
    (λ t below. subst (λ (z : ℤ). IsSum (z *ℤ segments_value c.args.segments.now t)) (sym (to_z-of_z w64 c.args.coefficient c.ranges.coefficient)) (c.requires.product t below))

pub loop-at_sum-preserved : goal.loop-at_sum-preserved
loop-at_sum-preserved c =
    merging_step c.args.reach _ _ (to_z w64 (of_z w64 c.args.coefficient)) (to_z w64 (of_z w64 c.args.coefficient)) _ _ c.args.sum.now c.args.segments.now c.loop-at_sum.at_sum c.loop-at_sum.at_more _ _ c.loop-at_sum.from _ _ _ _ _
    c.index-sum-at_sum.result c.index-segments-at_more.result c.added-piece.result
    c.loop-at_sum-test.true c.index-sum-at_sum.is c.if-at_more-segments.true c.index-segments-at_more.is c.end_of-end_one.ensures c.end_of-end_more.ensures c.earlier-end.ensures
    c.is_by-over_one.ensures c.is_by-over_more.ensures c.place_behind-at_sum.ensures c.place_behind-at_more.ensures refl
    c.in_ok-push.ensures.pushed c.added-piece.ensures c.loop-at_sum.invariant

at_reach : (c : goal.Left-loop-at_sum) → c.args.reach ≤ c.loop-at_sum.from
at_reach c =
    elim c.loop-at_sum-test.branch [
      | then-loop-at_sum-test+else-at_more-segments w ↦ more_over c.args.reach _ _ _ _ _ c.args.segments.now c.loop-at_sum.at_more c.loop-at_sum.from w.if-at_more-segments.false c.loop-at_sum.invariant
      | else-loop-at_sum-test w ↦ sum_over c.args.reach _ _ _ _ c.args.sum.now _ c.loop-at_sum.at_sum c.loop-at_sum.from w.loop-at_sum-test.false c.loop-at_sum.invariant
    ]

pub returns-clause-form : goal.returns-clause-form
returns-clause-form c =
    merged_form c.args.reach _ _ _ _ _ _ c.loop-at_sum.from
    (λ t below. subst (λ (z : ℤ). IsSum (segments_value c.args.sum.now t +ℤ z *ℤ segments_value c.args.segments.now t)) (sym (to_z-of_z w64 c.args.coefficient c.ranges.coefficient)) (c.requires.total t below))
    (at_reach c) c.loop-at_sum.invariant

pub returns-clause-values : goal.returns-clause-values
returns-clause-values c t below =
    merged_values c.args.reach _ _ _ _ _ _ c.loop-at_sum.from (at_reach c) c.loop-at_sum.invariant t below
    ∙ ap (λ (z : ℤ). segments_value c.args.sum.now t +ℤ z *ℤ segments_value c.args.segments.now t) (to_z-of_z w64 c.args.coefficient c.ranges.coefficient)
