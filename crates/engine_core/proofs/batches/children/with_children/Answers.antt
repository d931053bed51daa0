-- A child more sees the effects between its place and the last child's besides.
use Rattle.std.proofs.Common.{◌≡◌, ◌+◌, ◌-◌, ◌∙◌, ap, take, drop, arith, List}
use Rattle.effect_cells.specs.declared.effects.CellState.{CellState}
use Rattle.run_data.specs.StepStates.{after_items}
use Rattle.engine_core.proofs.ChildViews.{between_can, between_seen, child_unseen, effect_iteration, child_iteration, all_made}
use Rattle.engine_core.proofs.GatheredFrames.{no_children}
use Rattle.engine_core.proofs.batches.children.with_children.Goals as goal

pub seen_after-requires : goal.seen_after-requires
seen_after-requires c =
    rw c.loop-at.invariant.view
    (between_can c.args.job.now.view c.args.items.now c.loop-at.seen (c.loop-at.at - c.loop-at.seen) c.requires.effects)

pub loop-at-preserved-in_default : goal.loop-at-preserved-in_default
loop-at-preserved-in_default c = record {
  seen = omega (arith, c.loop-at.invariant.seen);
  number = omega (arith, c.loop-at.invariant.number);
  view = c.loop-at.invariant.view;
  made =
      effect_iteration c.args.job.now.view c.args.items.now c.args.model.now c.args.job.now.path c.loop-at.next c.loop-at.at c.index-items-at.result c.loop-at-test.true c.index-items-at.is
      c.loop-at.all _ c.in_default.field-0 c.in_default.field-1 c.in_default.is c.loop-at.invariant.made;
}

pub loop-at-preserved : goal.loop-at-preserved
loop-at-preserved c =
    let whole : c.loop-at.seen + (c.loop-at.at - c.loop-at.seen) ≡ c.loop-at.at = omega (arith, c.loop-at.invariant.seen) in
    let view : c.in_ok-view-2.view ≡ after_items c.args.job.now.view (take c.loop-at.at c.args.items.now) =
    c.in_ok-view-2.ensures
    ∙ ap (λ (seen : List CellState). after_items seen (take (c.loop-at.at - c.loop-at.seen) (drop c.loop-at.seen c.args.items.now))) c.loop-at.invariant.view
    ∙ between_seen c.args.job.now.view c.args.items.now c.loop-at.seen (c.loop-at.at - c.loop-at.seen)
    ∙ ap (λ n. after_items c.args.job.now.view (take n c.args.items.now)) whole
    in
    record {
      seen = omega arith;
      number = omega (arith, c.loop-at.invariant.number);
      view =
          view
          ∙ child_unseen c.args.job.now.view c.args.items.now c.loop-at.at c.index-items-at.result c.loop-at-test.true c.index-items-at.is c.in-Child.kind c.in-Child.arguments c.in-Child.is;
      made =
          child_iteration c.args.job.now.view c.args.items.now c.args.model.now c.args.job.now.path c.loop-at.next c.loop-at.at c.index-items-at.result c.loop-at-test.true c.index-items-at.is
          c.loop-at.all c.in_ok-all.all _ c.in_ok-view-2.view c.in_ok-job.job c.in-Child.kind c.in-Child.arguments c.in-Child.is view
          (rw c.get.ensures at rw c.as_slice.ensures at c.in_ok-job.ensures) c.in_ok-all.ensures c.loop-at.invariant.made;
    }

pub returns : goal.returns
returns c = all_made c.args.model.now c.args.job.now.path c.loop-at.next c.loop-at.at _ c.args.items.now c.loop-at.all _ c.loop-at-test.false c.loop-at.invariant.made

pub returns-then-children_among-eq0 : goal.returns-then-children_among-eq0
returns-then-children_among-eq0 c =
    no_children c.args.model.now c.args.job.now.path c.args.number c.args.job.now.view c.args.items.now c.args.others (omega (arith, c.children_among.ensures.value, c.if-children_among-eq0.true))
