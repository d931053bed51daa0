use Rattle.std.proofs.Common.{◌+◌, ◌<◌, ◌∙◌, List, ℕ, length, Some, ap, sym, subst, get_or, arith}
use Rattle.live_tasks.specs.declared.origins.Origin.TheVariants.{Ready}
use Rattle.live_tasks.specs.Endings.{TakesOne, HasTakenUpTo}
use Rattle.live_tasks.proofs.Coming.{get_is}
use Rattle.live_tasks.proofs.Orders.{few, more_few, ready_yet, maker_before, next_taken}
use Rattle.live_tasks.proofs.KeepsWaits.{keeps_then}
use Rattle.live_tasks.proofs.tasks.LiveTasks.take.Goals as goal

pub take_one-requires-clause-few : goal.take_one-requires-clause-few
take_one-requires-clause-few c =
    few c.args.now c.args.self.now.tables.slots.slots c.args.frames.now c.args.origins.now c.requires c.loop-place.place c.loop-place.numbers.items c.loop-place.self.tables.slots.slots c.loop-place.invariant.0
    c.index-frames-place.result (get_is c.args.frames.now c.loop-place.place c.index-frames-place.result c.loop-place-test.true ∙ ap Some (sym c.index-frames-place.is))

pub take_one-requires-clause-more_few : goal.take_one-requires-clause-more_few
take_one-requires-clause-more_few c = λ number e slot at.
    let less : c.loop-place.place < length c.args.origins.now = omega (arith, c.loop-place-test.true, c.requires.origins_.long) in
    more_few c.args.now c.args.self.now.tables.slots.slots c.args.frames.now c.args.origins.now c.requires c.loop-place.place c.loop-place.numbers.items c.loop-place.self.tables.slots.slots c.loop-place.invariant.0
    c.index-frames-place.result (get_is c.args.frames.now c.loop-place.place c.index-frames-place.result c.loop-place-test.true ∙ ap Some (sym c.index-frames-place.is))
    number slot (get_is c.args.origins.now c.loop-place.place (Ready 0) less ∙ ap Some e) at

pub take_one-requires-clause-ready : goal.take_one-requires-clause-ready
take_one-requires-clause-ready c = λ number e.
    let less : c.loop-place.place < length c.args.origins.now = omega (arith, c.loop-place-test.true, c.requires.origins_.long) in
    ready_yet c.args.now c.args.self.now.tables.slots.slots c.args.frames.now c.args.origins.now c.requires c.loop-place.place c.loop-place.numbers.items c.loop-place.self.tables.slots.slots c.loop-place.invariant.0
    c.index-frames-place.result (get_is c.args.frames.now c.loop-place.place c.index-frames-place.result c.loop-place-test.true ∙ ap Some (sym c.index-frames-place.is))
    number (get_is c.args.origins.now c.loop-place.place (Ready 0) less ∙ ap Some e)

pub take_one-requires-clause-maker : goal.take_one-requires-clause-maker
take_one-requires-clause-maker c = λ maker own e.
    let less : c.loop-place.place < length c.args.origins.now = omega (arith, c.loop-place-test.true, c.requires.origins_.long) in
    subst (λ (n : List ℕ). maker < length n) (sym c.as_slice.ensures.value)
    (maker_before c.args.now c.args.self.now.tables.slots.slots c.args.frames.now c.args.origins.now c.requires c.loop-place.place c.loop-place.numbers.items c.loop-place.self.tables.slots.slots c.loop-place.invariant.0
    c.index-frames-place.result (get_is c.args.frames.now c.loop-place.place c.index-frames-place.result c.loop-place-test.true ∙ ap Some (sym c.index-frames-place.is))
    maker own (get_is c.args.origins.now c.loop-place.place (Ready 0) less ∙ ap Some e))

pub loop-place-preserved : goal.loop-place-preserved
loop-place-preserved c =
    let less : c.loop-place.place < length c.args.origins.now = omega (arith, c.loop-place-test.true, c.requires.origins_.long) in (
      subst (λ (n : List ℕ). HasTakenUpTo c.args.now c.args.self.now.tables.slots.slots c.args.frames.now (c.loop-place.place + 1) n c.take_one.new.self.tables.slots.slots) (sym c.in_ok-push.ensures.items)
          (next_taken c.args.now c.args.self.now.tables.slots.slots c.args.frames.now c.args.origins.now c.requires c.loop-place.place c.loop-place.numbers.items c.loop-place.self.tables.slots.slots c.loop-place.invariant.0
          c.index-frames-place.result (get_is c.args.frames.now c.loop-place.place c.index-frames-place.result c.loop-place-test.true ∙ ap Some (sym c.index-frames-place.is))
          c.take_one.new.self.tables.slots.slots c.in_ok-number.number (get_or c.args.origins.now c.loop-place.place (Ready 0)) (get_is c.args.origins.now c.loop-place.place (Ready 0) less)
          (subst (λ (n : List ℕ). TakesOne c.args.now c.index-frames-place.result (get_or c.args.origins.now c.loop-place.place (Ready 0)) n c.loop-place.self.tables.slots.slots c.take_one.new.self.tables.slots.slots c.in_ok-number.number)
          c.as_slice.ensures.value c.in_ok-number.ensures.takes)),
      c.in_ok-number.ensures.followers ∙ c.loop-place.invariant.1,
      λ before. c.in_ok-number.ensures.listed (c.loop-place.invariant.2 before),
      keeps_then c.args.self.now.tables c.loop-place.self.tables c.take_one.new.self.tables c.loop-place.invariant.3 c.in_ok-number.ensures.waits,
    )
