use Rattle.std.proofs.Common.{◌+◌, ◌∷◌, [], refl, sym, ap, ◌∙◌, subst, drop, arith}
use Rattle.std.proofs.lemmas.List.{drop_more}
use Rattle.run_data.specs.Tasks.{after_frames}
use Rattle.live_tasks.specs.Followers.{AreFollowers}
use Rattle.live_tasks.specs.Endings.{IsEnding}
use Rattle.live_tasks.proofs.Coming.{beyond}
use Rattle.live_tasks.proofs.Batches.{IsStarting, start_next, starts_all, start_followers, table_is, are_live}
use Rattle.live_tasks.proofs.KeepsWaits.{keeps_same, keeps_then}
use Rattle.live_tasks.proofs.tasks.LiveTasks.end_batch.Goals as goal

pub loop-frame-init : goal.loop-frame-init
loop-frame-init c = (
  c.requires,
  refl,
  λ before. before,
  λ table first live are is. starts_all c.args.now table c.args.frames.now c.args.numbers.now first c.args.self.now.tables.slots.slots live are is,
  keeps_same c.args.self.now.tables,
)

pub loop-frame-preserved : goal.loop-frame-preserved
loop-frame-preserved c = (
  subst (λ f. AreFollowers c.start.new.self.tables.slots.slots f) (ap (λ v. v.items) (sym c.start.ensures.followers))
      (start_followers c.args.now c.frame-item.result c.loop-frame.self.tables.slots.slots c.start.new.self.tables.slots.slots c.loop-frame.self.followers.items c.in_ok-start.ensures.root
      (λ none. ap (λ s. s.tables.slots.slots) (c.in_ok-start.ensures.other none)) c.loop-frame.invariant.0),
  c.start.ensures.followers ∙ c.loop-frame.invariant.1,
  λ before. c.in_ok-start.ensures.listed (c.loop-frame.invariant.2 before),
  λ table first live are is.
      start_next c.args.now (after_frames c.args.now c.args.frames.now table) c.frame-item.result (drop (c.loop-frame.frame-index + 1) c.args.frames.now) c.args.numbers.now
      c.loop-frame.self.tables.slots.slots c.start.new.self.tables.slots.slots
      (subst (λ f. IsStarting c.args.now (after_frames c.args.now c.args.frames.now table) f c.args.numbers.now c.loop-frame.self.tables.slots.slots)
      (drop_more c.args.frames.now c.loop-frame.frame-index c.frame-item.result c.loop-frame-test.true
      ∙ ap (λ f. f ∷ drop (c.loop-frame.frame-index + 1) c.args.frames.now) (sym c.frame-item.is)) (c.loop-frame.invariant.3 table first live are is))
      c.in_ok-start.ensures.root (λ none. ap (λ s. s.tables.slots.slots) (c.in_ok-start.ensures.other none)),
  keeps_then c.args.self.now.tables c.loop-frame.self.tables c.start.new.self.tables c.loop-frame.invariant.4 c.in_ok-start.ensures.waits,
)

pub loop-number-preserved : goal.loop-number-preserved
loop-number-preserved c = (
  c.in_ok-settle.ensures.stay,
  c.settle.ensures.followers ∙ c.loop-number.invariant.1,
  λ before. c.in_ok-settle.ensures.listed (c.loop-number.invariant.2 before),
  λ table first live are is.
      c.in_ok-settle.ensures.ends [] (drop (c.loop-number.number-index + 1) c.args.numbers.now) (after_frames c.args.now c.args.frames.now table)
      (subst (λ n. IsEnding c.args.now (after_frames c.args.now c.args.frames.now table) [] n c.loop-number.self.tables.slots.slots)
      (drop_more c.args.numbers.now c.loop-number.number-index 0 c.loop-number-test.true) (c.loop-number.invariant.3 table first live are is)),
  keeps_then c.args.self.now.tables c.loop-number.self.tables c.settle.new.self.tables c.loop-number.invariant.4 c.in_ok-settle.ensures.waits,
)

pub returns-clause-ends : goal.returns-clause-ends
returns-clause-ends c table first live are is =
    let whole = after_frames c.args.now c.args.frames.now table in
    let end : IsEnding c.args.now (after_frames c.args.now c.args.frames.now table) [] [] c.loop-number.self.tables.slots.slots =
    subst (λ n. IsEnding c.args.now (after_frames c.args.now c.args.frames.now table) [] n c.loop-number.self.tables.slots.slots)
    (beyond c.args.numbers.now c.loop-number.number-index (omega (arith, c.loop-number-test.false))) (c.loop-number.invariant.3 table first live are is) in
    (table_is c.args.now whole c.loop-number.self.tables.slots.slots end, are_live c.args.now whole c.loop-number.self.tables.slots.slots end)
