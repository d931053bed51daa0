use Rattle.std.proofs.Common.{◌∙◌, ap, sym, subst}
use Rattle.run_data.specs.Endings.{after_batch}
use Rattle.run_data.specs.Tasks.{after_frames}
use Rattle.run_data.specs.laws.BatchFrames.{AreFramesOf}
use Rattle.run_data.specs.laws.LiveParts.{live}
use Rattle.live_tasks.specs.Slots.{Slots, table_of}
use Rattle.live_tasks.specs.Endings.{AreLive, AreOrigins, ChildrenAreFew}
use Rattle.live_tasks.specs.Followers.{AreFollowers}
use Rattle.live_tasks.specs.Readies.{AreReadyNumbers}
use Rattle.live_tasks.proofs.tasks.LiveTasks.go_on.Goals as goal

pub order-requires-clause-forest : goal.order-requires-clause-forest
order-requires-clause-forest c = c.requires.in_step.live_.forest

pub put_origins-requires-clause-live_ : goal.put_origins-requires-clause-live_
put_origins-requires-clause-live_ c = subst (λ (s : Slots). AreLive (table_of s) s) (ap (λ s. s.slots) (sym c.order.ensures.slots)) c.requires.in_step.live_

pub put_origins-requires-clause-ready : goal.put_origins-requires-clause-ready
put_origins-requires-clause-ready c = subst (AreReadyNumbers c.order.new.self.slots.slots) (sym c.as_slice-readies.ensures.value) c.in_ok-order.ensures.order

pub put_origins-requires-clause-frames : goal.put_origins-requires-clause-frames
put_origins-requires-clause-frames c = subst (λ (s : Slots). AreFramesOf (table_of s) c.args.frames.now) (ap (λ s. s.slots) (sym c.order.ensures.slots)) c.requires.frames

pub take_batch-requires-clause-may : goal.take_batch-requires-clause-may
take_batch-requires-clause-may c = record {
  live_ = subst (λ (s : Slots). AreLive (table_of s) s) (ap (λ s. s.slots) (sym c.order.ensures.slots)) c.requires.in_step.live_;
  are = subst (λ (s : Slots). AreFramesOf (table_of s) c.args.frames.now) (ap (λ s. s.slots) (sym c.order.ensures.slots)) c.requires.frames;
  origins_ = subst (AreOrigins c.order.new.self.slots.slots c.args.frames.now) (sym c.as_slice.ensures.value) c.in_ok-put_origins.ensures;
  small = subst (λ (s : Slots). ChildrenAreFew (after_frames c.args.now c.args.frames.now (table_of s))) (ap (λ s. s.slots) (sym c.order.ensures.slots)) c.requires.few;
}

pub take_batch-requires-clause-followers : goal.take_batch-requires-clause-followers
take_batch-requires-clause-followers c = subst (λ (s : Slots). AreFollowers s c.args.self.now.followers.items) (ap (λ s. s.slots) (sym c.order.ensures.slots)) c.requires.in_step.followers_

pub returns-clause-table : goal.returns-clause-table
returns-clause-table c =
    c.in_ok-take_batch.ensures.table ∙ ap (λ (s : Slots). live (after_batch c.args.now c.args.frames.now (table_of s))) (ap (λ s. s.slots) c.order.ensures.slots)

pub returns-clause-waits : goal.returns-clause-waits
returns-clause-waits c = λ now horizon cells kept. c.in_ok-take_batch.ensures.waits now horizon cells (c.in_ok-order.ensures.waits now horizon cells kept)

pub returns-clause-in_step : goal.returns-clause-in_step
returns-clause-in_step c = record {
  live_ = c.in_ok-take_batch.ensures.in_step.live_;
  followers_ = c.in_ok-take_batch.ensures.in_step.followers_;
  listed = c.in_ok-take_batch.ensures.in_step.listed;
}
