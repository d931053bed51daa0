use Rattle.std.proofs.Common.{List, ℕ, ap, sym, subst}
use Rattle.run_data.specs.Tasks.{after_frames}
use Rattle.live_tasks.specs.Slots.{table_of, Slots}
use Rattle.live_tasks.specs.Followers.{AreFollowers}
use Rattle.live_tasks.specs.Endings.{IsTaking}
use Rattle.live_tasks.proofs.Taken.{taken_followers}
use Rattle.live_tasks.proofs.tasks.LiveTasks.take_batch.Goals as goal

pub end_batch-requires : goal.end_batch-requires
end_batch-requires c =
    subst (λ (s : Slots). AreFollowers s c.take.new.self.followers.items) (ap (λ s. s.slots) (sym c.relist.ensures.slots))
    (subst (λ f. AreFollowers c.take.new.self.tables.slots.slots f) (ap (λ v. v.items) (sym c.take.ensures.followers))
    (taken_followers c.args.now (table_of c.args.self.now.tables.slots.slots) c.args.frames.now c.take.new.numbers.items c.args.self.now.tables.slots.slots c.take.new.self.tables.slots.slots c.requires.may.live_ c.requires.may.are
    c.in_ok-take.ensures.taken c.args.self.now.followers.items c.requires.followers))

pub returns-clause-table : goal.returns-clause-table
returns-clause-table c =
    (c.in_ok-end_batch.ensures.ends (table_of c.args.self.now.tables.slots.slots) c.args.self.now.tables.slots.slots c.requires.may.live_ c.requires.may.are
    (subst (λ (s : Slots). IsTaking c.args.self.now.tables.slots.slots c.as_slice.result.now (after_frames c.args.now c.args.frames.now (table_of c.args.self.now.tables.slots.slots)) s) (ap (λ s. s.slots) (sym c.relist.ensures.slots))
    (subst (λ (n : List ℕ). IsTaking c.args.self.now.tables.slots.slots n (after_frames c.args.now c.args.frames.now (table_of c.args.self.now.tables.slots.slots)) c.take.new.self.tables.slots.slots) (sym c.as_slice.ensures.value)
    c.in_ok-take.ensures.taken))).0

pub returns-clause-in_step : goal.returns-clause-in_step
returns-clause-in_step c = record {
  live_ =
      (c.in_ok-end_batch.ensures.ends (table_of c.args.self.now.tables.slots.slots) c.args.self.now.tables.slots.slots c.requires.may.live_ c.requires.may.are
      (subst (λ (s : Slots). IsTaking c.args.self.now.tables.slots.slots c.as_slice.result.now (after_frames c.args.now c.args.frames.now (table_of c.args.self.now.tables.slots.slots)) s) (ap (λ s. s.slots) (sym c.relist.ensures.slots))
      (subst (λ (n : List ℕ). IsTaking c.args.self.now.tables.slots.slots n (after_frames c.args.now c.args.frames.now (table_of c.args.self.now.tables.slots.slots)) c.take.new.self.tables.slots.slots) (sym c.as_slice.ensures.value)
      c.in_ok-take.ensures.taken))).1;
  followers_ = c.in_ok-end_batch.ensures.stay;
  listed = c.in_ok-end_batch.ensures.listed (c.relist.ensures.listed (c.in_ok-take.ensures.listed c.requires.listed.all));
}

pub returns-clause-waits : goal.returns-clause-waits
returns-clause-waits c = λ now horizon cells kept.
    c.in_ok-end_batch.ensures.waits now horizon cells (c.relist.ensures.waits now horizon cells (c.in_ok-take.ensures.waits now horizon cells kept))
