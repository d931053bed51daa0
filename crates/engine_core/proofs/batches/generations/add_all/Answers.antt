-- Frames and jobs are passed side by side.
use Rattle.std.proofs.Common.{◌≡◌, ◌<◌, ◌++◌, ◌∙◌, Some, slice_get, length, refl, sym, ap, subst, List, arith}
use Rattle.std.proofs.lemmas.Bool.Decides.{nat_tests}
use Rattle.std.proofs.lemmas.Option.{slice_get_read}
use Rattle.run_data.specs.declared.frames.Item.{Item}
use Rattle.run_data.specs.laws.Generations.{child_jobs}
use Rattle.engine_core.specs.BatchDues.{IsSeenStep, fresh}
use Rattle.engine_core.specs.BatchGenerations.{HasRoomForChild}
use Rattle.engine_core.specs.BatchViews.{CanEmitAll}
use Rattle.engine_core.proofs.FrameByFrame.{pair_here}
use Rattle.engine_core.proofs.WholeGenerations.{adds_none, adds_more, adds_all, room_at}
use Rattle.engine_core.proofs.batches.generations.add_all.Goals as goal

-- the job and the frame at a place, and what can be seen of the step
record Here (c : goal.After-made) : Type 0 where
  job : slice_get c.args.jobs.now c.loop-at.at ≡ Some (c.made.result, c.index-jobs-at.result)
  frame : slice_get c.args.frames c.loop-at.at ≡ Some c.index-as_slice-at.result
  items : c.as_slice-items.result.now ≡ c.index-as_slice-at.result.items
  seen : IsSeenStep (c.made.result, c.index-jobs-at.result) c.index-as_slice-at.result
  room : HasRoomForChild c.index-jobs-at.result.path

here : (c : goal.After-made) → Here c
here c =
    let job = pair_here c.args.jobs.now c.loop-at.at c.made.result c.index-jobs-at.result c.made.ensures (rw c.jobs.ensures at c.index-jobs-at.is) in
    let within : c.loop-at.at < length c.args.frames = omega (arith, c.requires.as_many, c.loop-at-test.true, c.len-at-end.ensures) in
    let frame = slice_get_read c.args.frames _ c.loop-at.at c.index-as_slice-at.result refl within (rw c.as_slice.ensures at c.index-as_slice-at.is) in
    record {
      job = job;
      frame = frame;
      items = c.as_slice-items.ensures ∙ c.items.ensures;
      seen = c.requires.seen c.loop-at.at (c.made.result, c.index-jobs-at.result) c.index-as_slice-at.result job frame;
      room = room_at c.args.jobs.now c.loop-at.at (c.made.result, c.index-jobs-at.result) c.requires.room job;
    }

pub loop-at-init : goal.loop-at-init
loop-at-init c = adds_none c.args.model.now c.args.jobs.now c.args.frames c.args.made.now.items c.new-dues.result c.new-dues.ensures

pub with_children-requires-clause-room : goal.with_children-requires-clause-room
with_children-requires-clause-room c = (let room = (here c).room.room in grind (arith, nat_tests))

pub with_children-requires-clause-effects : goal.with_children-requires-clause-effects
with_children-requires-clause-effects c = subst (λ (items : List Item). CanEmitAll c.index-jobs-at.result.view items) (sym (here c).items) (here c).seen.effects

pub with_children-requires-clause-few : goal.with_children-requires-clause-few
with_children-requires-clause-few c =
    let few = (here c).seen.few in
    let number = (here c).seen.number in
    let items : length c.as_slice-items.result.now ≡ length c.index-as_slice-at.result.items = ap length (here c).items in
    omega (arith, few, number, items)

pub loop-at-preserved : goal.loop-at-preserved
loop-at-preserved c =
    let h = here c.before.before.before in
    adds_more c.args.model.now c.args.jobs.now c.args.frames c.args.made.now.items c.loop-at.at (c.made.result, c.index-jobs-at.result) c.index-as_slice-at.result c.loop-at.dues c.in_ok-dues.dues
    h.job h.frame h.room
    (subst (λ (items : List Item). c.in_ok-dues.dues ≡ c.loop-at.dues ++ fresh (child_jobs c.args.model.now c.index-jobs-at.result.path c.made.result c.index-jobs-at.result.view items)) h.items c.in_ok-dues.ensures)
    c.loop-at.invariant

pub returns : goal.returns
returns c =
    adds_all c.args.model.now c.args.jobs.now c.args.frames c.args.made.now.items c.put_behind.new.made.items c.loop-at.at c.loop-at.dues
    (omega (arith, c.loop-at-test.false, c.len-at-end.ensures)) c.requires.as_many c.in_ok-put_behind.ensures c.loop-at.invariant
