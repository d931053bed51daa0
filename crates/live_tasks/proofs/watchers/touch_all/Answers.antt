use Rattle.std.proofs.Common.{arith, ◌∙◌, sym}
use Rattle.std.proofs.lemmas.List.Filters.{FiltersInPlace-more_set, FiltersInPlace-more_no}
use Rattle.live_tasks.proofs.KeptTimes.{may_then, current_same}
use Rattle.live_tasks.proofs.Watching.{stale_more, still_there}
use Rattle.live_tasks.proofs.watchers.touch_all.Goals as goal
use Rattle.live_tasks.proofs.watchers.touch_all.Goals.{then-branch, else-branch}

pub loop-at-preserved : goal.loop-at-preserved
loop-at-preserved c =
    let filters = c.loop-at.invariant.0 in
    let may = c.loop-at.invariant.1 in
    let within = c.loop-at-test.true in
    let long = filters.long in
    let passes = sym (current_same c.args.times.now.by_number.items c.loop-at.times.by_number.items c.index-watcher.result.now may) ∙ sym c.in_ok-touch.ensures.current in (
      elim c.if-branch.branch [
        | goal.then-branch w ↦ rw (w.watchers-inside-is, w.kept-is) (FiltersInPlace-more_set filters (omega (arith, within, long, c.len-at-end.ensures)) (passes ∙ w.if-branch.true) c.index-watcher.ensures)
        | goal.else-branch w ↦ rw (w.watchers-inside-is, w.kept-is) (FiltersInPlace-more_no filters (omega (arith, within, long, c.len-at-end.ensures)) (passes ∙ w.if-branch.false) c.index-watcher.ensures)
      ],
      may_then c.args.times.now.by_number.items c.loop-at.times.by_number.items c.touch.new.self.by_number.items may c.in_ok-touch.ensures.may,
      stale_more c.args.times.now.by_number.items c.loop-at.times.by_number.items c.touch.new.self.by_number.items c.watchers.inside.items.items c.index-watcher.result.now c.loop-at.at
          (omega (arith, within, c.len-at-end.ensures)) (still_there c.watchers.inside.items.items c.loop-at.watchers-inside.items.items c.loop-at.at c.index-watcher.result.now filters.rest c.index-watcher.ensures)
          may c.in_ok-touch.ensures.may c.in_ok-touch.ensures.stale c.loop-at.invariant.2,
      λ are. c.in_ok-touch.ensures.wakes (c.loop-at.invariant.3 are),
    )
