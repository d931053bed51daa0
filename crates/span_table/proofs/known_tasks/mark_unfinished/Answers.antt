use Rattle.std.proofs.Common.{◌<◌, add-one, arith, length}
use Rattle.span_table.proofs.Marking.{all_marked, marked_more, marked_same}
use Rattle.span_table.proofs.known_tasks.mark_unfinished.Goals as goal
use Rattle.span_table.proofs.known_tasks.mark_unfinished.Goals.{then-is_open_at, else-is_open_at}

pub loop-number-preserved : goal.loop-number-preserved
loop-number-preserved c = λ frames knows.
    let marked = c.loop-number.invariant frames knows in
    let count = c.len-number-end.ensures.len in
    let within : c.loop-number.number < length c.args.tasks.now.entries = omega (arith, count, c.loop-number-test.true) in
    rw add-one
    (elim c.if-is_open_at.branch [
      | then-is_open_at w ↦
          rw w.tasks-is
          (marked_more frames c.loop-number.number c.args.tasks.now.entries c.loop-number.tasks.entries marked within c.is_open_at.result _ c.is_open_at.ensures
          w.if-is_open_at.true (λ linked. w.put_ending.ensures linked tt))
      | else-is_open_at w ↦
          rw w.tasks-is
          (marked_same frames c.loop-number.number c.args.tasks.now.entries c.loop-number.tasks.entries marked within c.is_open_at.result c.is_open_at.ensures w.if-is_open_at.false)
    ])

pub returns : goal.returns
returns c = λ frames knows.
    let count = c.len-number-end.ensures.len in
    let marked = c.loop-number.invariant frames knows in
    (all_marked frames c.loop-number.number c.args.tasks.now.entries c.loop-number.tasks.entries knows (omega (arith, count, c.loop-number-test.false)) marked, marked.links)
