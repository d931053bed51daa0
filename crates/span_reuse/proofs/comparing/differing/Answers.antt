use Rattle.std.proofs.Common.{List, ◌∙◌, ap, sym, subst}
use Rattle.run_data.specs.Spans.{Timed, timed}
use Rattle.span_reuse.specs.Left.{RestDecides, frames_left}
use Rattle.span_reuse.proofs.SideBySide.{end_with, fewer_left, from_the_beginning, step_on}
use Rattle.span_reuse.proofs.comparing.differing.Goals as goal

pub loop-here-init : goal.loop-here-init
loop-here-init c =
    let all = timed c.args.run.now.instants in
    let whole = timed c.args.base.now.instants in
    let roots = c.in_ok-roots.roots.items in
    subst (λ (l : List Timed). RestDecides roots all whole l (frames_left c.new-there.result)) (sym (c.new-here.ensures ∙ ap timed c.as_slice.ensures))
    (subst (λ (l : List Timed). RestDecides roots all whole all l) (sym (c.new-there.ensures ∙ ap timed c.as_slice-2.ensures)) (from_the_beginning roots all whole))

pub returns-then-are_none : goal.returns-then-are_none
returns-then-are_none c =
    end_with c.as_slice-known.result.now c.loop-here.roots.items (timed c.args.run.now.instants) (timed c.args.base.now.instants) (frames_left c.loop-here.here)
    (frames_left c.loop-here.there) (frames_left c.next_outside-frame.new.self) (frames_left c.next_outside-other.new.self) _ _ _ _ c.as_slice-known.ensures.value
    (c.are_none.ensures.none c.if-are_none.true) c.loop-here.invariant c.next_outside-frame.ensures.next c.next_outside-other.ensures.next

pub loop-here-smaller : goal.loop-here-smaller
loop-here-smaller c =
    fewer_left c.as_slice-known.result.now (frames_left c.loop-here.here)
    (frames_left c.loop-here.there) (frames_left c.next_outside-frame.new.self) (frames_left c.next_outside-other.new.self) _ _ _ _ c.next_outside-frame.ensures.next
    c.next_outside-other.ensures.next (c.are_none.ensures.some c.if-are_none.false _ _)

pub loop-here-preserved : goal.loop-here-preserved
loop-here-preserved c =
    step_on c.as_slice-known.result.now c.loop-here.roots.items c.note_pair.new.roots.items (timed c.args.run.now.instants) (timed c.args.base.now.instants)
    (frames_left c.loop-here.here) (frames_left c.loop-here.there) (frames_left c.next_outside-frame.new.self) (frames_left c.next_outside-other.new.self) _ _ _ _ _ _
    c.as_slice-known.ensures.value c.time.ensures c.time-in-loop-here.ensures c.loop-here.invariant c.next_outside-frame.ensures.next c.next_outside-other.ensures.next c.in_ok-note_pair.ensures
