use Rattle.std.proofs.Common.{◌≡◌, ℕ, ◌∷◌, sym, subst}
use Rattle.run_data.specs.Spans.{timed}
use Rattle.span_reuse.specs.Left.{frames_left}
use Rattle.span_reuse.specs.Roots.{frames_passing, comes_from_one}
use Rattle.span_reuse.proofs.Frames.{one_taken}
use Rattle.span_reuse.proofs.gathering.instants_of.Goals as goal

pub loop-frame-preserved : goal.loop-frame-preserved
loop-frame-preserved c =
    let cursor = c.next.new.self in
    one_taken (comes_from_one c.args.roots.now) c.time.result c.in-Some.frame.now (timed c.put_among.new.made) (timed c.loop-frame.made) (frames_left c.loop-frame.cursor)
    (frames_left cursor) (frames_passing (comes_from_one c.args.roots.now) (timed c.args.instants.now)) c.in_ok-put_among.ensures
    (subst (λ (t : ℕ). frames_left c.loop-frame.cursor ≡ (t, c.in-Some.frame.now) ∷ frames_left cursor) (sym c.time.ensures) c.in-Some.ensures)
    c.loop-frame.invariant
