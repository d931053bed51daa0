-- No line feed is left to be passed.
use Rattle.std.proofs.Common.{◌∙◌, drop, sym, ap}
use Rattle.explain.specs.Lines.{behind_lines}
use Rattle.explain.proofs.LineSteps.{no_lines}
use Rattle.explain.proofs.lines.behind_lines.Goals as goal

pub returns-then-left-eq0 : goal.returns-then-left-eq0
returns-then-left-eq0 c =
    c.split_at.ensures.back
    ∙ sym (no_lines (drop c.loop-i.i c.args.bytes.now))
    ∙ ap (λ n. behind_lines n (drop c.loop-i.i c.args.bytes.now)) (sym c.if-left-eq0.true)
    ∙ c.loop-i.invariant
