-- What the tokens that are left say, with so many braces closed behind them, is what is looked for.
use Rattle.std.proofs.Common.{◌≡◌, ◌≤◌, ◌+◌}
use Rattle.explain.specs.SyntaxCauses.{open_brace}
use Rattle.explain.proofs.syntax.open_brace.Given as goal

abbrev pub invariant-loop-left : goal.invariant-loop-left
invariant-loop-left l = record {
  few : l.depth + l.left ≤ l.fn.count;
  same : open_brace l.tokens l.depth l.left ≡ open_brace l.tokens 0 l.fn.count;
}

abbrev pub decreases-loop-left : goal.decreases-loop-left
decreases-loop-left l = l.left
