use Rattle.std.proofs.Common.{◌∙◌, sym, arith}
use Rattle.std.proofs.lemmas.Bool.{false≢true}
use Rattle.fitting.proofs.Reading.{agrees_at, agrees_more}
use Rattle.fitting.proofs.frames.agree.Goals as goal

pub returns-then-not-has_state : goal.returns-then-not-has_state
returns-then-not-has_state c = (
  λ no. absurd (false≢true no),
  λ agrees.
      absurd
      (false≢true
      (sym c.if-not-has_state.true
      ∙ c.has_state.ensures.1
      (agrees_at c.args.view.now c.args.reads.now c.loop-cell.cell-index c.loop-cell-item.result (omega (arith, c.loop-cell-test.true)) c.loop-cell-item.is agrees))),
)

pub loop-cell-preserved : goal.loop-cell-preserved
loop-cell-preserved c =
    agrees_more c.args.view.now c.args.reads.now c.loop-cell.cell-index c.loop-cell-item.result (omega (arith, c.loop-cell-test.true)) c.loop-cell-item.is c.loop-cell.invariant
    (c.has_state.ensures.0 c.if-not-has_state.false)
