use Rattle.std.proofs.Common.{◌∙◌, arith}
use Rattle.constraints.proofs.SumTerms.{constant_handed, term_at, term_count, sum_none, sum_more, sum_so_far, sum_all}
use Rattle.constraints.proofs.comparing.sum_segments.Goals as goal

pub loop-term-init : goal.loop-term-init
loop-term-init c = (
  omega arith,
  sum_none c.args.sources.now.model.now c.args.sources.now.run.now c.args.sum.now _ c.requires.sum c.in_ok-made.ensures.form
      (λ t below. c.in_ok-made.ensures.values t below ∙ constant_handed c.args.sources.now.model.now c.args.sum.now c.requires.sum),
)

pub with_term-requires-clause-term : goal.with_term-requires-clause-term
with_term-requires-clause-term c =
    term_at c.args.sources.now.model.now c.args.sum.now c.as_slice-terms.result.now c.loop-term.term-index c.term-item.result c.requires.sum c.as_slice-terms.ensures c.loop-term-test.true c.term-item.is

pub with_term-requires-clause-small : goal.with_term-requires-clause-small
with_term-requires-clause-small c =
    sum_so_far c.args.sources.now.model.now c.args.sources.now.run.now c.args.sum.now c.as_slice-terms.result.now c.loop-term.term-index _ c.requires.sum c.as_slice-terms.ensures c.loop-term-test.true c.loop-term.invariant.1

pub loop-term-preserved : goal.loop-term-preserved
loop-term-preserved c = (
  omega (arith, c.loop-term-test.true),
  sum_more c.args.sources.now.model.now c.args.sources.now.run.now c.as_slice-terms.result.now c.args.sum.now.constant c.loop-term.term-index c.term-item.result _ c.in_ok-made-2.made c.loop-term-test.true c.term-item.is
      c.loop-term.invariant.1 c.in_ok-made-2.ensures.form c.in_ok-made-2.ensures.values c.in_ok-made-2.ensures.small,
)

pub returns : goal.returns
returns c =
    sum_all c.args.sources.now.model.now c.args.sources.now.run.now c.args.sum.now c.as_slice-terms.result.now c.loop-term.term-index _ c.as_slice-terms.ensures c.loop-term.invariant.0
    (term_count c.args.sources.now.model.now c.args.sum.now c.requires.sum) c.loop-term-test.false c.loop-term.invariant.1
