use Rattle.std.proofs.Common.{◌≡◌, length, arith}
use Rattle.effect_cells.proofs.ReadFlags.{one_more_term, done_with_terms}
use Rattle.effect_cells.proofs.read_cells.flag_terms.Goals as goal

pub loop-term-preserved : goal.loop-term-preserved
loop-term-preserved c =
    one_more_term c.as_slice-term-items.result.now c.loop-term.term-index _ c.loop-term.flags c.flag_operand.new.flags _ c.loop-term-test.true c.flag_operand.ensures c.loop-term.invariant

pub returns : goal.returns
returns c =
    let last : c.loop-term.term-index ≡ length c.as_slice-term-items.result.now = omega arith in
    done_with_terms c.as_slice-term-items.result.now c.loop-term.flags _ c.loop-term.term-index last c.loop-term.invariant
