use Rattle.std.proofs.Common.{◌<◌, ◌^◌, ℤ, FitsSigned, unsigned_abs, of_z, ap, arith}
use Rattle.std.specs.Int.{w128}
use Rattle.std.specs.Int.RustNames.{int_div}
use Rattle.std.proofs.lemmas.Int.{quot_is, rem_is, to_z-of_z, fits_signed_from_abs}
use Rattle.windows.proofs.Lines.{near, crosses_rising, crosses_falling}
use Rattle.windows.proofs.crossing.cross.Goals as goal

-- the quotient is no further from 0 than the number, and so fits
quotient_fits : (away rate : ℤ) → unsigned_abs away < 2 ^ 121 → FitsSigned w128 (int_div away rate)
quotient_fits away rate small = fits_signed_from_abs w128 (int_div away rate) (let close = near away rate (2 ^ 121) small in omega arith)

pub returns-then-rate-gt0-clause-order : goal.returns-then-rate-gt0-clause-order
returns-then-rate-gt0-clause-order c = λ step.
    let fits = quotient_fits c.args.away c.args.rate c.requires in
    crosses_rising c.args.rate c.args.away _ c.cmp-there.result (quot_is w128 c.args.away c.args.rate c.ranges.away c.ranges.rate fits)
    (rw (rem_is w128 c.args.away c.args.rate c.ranges.away c.ranges.rate) at c.cmp-there.ensures)
    (rw (to_z-of_z w128 c.args.rate c.ranges.rate) at c.if-rate-gt0.true) step

pub returns-clause-near : goal.returns-clause-near
returns-clause-near c =
    rw (quot_is w128 c.args.away c.args.rate c.ranges.away c.ranges.rate (quotient_fits c.args.away c.args.rate c.requires))
    (near c.args.away c.args.rate (2 ^ 121) c.requires)

pub returns-clause-order : goal.returns-clause-order
returns-clause-order c = λ step.
    let fits = quotient_fits c.args.away c.args.rate c.requires in
    crosses_falling c.args.rate c.args.away _ c.cmp-there.result (quot_is w128 c.args.away c.args.rate c.ranges.away c.ranges.rate fits)
    (rw (rem_is w128 c.args.away c.args.rate c.ranges.away c.ranges.rate) at c.cmp-there.ensures)
    (rw (to_z-of_z w128 c.args.rate c.ranges.rate) at c.if-rate-gt0.false) (λ level. c.if-rate-eq0.false (ap (of_z w128) level)) step
