-- So many pieces have room for all jobs, so that no more are made, and each has enough of them.
use Rattle.std.proofs.Common.{◌≤◌, ◌<◌, ◌*◌, arith, subst, sym}
use Rattle.std.proofs.Math.Nat.{mul_comm}
use Rattle.std.proofs.lemmas.Grind.{div_ceil_times}
use Rattle.batch_run.specs.Pieces.{least_jobs}
use Rattle.batch_run.proofs.Chunks.{no_more, large}
use Rattle.batch_run.proofs.pieces.piece_size.Goals as goal
use Rattle.batch_run.proofs.pieces.piece_size.Goals.{After-div_ceil}

room : (c : After-div_ceil) → c.args.jobs ≤ c.div_ceil.result * c.min-count.result
room c =
    let some : 0 < c.min-count.result = omega (arith, c.if-count-lt2.false) in
    subst (λ size. c.args.jobs ≤ size * c.min-count.result) (sym c.div_ceil.ensures) (div_ceil_times c.args.jobs c.min-count.result some).0

enough : (c : After-div_ceil) → least_jobs ≤ c.div_ceil.result
enough c =
    let count = c.min-count.result in
    let some : 0 < count = omega (arith, c.if-count-lt2.false) in
    let full : count * least_jobs ≤ c.args.jobs = omega (arith, c.min-count.ensures) in
    large least_jobs c.args.jobs c.div_ceil.result count some full (room c)

pub returns-clause-large : goal.returns-clause-large
returns-clause-large c = enough c

pub returns-clause-few : goal.returns-clause-few
returns-clause-few c =
    let size = c.div_ceil.result in
    let count = c.min-count.result in
    let under : c.args.jobs ≤ count * size = omega (arith, room c, mul_comm count size) in
    let made = no_more c.args.jobs size count (omega (arith, enough c)) under in
    omega (arith, made, c.min-count.ensures)
