use Rattle.std.proofs.Common.{refl, arith}
use Rattle.std.proofs.lemmas.Option.{slice_get_read, slice_get_within}
use Rattle.engine_core.proofs.WholeGenerations.{room_more}
use Rattle.engine_core.proofs.batches.generations.have_room.Goals as goal

pub loop-job-init : goal.loop-job-init
loop-job-init c = λ at one less found. absurd (omega (arith, less))

pub loop-job-preserved : goal.loop-job-preserved
loop-job-preserved c =
    room_more c.args.jobs.now c.loop-job.job-index c.job-item.result c.loop-job.invariant c.loop-job-test.true c.job-item.is
    (record { good = rw c.get.ensures at c.children.ensures.path; room = rw c.get.ensures at (rw c.children.ensures.children at c.if-children-ge-CHILD_LIMIT.false) })

pub returns-then-children-ge-CHILD_LIMIT-clause-full : goal.returns-then-children-ge-CHILD_LIMIT-clause-full
returns-then-children-ge-CHILD_LIMIT-clause-full c = λ no room.
    let here = room c.loop-job.job-index c.job-item.result (slice_get_read c.args.jobs.now _ c.loop-job.job-index c.job-item.result refl c.loop-job-test.true c.job-item.is) in
    let less = here.room in
    let most = rw c.get.ensures at (rw c.children.ensures.children at c.if-children-ge-CHILD_LIMIT.true) in
    absurd (omega (arith, less, most))

pub returns-clause-room : goal.returns-clause-room
returns-clause-room c = λ yes at one found.
    let within = slice_get_within c.args.jobs.now at one found in
    c.loop-job.invariant at one (omega (arith, within, c.loop-job-test.false)) found
