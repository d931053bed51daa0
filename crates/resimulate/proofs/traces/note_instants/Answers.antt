use Rattle.std.proofs.Common.{arith, List, subst}
use Rattle.run_data.specs.TaskFrames.{Frame}
use Rattle.run_data.specs.declared.runs.Instant.{Instant}
use Rattle.run_data.specs.laws.TracedTasks.{timed_batches}
use Rattle.resimulate.specs.Origins.{is_asked}
use Rattle.resimulate.specs.Traces.{TakesIn}
use Rattle.run_data.specs.laws.TracedTasks.{timed_instants}
use Rattle.resimulate.proofs.TaskTraces.{all_taken, instants_next}
use Rattle.resimulate.proofs.traces.note_instants.Goals as goal

pub loop-instant-preserved : goal.loop-instant-preserved
loop-instant-preserved c =
    instants_next (is_asked c.args.all c.args.roots.now.keys) _ _ _ c.loop-instant.instant-index c.args.instants.now c.instant-item.result c.loop-instant-test.true c.instant-item.is c.loop-instant.invariant
    (subst (λ (instant : Instant). TakesIn (is_asked c.args.all c.args.roots.now.keys) (timed_batches instant.time instant.batches) c.loop-instant.traces.entries c.note_batches.new.traces.entries) c.get-instant.ensures
    (subst (λ (batches : List (List Frame)). TakesIn (is_asked c.args.all c.args.roots.now.keys) (timed_batches c.get-instant.result.now.time batches) c.loop-instant.traces.entries c.note_batches.new.traces.entries) c.as_slice.ensures
    c.in_ok-note_batches.ensures))

pub returns : goal.returns
returns c =
    all_taken (is_asked c.args.all c.args.roots.now.keys) (timed_instants) c.args.instants.now c.loop-instant.instant-index _ _ (let past = c.loop-instant-test.false in omega (arith, past)) c.loop-instant.invariant
