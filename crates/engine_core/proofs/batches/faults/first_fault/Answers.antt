-- The first that has faulted is found, and those before it have not.
use Rattle.std.proofs.Common.{◌∙◌, Some, None, ap, sym}
use Rattle.std.proofs.lemmas.List.{at_drop_all}
use Rattle.run_data.specs.Batches.{fault_in}
use Rattle.engine_core.specs.BatchOrders.{first_fault}
use Rattle.engine_core.proofs.BatchFaults.{fault_iteration}
use Rattle.engine_core.proofs.batches.faults.first_fault.Goals as goal

pub returns-in-loop-frame : goal.returns-in-loop-frame
returns-in-loop-frame c =
    (λ i. Some ((c.in_ok-path.ensures ∙ c.path.ensures) i, c.in-Some.fault))
    ∙ sym (fault_iteration c.args.frames.now c.loop-frame.frame-index c.frame-item.result (Some c.in-Some.fault) c.loop-frame-test.true c.frame-item.is (sym c.in-Some.is ∙ c.fault_in.ensures ∙ ap fault_in c.status.ensures))
    ∙ c.loop-frame.invariant

pub loop-frame-preserved : goal.loop-frame-preserved
loop-frame-preserved c =
    sym (fault_iteration c.args.frames.now c.loop-frame.frame-index c.frame-item.result None c.loop-frame-test.true c.frame-item.is (sym c.in_default.is ∙ c.fault_in.ensures ∙ ap fault_in c.status.ensures)) ∙ c.loop-frame.invariant

pub returns : goal.returns
returns c = sym (at_drop_all first_fault c.args.frames.now c.loop-frame.frame-index c.loop-frame-test.false) ∙ c.loop-frame.invariant
