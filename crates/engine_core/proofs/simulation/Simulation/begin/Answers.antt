use Rattle.std.proofs.Common.{refl, ◌∙◌}
use Rattle.engine_core.proofs.StartedSimulation.{stands_first}
use Rattle.engine_core.proofs.simulation.Simulation.begin.Goals as goal

pub begin-requires : goal.begin-requires
begin-requires c = rw c.get.ensures c.requires.plan

pub returns : goal.returns
returns c =
    stands_first c.args.model.now c.args.plan.now c.in_ok-plan.plan c.args.bound c.new-2.result
    (record { time = c.zero-time.result; spent = 0; cells = c.in_ok-cells.cells; tasks = c.in_ok-tasks.tasks }) c.in_ok-plan.ensures
    c.new-2.ensures c.zero-time.ensures refl (c.in_ok-cells.ensures ∙ c.in_ok-initial.ensures.value) (rw c.get.ensures at c.in_ok-tasks.ensures.table) c.in_ok-tasks.ensures.in_step c.in_ok-tasks.ensures.kept
