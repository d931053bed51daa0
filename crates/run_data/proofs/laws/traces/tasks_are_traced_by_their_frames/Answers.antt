use Rattle.run_data.proofs.TracedTasks.{tasks_are_traced, instants_are_settled}
use Rattle.run_data.proofs.UnbegunDirectives.{unbegun_are_as_planned}
use Rattle.run_data.proofs.laws.traces.tasks_are_traced_by_their_frames.Goals as goal

pub returns : goal.returns
returns c = record { traced = tasks_are_traced; settled = instants_are_settled; unbegun = unbegun_are_as_planned }
