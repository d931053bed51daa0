use Rattle.parting.proofs.LiveExchanges.{live_is_exchanged, pruned_is_exchanged}
use Rattle.parting.proofs.laws.live_tasks_are_exchanged.Goals as goal

pub returns : goal.returns
returns c = record {
  live = live_is_exchanged c.reached_states_are_of_the_model.ensures;
  pruned = pruned_is_exchanged c.reached_states_are_of_the_model.ensures;
}
