use Rattle.run_data.proofs.StatePlaces.{states_stand, places_few}
use Rattle.run_data.proofs.laws.steps.states_stand_in_bodies.Goals as goal

pub returns : goal.returns
returns c = record { places = states_stand; few = places_few }
