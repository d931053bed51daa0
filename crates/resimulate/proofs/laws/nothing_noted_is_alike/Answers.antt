use Rattle.resimulate.proofs.Noted.{alike, rest_taken}
use Rattle.resimulate.proofs.laws.nothing_noted_is_alike.Goals as goal

pub returns-clause-alike : goal.returns-clause-alike
returns-clause-alike c = alike c.reached_states_are_of_the_model.ensures c.what_has_ended_may_be_left_out.ensures.paths

pub returns-clause-rest : goal.returns-clause-rest
returns-clause-rest c = rest_taken c.reached_states_are_of_the_model.ensures c.what_has_ended_may_be_left_out.ensures.paths c.rest_of_old_run_is_taken_over.ensures.settled
