use Rattle.history_store.proofs.Learning.{learnt_come, learnt_stay, model_stays}
use Rattle.history_store.proofs.laws.what_is_learnt_is_held.Goals as goal

pub returns-clause-model : goal.returns-clause-model
returns-clause-model c = model_stays

pub returns-clause-stay : goal.returns-clause-stay
returns-clause-stay c = learnt_stay c.what_is_taken_in_is_held.ensures.stay

pub returns-clause-no_others : goal.returns-clause-no_others
returns-clause-no_others c = learnt_come c.what_is_taken_in_is_held.ensures.no_others
