use Rattle.record_book.proofs.Holding.{held_stay, no_others, none_twice, taken_are_held}
use Rattle.record_book.proofs.laws.what_is_taken_in_is_held.Goals as goal

pub returns-clause-taken : goal.returns-clause-taken
returns-clause-taken c = taken_are_held

pub returns-clause-stay : goal.returns-clause-stay
returns-clause-stay c = held_stay

pub returns-clause-no_others : goal.returns-clause-no_others
returns-clause-no_others c = no_others

pub returns-clause-once : goal.returns-clause-once
returns-clause-once c = none_twice
