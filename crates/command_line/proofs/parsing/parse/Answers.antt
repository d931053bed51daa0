use Rattle.command_line.proofs.Taken.{given_of, refused, taken}
use Rattle.command_line.proofs.parsing.parse.Goals as goal

pub returns-clause-taken : goal.returns-clause-taken
returns-clause-taken c = taken _ _ _ c.in_ok-command.ensures c.try_get_matches_from.ensures.kinds

pub returns-clause-given : goal.returns-clause-given
returns-clause-given c = given_of _ _ _ c.in_ok-command.ensures c.try_get_matches_from.ensures.matches

pub returns-clause-refused : goal.returns-clause-refused
returns-clause-refused c = refused _ _ _ c.in_ok-command.ensures c.try_get_matches_from.ensures.kinds
