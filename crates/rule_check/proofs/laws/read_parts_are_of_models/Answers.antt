use Rattle.rule_check.proofs.ReadLaws.{named_stands, read_type_is, read_window_is, read_literal_is}
use Rattle.rule_check.proofs.laws.read_parts_are_of_models.Goals as goal

pub returns-clause-named : goal.returns-clause-named
returns-clause-named c = named_stands

pub returns-clause-types : goal.returns-clause-types
returns-clause-types c = read_type_is

pub returns-clause-windows : goal.returns-clause-windows
returns-clause-windows c = read_window_is

pub returns-clause-literals : goal.returns-clause-literals
returns-clause-literals c = read_literal_is
