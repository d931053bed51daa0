use Rattle.command_line.proofs.WrittenLines.{order_makes_no_difference}
use Rattle.command_line.proofs.laws.order_makes_no_difference.Goals as goal

pub returns : goal.returns
returns c = order_makes_no_difference
