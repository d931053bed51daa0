use Rattle.command_line.proofs.WrittenLines.{lines_are_cut}
use Rattle.command_line.proofs.laws.lines_are_cut.Goals as goal

pub returns : goal.returns
returns c = lines_are_cut
