use Rattle.command_line.proofs.WrittenLines.{cut_words_are_lines}
use Rattle.command_line.proofs.laws.cut_words_are_lines.Goals as goal

pub returns : goal.returns
returns c = cut_words_are_lines
