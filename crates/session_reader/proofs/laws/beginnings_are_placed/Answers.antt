use Rattle.session_reader.proofs.PlacedBeginnings.{are_placed}
use Rattle.session_reader.proofs.laws.beginnings_are_placed.Goals as goal

pub returns : goal.returns
returns c = are_placed
