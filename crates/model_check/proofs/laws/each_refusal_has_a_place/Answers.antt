use Rattle.model_check.proofs.Placed.Models.{each_placed}
use Rattle.model_check.proofs.laws.each_refusal_has_a_place.Goals as goal

pub returns : goal.returns
returns c = each_placed
