use Rattle.model_reader.proofs.Limited.Models.{within_limits}
use Rattle.model_reader.proofs.laws.models_are_within_limits.Goals as goal

pub returns : goal.returns
returns c = within_limits
