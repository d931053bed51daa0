use Rattle.std.proofs.Common.{◌≡◌, drop}
use Rattle.session_reader.specs.CheckedModels.{AreValid, models_answer}
use Rattle.session_reader.proofs.Joined.{joined_on}
use Rattle.session_reader.proofs.models.models.Given as goal

-- those so far, and those behind
abbrev pub invariant-loop-one : goal.invariant-loop-one
invariant-loop-one l = (models_answer l.raw ≡ joined_on l.models (models_answer (drop l.one-index l.raw))) × AreValid l.models
