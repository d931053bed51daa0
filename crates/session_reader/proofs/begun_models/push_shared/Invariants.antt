use Rattle.std.proofs.Common.{◌≡◌, ◌++◌, take}
use Rattle.session_reader.proofs.begun_models.push_shared.Given as goal

-- behind the first models stand as many as were passed
abbrev pub invariant-loop-model : goal.invariant-loop-model
invariant-loop-model l = l.models ≡ l.initial.models ++ take l.model-index l.others
