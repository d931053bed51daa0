use Rattle.std.proofs.Common.{◌≡◌, ◌++◌, drop}
use Rattle.session_reader.specs.Sessions.{model_parts as model_parts_by}
use Rattle.session_reader.proofs.sessions.model_parts.Given as goal

abbrev pub invariant-loop-number : goal.invariant-loop-number
invariant-loop-number l = l.parts ++ model_parts_by l.sections l.number (drop l.number l.models) ≡ model_parts_by l.sections 0 l.models
