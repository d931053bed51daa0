use Rattle.std.proofs.Common.{◌≡◌, map, take}
use Rattle.session_run.proofs.missions.shared_models.Given as goal

abbrev pub invariant-loop-part : goal.invariant-loop-part
invariant-loop-part l = l.models ≡ map (λ part. part.model) (take l.part-index l.parts)
