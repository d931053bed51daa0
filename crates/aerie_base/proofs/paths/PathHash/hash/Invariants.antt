use Rattle.std.proofs.Common.{◌≡◌}
use Rattle.aerie_base.proofs.HashedPaths.{rest_written}
use Rattle.aerie_base.proofs.paths.PathHash.hash.Given as goal

-- what is left to write comes to the whole
abbrev pub invariant-loop-child : goal.invariant-loop-child
invariant-loop-child g l = rest_written g.H.Hasher.write l.child-items l.child-index l.state ≡ rest_written g.H.Hasher.write l.child-items 0 l.initial.state
