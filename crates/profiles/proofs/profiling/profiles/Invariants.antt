-- Those of the resources so far.
use Rattle.std.proofs.Common.{◌≡◌, take}
use Rattle.profiles.specs.Profiles.{all_profiles}
use Rattle.profiles.proofs.profiling.profiles.Given as goal

abbrev pub invariant-loop-named : goal.invariant-loop-named
invariant-loop-named l = l.profiles ≡ take l.named-index (all_profiles l.model l.run)
