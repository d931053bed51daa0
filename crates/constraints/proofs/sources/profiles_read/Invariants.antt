use Rattle.std.proofs.Common.{◌≡◌, length}
use Rattle.constraints.specs.Sources.{AreProfiles}
use Rattle.constraints.proofs.sources.profiles_read.Given as goal

-- the profiles so far, by number
abbrev pub invariant-loop-number : goal.invariant-loop-number
invariant-loop-number l = (length l.made ≡ l.number) × AreProfiles l.model l.run l.made
