use Rattle.std.proofs.Common.{◌≡◌, drop}
use Rattle.aerie_base.specs.expressions.Readings.{cell_of}
use Rattle.profiles.proofs.Positions.{StandsBefore}
use Rattle.profiles.proofs.ValueWalks.{ValueWalk}
use Rattle.profiles.proofs.discrete.value_profile.Given as goal

-- the instants before that of this position are walked over
abbrev pub invariant-loop-position : goal.invariant-loop-position
invariant-loop-position l =
    StandsBefore (λ rest. ValueWalk l.model l.run l.read rest l.showing l.segments) (λ k. k ≡ cell_of l.read) l.instants (drop l.position-index l.position-items)
