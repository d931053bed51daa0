use Rattle.std.proofs.Common.{drop}
use Rattle.profiles.specs.Touches.{IsReadBy}
use Rattle.profiles.specs.Watching.{IsModerate}
use Rattle.profiles.proofs.LineWalks.{LineWalk}
use Rattle.profiles.proofs.Positions.{StandsBefore}
use Rattle.profiles.proofs.linear.line_profile.Given as goal

-- the instants before that of this position are walked over
abbrev pub invariant-loop-position : goal.invariant-loop-position
invariant-loop-position l = record {
  walk : StandsBefore (λ rest. LineWalk l.model l.run l.form rest l.watched.items l.line l.segments) (IsReadBy l.form.terms) l.instants (drop l.position-index l.position-items);
  small : IsModerate l.line;
}
