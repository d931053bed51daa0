use Rattle.std.proofs.Common.{List, Option, ap, sym, subst, length}
use Rattle.profiles.specs.declared.sampling.Profile.{Profile}
use Rattle.constraints.specs.Sources.{AreProfiles}
use Rattle.constraints.proofs.Pushing.{profiles_none, profiles_more, count_more}
use Rattle.constraints.proofs.sources.profiles_read.Goals as goal

pub loop-number-init : goal.loop-number-init
loop-number-init c = (
  ap (λ (l : List (Option Profile)). length l) c.new-made.ensures,
  subst (AreProfiles c.args.model.now c.args.run.now) (sym c.new-made.ensures) (profiles_none c.args.model.now c.args.run.now),
)

pub loop-number-preserved : goal.loop-number-preserved
loop-number-preserved c = (
  count_more _ _ _ _ c.loop-number.invariant.0 c.in_ok-push.ensures.pushed,
  profiles_more c.args.model.now c.args.run.now _ _ c.in_ok-one.one c.loop-number.number c.loop-number.invariant.1 c.loop-number.invariant.0 c.in_ok-one.ensures c.in_ok-push.ensures.pushed,
)
