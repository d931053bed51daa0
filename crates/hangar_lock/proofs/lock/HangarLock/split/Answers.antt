use Rattle.std.proofs.Common.{rules, sym, subst, inl, refl, ◌+◌}
use Rattle.hangar_lock.specs.Passes.{PassView}
use Rattle.hangar_lock.specs.Places.{HasPassNumber}
use Rattle.hangar_lock.specs.Resting.{IsResting}
use Rattle.hangar_lock.proofs.Shown.{same_table, few_split}
use Rattle.hangar_lock.proofs.Split.{splits}
use Rattle.hangar_lock.proofs.lock.HangarLock.split.Goals as goal

pub split_seat-seat-requires : goal.split_seat-seat-requires
split_seat-seat-requires c = (
  same_table _ _ c.pass.inside.seat.me.0 _ _ _ c.pass.view_is c.self.view_is c.requires.own,
  search rules,
  splits _ _ _ (subst (λ (pass : PassView). HasPassNumber pass.stands 0) (sym c.pass.view_is) c.requires.root) (few_split _ c.pass.inside.seat.me.0 _ c.pass.view_is c.requires.few),
)

pub invariant_of-result : goal.invariant_of-result
invariant_of-result c = subst IsResting (sym c.split_seat-seat.ensures.4) record {
  idle = (refl, refl, refl, (c.pass.inside.seat.me.0.split + 1, inl refl));
  past = c.pass.invariant.past;
}
