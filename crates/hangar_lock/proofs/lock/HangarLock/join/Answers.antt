use Rattle.std.proofs.Common.{rules, ◌∙◌, sym}
use Rattle.hangar_lock.proofs.Join.{joins}
use Rattle.hangar_lock.proofs.Shown.{joined_rests, same_opened, same_table}
use Rattle.hangar_lock.proofs.lock.HangarLock.join.Goals as goal

pub join_seat-requires : goal.join_seat-requires
join_seat-requires c =
    let one = c.pass.invariant.idle in
    let two = c.other.invariant.idle in (
      same_table _ _ c.pass.inside.seat.me.0 _ _ _ c.pass.view_is c.self.view_is c.requires.own,
      same_table _ _ c.other.inside.seat.me.0 _ _ _ c.other.view_is c.self.view_is c.requires.other,
      two.2,
      search rules,
      joins _ _ _ _ _ one.0 one.1 two.0 two.1 one.3,
    )

pub invariant_of-pass : goal.invariant_of-pass
invariant_of-pass c =
    let mine = same_opened _ _ c.pass.inside.seat.me.0 _ _ _ c.pass.view_is c.self.view_is c.requires.own in
    let others = same_opened _ _ c.other.inside.seat.me.0 _ _ _ c.other.view_is c.self.view_is c.requires.other in
    joined_rests c.pass.inside.seat.me _ c.other.inside.seat.me.0 c.pass.invariant c.other.invariant.past (others ∙ sym mine) c.join_seat.ensures.2
