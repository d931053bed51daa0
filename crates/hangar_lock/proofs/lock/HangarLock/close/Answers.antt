use Rattle.std.proofs.Common.{◌≡◌, Some, None, Option, sym, ap, ◌∙◌, subst}
use Rattle.hangar_lock.specs.declared.desk.Desk.{Desk}
use Rattle.hangar_lock.specs.Desks.{IsDesk}
use Rattle.hangar_lock.specs.Passes.{IsWhole, LockView, PassView}
use Rattle.hangar_lock.specs.Places.{HasPlace, StartsWith}
use Rattle.hangar_lock.proofs.Close.{closes}
use Rattle.hangar_lock.proofs.Places.{IsAt, none_some}
use Rattle.hangar_lock.proofs.lock.HangarLock.close.Goals as goal

abbrev value_or : Desk → Option Desk → Desk
value_or d None = d
value_or d (Some e) = e

one_desk : (x : Option Desk) (a b : Desk) → x ≡ Some a → x ≡ Some b → a ≡ b
one_desk x a b p q = ap (value_or a) (sym p ∙ q)

pub unreachable-requires : goal.unreachable-requires
unreachable-requires c =
    let whole = subst IsWhole (sym c.pass.view_is) c.requires.whole in
    let k = closes _ _ c.pass.inside.seat.me.0 _ _ c.take-slot.result c.close_with-closed.ensures.values.2 c.pass.invariant.idle.1 whole c.take-slot.ensures.value in
    none_some k.desk (sym c.in-None.is ∙ k.is)

pub returns-clause-seen : goal.returns-clause-seen
returns-clause-seen c =
    let whole = subst IsWhole (sym c.pass.view_is) c.requires.whole in
    let k = closes _ _ c.pass.inside.seat.me.0 _ _ c.take-slot.result c.close_with-closed.ensures.values.2 c.pass.invariant.idle.1 whole c.take-slot.ensures.value in
    subst (λ (pass : PassView). StartsWith c.in-Some.field-0.journal pass.seen) c.pass.view_is
    (subst (λ (desk : Desk). StartsWith desk.journal c.pass.inside.seat.me.0.seen) (one_desk _ k.desk c.in-Some.field-0 k.is c.in-Some.is) k.seen)

pub returns-clause-hangar : goal.returns-clause-hangar
returns-clause-hangar c =
    let whole = subst IsWhole (sym c.pass.view_is) c.requires.whole in
    let k = closes _ _ c.pass.inside.seat.me.0 _ _ c.take-slot.result c.close_with-closed.ensures.values.2 c.pass.invariant.idle.1 whole c.take-slot.ensures.value in
    (subst (IsDesk c.args.self.opened) (one_desk _ k.desk c.in-Some.field-0 k.is c.in-Some.is)
    (subst (λ (lock : LockView). IsDesk lock.opened k.desk) c.self.view_is k.is_desk)).workspace

pub returns-clause-past : goal.returns-clause-past
returns-clause-past c =
    let whole = subst IsWhole (sym c.pass.view_is) c.requires.whole in
    let k = closes _ _ c.pass.inside.seat.me.0 _ _ c.take-slot.result c.close_with-closed.ensures.values.2 c.pass.invariant.idle.1 whole c.take-slot.ensures.value in
    (subst (IsDesk c.args.self.opened) (one_desk _ k.desk c.in-Some.field-0 k.is c.in-Some.is)
    (subst (λ (lock : LockView). IsDesk lock.opened k.desk) c.self.view_is k.is_desk)).past

pub returns-clause-right : goal.returns-clause-right
returns-clause-right c place told has =
    let whole = subst IsWhole (sym c.pass.view_is) c.requires.whole in
    let k = closes _ _ c.pass.inside.seat.me.0 _ _ c.take-slot.result c.close_with-closed.ensures.values.2 c.pass.invariant.idle.1 whole c.take-slot.ensures.value in
    subst (λ (desk : Desk). IsAt desk.journal place told) (one_desk _ k.desk c.in-Some.field-0 k.is c.in-Some.is)
    (k.back place told (subst (λ (pass : PassView). HasPlace pass.mine place told) (sym c.pass.view_is) has))

pub returns-clause-all : goal.returns-clause-all
returns-clause-all c place told at =
    let whole = subst IsWhole (sym c.pass.view_is) c.requires.whole in
    let k = closes _ _ c.pass.inside.seat.me.0 _ _ c.take-slot.result c.close_with-closed.ensures.values.2 c.pass.invariant.idle.1 whole c.take-slot.ensures.value in
    subst (λ (pass : PassView). HasPlace pass.mine place told) c.pass.view_is
    (k.forth place told (subst (λ (desk : Desk). IsAt desk.journal place told) (sym (one_desk _ k.desk c.in-Some.field-0 k.is c.in-Some.is)) at))
