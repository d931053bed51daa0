use Rattle.std.proofs.Common.{◌≡◌, [], ◌∷◌, Some, None, ap, sym, ◌∙◌, subst, refl}
use Rattle.hangar_core.specs.ValidWorkspaces.{CountedWorkspace}
use Rattle.hangar_lock.specs.declared.desk.Desk.{Desk}
use Rattle.hangar_lock.specs.Desks.{IsDesk}
use Rattle.hangar_lock.specs.Steps.{Seated, CanLeave}
use Rattle.hangar_lock.specs.Places.{StartsWith}
use Rattle.hangar_lock.specs.Views.{leaving_with}
use Rattle.hangar_core.specs.Journals.{Entries}
use Rattle.hangar_lock.proofs.PassOn.{one_desk}
use Rattle.hangar_lock.proofs.Working.{desk_action, desk_acted, journal_grows, worked}
use Rattle.hangar_lock.proofs.turnstile.Turnstile.work.Goals as goal

-- what was taken is what the pass had
taken_desk : (me : Seated) (d : Desk) (taken : Desk) → CanLeave me d → me.1 ≡ (0, Some taken) ∷ [] → d ≡ taken
taken_desk me d taken leaves has = one_desk d taken (sym leaves.has ∙ has)

taken_is : (me : Seated) (d : Desk) (taken : Desk) → CanLeave me d → me.1 ≡ (0, Some taken) ∷ [] → IsDesk me.0.opened taken
taken_is me d taken leaves has = subst (IsDesk me.0.opened) (taken_desk me d taken leaves has) leaves.is_desk

taken_seen : (me : Seated) (d : Desk) (taken : Desk) → CanLeave me d → me.0.seen ≡ d.journal → me.1 ≡ (0, Some taken) ∷ [] → me.0.seen ≡ taken.journal
taken_seen me d taken leaves seen has = seen ∙ ap (λ (z : Desk). z.journal) (taken_desk me d taken leaves has)

pub act-told-requires-clause-kept : goal.act-told-requires-clause-kept
act-told-requires-clause-kept c = (taken_is _ _ _ c.requires.inside.1 c.take-desk.ensures.taken.0).counted

pub act-told-requires-clause-action : goal.act-told-requires-clause-action
act-told-requires-clause-action c =
    desk_action _ _ c.args.entry (taken_is _ _ _ c.requires.inside.1 c.take-desk.ensures.taken.0) c.requires.action

-- what is put back may be left
leaves_with : (before put : Seated) (d d' taken : Desk) → CanLeave before d → before.0.seen ≡ d.journal → before.1 ≡ (0, Some taken) ∷ [] →
    put ≡ (before.0, (0, Some d') ∷ []) → StartsWith d'.journal taken.journal → IsDesk before.0.opened d' → CanLeave put d'
leaves_with before put d d' taken leaves seen has is grows desk = record {
  has = ap (λ (m : Seated). m.1) is;
  inside = ap (λ (m : Seated). m.0.inside) is ∙ leaves.inside;
  more = subst (λ (entries : Entries). StartsWith d'.journal entries) (sym (ap (λ (m : Seated). m.0.seen) is ∙ taken_seen before d taken leaves seen has)) grows;
  is_desk = subst (λ (w : CountedWorkspace). IsDesk w d') (sym (ap (λ (m : Seated). m.0.opened) is)) desk;
}

put_is : (before taken put : Seated) (d' : Desk) → taken ≡ (before.0, (0, None) ∷ []) → put ≡ (taken.0, (0, Some d') ∷ []) → put ≡ (before.0, (0, Some d') ∷ [])
put_is before taken put d' first second = second ∙ ap (λ (m : Seated). (m.0, (0, Some d') ∷ [])) first

pub pass_on-requires-clause-leaves : goal.pass_on-requires-clause-leaves
pass_on-requires-clause-leaves c =
    let leaves = c.requires.inside.1 in
    let has = c.take-desk.ensures.taken.0 in
    let acted = c.act-told.ensures in
    let desk = taken_is _ _ _ leaves has in (
      c.act-told.new.self,
      leaves_with c.args.seat.now.me _ _ c.act-told.new.self c.take-desk.result leaves c.requires.inside.2 has
          (put_is c.args.seat.now.me _ _ c.act-told.new.self c.take-desk.ensures.taken.1 c.put.ensures.put)
          (journal_grows _ _ c.args.entry desk c.requires.action c.act-told.new.self _ acted.noted acted.unchanged)
          (desk_acted _ _ c.args.entry desk c.requires.action c.act-told.new.self _ acted.stepped acted.noted acted.unchanged acted.kept),
    )

pub returns-clause-worked : goal.returns-clause-worked
returns-clause-worked c =
    let leaves = c.requires.inside.1 in
    let has = c.take-desk.ensures.taken.0 in
    let acted = c.act-told.ensures in
    let desk = taken_is _ _ _ leaves has in
    let put = put_is c.args.seat.now.me _ _ c.act-told.new.self c.take-desk.ensures.taken.1 c.put.ensures.put in
    let left = c.pass_on.ensures.left c.act-told.new.self (ap (λ (m : Seated). m.1) put) in
    worked _ _ c.args.entry desk c.requires.action c.act-told.new.self c.args.seat.now.me _ _ refl (taken_seen _ _ _ leaves c.requires.inside.2 has)
    acted.stepped acted.noted acted.placed (left ∙ ap (λ (m : Seated). (leaving_with m.0 c.act-told.new.self.journal, [])) put)
