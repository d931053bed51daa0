use Rattle.std.proofs.Common.{◌≡◌, ap, ◌∙◌, ◌++◌, ◌∷◌, [], Some, List, Option, sym, subst}
use Rattle.hangar_core.specs.Journals.{Entries}
use Rattle.hangar_core.specs.ValidWorkspaces.{CountedWorkspace}
use Rattle.hangar_lock.specs.declared.desk.Desk.{Desk}
use Rattle.hangar_lock.proofs.Open.{opens}
use Rattle.hangar_lock.proofs.lock.HangarLock.open.Goals as goal

first_desk : (hangar opened : CountedWorkspace) (journal : Entries) → opened ≡ hangar → journal ≡ [] →
    ◌≡◌ {A = Desk} record { hangar = hangar; journal = journal } record { hangar = opened; journal = [] }
first_desk hangar opened journal same empty =
    ap (λ (entries : Entries). record { hangar = hangar; journal = entries }) empty
    ∙ ap (λ (w : CountedWorkspace). record { hangar = w; journal = [] }) (sym same)

pub new-requires-2 : goal.new-requires-2
new-requires-2 c =
    opens c.of-opened.result.value c.push.new.self.items (record { hangar = c.args.hangar; journal = c.new.result })
    (c.in_ok-push.ensures.items ∙ ap (λ (l : List (Option Desk)). l ++ Some (record { hangar = c.args.hangar; journal = c.new.result }) ∷ []) c.new-slots.ensures.items)
    (first_desk c.args.hangar c.of-opened.result.value c.new.result c.of-opened.ensures c.new.ensures)
    (subst (λ (w : CountedWorkspace). w.accepted ≡ 0) (sym c.of-opened.ensures) c.requires.fresh)
