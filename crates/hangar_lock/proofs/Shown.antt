-- Locks and passes as contracts see them, and what is inside.
use Rattle.std.proofs.Common.{◌≡◌, ◌+◌, ◌<◌, ◌≤◌, ◌^◌, Bool, true, false, length, nat_le, if◌then◌else◌, ap, ◌∙◌, sym, subst, arith}
use Rattle.atomic_table.specs.Seated.{TableId}
use Rattle.hangar_core.specs.declared.workspaces.Workspace.{Workspace}
use Rattle.hangar_core.specs.Journals.{Entries}
use Rattle.hangar_core.specs.ValidWorkspaces.{CountedWorkspace}
use Rattle.hangar_lock.specs.declared.views.View.{View}
use Rattle.hangar_lock.specs.Passes.{lock_view, LockView, PassView}
use Rattle.hangar_lock.specs.Pasts.{IsPast}
use Rattle.hangar_lock.specs.Resting.{IsResting, pass_view}
use Rattle.hangar_lock.specs.Steps.{Seated}
use Rattle.hangar_lock.specs.Views.{joining}
use Rattle.hangar_lock.proofs.Places.{has_number_left}

same_lock : (id table : TableId) (view : View) (opened : CountedWorkspace) (pass : PassView) (lock : LockView) →
    pass_view id view ≡ pass → lock_view table opened ≡ lock → pass.lock ≡ lock → lock_view id view.opened ≡ lock_view table opened
same_lock id table view opened pass lock shown lock_shown own = ap (λ (p : PassView). p.lock) shown ∙ own ∙ sym lock_shown

pub same_table : (id table : TableId) (view : View) (opened : CountedWorkspace) (pass : PassView) (lock : LockView) →
    pass_view id view ≡ pass → lock_view table opened ≡ lock → pass.lock ≡ lock → id ≡ table
same_table id table view opened pass lock shown lock_shown own =
    ap (λ (l : LockView). l.id) (same_lock id table view opened pass lock shown lock_shown own)

pub same_opened : (id table : TableId) (view : View) (opened : CountedWorkspace) (pass : PassView) (lock : LockView) →
    pass_view id view ≡ pass → lock_view table opened ≡ lock → pass.lock ≡ lock → view.opened ≡ opened
same_opened id table view opened pass lock shown lock_shown own =
    ap (λ (l : LockView). l.opened) (same_lock id table view opened pass lock shown lock_shown own)

pub few_split : (id : TableId) (view : View) (pass : PassView) → pass_view id view ≡ pass → pass.split < 4_294_967_295 → view.split + 2 ≤ 2 ^ 32
few_split id view pass shown few = let same : view.split ≡ pass.split = ap (λ (p : PassView). p.split) shown in omega (arith, same, few)

-- ---- a pass that took another one in

longer_past : (opened : Workspace) (seen other : Entries) → IsPast opened seen → IsPast opened other → (b : Bool) → IsPast opened (if b then other else seen)
longer_past opened seen other one two true = two
longer_past opened seen other one two false = one

pub joined_rests : (me after : Seated) (other : View) → IsResting me → IsPast other.opened.workspace other.seen → other.opened ≡ me.0.opened →
    after ≡ (joining me.0 other, me.1) → IsResting after
joined_rests me after other rests past same is = subst IsResting (sym is) record {
  idle = (rests.idle.0, rests.idle.1, rests.idle.2, (rests.idle.3.0, has_number_left me.0.stands other.stands rests.idle.3.0 rests.idle.3.1));
  past = longer_past me.0.opened.workspace me.0.seen other.seen rests.past (subst (λ (w : CountedWorkspace). IsPast w.workspace other.seen) same past)
      (nat_le (length me.0.seen) (length other.seen));
}
