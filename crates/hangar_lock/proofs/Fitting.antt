-- The passes of all clients together settle that the journal fits.
use Rattle.std.proofs.Common.{◌≡◌, ℕ, zero, suc, ◌<◌, ◌≤◌, List, [], ◌∷◌, ◌++◌, length, map, Some, inl, inr, refl, sym, ap, ◌∙◌, subst, arith, slice_get}
use Rattle.std.specs.List.{filter}
use Rattle.std.proofs.lemmas.Bool.{eqb-true, eq-eqb}
use Rattle.commands.specs.declared.commands.Command.{Command}
use Rattle.hangar_core.specs.declared.workspaces.Workspace.{Workspace}
use Rattle.hangar_core.specs.Fits.{commands_of, Fits, is_of_client, IsWorkOf, Meanings}
use Rattle.hangar_core.specs.Journals.{Entries, IsReplay}
use Rattle.hangar_lock.specs.Passes.{PassView}
use Rattle.hangar_lock.specs.Places.{HasPlace, HaveAllOf, Places, StandIn, ToldEntry}
use Rattle.hangar_lock.specs.ClientEntries.{own_entry}
use Rattle.hangar_lock.specs.laws.JoinedPasses.{all_mine, AreWorked, HasWorkedAlone}
use Rattle.hangar_lock.proofs.Growing.{rises_to}
use Rattle.hangar_lock.proofs.Picking.{has_by, picked, Rises, work_by}
use Rattle.hangar_lock.proofs.Places.{has_place_cases, has_place_left, has_place_right, none_some, same_value}

rises_lower : (low lower : ℕ) (mine : Places) → lower ≤ low → Rises low mine → Rises lower mine
rises_lower low lower [] h r = tt
rises_lower low lower (m ∷ mine) h r = let a = r.0 in (omega (arith, a, h), r.1)

-- what a client's work gained
record Gains (meanings : Meanings) (client : ℕ) (commands : List Command) (mine : Places) : Type 0 where
  rises : Rises 0 mine
  work : IsWorkOf meanings client 0 commands (map own_entry mine)

gains_of : (meanings : Meanings) (client : ℕ) (commands : List Command) (pass : PassView) → HasWorkedAlone meanings client commands pass → Gains meanings client commands pass.mine
gains_of meanings client commands pass alone =
    let h = alone.worked in
    let k : pass.mine ≡ h.gained = h.mine ∙ ap (λ (l : Places). l ++ h.gained) alone.fresh in
    subst (Gains meanings client commands) (sym k) (record {
      rises = rises_lower (length alone.start.seen) 0 h.gained (omega arith) (rises_to (length alone.start.seen) (length pass.seen) h.gained h.rises);
      work = h.work;
    })

-- ---- one pass among all

into_all : (passes : List PassView) (i : ℕ) (pass : PassView) (p : ℕ) (x : ToldEntry) → slice_get passes i ≡ Some pass → HasPlace pass.mine p x → HasPlace (all_mine passes) p x
into_all [] i pass p x at h = absurd (none_some pass at)
into_all (m ∷ passes) zero pass p x at h = has_place_left m.mine (all_mine passes) p x (subst (λ (z : PassView). HasPlace z.mine p x) (sym (same_value m pass at)) h)
into_all (m ∷ passes) (suc i) pass p x at h = has_place_right m.mine (all_mine passes) p x (into_all passes i pass p x at h)

from_all : (passes : List PassView) (p : ℕ) (x : ToldEntry) → HasPlace (all_mine passes) p x → (i : ℕ) × (pass : PassView) × (slice_get passes i ≡ Some pass) × HasPlace pass.mine p x
from_all [] p x h = absurd h
from_all (m ∷ passes) p x h = elim (has_place_cases m.mine (all_mine passes) p x h) [
  | inl k ↦ (0, m, refl, k)
  | inr k ↦ let e = from_all passes p x k in (suc e.0, e.1, e.2, e.3)
]

within : (passes : List PassView) (i : ℕ) (pass : PassView) → slice_get passes i ≡ Some pass → i < length passes
within [] i pass at = absurd (none_some pass at)
within (m ∷ passes) zero pass at = omega arith
within (m ∷ passes) (suc i) pass at = omega (arith, within passes i pass at)

there : (passes : List PassView) (i : ℕ) → i < length passes → (pass : PassView) × (slice_get passes i ≡ Some pass)
there [] i h = absurd (omega arith)
there (m ∷ passes) zero h = (m, refl)
there (m ∷ passes) (suc i) h = there passes i (omega (arith, h))

module _ (meanings : Meanings) (clients : List (List Command)) (passes : List PassView) (journal : Entries) (worked : AreWorked meanings clients passes)
    (right : (p : ℕ) (x : ToldEntry) → HasPlace (all_mine passes) p x → slice_get journal p ≡ Some x)
    (all : (p : ℕ) (x : ToldEntry) → slice_get journal p ≡ Some x → HasPlace (all_mine passes) p x) where
  gains : (i : ℕ) (pass : PassView) → slice_get passes i ≡ Some pass → Gains meanings i (commands_of i clients) pass.mine
  gains i pass at = gains_of meanings i (commands_of i clients) pass (worked.each i pass at)

  by : (i : ℕ) (pass : PassView) → slice_get passes i ≡ Some pass → (p : ℕ) (x : ToldEntry) → HasPlace pass.mine p x → x.0.client ≡ i
  by i pass at p x h = has_by i pass.mine p x (work_by meanings i 0 (commands_of i clients) (map own_entry pass.mine) (gains i pass at).work) h

  same_pass : (i j : ℕ) (pass other : PassView) → slice_get passes i ≡ Some pass → slice_get passes j ≡ Some other → i ≡ j → other ≡ pass
  same_pass i j pass other at there is = same_value other pass (sym there ∙ ap (slice_get passes) (sym is) ∙ at)

  -- the entries of a client's pass are those of the journal that are the client's
  entries_are_own : (i : ℕ) (pass : PassView) → slice_get passes i ≡ Some pass → map own_entry pass.mine ≡ filter (is_of_client i) journal
  entries_are_own i pass at =
      picked (is_of_client i) journal [] pass.mine (gains i pass at).rises
      (λ p x h. right p x (into_all passes i pass p x at h))
      (λ p x h. eq-eqb x.0.client i (by i pass at p x h))
      (λ p x low g c. let h = from_all passes p x (all p x g) in
      let is : i ≡ h.0 = sym (eqb-true x.0.client i c) ∙ by h.0 h.1 h.2 p x h.3 in
      subst (λ (z : PassView). HasPlace z.mine p x) (same_pass i h.0 pass h.1 at h.2 is) h.3)

  work_of : (i : ℕ) (pass : PassView) → slice_get passes i ≡ Some pass → IsWorkOf meanings i 0 (commands_of i clients) (filter (is_of_client i) journal)
  work_of i pass at = subst (IsWorkOf meanings i 0 (commands_of i clients)) (entries_are_own i pass at) (gains i pass at).work

  fits_where : (opened : Workspace) → IsReplay opened journal → Fits meanings opened clients journal
  fits_where opened replayed = record {
    replayed = replayed;
    works = λ i below. let pass = there passes i (let n = worked.count in omega (arith, below, n)) in work_of i pass.0 pass.1;
    no_other = λ p x g.
        let h = from_all passes p x (all p x g) in
        let low = within passes h.0 h.1 h.2 in
        let n = worked.count in
        subst (λ (z : ℕ). z < length clients) (sym (by h.0 h.1 h.2 p x h.3)) (omega (arith, low, n));
  }

pub entries_are : (meanings : Meanings) (clients : List (List Command)) (passes : List PassView) (journal : Entries) →
    AreWorked meanings clients passes → StandIn (all_mine passes) journal → HaveAllOf (all_mine passes) journal →
    (client : ℕ) (pass : PassView) → slice_get passes client ≡ Some pass → map own_entry pass.mine ≡ filter (is_of_client client) journal
entries_are meanings clients passes journal worked right all = entries_are_own meanings clients passes journal worked right all

pub fits : (meanings : Meanings) (opened : Workspace) (clients : List (List Command)) (passes : List PassView) (journal : Entries) →
    AreWorked meanings clients passes → IsReplay opened journal →
    StandIn (all_mine passes) journal → HaveAllOf (all_mine passes) journal → Fits meanings opened clients journal
fits meanings opened clients passes journal worked replayed right all = fits_where meanings clients passes journal worked right all opened replayed
