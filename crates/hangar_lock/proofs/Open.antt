-- The table at the start.
use Rattle.std.proofs.Common.{◌≡◌, inl, ℕ, zero, suc, ◌<◌, false, List, [], ◌∷◌, Some, Option, sym, refl, ap, ◌∙◌, subst, ⊎_elim, arith, true≢false}
use mathlib.Core.Option.{some, some-injective, some-ne-none}
use lib.ListN.{get_elem?}
use Rattle.atomic_table.specs.Table.{opening}
use Rattle.hangar_core.specs.ValidWorkspaces.{CountedWorkspace}
use Rattle.hangar_lock.specs.declared.desk.Desk.{Desk}
use Rattle.hangar_lock.specs.declared.views.View.{View}
use Rattle.hangar_lock.specs.Desks.{IsDesk}
use Rattle.hangar_lock.specs.Views.{first_view}
use Rattle.hangar_lock.specs.OneJournal.{Knows, HasOneJournal}
use Rattle.hangar_lock.proofs.Places.{none_some}

only : (P : View → Type 0) (first : View) → P first → (j : ℕ) (v : View) → get_elem? (first ∷ []) j ≡ some v → P v
only P first h zero v e = subst P (some-injective first v e) h
only P first h (suc j) v e = absurd (some-ne-none v (sym e))

only_index : (first : View) (j : ℕ) (v : View) → get_elem? (first ∷ []) j ≡ some v → j ≡ 0
only_index first zero v e = refl
only_index first (suc j) v e = absurd (some-ne-none v (sym e))

new_desk : (o : CountedWorkspace) → o.accepted ≡ 0 → IsDesk o record { hangar = o; journal = [] }
new_desk o fresh = record {
  past = record { replayed = tt; actions = tt; replies = tt };
  workspace = refl;
  session = record { models = refl; mappings = refl; duration = refl };
  counted = omega (arith, fresh);
}

opens_with : (o : CountedWorkspace) (d : Desk) → d ≡ record { hangar = o; journal = [] } → IsDesk o d → HasOneJournal o (opening (0 ∷ 0 ∷ []) (Some d ∷ []) (first_view o))
opens_with o d is desk = record {
  journal = [];
  owner = λ _. 0;
  passes = 1;
  passes_are = refl;
  owned = λ p e h. absurd (none_some e h);
  drawn = 0;
  turn = 0;
  words = refl;
  count = refl;
  few = omega arith;
  home = some (Some d);
  homes = refl;
  has_home = (ap (λ (z : Desk). z.journal) is, desk, only (λ v. v.inside ≡ false) (first_view o) refl);
  knows = only (Knows o [] (λ _. 0) 1 0 0) (first_view o) record {
    sound = λ p e h. absurd h;
    full = λ p e h num. absurd (none_some e h);
    below = λ n h. ⊎_elim (λ (t : 0 ≡ n). let c : n < 1 = omega arith in c) (λ (t : ⊥). absurd t) h;
    root = λ h. refl;
    others_split = inl refl;
    ticketed = λ k e. absurd (none_some k e);
    opened = λ n h. refl;
    seen = ([], refl);
    ticket = λ k e. absurd (none_some k e);
    inside = λ e. absurd (true≢false (sym e));
  };
  one_owner = λ i j v u k ei ej a b. only_index (first_view o) i v ei ∙ sym (only_index (first_view o) j u ej);
  apart = λ i j v u k ei ej a b. only_index (first_view o) i v ei ∙ sym (only_index (first_view o) j u ej);
}

pub opens : (o : CountedWorkspace) (slots : List (Option Desk)) (d : Desk) → slots ≡ Some d ∷ [] → d ≡ record { hangar = o; journal = [] } → o.accepted ≡ 0 →
    HasOneJournal o (opening (0 ∷ 0 ∷ []) slots (first_view o))
opens o slots d e is fresh =
    subst (λ (l : List (Option Desk)). HasOneJournal o (opening (0 ∷ 0 ∷ []) l (first_view o))) (sym e)
    (opens_with o d is (subst (IsDesk o) (sym is) (new_desk o fresh)))
