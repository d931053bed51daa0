-- A number is split off.
use Rattle.std.proofs.Common.{◌≡◌, ◌≢◌, inl, inr, ℕ, ◌+◌, ◌^◌, ◌<◌, ◌≤◌, List, [], ◌∷◌, ◌++◌, length, Some, None, Option, set, sym, refl, ap, ◌∙◌, subst, ⊎_elim, arith, length-set, length-append}
use mathlib.Core.Option.{Option as Maybe, some, none, some-injective}
use mathlib.Core.Logic.{dite}
use native.Mathlib.Decide.{ℕ_discrete}
use lib.ListN.{get_elem?}
use Rattle.atomic_table.specs.Table.{Splits}
use Rattle.atomic_table.proofs.Lists.{at_set, set_else}
use Rattle.hangar_core.specs.Journals.{Entries}
use Rattle.hangar_core.specs.ValidWorkspaces.{CountedWorkspace}
use Rattle.hangar_lock.specs.declared.desk.Desk.{Desk}
use Rattle.hangar_lock.specs.declared.views.View.{View}
use Rattle.hangar_lock.specs.Places.{HasPassNumber}
use Rattle.hangar_lock.specs.Views.{splitting, split_off}
use Rattle.hangar_lock.specs.OneJournal.{has_ticket, holders, HasHome, Knows, HasOneJournal}
use Rattle.hangar_lock.proofs.AllViews.{holders_set, holders_snoc, here, at_end, all_hold, still_alone, end_alone, HoldsTicketNo, StandsFor, home_more}

pub splits : (o : CountedWorkspace) (id : ℕ) (v : View) → HasPassNumber v.stands 0 → v.split + 2 ≤ 2 ^ 32 → Splits (HasOneJournal o) id v (splitting v) (split_off v)
splits o id v zero_here room s r at =
    let left : View = splitting v in
    let right : View = split_off v in
    let know = r.knows id v at in
    let passes_is : v.split + 1 ≡ r.passes = know.root zero_here in
    let held : holders (set s.views id left) + has_ticket v.ticket ≡ holders s.views + has_ticket v.ticket = holders_set s.views id v left at in
    let both : holders (set s.views id left ++ right ∷ []) ≡ holders (set s.views id left) + 0 = holders_snoc (set s.views id left) right in
    let count = r.count in let are = r.passes_are in
    let long : length (set s.views id left ++ right ∷ []) ≡ r.passes + 1 = length-append (set s.views id left) (right ∷ []) ∙ (ap (λ n. n + 1) (length-set s.views id left) ∙ ap (λ n. n + 1) are) in
    let mine : Knows o r.journal r.owner (r.passes + 1) r.drawn r.turn left = record {
      sound = know.sound;
      full = know.full;
      below = λ n h. let b = know.below n h in omega arith;
      root = λ h. omega arith;
      others_split = inr zero_here;
      ticketed = know.ticketed;
      opened = know.opened;
      seen = know.seen;
      ticket = know.ticket;
      inside = know.inside;
    } in
    let given : Knows o r.journal r.owner (r.passes + 1) r.drawn r.turn right = record {
      sound = λ p e h. absurd h;
      full = λ p e h num. absurd (⊎_elim (λ (t : v.split + 1 ≡ r.owner p). let b = r.owned p e h in let c : ⊥ = omega arith in c) (λ (t : ⊥). t) num);
      below = λ n h. ⊎_elim (λ (t : v.split + 1 ≡ n). let c : n < r.passes + 1 = omega arith in c) (λ (t : ⊥). absurd t) h;
      root = λ h. absurd (⊎_elim (λ (t : v.split + 1 ≡ 0). let c : ⊥ = omega arith in c) (λ (t : ⊥). t) h);
      others_split = inl refl;
      ticketed = λ k e. cc;
      opened = λ n h. know.opened 0 zero_here;
      seen = know.seen;
      ticket = λ k e. cc;
      inside = λ e. cc;
    } in
    let others : (j : ℕ) (u : View) → get_elem? (set s.views id left) j ≡ some u → Knows o r.journal r.owner (r.passes + 1) r.drawn r.turn u =
    all_hold (Knows o r.journal r.owner (r.passes + 1) r.drawn r.turn) s.views id left mine (λ j u other there. let k = r.knows j u there in record {
      sound = k.sound;
      full = k.full;
      below = λ n h. let b = k.below n h in omega arith;
      root = λ h. absurd (other (r.one_owner j id u v 0 there at h zero_here));
      others_split = k.others_split;
      ticketed = k.ticketed;
      opened = k.opened;
      seen = k.seen;
      ticket = k.ticket;
      inside = k.inside;
    }) in record {
      journal = r.journal;
      owner = r.owner;
      passes = r.passes + 1;
      passes_are = long;
      owned = λ p e h. let b = r.owned p e h in omega arith;
      drawn = r.drawn;
      turn = r.turn;
      words = r.words;
      count = omega arith;
      few = omega arith;
      home = r.home;
      homes = r.homes;
      has_home = home_more o r.journal (set s.views id left) right r.home refl (home_keeps o r.journal s.views id v left r.home at refl r.has_home);
      knows = λ j u e. ⊎_elim (λ (t : get_elem? (set s.views id left) j ≡ some u). others j u t)
          (λ (t : (j ≡ length (set s.views id left)) × (right ≡ u)). subst (Knows o r.journal r.owner (r.passes + 1) r.drawn r.turn) t.1 given) (at_end (set s.views id left) right u j e);
      one_owner = end_alone StandsFor (set s.views id left) right (still_alone StandsFor s.views id v left r.one_owner at (λ k h. h))
          (λ j u k there a b. ⊎_elim (λ (t : v.split + 1 ≡ k). let most = (all_hold (λ (z : View). (n : ℕ) → HasPassNumber z.stands n → n < r.passes) s.views id left know.below (λ i x other e. (r.knows i x e).below)) j u there k b in let c : ⊥ = omega arith in c) (λ (t : ⊥). t) a);
      apart = end_alone HoldsTicketNo (set s.views id left) right (still_alone HoldsTicketNo s.views id v left r.apart at (λ k h. h)) (λ j u k there a b. cc);
    }
  where
    home_keeps : (o : CountedWorkspace) (journal : Entries) (vs : List View) (me : ℕ) (v w : View) (h : Maybe (Option Desk)) → get_elem? vs me ≡ some v → w.inside ≡ v.inside → HasHome o journal vs h → HasHome o journal (set vs me w) h
    home_keeps o journal vs me v w none at same has =
        dite (ℕ_discrete has.0 me)
        (λ is. (me, w, here vs me v w at, same ∙ (ap (λ (z : View). z.inside) (some-injective _ _ (sym at ∙ (ap (get_elem? vs) (sym is) ∙ has.2))) ∙ has.3)))
        (λ other. (has.0, has.1, set_else vs me has.0 w other ∙ has.2, has.3))
    home_keeps o journal vs me v w (some None) at same has = has
    home_keeps o journal vs me v w (some (Some d)) at same has = (
      has.0,
      has.1,
      λ j u e. ⊎_elim (λ (t : (j ≡ me) × (w ≡ u)). ap (λ (z : View). z.inside) (sym t.1) ∙ (same ∙ has.2 me v at))
          (λ (t : (j ≢ me) × (get_elem? vs j ≡ some u)). has.2 j u t.1) (at_set vs me j w u e),
    )
