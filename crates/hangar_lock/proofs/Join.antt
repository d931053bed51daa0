-- A pass is taken back.
use Rattle.std.proofs.Common.{◌≡◌, ◌≢◌, ◌⊎◌, inl, inr, ℕ, ◌+◌, false, List, length, None, set, sym, refl, ap, ◌∙◌, subst, ⊎_elim, arith, length-set, true≢false, nat_le}
use mathlib.Core.Option.{some}
use lib.ListN.{get_elem?}
use Rattle.atomic_table.specs.Table.{Joins}
use Rattle.atomic_table.proofs.Lists.{at_set, set_else}
use Rattle.hangar_core.specs.ValidWorkspaces.{CountedWorkspace}
use Rattle.hangar_lock.specs.declared.views.View.{View}
use Rattle.hangar_lock.specs.Places.{HasPassNumber, HasPlace}
use Rattle.hangar_lock.specs.Views.{joining, spent}
use Rattle.hangar_lock.specs.OneJournal.{has_ticket, holders, Knows, HasOneJournal}
use Rattle.hangar_lock.proofs.Places.{none_some, has_place_left, has_place_right, has_place_cases, has_number_left, has_number_right, has_number_cases, longer_starts}
use Rattle.hangar_lock.proofs.AllViews.{St, holders_set, all_hold, Alone, still_alone, HoldsTicketNo, StandsFor, home_stays}

-- each number is one pass's, where the pass id takes in the numbers of the other
two_alone : (o : CountedWorkspace) (s : St) (r : HasOneJournal o s) (id other : ℕ) (v w b : View) → get_elem? s.views id ≡ some v → get_elem? s.views other ≡ some w
    → ((k : ℕ) → HasPassNumber b.stands k → HasPassNumber v.stands k ⊎ HasPassNumber w.stands k) → Alone StandsFor (set (set s.views id b) other spent)
two_alone o s r id other v w b at there from i j x y k ei ej hx hy =
    ⊎_elim (λ (t : (i ≡ other) × (spent ≡ x)). absurd (subst (λ (z : View). HasPassNumber z.stands k) (sym t.1) hx))
    (λ (t : (i ≢ other) × (get_elem? (set s.views id b) i ≡ some x)).
    ⊎_elim (λ (u : (j ≡ other) × (spent ≡ y)). absurd (subst (λ (z : View). HasPassNumber z.stands k) (sym u.1) hy))
    (λ (u : (j ≢ other) × (get_elem? (set s.views id b) j ≡ some y)). inner t.0 u.0 (at_set s.views id i b x t.1) (at_set s.views id j b y u.1))
    (at_set (set s.views id b) other j spent y ej))
    (at_set (set s.views id b) other i spent x ei)
  where
    taken : (m : ℕ) (z : View) → m ≢ other → m ≢ id → get_elem? s.views m ≡ some z → HasPassNumber z.stands k → HasPassNumber b.stands k → ⊥
    taken m z ne ne' e h hb = ⊎_elim (λ (a : HasPassNumber v.stands k). ne' (r.one_owner m id z v k e at h a)) (λ (a : HasPassNumber w.stands k). ne (r.one_owner m other z w k e there h a)) (from k hb)

    inner : i ≢ other → j ≢ other → ((i ≡ id) × (b ≡ x)) ⊎ ((i ≢ id) × (get_elem? s.views i ≡ some x)) → ((j ≡ id) × (b ≡ y)) ⊎ ((j ≢ id) × (get_elem? s.views j ≡ some y)) → i ≡ j
    inner ne ne' (inl t) (inl u) = t.0 ∙ sym u.0
    inner ne ne' (inl t) (inr u) = absurd (taken j y ne' u.0 u.1 hy (subst (λ (z : View). HasPassNumber z.stands k) (sym t.1) hx))
    inner ne ne' (inr t) (inl u) = absurd (taken i x ne t.0 t.1 hx (subst (λ (z : View). HasPassNumber z.stands k) (sym u.1) hy))
    inner ne ne' (inr t) (inr u) = r.one_owner i j x y k t.1 u.1 hx hy

pub joins : (o : CountedWorkspace) (id : ℕ) (v : View) (other : ℕ) (w : View) → v.ticket ≡ None → v.inside ≡ false → w.ticket ≡ None → w.inside ≡ false → ((number : ℕ) × HasPassNumber v.stands number) → Joins (HasOneJournal o) id v other w (joining v w) spent
joins o id v other w v_idle v_out w_idle w_out number s r at apart_ids there =
    let both : View = joining v w in
    let vs : List View = set s.views id both in
    let in_old : get_elem? s.views other ≡ some w = sym (set_else s.views id other both apart_ids) ∙ there in
    let know = r.knows id v at in
    let know_w = r.knows other w in_old in
    let held : holders vs + has_ticket v.ticket ≡ holders s.views + has_ticket v.ticket = holders_set s.views id v both at in
    let held' : holders (set vs other spent) + has_ticket w.ticket ≡ holders vs + 0 = holders_set vs other w spent there in
    let none_held : has_ticket w.ticket ≡ 0 = ap has_ticket w_idle in
    let count = r.count in
    let K : View → Type 0 = Knows o r.journal r.owner r.passes r.drawn r.turn in
    let once : (n : ℕ) → HasPassNumber v.stands n → HasPassNumber w.stands n → ⊥ = λ n a b. apart_ids (r.one_owner other id w v n in_old at b a) in
    let zero_split : HasPassNumber v.stands 0 → w.split ≡ 0 = λ a. ⊎_elim (λ (t : w.split ≡ 0). t) (λ (t : HasPassNumber w.stands 0). absurd (once 0 a t)) know_w.others_split in
    let zero_split' : HasPassNumber w.stands 0 → v.split ≡ 0 = λ a. ⊎_elim (λ (t : v.split ≡ 0). t) (λ (t : HasPassNumber v.stands 0). absurd (once 0 t a)) know.others_split in
    let mine : K both = record {
      sound = λ p e h. ⊎_elim
          (λ (t : HasPlace v.mine p e). let a = know.sound p e t in (a.0, has_number_left v.stands w.stands (r.owner p) a.1))
          (λ (t : HasPlace w.mine p e). let a = know_w.sound p e t in (a.0, has_number_right v.stands w.stands (r.owner p) a.1))
          (has_place_cases v.mine w.mine p e h);
      full = λ p e place num. ⊎_elim
          (λ (t : HasPassNumber v.stands (r.owner p)). has_place_left v.mine w.mine p e (know.full p e place t))
          (λ (t : HasPassNumber w.stands (r.owner p)). has_place_right v.mine w.mine p e (know_w.full p e place t))
          (has_number_cases v.stands w.stands (r.owner p) num);
      below = λ n h. ⊎_elim (λ (t : HasPassNumber v.stands n). know.below n t) (λ (t : HasPassNumber w.stands n). know_w.below n t) (has_number_cases v.stands w.stands n h);
      root = λ h. ⊎_elim
          (λ (t : HasPassNumber v.stands 0). let a = know.root t in let b = zero_split t in let c : (v.split + w.split) + 1 ≡ r.passes = omega arith in c)
          (λ (t : HasPassNumber w.stands 0). let a = know_w.root t in let b = zero_split' t in let c : (v.split + w.split) + 1 ≡ r.passes = omega arith in c)
          (has_number_cases v.stands w.stands 0 h);
      others_split = ⊎_elim
          (λ (a : v.split ≡ 0). ⊎_elim (λ (b : w.split ≡ 0). let c : v.split + w.split ≡ 0 = omega arith in inl c) (λ (b : HasPassNumber w.stands 0). inr (has_number_right v.stands w.stands 0 b)) know_w.others_split)
          (λ (a : HasPassNumber v.stands 0). inr (has_number_left v.stands w.stands 0 a)) know.others_split;
      ticketed = λ k e. absurd (none_some k (sym v_idle ∙ e));
      opened = λ n h. ⊎_elim (λ (t : HasPassNumber v.stands n). know.opened n t)
          (λ (t : HasPassNumber w.stands n). know.opened number.0 number.1) (has_number_cases v.stands w.stands n h);
      seen = longer_starts r.journal v.seen w.seen know.seen know_w.seen (nat_le (length v.seen) (length w.seen));
      ticket = λ k e. absurd (none_some k (sym v_idle ∙ e));
      inside = λ e. absurd (true≢false (sym e ∙ v_out));
    } in
    let gone : K spent = record {
      sound = λ p e h. absurd h;
      full = λ p e place num. absurd num;
      below = λ n h. absurd h;
      root = λ h. absurd h;
      others_split = inl refl;
      ticketed = λ k e. absurd (none_some k e);
      opened = λ n h. absurd h;
      seen = (r.journal, refl);
      ticket = λ k e. absurd (none_some k e);
      inside = λ e. absurd (true≢false (sym e));
    } in record {
      journal = r.journal;
      owner = r.owner;
      passes = r.passes;
      passes_are = length-set vs other spent ∙ (length-set s.views id both ∙ r.passes_are);
      owned = r.owned;
      drawn = r.drawn;
      turn = r.turn;
      words = r.words;
      count = omega arith;
      few = r.few;
      home = r.home;
      homes = r.homes;
      has_home = home_stays o r.journal vs other w spent r.home there w_out refl (home_stays o r.journal s.views id v both r.home at v_out v_out r.has_home);
      knows = all_hold K vs other spent gone (λ j u ne e. all_hold K s.views id both mine (λ i x ne' e'. r.knows i x e') j u e);
      one_owner = two_alone o s r id other v w both at in_old (λ k h. has_number_cases v.stands w.stands k h);
      apart = still_alone HoldsTicketNo vs other w spent (still_alone HoldsTicketNo s.views id v both r.apart at (λ k h. h)) there (λ k h. cc);
    }
