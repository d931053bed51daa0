-- The turn is passed on.
use Rattle.std.proofs.Common.{◌≡◌, ◌≢◌, ℕ, zero, suc, ◌+◌, ◌%◌, ◌^◌, ◌<◌, ◌≤◌, Bool, true, false, List, [], ◌∷◌, ◌++◌, length, drop, Some, None, Option, set, sym, refl, ap, ◌∙◌, subst, ⊎_elim, arith, length-set, true≢false, get_or, append-nil}
use Rattle.std.proofs.Math.Seq.{drop-append_seam}
use mathlib.Core.Option.{Option as Maybe, some, none}
use mathlib.Core.Logic.{dite}
use native.Mathlib.Decide.{dec_le}
use lib.ListN.{get_elem?}
use Rattle.atomic_table.specs.Table.{Step, gives, Allows}
use Rattle.atomic_table.proofs.Lists.{at_set}
use Rattle.hangar_core.specs.Journals.{Entries}
use Rattle.hangar_core.specs.ValidWorkspaces.{CountedWorkspace}
use Rattle.hangar_lock.specs.declared.desk.Desk.{Desk}
use Rattle.hangar_lock.specs.declared.views.View.{View}
use Rattle.hangar_lock.specs.Desks.{IsDesk}
use Rattle.hangar_lock.specs.Places.{HasPassNumber, HasPlace, placed_from, Places, StartsWith, ToldEntry}
use Rattle.hangar_lock.specs.Views.{leaving_with}
use Rattle.hangar_lock.specs.OneJournal.{has_ticket, holders, HasHome, Knows, HasOneJournal}
use Rattle.hangar_lock.specs.Steps.{Seated, PassesOn}
use Rattle.hangar_lock.proofs.Places.{none_some, bump, same_value, IsAt, is_at_below, is_at_left, is_at_front, placed_at, at_placed, has_place_left, has_place_right, has_place_cases, further}
use Rattle.hangar_lock.proofs.AllViews.{St, holders_set, all_hold, stay_alone, still_alone, HoldsTicketNo, StandsFor}

-- f below l, and n from l on
switch : ℕ → (ℕ → ℕ) → ℕ → ℕ → ℕ
switch zero f n p = n
switch (suc l) f n zero = f zero
switch (suc l) f n (suc p) = switch l (λ q. f (suc q)) n p

switch_old : (l : ℕ) (f : ℕ → ℕ) (n p : ℕ) → p < l → switch l f n p ≡ f p
unfolding switch
switch_old zero f n p h = absurd (omega arith)
switch_old (suc l) f n zero h = refl
switch_old (suc l) f n (suc p) h = switch_old l (λ q. f (suc q)) n p (omega arith)

switch_new : (l : ℕ) (f : ℕ → ℕ) (n p : ℕ) → l ≤ p → switch l f n p ≡ n
unfolding switch
switch_new zero f n p h = refl
switch_new (suc l) f n zero h = absurd (omega arith)
switch_new (suc l) f n (suc p) h = switch_new l (λ q. f (suc q)) n p (omega arith)

first_slot : Option Desk → List (ℕ × Option Desk) → Option Desk
first_slot d [] = d
first_slot d (p ∷ ps) = p.1

pub one_desk : (d d' : Desk) → ◌≡◌ {A = List (ℕ × Option Desk)} ((0, Some d) ∷ []) ((0, Some d') ∷ []) → d ≡ d'
unfolding first_slot
one_desk d d' e = same_value d d' (ap (first_slot (Some d)) e)

-- the slot is out while a pass is inside
is_out : (o : CountedWorkspace) (s : St) (r : HasOneJournal o s) (id : ℕ) (v : View) → get_elem? s.views id ≡ some v → v.inside ≡ true → (h : Maybe (Option Desk)) → HasHome o r.journal s.views h → h ≡ none
is_out o s r id v at within none has = refl
is_out o s r id v at within (some None) has = absurd has
is_out o s r id v at within (some (Some d)) has = absurd (true≢false (sym within ∙ has.2 id v at))

-- no other pass is inside
alone_inside : (o : CountedWorkspace) (s : St) (r : HasOneJournal o s) (id : ℕ) (v : View) → get_elem? s.views id ≡ some v → v.inside ≡ true
    → (j : ℕ) (u : View) → j ≢ id → get_elem? s.views j ≡ some u → (b : Bool) → u.inside ≡ b → b ≡ false
alone_inside o s r id v at within j u other there false e = refl
alone_inside o s r id v at within j u other there true e =
    absurd (other (r.apart j id u v r.turn there at ((r.knows j u there).inside e).0 ((r.knows id v at).inside within).0))

passes : (o : CountedWorkspace) (slots id : ℕ) (v : View) (d : Desk) (st : Step (Option Desk)) → v.inside ≡ true → StartsWith d.journal v.seen → IsDesk v.opened d
    → Allows (HasOneJournal o) slots id (v, (0, Some d) ∷ []) 1 (λ n. (n + 1) % 2 ^ 64) (PassesOn st (v, (0, Some d) ∷ []))
passes o slots id v d st within more desk s r len at lt =
    let w : View = leaving_with v d.journal in
    let know = r.knows id v at in
    let own = know.inside within in
    let number = know.ticketed r.turn own.0 in
    let of_it : v.opened ≡ o = know.opened number.0 number.1 in
    let added : Entries = more.0 in
    let L : ℕ = length r.journal in
    let grows : d.journal ≡ r.journal ++ added = more.1 ∙ ap (λ (l : Entries). l ++ added) own.1 in
    let tail : drop (length v.seen) d.journal ≡ added = ap (drop (length v.seen)) more.1 ∙ drop-append_seam v.seen added in
    let mine_is : w.mine ≡ v.mine ++ placed_from L added =
    ap (λ (l : Entries). v.mine ++ placed_from (length v.seen) l) tail ∙ ap (λ (l : Entries). v.mine ++ placed_from (length l) added) own.1 in
    let owner : ℕ → ℕ = switch L r.owner number.0 in
    let old : (p : ℕ) → p < L → owner p ≡ r.owner p = λ p h. switch_old L r.owner number.0 p h in
    let new : (p : ℕ) → L ≤ p → owner p ≡ number.0 = λ p h. switch_new L r.owner number.0 p h in
    let stays_at : (p : ℕ) (e : ToldEntry) → IsAt r.journal p e → IsAt d.journal p e = λ p e h. subst (λ (l : Entries). IsAt l p e) (sym grows) (is_at_left r.journal added p e h) in
    let was_at : (p : ℕ) (e : ToldEntry) → p < L → IsAt d.journal p e → IsAt r.journal p e = λ p e l h. is_at_front r.journal added p e l (subst (λ (l : Entries). IsAt l p e) grows h) in
    let out = is_out o s r id v at within r.home r.has_home in
    let held : holders (set s.views id w) + has_ticket v.ticket ≡ holders s.views + 0 = holders_set s.views id v w at in
    let before : has_ticket v.ticket ≡ 1 = ap has_ticket own.0 in
    let count = r.count in (
      w,
      gives,
      tt,
      record {
        journal = d.journal;
        owner = owner;
        passes = r.passes;
        passes_are = length-set s.views id w ∙ r.passes_are;
        owned = λ p e h. dite (dec_le (suc p) L)
            (λ lt. subst (λ (z : ℕ). z < r.passes) (sym (old p lt)) (r.owned p e (was_at p e lt h)))
            (λ ge. subst (λ (z : ℕ). z < r.passes) (sym (new p (omega arith))) (know.below number.0 number.1));
        drawn = r.drawn;
        turn = r.turn + 1;
        words = ap (λ (l : List ℕ). set l 1 ((get_or l 1 0 + 1) % 2 ^ 64)) r.words ∙ ap (λ (n : ℕ). (r.drawn % 2 ^ 64) ∷ n ∷ []) (bump r.turn);
        count = omega arith;
        few = r.few;
        home = some (Some d);
        homes = ap (λ (l : List (Maybe (Option Desk))). set l 0 (some (Some d))) r.homes;
        has_home = (
          refl,
          subst (λ (z : CountedWorkspace). IsDesk z d) of_it desk,
          λ j u e. ⊎_elim (λ (t : (j ≡ id) × (w ≡ u)). ap (λ (z : View). z.inside) (sym t.1))
              (λ (t : (j ≢ id) × (get_elem? s.views j ≡ some u)). alone_inside o s r id v at within j u t.0 t.1 u.inside refl) (at_set s.views id j w u e),
        );
        knows = all_hold (Knows o d.journal owner r.passes r.drawn (r.turn + 1)) s.views id w
            record {
              sound = λ p e h. ⊎_elim
                  (λ (t : HasPlace v.mine p e). let a = know.sound p e t in (stays_at p e a.0, subst (HasPassNumber v.stands) (sym (old p (is_at_below r.journal p e a.0))) a.1))
                  (λ (t : HasPlace (placed_from L added) p e). let a = placed_at r.journal added L p e refl t in (subst (λ (l : Entries). IsAt l p e) (sym grows) a.1, subst (HasPassNumber v.stands) (sym (new p a.0)) number.1))
                  (has_place_cases v.mine (placed_from L added) p e (subst (λ (l : Places). HasPlace l p e) mine_is h));
              full = λ p e there num. subst (λ (l : Places). HasPlace l p e) (sym mine_is) (dite (dec_le (suc p) L)
                  (λ lt. has_place_left v.mine (placed_from L added) p e (know.full p e (was_at p e lt there) (subst (HasPassNumber v.stands) (old p lt) num)))
                  (λ ge. has_place_right v.mine (placed_from L added) p e (at_placed r.journal added L p e refl (omega arith) (subst (λ (l : Entries). IsAt l p e) grows there))));
              below = know.below;
              root = know.root;
              others_split = know.others_split;
              ticketed = λ k e. absurd (none_some k e);
              opened = know.opened;
              seen = ([], sym (append-nil d.journal));
              ticket = λ k e. absurd (none_some k e);
              inside = λ e. absurd (true≢false (sym e));
            }
            (λ j u other there. let k = r.knows j u there in record {
              sound = λ p e h. let a = k.sound p e h in (stays_at p e a.0, subst (HasPassNumber u.stands) (sym (old p (is_at_below r.journal p e a.0))) a.1);
              full = λ p e place num. dite (dec_le (suc p) L)
                  (λ lt. k.full p e (was_at p e lt place) (subst (HasPassNumber u.stands) (old p lt) num))
                  (λ ge. absurd (other (r.one_owner j id u v number.0 there at (subst (HasPassNumber u.stands) (new p (omega arith)) num) number.1)));
              below = k.below;
              root = k.root;
              others_split = k.others_split;
              ticketed = k.ticketed;
              opened = k.opened;
              seen = further r.journal u.seen d.journal k.seen (added, grows);
              ticket = λ n e.
                  let bounds = k.ticket n e in
                  let apart : n ≢ r.turn = (λ is. other (r.apart j id u v n there at e (own.0 ∙ ap Some (sym is)))) in omega arith;
              inside = λ e. absurd (true≢false (sym e ∙ alone_inside o s r id v at within j u other there u.inside refl));
            });
        one_owner = still_alone StandsFor s.views id v w r.one_owner at (λ k h. h);
        apart = stay_alone HoldsTicketNo s.views id w r.apart (λ j u n other there e f. none_some n e);
      },
      (λ d' e.
          let same : d ≡ d' = one_desk d d' e in
          ap (λ (z : Desk). (leaving_with v z.journal, [])) same),
    )

pub passes_with : (o : CountedWorkspace) (slots id : ℕ) (me : Seated) (d : Desk) (st : Step (Option Desk)) → me.0.inside ≡ true → StartsWith d.journal me.0.seen → IsDesk me.0.opened d → me.1 ≡ (0, Some d) ∷ []
    → Allows (HasOneJournal o) slots id me 1 (λ n. (n + 1) % 2 ^ 64) (PassesOn st me)
passes_with o slots id me d st within more desk has =
    subst (λ (c : List (ℕ × Option Desk)). Allows (HasOneJournal o) slots id (me.0, c) 1 (λ n. (n + 1) % 2 ^ 64) (PassesOn st (me.0, c))) (sym has) (passes o slots id me.0 d st within more desk)
