-- A look at the turn.
use Rattle.std.proofs.Common.{◌≡◌, ℕ, ◌+◌, ◌%◌, ◌^◌, ◌<◌, false, List, [], Some, None, Option, set, sym, refl, ap, ◌∙◌, subst, arith, length-set, true≢false, get_or, append-nil}
use mathlib.Core.Option.{Option as Maybe, some, none, some-injective}
use mathlib.Core.Logic.{dite}
use native.Mathlib.Decide.{ℕ_discrete}
use lib.ListN.{get_elem?}
use lib.Seq.{set-get_or}
use Rattle.atomic_table.specs.Table.{Step, keeps, takes, Allows}
use Rattle.atomic_table.proofs.Lists.{set_again, one_turn}
use Rattle.hangar_core.specs.ValidWorkspaces.{CountedWorkspace}
use Rattle.hangar_lock.specs.declared.desk.Desk.{Desk}
use Rattle.hangar_lock.specs.declared.views.View.{View}
use Rattle.hangar_lock.specs.Desks.{IsDesk}
use Rattle.hangar_lock.specs.OneJournal.{has_ticket, holders, HasHome, Knows, HasOneJournal}
use Rattle.hangar_lock.specs.Steps.{Seated, Looks, enters_with}
use Rattle.hangar_lock.proofs.Places.{same_value, further}
use Rattle.hangar_lock.proofs.AllViews.{St, holders_set, holders_le, here, all_hold, still_alone, HoldsTicketNo, StandsFor}

unmoved : (o : CountedWorkspace) (s : St) (r : HasOneJournal o s) (i id : ℕ) (v : View) → get_elem? s.views id ≡ some v
    → HasOneJournal o record { words = set s.words i (get_or s.words i 0); homes = s.homes; views = set s.views id v }
unmoved o s r i id v at =
    subst (λ (ws : List ℕ). HasOneJournal o record { words = ws; homes = s.homes; views = set s.views id v }) (sym (set-get_or s.words i 0))
    (subst (λ (vs : List View). HasOneJournal o record { words = s.words; homes = s.homes; views = vs }) (sym (set_again s.views id v at)) r)

enters : (o : CountedWorkspace) (s : St) (r : HasOneJournal o s) (id k : ℕ) (v : View) (d : Desk) → get_elem? s.views id ≡ some v → v.ticket ≡ Some k → v.inside ≡ false → r.turn ≡ k → r.home ≡ some (Some d) → d.journal ≡ r.journal
    → HasOneJournal o record { words = set s.words 1 (get_or s.words 1 0); homes = set s.homes 0 none; views = set s.views id (enters_with v d) }
enters o s r id k v d at mine out is home same =
    let w : View = enters_with v d in
    let know = r.knows id v at in
    let held : holders (set s.views id w) + has_ticket v.ticket ≡ holders s.views + has_ticket v.ticket = holders_set s.views id v w at in
    let count = r.count in record {
      journal = r.journal;
      owner = r.owner;
      passes = r.passes;
      passes_are = length-set s.views id w ∙ r.passes_are;
      owned = r.owned;
      drawn = r.drawn;
      turn = r.turn;
      words = set-get_or s.words 1 0 ∙ r.words;
      count = omega arith;
      few = r.few;
      home = none;
      homes = ap (λ (l : List (Maybe (Option Desk))). set l 0 none) r.homes;
      has_home = (id, w, here s.views id v w at, refl);
      knows = all_hold (Knows o r.journal r.owner r.passes r.drawn r.turn) s.views id w
          record {
            sound = know.sound;
            full = know.full;
            below = know.below;
            root = know.root;
            others_split = know.others_split;
            ticketed = know.ticketed;
            opened = know.opened;
            seen = ([], sym same ∙ sym (append-nil d.journal));
            ticket = know.ticket;
            inside = λ _. (mine ∙ ap Some (sym is), same);
          }
          (λ j u other there. r.knows j u there);
      one_owner = still_alone StandsFor s.views id v w r.one_owner at (λ k h. h);
      apart = still_alone HoldsTicketNo s.views id v w r.apart at (λ k h. h);
    }

-- the slot is not out while another's turn has come
is_home : (o : CountedWorkspace) (s : St) (r : HasOneJournal o s) (id k : ℕ) (v : View) → get_elem? s.views id ≡ some v → v.ticket ≡ Some k → v.inside ≡ false → r.turn ≡ k
    → (h : Maybe (Option Desk)) → HasHome o r.journal s.views h → (d : Desk) × (h ≡ some (Some d)) × (d.journal ≡ r.journal) × IsDesk o d
is_home o s r id k v at mine out is none has =
    let j = has.0 in let u = has.1 in
    let in_turn = ((r.knows j u has.2).inside has.3).0 in
    let same : j ≡ id = r.apart j id u v r.turn has.2 at in_turn (mine ∙ ap Some (sym is)) in
    let both : u ≡ v = some-injective _ _ (sym has.2 ∙ (ap (get_elem? s.views) same ∙ at)) in
    absurd (true≢false (sym has.3 ∙ ap (λ (z : View). z.inside) both ∙ out))
is_home o s r id k v at mine out is (some None) has = absurd has
is_home o s r id k v at mine out is (some (Some d)) has = (d, refl, has.0, has.1)

pub looks : (o : CountedWorkspace) (slots id k : ℕ) (v : View) (st : Step (Option Desk)) → v.ticket ≡ Some k → v.inside ≡ false → Allows (HasOneJournal o) slots id (v, []) 1 (λ n. n) (Looks st (v, []))
looks o slots id k v st mine out s r len at lt =
    let w1 : get_or s.words 1 0 ≡ r.turn % 2 ^ 64 = ap (λ (l : List ℕ). get_or l 1 0) r.words in
    let b = (r.knows id v at).ticket k mine in
    let count = r.count in let few = r.few in let are = r.passes_are in
    let most : k < r.turn + 2 ^ 64 = omega (arith, holders_le s.views) in
    dite (ℕ_discrete (r.turn % 2 ^ 64) (k % 2 ^ 64))
    (λ (e : r.turn % 2 ^ 64 ≡ k % 2 ^ 64).
    let is : r.turn ≡ k = one_turn r.turn k (2 ^ 64) b.0 most e in
    let home = is_home o s r id k v at mine out is r.home r.has_home in
    let d = home.0 in
    let number = (r.knows id v at).ticketed k mine in
    let of_it : v.opened ≡ o = (r.knows id v at).opened number.0 number.1 in (
      enters_with v d,
      takes 0 (Some d),
      ap (λ (l : List (Maybe (Option Desk))). get_elem? l 0) r.homes ∙ ap some home.1,
      enters o s r id k v d at mine out is home.1 home.2,
      (λ n f. (λ found. (d, refl, further r.journal v.seen d.journal (r.knows id v at).seen ([], home.2 ∙ sym (append-nil r.journal)), subst (λ (w : CountedWorkspace). IsDesk w d) (sym of_it) home.3), λ other. absurd (other (w1 ∙ (e ∙ ap (λ (z : ℕ). z % 2 ^ 64) (same_value _ _ (sym mine ∙ f))))))),
    ))
    (λ ne. (
      v,
      keeps,
      tt,
      unmoved o s r 1 id v at,
      (λ n f. (λ found. absurd (ne (sym w1 ∙ (found ∙ ap (λ (z : ℕ). z % 2 ^ 64) (same_value _ _ (sym f ∙ mine))))), λ other. refl)),
    ))

pub looks_with : (o : CountedWorkspace) (slots id k : ℕ) (me : Seated) (st : Step (Option Desk)) → me.0.ticket ≡ Some k → me.0.inside ≡ false → me.1 ≡ [] → Allows (HasOneJournal o) slots id me 1 (λ n. n) (Looks st me)
looks_with o slots id k me st mine out bare =
    subst (λ (c : List (ℕ × Option Desk)). Allows (HasOneJournal o) slots id (me.0, c) 1 (λ n. n) (Looks st (me.0, c))) (sym bare) (looks o slots id k me.0 st mine out)
