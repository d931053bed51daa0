-- The table at the end.
use Rattle.std.proofs.Common.{◌≡◌, ℕ, ◌≤◌, false, List, Some, None, Option, sym, refl, ap, ◌∙◌, subst, arith, true≢false}
use mathlib.Core.Option.{Option as Maybe, some, none, some-injective}
use lib.ListN.{get_elem?}
use Rattle.atomic_table.specs.Table.{Final, Seen}
use Rattle.hangar_core.specs.Journals.{Entries}
use Rattle.hangar_core.specs.ValidWorkspaces.{CountedWorkspace}
use Rattle.hangar_lock.specs.declared.desk.Desk.{Desk}
use Rattle.hangar_lock.specs.declared.views.View.{View}
use Rattle.hangar_lock.specs.Desks.{IsDesk}
use Rattle.hangar_lock.specs.Places.{HasPassNumber, HasPlace, StartsWith, ToldEntry}
use Rattle.hangar_lock.specs.OneJournal.{HasHome, HasOneJournal}
use Rattle.hangar_lock.proofs.Places.{IsAt}
use Rattle.hangar_lock.proofs.AllViews.{St}

abbrev pub StandsForAll : View → Type 0
StandsForAll v = HasPassNumber v.stands 0 × ((number : ℕ) → number ≤ v.split → HasPassNumber v.stands number)

-- what a whole pass knows of the journal
pub record Closes (o : CountedWorkspace) (v : View) (x : Option Desk) : Type 0 where
  pub desk : Desk
  pub is : x ≡ Some desk
  pub is_desk : IsDesk o desk
  pub seen : StartsWith desk.journal v.seen
  pub forth : (p : ℕ) (e : ToldEntry) → IsAt desk.journal p e → HasPlace v.mine p e
  pub back : (p : ℕ) (e : ToldEntry) → HasPlace v.mine p e → IsAt desk.journal p e

closes_home : (o : CountedWorkspace) (s : St) (r : HasOneJournal o s) (id : ℕ) (v : View) (x : Option Desk) → get_elem? s.views id ≡ some v → v.inside ≡ false → StandsForAll v
    → ((y : Option Desk) → get_elem? s.homes 0 ≡ some (some y) → x ≡ y) → (h : Maybe (Option Desk)) → r.home ≡ h → HasHome o r.journal s.views h → Closes o v x
closes_home o s r id v x at out whole slot none is has =
    let j = has.0 in let u = has.1 in
    let know = r.knows j u has.2 in
    let number = know.ticketed r.turn (know.inside has.3).0 in
    let root = (r.knows id v at).root whole.0 in
    let low = know.below number.0 number.1 in
    let same : j ≡ id = r.one_owner j id u v number.0 has.2 at number.1 (whole.1 number.0 (omega arith)) in
    let both : u ≡ v = some-injective _ _ (sym has.2 ∙ (ap (get_elem? s.views) same ∙ at)) in
    absurd (true≢false (sym has.3 ∙ ap (λ (z : View). z.inside) both ∙ out))
closes_home o s r id v x at out whole slot (some None) is has = absurd has
closes_home o s r id v x at out whole slot (some (Some d)) is has =
    let know = r.knows id v at in
    let root = know.root whole.0 in record {
      desk = d;
      is = slot (Some d) (ap (λ (l : List (Maybe (Option Desk))). get_elem? l 0) r.homes ∙ ap some is);
      is_desk = has.1;
      seen = subst (λ (l : Entries). StartsWith l v.seen) (sym has.0) know.seen;
      forth = λ p e h.
          let there = subst (λ (l : Entries). IsAt l p e) has.0 h in
          let low = r.owned p e there in know.full p e there (whole.1 (r.owner p) (omega arith));
      back = λ p e h. subst (λ (l : Entries). IsAt l p e) (sym has.0) (know.sound p e h).0;
    }

pub closes : (o : CountedWorkspace) (id : ℕ) (v : View) (ws : List ℕ) (xs : List (Option Desk)) (x : Option Desk) →
    Final (Seen (HasOneJournal o) id v) ws xs → v.inside ≡ false → StandsForAll v → get_elem? xs 0 ≡ some x → Closes o v x
closes o id v ws xs x final out whole at =
    let s = final.0 in let r = final.1.0 in
    closes_home o s r id v x final.1.1 out whole (λ y h. some-injective _ _ (sym at ∙ final.4 0 y h)) r.home refl r.has_home
