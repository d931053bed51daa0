-- A ticket is drawn.
use Rattle.std.proofs.Common.{◌≡◌, ℕ, ◌+◌, ◌%◌, ◌^◌, false, List, [], ◌∷◌, Some, None, Option, set, sym, refl, ap, ◌∙◌, arith, length-set, true≢false, get_or}
use Rattle.atomic_table.specs.Table.{Step, keeps, Allows}
use Rattle.hangar_core.specs.ValidWorkspaces.{CountedWorkspace}
use Rattle.hangar_lock.specs.declared.desk.Desk.{Desk}
use Rattle.hangar_lock.specs.declared.views.View.{View}
use Rattle.hangar_lock.specs.Places.{HasPassNumber}
use Rattle.hangar_lock.specs.OneJournal.{has_ticket, holders, Knows, HasOneJournal}
use Rattle.hangar_lock.specs.Steps.{Seated, Draws}
use Rattle.hangar_lock.proofs.Places.{bump, same_value}
use Rattle.hangar_lock.proofs.AllViews.{holders_set, all_hold, stay_alone, still_alone, HoldsTicketNo, StandsFor, home_stays}

pub draws : (o : CountedWorkspace) (slots id : ℕ) (me : Seated) (st : Step (Option Desk)) (n : ℕ) → me.0.ticket ≡ None → me.0.inside ≡ false → HasPassNumber me.0.stands n
    → Allows (HasOneJournal o) slots id me 0 (λ n. (n + 1) % 2 ^ 64) (Draws st me)
draws o slots id me st n idle out number s r len at lt =
    let w : View = record me.0 { ticket = Some r.drawn } in
    let w0 : get_or s.words 0 0 ≡ r.drawn % 2 ^ 64 = ap (λ (l : List ℕ). get_or l 0 0) r.words in
    let held : holders (set s.views id w) + has_ticket me.0.ticket ≡ holders s.views + 1 = holders_set s.views id me.0 w at in
    let before : has_ticket me.0.ticket ≡ 0 = ap has_ticket idle in
    let count = r.count in
    let mine = r.knows id me.0 at in (
      w,
      keeps,
      tt,
      record {
        journal = r.journal;
        owner = r.owner;
        passes = r.passes;
        passes_are = length-set s.views id w ∙ r.passes_are;
        owned = r.owned;
        drawn = r.drawn + 1;
        turn = r.turn;
        words = ap (λ (l : List ℕ). set l 0 ((get_or l 0 0 + 1) % 2 ^ 64)) r.words ∙ ap (λ (n : ℕ). n ∷ (r.turn % 2 ^ 64) ∷ []) (bump r.drawn);
        count = omega arith;
        few = r.few;
        home = r.home;
        homes = r.homes;
        has_home = home_stays o r.journal s.views id me.0 w r.home at out out r.has_home;
        knows = all_hold (Knows o r.journal r.owner r.passes (r.drawn + 1) r.turn) s.views id w
            record {
              sound = mine.sound;
              full = mine.full;
              below = mine.below;
              root = mine.root;
              others_split = mine.others_split;
              ticketed = λ k e. (n, number);
              opened = mine.opened;
              seen = mine.seen;
              ticket = λ k e. let is = same_value _ _ e in omega arith;
              inside = λ e. absurd (true≢false (sym e ∙ out));
            }
            (λ j v other there. let k = r.knows j v there in record {
              sound = k.sound;
              full = k.full;
              below = k.below;
              root = k.root;
              others_split = k.others_split;
              ticketed = k.ticketed;
              opened = k.opened;
              seen = k.seen;
              ticket = λ n e. let b = k.ticket n e in omega arith;
              inside = k.inside;
            });
        one_owner = still_alone StandsFor s.views id me.0 w r.one_owner at (λ k h. h);
        apart = stay_alone HoldsTicketNo s.views id w r.apart (λ j u k other there e f. let is = same_value _ _ e in let b = (r.knows j u there).ticket k f in omega arith);
      },
      (r.drawn, refl, sym w0),
    )
