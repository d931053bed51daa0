-- The steps of one client's work.
use Rattle.std.proofs.Common.{get_or, take, true, false, leb, ◌⊎◌, inl, inr, ◌≡◌, ℕ, suc, ◌+◌, ◌<◌, ◌≤◌, List, [], ◌∷◌, ◌++◌, length, map, Some, None, refl, sym, ap, ◌∙◌, subst, arith, append_assoc, length-append}
use Rattle.std.proofs.lemmas.Bool.Decides.{leb_tells}
use Rattle.std.proofs.lemmas.List.{append-nil, length-take-le}
use Rattle.std.proofs.Math.Seq.{take-suc, take-length}
use Rattle.hangar_core.specs.declared.actions.Action.{Action}
use Rattle.commands.specs.declared.commands.Command.{Command}
use Rattle.hangar_core.specs.declared.entries.Entry.{Entry}
use Rattle.hangar_core.specs.declared.replies.Reply.{Reply}
use Rattle.hangar_core.specs.Fits.{IsWorkOf, Meanings, next_action}
use Rattle.hangar_core.specs.Journals.{Entries}
use Rattle.hangar_core.proofs.Serial.{over_at}
use Rattle.hangar_lock.specs.declared.receipts.Receipt.{Receipt}
use Rattle.hangar_lock.specs.Passes.{HasActed, PassView}
use Rattle.hangar_lock.specs.Places.{Places, ToldEntry}
use Rattle.hangar_lock.specs.ClientEntries.{HasBegun, HasDone, HasWorked, IsBegun, reply_of, RisesTo, own_entry}
use Rattle.hangar_lock.proofs.Growing.{begun_ends, begun_grows, rises_grows, work_grows}
use Rattle.hangar_lock.proofs.Places.{none_some}

map_append : {A B : Type 0} (f : A → B) (xs ys : List A) → map f (xs ++ ys) ≡ map f xs ++ map f ys
map_append f [] ys = refl
map_append f (x ∷ xs) ys = ap (λ l. f x ∷ l) (map_append f xs ys)

rises_start : (low : ℕ) → RisesTo low low []
rises_start low = omega arith

rises_join : (low mid top : ℕ) (xs ys : Places) → RisesTo low mid xs → RisesTo mid top ys → RisesTo low top (xs ++ ys)
rises_join low mid top [] [] h k = omega (arith, h, k)
rises_join low mid top [] (y ∷ ys) h k = let a = k.0 in (omega (arith, h, a), k.1)
rises_join low mid top (x ∷ xs) ys h k = (h.0, rises_join (x.0 + 1) mid top xs ys h.1 k)

pub begun_at : (meanings : Meanings) (client n : ℕ) (c : Command) (v : PassView) → HasBegun meanings client n c v v []
begun_at meanings client n c v = record { gained = []; mine = sym (append-nil v.mine); begun = tt; replied = refl; rises = rises_start (length v.seen) }

-- the place is behind all that was seen
place_later : (v w : PassView) (e : Entry) (t : Receipt) → HasActed v e t w → length v.seen ≤ t.place
place_later v w e t d =
    let long : length d.earlier ≡ length v.seen + length d.later.0 = ap length d.later.1 ∙ length-append v.seen d.later.0 in
    let place = d.place in omega (arith, long, place)

seen_longer : (v w : PassView) (e : Entry) (t : Receipt) → HasActed v e t w → length w.seen ≡ t.place + 1
seen_longer v w e t d =
    let long : length w.seen ≡ length d.earlier + 1 = ap length d.seen ∙ length-append d.earlier ((e, t.reply) ∷ []) in
    let place = d.place in omega (arith, long, place)

pub act_begun : (meanings : Meanings) (client n : ℕ) (c : Command) (u v w : PassView) (rs : List Reply) (a : Action) (t : Receipt) → HasBegun meanings client n c u v rs
    → next_action meanings c rs ≡ Some a → HasActed v (record { client = client; command = n; part = length rs; action = a }) t w
    → HasBegun meanings client n c u w (rs ++ (t.reply ∷ []))
act_begun meanings client n c u v w rs a t h k d =
    let own : Entries = map own_entry h.gained in
    let e : Entry = record { client = client; command = n; part = length rs; action = a } in
    let x : ToldEntry = (e, t.reply) in
    let m : map own_entry (h.gained ++ ((t.place, x) ∷ [])) ≡ own ++ (x ∷ []) = map_append own_entry h.gained ((t.place, x) ∷ []) in
    record {
      gained = h.gained ++ ((t.place, x) ∷ []);
      mine = d.mine ∙ ap (λ (l : Places). l ++ ((t.place, x) ∷ [])) h.mine ∙ append_assoc u.mine h.gained ((t.place, x) ∷ []);
      begun = subst (IsBegun meanings client n c []) (sym m)
          (subst (λ (l : List Reply). IsBegun meanings client n c [] (own ++ ((record { client = client; command = n; part = length l; action = a }, t.reply) ∷ []))) h.replied
          (begun_grows meanings client n c [] own a t.reply h.begun (subst (λ (l : List Reply). next_action meanings c l ≡ Some a) (sym h.replied) k)));
      replied = ap (map reply_of) m ∙ map_append reply_of own (x ∷ []) ∙ ap (λ (l : List Reply). l ++ (t.reply ∷ [])) h.replied;
      rises = subst (λ (top : ℕ). RisesTo (length u.seen) top (h.gained ++ ((t.place, x) ∷ []))) (sym (seen_longer v w e t d))
          (rises_grows (length u.seen) (length v.seen) h.gained t.place x h.rises (place_later v w e t d));
    }

pub begun_done : (meanings : Meanings) (client n : ℕ) (c : Command) (u v : PassView) (rs : List Reply) → HasBegun meanings client n c u v rs → next_action meanings c rs ≡ None → HasDone meanings client n c u v
begun_done meanings client n c u v rs h k = record {
  gained = h.gained;
  mine = h.mine;
  rises = h.rises;
  done = begun_ends meanings client n c [] (map own_entry h.gained) h.begun (subst (λ (l : List Reply). next_action meanings c l ≡ None) (sym h.replied) k);
}

pub worked_at : (meanings : Meanings) (client : ℕ) (v : PassView) → HasWorked meanings client [] v v
worked_at meanings client v = record { gained = []; mine = sym (append-nil v.mine); work = refl; rises = rises_start (length v.seen) }

pub done_worked : (meanings : Meanings) (client n : ℕ) (cs : List Command) (c : Command) (u v w : PassView) → n ≡ length cs → HasWorked meanings client cs u v → HasDone meanings client n c v w
    → HasWorked meanings client (cs ++ (c ∷ [])) u w
done_worked meanings client n cs c u v w e h d = record {
  gained = h.gained ++ d.gained;
  mine = d.mine ∙ ap (λ (l : Places). l ++ d.gained) h.mine ∙ append_assoc u.mine h.gained d.gained;
  work = subst (IsWorkOf meanings client 0 (cs ++ (c ∷ []))) (sym (map_append own_entry h.gained d.gained))
      (work_grows meanings client 0 n cs c (map own_entry h.gained) (map own_entry d.gained) (omega (arith, e)) h.work d.done);
  rises = rises_join (length u.seen) (length v.seen) (length w.seen) h.gained d.gained h.rises d.rises;
}

-- A command that goes on had fewer than four replies.
pub few_parts : (meanings : Meanings) (c : Command) (rs : List Reply) (a : Action) → next_action meanings c rs ≡ Some a → length rs < 4
few_parts meanings c rs a e = decide (leb_tells 4 (length rs))
  where
    decide : ((leb 4 (length rs) ≡ true) × (4 ≤ length rs)) ⊎ ((leb 4 (length rs) ≡ false) × (length rs < 4)) → length rs < 4
    decide (inl k) = absurd (none_some a (sym (over_at meanings c rs k.1) ∙ e))
    decide (inr k) = k.1

pub next_worked : (meanings : Meanings) (client n : ℕ) (cs : List Command) (d : Command) (u v w : PassView) → n < length cs → HasWorked meanings client (take n cs) u v
    → HasDone meanings client n (get_or cs n d) v w → HasWorked meanings client (take (n + 1) cs) u w
next_worked meanings client n cs d u v w h a b =
    let k : length (take n cs) ≡ n = length-take-le n cs (omega (arith, h)) in
    let s : suc n ≡ n + 1 = omega arith in
    let e : take (n + 1) cs ≡ take n cs ++ (get_or cs n d ∷ []) = subst (λ (m : ℕ). take m cs ≡ take n cs ++ (get_or cs n d ∷ [])) s (take-suc cs n d h) in
    subst (λ (l : List Command). HasWorked meanings client l u w) (sym e) (done_worked meanings client n (take n cs) (get_or cs n d) u v w (sym k) a b)

pub all_worked : (meanings : Meanings) (client n : ℕ) (cs : List Command) (u v : PassView) → n ≡ length cs → HasWorked meanings client (take n cs) u v → HasWorked meanings client cs u v
all_worked meanings client n cs u v e h =
    subst (λ (l : List Command). HasWorked meanings client l u v) (take-length cs) (subst (λ (m : ℕ). HasWorked meanings client (take m cs) u v) e h)
