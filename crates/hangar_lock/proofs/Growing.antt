-- How one client's work grows: part by part, and command by command.
use Rattle.std.proofs.Common.{◌≡◌, ℕ, ◌+◌, ◌≤◌, List, [], ◌∷◌, ◌++◌, length, map, Some, None, refl, sym, ap, ◌∙◌, subst, arith, append_assoc}
use Rattle.std.proofs.lemmas.List.{append-nil}
use Rattle.hangar_core.specs.declared.actions.Action.{Action}
use Rattle.commands.specs.declared.commands.Command.{Command}
use Rattle.hangar_core.specs.declared.replies.Reply.{Reply}
use Rattle.hangar_core.specs.Fits.{IsCommand, IsWorkOf, Meanings, next_action}
use Rattle.hangar_core.specs.Journals.{Entries}
use Rattle.hangar_lock.specs.Places.{Places, ToldEntry}
use Rattle.hangar_lock.specs.ClientEntries.{IsBegun, reply_of, RisesTo}
use Rattle.hangar_lock.proofs.Picking.{Rises}

pub begun_grows : (meanings : Meanings) (client n : ℕ) (c : Command) (rs : List Reply) (own : Entries) (a : Action) (r : Reply) → IsBegun meanings client n c rs own
    → next_action meanings c (rs ++ map reply_of own) ≡ Some a
    → IsBegun meanings client n c rs (own ++ ((record { client = client; command = n; part = length (rs ++ map reply_of own); action = a }, r) ∷ []))
begun_grows meanings client n c rs [] a r h e =
    let k : rs ++ [] ≡ rs = append-nil rs in
    (subst (λ (l : List Reply). next_action meanings c l ≡ Some a) k e, ap (λ (l : List Reply). record { client = client; command = n; part = length l; action = a }) k, tt)
begun_grows meanings client n c rs (x ∷ own) a r h e =
    let k : (rs ++ (x.1 ∷ [])) ++ map reply_of own ≡ rs ++ (x.1 ∷ map reply_of own) = append_assoc rs (x.1 ∷ []) (map reply_of own) in (
      h.0,
      h.1,
      subst (λ (l : List Reply). IsBegun meanings client n c (rs ++ (x.1 ∷ [])) (own ++ ((record { client = client; command = n; part = length l; action = a }, r) ∷ []))) k
          (begun_grows meanings client n c (rs ++ (x.1 ∷ [])) own a r h.2 (subst (λ (l : List Reply). next_action meanings c l ≡ Some a) (sym k) e)),
    )

pub begun_ends : (meanings : Meanings) (client n : ℕ) (c : Command) (rs : List Reply) (own : Entries) → IsBegun meanings client n c rs own
    → next_action meanings c (rs ++ map reply_of own) ≡ None → IsCommand meanings client n c rs own
begun_ends meanings client n c rs [] h e = subst (λ (l : List Reply). next_action meanings c l ≡ None) (append-nil rs) e
begun_ends meanings client n c rs (x ∷ own) h e = (
  h.0,
  h.1,
  begun_ends meanings client n c (rs ++ (x.1 ∷ [])) own h.2
      (subst (λ (l : List Reply). next_action meanings c l ≡ None) (sym (append_assoc rs (x.1 ∷ []) (map reply_of own))) e),
)

pub work_grows : (meanings : Meanings) (client n m : ℕ) (cs : List Command) (c : Command) (xs own : Entries) → m ≡ n + length cs → IsWorkOf meanings client n cs xs
    → IsCommand meanings client m c [] own → IsWorkOf meanings client n (cs ++ (c ∷ [])) (xs ++ own)
work_grows meanings client n m [] c xs own e w h =
    let k : m ≡ n = omega (arith, e) in
    (own, [], ap (λ (l : Entries). l ++ own) w ∙ sym (append-nil own), subst (λ (z : ℕ). IsCommand meanings client z c [] own) k h, refl)
work_grows meanings client n m (d ∷ cs) c xs own e w h = (
  w.0,
  w.1 ++ own,
  ap (λ (l : Entries). l ++ own) w.2 ∙ append_assoc w.0 w.1 own,
  w.3,
  work_grows meanings client (n + 1) m cs c w.1 own (omega (arith, e)) w.4 h,
)

pub rises_grows : (low top : ℕ) (mine : Places) (place : ℕ) (x : ToldEntry) → RisesTo low top mine → top ≤ place → RisesTo low (place + 1) (mine ++ ((place, x) ∷ []))
rises_grows low top [] place x h e = (omega (arith, h, e), omega arith)
rises_grows low top (m ∷ mine) place x h e = (h.0, rises_grows (m.0 + 1) top mine place x h.1 e)

pub rises_weaker : (low top higher : ℕ) (mine : Places) → RisesTo low top mine → top ≤ higher → RisesTo low higher mine
rises_weaker low top higher [] h e = omega (arith, h, e)
rises_weaker low top higher (m ∷ mine) h e = (h.0, rises_weaker (m.0 + 1) top higher mine h.1 e)

pub rises_to : (low top : ℕ) (mine : Places) → RisesTo low top mine → Rises low mine
rises_to low top [] h = tt
rises_to low top (m ∷ mine) h = (h.0, rises_to (m.0 + 1) top mine h.1)
