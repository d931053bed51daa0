-- Entries of commands that are a replay are the journal of clients in rounds.
use Rattle.std.proofs.Common.{◌≡◌, ℕ, zero, suc, ◌+◌, List, [], ◌∷◌, ◌++◌, length, Option, Some, None, refl, sym, ap, ◌∙◌, subst, arith}
use Rattle.hangar_core.specs.declared.actions.Action.{Action}
use Rattle.hangar_core.specs.declared.entries.Entry.{Entry}
use Rattle.hangar_core.specs.declared.replies.Reply.{Reply}
use Rattle.hangar_core.specs.declared.workspaces.Workspace.{Workspace}
use Rattle.hangar_core.specs.Fits.{IsCommand, Meanings, next_action}
use Rattle.hangar_core.specs.Journals.{after_entries, Entries, IsReplay}
use Rattle.hangar_core.specs.Serial.{carried_out, NumberedCommand, entry_then, one_by_one}
use Rattle.hangar_core.specs.Steps.{step}
use Rattle.hangar_lock.specs.laws.ClientsWork.{CommandsHaveFewParts}
use Rattle.session_run.specs.Rounds.{AreEntriesOf}

pub replay_front : (w : Workspace) (own rest : Entries) → IsReplay w (own ++ rest) → IsReplay w own
replay_front w [] rest h = tt
replay_front w (x ∷ own) rest h = (h.0, replay_front (step w x.0.action).1 own rest h.1)

pub replay_behind : (w : Workspace) (own rest : Entries) → IsReplay w (own ++ rest) → IsReplay (after_entries w own) rest
replay_behind w [] rest h = h
replay_behind w (x ∷ own) rest h = replay_behind (step w x.0.action).1 own rest h.1

snoc_length : (replies : List Reply) (reply : Reply) → length (replies ++ (reply ∷ [])) ≡ length replies + 1
snoc_length [] reply = refl
snoc_length (first ∷ replies) reply = let h = snoc_length replies reply in omega (arith, h)

abbrev Go : Type 0
Go = Reply → Workspace → Entries × Workspace

-- what is entered for an action is the step's
entered : (numbered : NumberedCommand) (replies : List Reply) (w : Workspace) (o : Option Action) (x : Entry × Reply) (go : Go) (own : Entries) → o ≡ Some x.0.action →
    x.0 ≡ record { client = numbered.client; command = numbered.number; part = length replies; action = x.0.action } → x.1 ≡ (step w x.0.action).0 →
    go (step w x.0.action).0 (step w x.0.action).1 ≡ (own, after_entries (step w x.0.action).1 own) →
    entry_then numbered replies w o go ≡ (x ∷ own, after_entries w (x ∷ own))
entered numbered replies w None x go own next is told rest = absurd (no next)
  where
    no : None ≡ Some x.0.action → ⊥
    no e = cc
entered numbered replies w (Some a) x go own next is told rest = subst (λ (b : Action). entry_then numbered replies w (Some b) go ≡ (x ∷ own, after_entries w (x ∷ own))) (sym same) whole
  where
    same : a ≡ x.0.action
    same = cc

    noted : Entry
    noted = record { client = numbered.client; command = numbered.number; part = length replies; action = x.0.action }

    pair : (noted, (step w x.0.action).0) ≡ x
    pair = ap (λ (entry : Entry). (entry, (step w x.0.action).0)) (sym is) ∙ ap (λ (reply : Reply). (x.0, reply)) (sym told)

    whole : entry_then numbered replies w (Some x.0.action) go ≡ (x ∷ own, after_entries w (x ∷ own))
    whole = ap (λ (z : Entries × Workspace). ((noted, (step w x.0.action).0) ∷ z.0, z.1)) rest
        ∙ ap (λ (z : Entry × Reply). (z ∷ own, after_entries (step w x.0.action).1 own)) pair

-- a command that is a replay is what is carried out
module _ (meanings : Meanings) (numbered : NumberedCommand) (few : CommandsHaveFewParts) where
  pub carried : (parts : ℕ) (replies : List Reply) (w : Workspace) (own : Entries) → length replies + parts ≡ 4 →
      IsCommand meanings numbered.client numbered.number numbered.command replies own → IsReplay w own → carried_out meanings parts numbered replies w ≡ (own, after_entries w own)
  carried zero replies w [] count command replay = refl
  carried zero replies w (x ∷ own) count command replay = let h = few meanings numbered.command replies x.0.action command.0 in absurd (omega (arith, h, count))
  carried (suc parts) replies w [] count command replay = rw command refl
  carried (suc parts) replies w (x ∷ own) count command replay =
      entered numbered replies w (next_action meanings numbered.command replies) x
      (λ reply after. carried_out meanings parts numbered (replies ++ (reply ∷ [])) after) own command.0 command.1 replay.0
      (subst (λ (reply : Reply). carried_out meanings parts numbered (replies ++ (reply ∷ [])) (step w x.0.action).1 ≡ (own, after_entries (step w x.0.action).1 own)) replay.0
      (carried parts (replies ++ (x.1 ∷ [])) (step w x.0.action).1 own (let k = snoc_length replies x.1 in omega (arith, k, count)) command.2 replay.1))

-- all commands
pub in_turn : (meanings : Meanings) (few : CommandsHaveFewParts) (in_rounds : List NumberedCommand) (w : Workspace) (entries : Entries) →
    AreEntriesOf meanings in_rounds entries → IsReplay w entries → entries ≡ one_by_one meanings w in_rounds
in_turn meanings few [] w entries are replay = are
in_turn meanings few (numbered ∷ in_rounds) w entries are replay =
    let own : Entries = are.0 in
    let rest : Entries = are.1 in
    let whole : IsReplay w (own ++ rest) = subst (IsReplay w) are.2 replay in
    let done = carried meanings numbered few 4 [] w own refl are.3 (replay_front w own rest whole) in
    let later = in_turn meanings few in_rounds (after_entries w own) rest are.4 (replay_behind w own rest whole) in
    are.2 ∙ ap (λ (l : Entries). own ++ l) later ∙ sym (ap (λ (z : Entries × Workspace). z.0 ++ one_by_one meanings z.1 in_rounds) done)
