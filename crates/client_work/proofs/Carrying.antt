-- Parts of a command put together.
use Rattle.std.proofs.Common.{◌≡◌, refl, sym, ap, subst, ◌∙◌, ℕ, ◌+◌, ◌≤◌, List, [], ◌∷◌, ◌++◌, length, Some, None, arith}
use Rattle.std.specs.List.{AllByRecursion}
use Rattle.std.proofs.lemmas.List.{append-nil, append_assoc}
use Rattle.hangar_core.specs.declared.actions.Action.{Action}
use Rattle.commands.specs.declared.commands.Command.{Command}
use Rattle.hangar_core.specs.declared.replies.Reply.{Reply}
use Rattle.hangar_core.specs.Fits.{next_action}
use Rattle.hangar_lock.specs.Passes.{LockView, PassView}
use Rattle.hangar_lock.specs.Places.{Places}
use Rattle.hangar_lock.specs.ClientEntries.{RisesTo}
use Rattle.report_text.specs.declared.answers.Answer.{Answer}
use Rattle.client_work.specs.declared.missions.Mission.{Mission}
use Rattle.client_work.specs.declared.workplace.ClientCommand.{ClientCommand}
use Rattle.client_work.specs.Counts.{PaysAsReplied}
use Rattle.client_work.specs.Meanings.{meanings_of}
use Rattle.client_work.specs.Told.{command_told, count_told}
use Rattle.client_work.specs.Working.{begun_with, entry_of, replies_of, HasGained, HasOneMore, IsCount, IsCarriedOn, IsReplyAt, work_state_at}

-- ---- places that rise

rises_on : (low middle high : ℕ) (later : Places) → low ≤ middle → RisesTo middle high later → RisesTo low high later
rises_on low middle high [] less rises = omega (arith, less, rises)
rises_on low middle high (first ∷ rest) less rises = let least = rises.0 in (omega (arith, less, least), rises.1)

pub rises_both : (low middle high : ℕ) (gained later : Places) → RisesTo low middle gained → RisesTo middle high later → RisesTo low high (gained ++ later)
rises_both low middle high [] later first second = rises_on low middle high later first second
rises_both low middle high (place ∷ rest) later first second = (first.0, rises_both (place.0 + 1) middle high rest later first.1 second)

-- ---- what a pass gains

pub gained_both : (before middle after : PassView) (gained later : Places) → HasGained before middle gained → HasGained middle after later → HasGained before after (gained ++ later)
gained_both before middle after gained later one two = record {
  mine = two.mine ∙ ap (λ (mine : Places). mine ++ later) one.mine ∙ append_assoc before.mine gained later;
  rises = rises_both (length before.seen) (length middle.seen) (length after.seen) gained later one.rises two.rises;
  lock = two.lock ∙ one.lock;
  stands = two.stands ∙ one.stands;
  split = two.split ∙ one.split;
}

pub none_gained : (pass : PassView) → HasGained pass pass []
none_gained pass = record {
  mine = sym (append-nil pass.mine);
  rises = omega arith;
  lock = refl;
  stands = refl;
  split = refl;
}

-- ---- commands

module _ (mission : Mission) (whose : ClientCommand) (command : Command) (steps_before steps_after : ℕ) (answer : Answer) where
  -- a command that is over
  pub over : (replies : List Reply) (pass : PassView) (statements : ℕ) → next_action (meanings_of mission.models mission.bound) command replies ≡ None →
      IsCount command statements steps_before steps_after → PaysAsReplied mission command replies statements → answer ≡ command_told mission (count_told mission statements) command replies →
      IsCarriedOn (begun_with mission whose command replies) (work_state_at pass steps_before) (work_state_at pass steps_after) answer
  over replies pass statements none counted paid told = record {
    gained = [];
    gains = none_gained pass;
    parts = none;
    statements = statements;
    counted = counted;
    paid = subst (λ (all : List Reply). PaysAsReplied mission command all statements) (sym (append-nil replies)) paid;
    known = tt;
    told = told ∙ ap (command_told mission (count_told mission statements) command) (sym (append-nil replies));
  }

  -- one that goes on with an action
  pub goes_on : (replies : List Reply) (before middle after : PassView) (action : Action) (reply : Reply) →
      next_action (meanings_of mission.models mission.bound) command replies ≡ Some action →
      HasOneMore before middle (entry_of whose (length replies) action) reply →
      IsCarriedOn (begun_with mission whose command (replies ++ (reply ∷ []))) (work_state_at middle steps_before) (work_state_at after steps_after) answer →
      IsCarriedOn (begun_with mission whose command replies) (work_state_at before steps_before) (work_state_at after steps_after) answer
  goes_on replies before middle after action reply next one rest =
      let entry = entry_of whose (length replies) action in
      record {
        gained = (one.place, (entry, reply)) ∷ rest.gained;
        gains = gained_both before middle after ((one.place, (entry, reply)) ∷ []) rest.gained one.gains rest.gains;
        parts = (next, refl, rest.parts);
        statements = rest.statements;
        counted = rest.counted;
        paid = subst (λ (all : List Reply). PaysAsReplied mission command all rest.statements) (append_assoc replies (reply ∷ []) (replies_of rest.gained)) rest.paid;
        known = (one.known, subst (λ (lock : LockView). AllByRecursion (IsReplyAt lock) (replies_of rest.gained)) one.gains.lock rest.known);
        told = rest.told ∙ ap (command_told mission (count_told mission rest.statements) command) (append_assoc replies (reply ∷ []) (replies_of rest.gained));
      }
