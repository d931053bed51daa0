-- Command by command, and round by round, what is told is counted.
use Rattle.std.proofs.Common.{◌≡◌, ℕ, suc, ◌+◌, ◌≤◌, false, List, [], ◌∷◌, ◌++◌, length, map, Some, None, refl, sym, ap, ◌∙◌, subst, arith, append_assoc, slice_get}
use Rattle.std.proofs.lemmas.List.{append-nil}
use Rattle.commands.specs.declared.commands.Command.{Command}
use Rattle.hangar_core.specs.Fits.{IsCommand}
use Rattle.hangar_core.specs.Journals.{Entries, IsReplay}
use Rattle.hangar_core.specs.Serial.{NumberedCommand, longest, in_rounds}
use Rattle.hangar_lock.specs.laws.ClientsWork.{CommandsHaveFewParts}
use Rattle.hangar_lock.specs.Passes.{LockView, PassView}
use Rattle.hangar_lock.specs.Places.{HaveAllOf, Places, StandIn}
use Rattle.hangar_lock.specs.ClientEntries.{own_entry, reply_of, RisesTo}
use Rattle.report_text.specs.declared.answers.Answer.{Answer}
use Rattle.session_reader.specs.declared.session.Client.{Client}
use Rattle.session_judge.specs.declared.judged.JudgedSession.{JudgedSession}
use Rattle.session_run.specs.declared.summary.Summary.{Summary}
use Rattle.session_run.specs.summary.Summaries.{summary_of}
use Rattle.client_work.specs.declared.missions.Mission.{Mission}
use Rattle.client_work.specs.Meanings.{meanings_of}
use Rattle.client_work.specs.Told.{command_told}
use Rattle.client_work.specs.Working.{IsAtWork, own_entries}
use Rattle.session_run.specs.Answers.{answers_along, AreAnswered, CountsRound, CountsCommand, HasCounted, HasCountedUntil, serial_answers}
use Rattle.session_run.specs.Missions.{all_commands, mission_of, opening_of, session_meanings, without_stats}
use Rattle.session_run.specs.Performed.{serial_journal}
use Rattle.session_run.specs.Rounds.{in_rounds_until}
use Rattle.session_run.proofs.Along.{told_along, answers_of_commands}
use Rattle.session_run.proofs.Finished.{serial_is}
use Rattle.session_run.proofs.Placed.{placed_all}
use Rattle.session_run.proofs.Replayed.{in_turn}
use Rattle.session_run.proofs.Rounds.{gained_both, mapped_append, round_in_rounds, still_at, in_rounds_skipped, in_rounds_taken}

-- ---- one command more

module _ (mission : Mission) (numbered : NumberedCommand) (own : Entries) (done : IsCommand (meanings_of mission.models mission.bound) numbered.client numbered.number numbered.command [] own) where
  abbrev told : Answer
  told = command_told mission None numbered.command (map reply_of own)

  answered_more : (earlier : List NumberedCommand) (entries : Entries) (answers : List Answer) → AreAnswered mission earlier entries answers →
      AreAnswered mission (earlier ++ (numbered ∷ [])) (entries ++ own) (answers ++ (told ∷ []))
  answered_more [] entries answers are = (
    own,
    [],
    [],
    ap (λ (l : Entries). l ++ own) are.0 ∙ sym (append-nil own),
    done,
    ap (λ (l : List Answer). l ++ (told ∷ [])) are.1,
    (refl, refl),
  )
  answered_more (first ∷ earlier) entries answers are = (
    are.0,
    are.1 ++ own,
    are.2 ++ (told ∷ []),
    ap (λ (l : Entries). l ++ own) are.3 ∙ append_assoc are.0 are.1 own,
    are.4,
    ap (λ (l : List Answer). l ++ (told ∷ [])) are.5,
    answered_more earlier are.1 are.2 are.6,
  )

-- ---- a command of a round

module _ (mission : Mission) (clients : List Client) (number which : ℕ) (client : Client) (at : slice_get clients which ≡ Some client) where
  count_taken : (command : Command) → slice_get client.commands number ≡ Some command → (first before after : PassView) (summary_before summary_after : Summary) →
      HasCountedUntil mission clients number which first before summary_before →
      CountsCommand mission (record { client = which; command = number }) command before after summary_before summary_after →
      HasCountedUntil mission clients number (suc which) first after summary_after
  count_taken command has first before after summary_before summary_after until numbered =
      let it : NumberedCommand = record { client = which; number = number; command = command } in
      let entries : own_entries (until.gained ++ numbered.gained) ≡ own_entries until.gained ++ own_entries numbered.gained = mapped_append own_entry until.gained numbered.gained in
      let told : Answer = command_told mission None command (map reply_of (own_entries numbered.gained)) in
      record {
        gained = until.gained ++ numbered.gained;
        gains = gained_both first before after until.gained numbered.gained until.gains numbered.gains;
        answers = until.answers ++ (told ∷ []);
        answered =
            subst (λ (l : Entries). AreAnswered mission (in_rounds_until number (suc which) (all_commands clients)) l (until.answers ++ (told ∷ []))) (sym entries)
            (subst (λ (l : List NumberedCommand). AreAnswered mission l (own_entries until.gained ++ own_entries numbered.gained) (until.answers ++ (told ∷ [])))
            (sym (in_rounds_taken mission clients number which client at command has))
            (answered_more mission it (own_entries numbered.gained) numbered.parts (in_rounds_until number which (all_commands clients)) (own_entries until.gained) until.answers until.answered));
        summed = numbered.counted until.answers until.summed;
      }

  count_skipped : length client.commands ≤ number → (first before : PassView) (summary : Summary) → HasCountedUntil mission clients number which first before summary →
      HasCountedUntil mission clients number (suc which) first before summary
  count_skipped less first before summary until = record {
    gained = until.gained;
    gains = until.gains;
    answers = until.answers;
    answered = subst (λ (l : List NumberedCommand). AreAnswered mission l (own_entries until.gained) until.answers) (sym (in_rounds_skipped mission clients number which client at less)) until.answered;
    summed = until.summed;
  }

-- ---- a round that goes on

-- in a round with a number, so many clients had their command done
pub record IsInCount (mission : Mission) (lock : LockView) (clients : List Client) (number which : ℕ) (before now : PassView) (summary_before summary_now : Summary) : Type 0 where
  pub at : IsAtWork mission lock now
  pub own : before.lock ≡ lock
  pub goes_on : (first : PassView) → HasCountedUntil mission clients number 0 first before summary_before → HasCountedUntil mission clients number which first now summary_now

pub count_begun : (mission : Mission) (lock : LockView) (clients : List Client) (number : ℕ) (pass : PassView) (summary : Summary) → IsAtWork mission lock pass →
    IsInCount mission lock clients number 0 pass pass summary summary
count_begun mission lock clients number pass summary at = record { at = at; own = at.own; goes_on = λ first until. until }

pub command_counted : (mission : Mission) (lock : LockView) (clients : List Client) (number which : ℕ) (before now after : PassView) (summary_before summary_now summary_after : Summary)
    (client : Client) (command : Command) → slice_get clients which ≡ Some client → slice_get client.commands number ≡ Some command →
    CountsCommand mission (record { client = which; command = number }) command now after summary_now summary_after →
    IsInCount mission lock clients number which before now summary_before summary_now → IsInCount mission lock clients number (which + 1) before after summary_before summary_after
command_counted mission lock clients number which before now after summary_before summary_now summary_after client command place has numbered round =
    let next : suc which ≡ which + 1 = omega arith in
    record {
      at = still_at mission lock now after numbered.gained round.at numbered.gains;
      own = round.own;
      goes_on = λ first until. subst (λ (n : ℕ). HasCountedUntil mission clients number n first after summary_after) next
          (count_taken mission clients number which client place command has first now after summary_now summary_after (round.goes_on first until) numbered);
    }

pub count_passed : (mission : Mission) (lock : LockView) (clients : List Client) (number which : ℕ) (before now : PassView) (summary_before summary_now : Summary) (client : Client) →
    slice_get clients which ≡ Some client → length client.commands ≤ number → IsInCount mission lock clients number which before now summary_before summary_now →
    IsInCount mission lock clients number (which + 1) before now summary_before summary_now
count_passed mission lock clients number which before now summary_before summary_now client place less round =
    let next : suc which ≡ which + 1 = omega arith in
    record {
      at = round.at;
      own = round.own;
      goes_on = λ first until. subst (λ (n : ℕ). HasCountedUntil mission clients number n first now summary_now) next
          (count_skipped mission clients number which client place less first now summary_now (round.goes_on first until));
    }

pub count_over : (mission : Mission) (lock : LockView) (clients : List Client) (number which : ℕ) (before now : PassView) (summary_before summary_now : Summary) →
    which ≡ length clients → IsInCount mission lock clients number which before now summary_before summary_now → CountsRound mission clients number before now summary_before summary_now
count_over mission lock clients number which before now summary_before summary_now all round = record {
  lock = round.at.own ∙ sym round.own;
  goes_on = λ first until. over first (subst (λ (n : ℕ). HasCountedUntil mission clients number n first now summary_now) all (round.goes_on first until));
}
  where
    over : (first : PassView) → HasCountedUntil mission clients number (length clients) first now summary_now → HasCountedUntil mission clients (number + 1) 0 first now summary_now
    over first until = record {
      gained = until.gained;
      gains = until.gains;
      answers = until.answers;
      answered = subst (λ (l : List NumberedCommand). AreAnswered mission l (own_entries until.gained) until.answers) (round_in_rounds clients number) until.answered;
      summed = until.summed;
    }

-- nothing is counted at first
pub nothing_counted : (mission : Mission) (clients : List Client) (first : PassView) (summary : Summary) → summary ≡ summary_of [] → HasCountedUntil mission clients 0 0 first first summary
nothing_counted mission clients first summary none = record {
  gained = [];
  gains = record { mine = sym (append-nil first.mine); rises = omega arith; lock = refl; stands = refl; split = refl };
  answers = [];
  answered = (refl, refl);
  summed = none;
}

-- ---- together

module _ (judged : JudgedSession) (bound : ℕ) (few : CommandsHaveFewParts) where
  abbrev mission : Mission
  mission = mission_of judged bound (without_stats false)

  abbrev commands : List (List Command)
  commands = all_commands judged.session.clients

  abbrev rounds : ℕ
  rounds = longest commands

  pub summarized : (first pass : PassView) (journal : Entries) (summary : Summary) → first.mine ≡ [] → first.seen ≡ [] → HasCounted mission judged.session.clients first pass summary →
      StandIn pass.mine journal → HaveAllOf pass.mine journal → IsReplay (opening_of judged.session) journal → summary ≡ summary_of (serial_answers judged bound)
  summarized first pass journal summary none unseen until right all replayed =
      let mine : pass.mine ≡ until.gained = until.gains.mine ∙ ap (λ (l : Places). l ++ until.gained) none in
      let rises = subst (λ (l : Entries). RisesTo (length l) (length pass.seen) until.gained) unseen until.gains.rises in
      let entries : own_entries until.gained ≡ journal =
      placed_all (length pass.seen) until.gained journal rises (subst (λ (l : Places). StandIn l journal) mine right) (subst (λ (l : Places). HaveAllOf l journal) mine all) in
      let answered : AreAnswered mission (in_rounds rounds 0 commands) journal until.answers =
      subst (λ (l : Entries). AreAnswered mission (in_rounds rounds 0 commands) l until.answers) entries
      (subst (λ (l : List NumberedCommand). AreAnswered mission l (own_entries until.gained) until.answers) (append-nil (in_rounds rounds 0 commands)) until.answered) in
      let serial_one : journal ≡ serial_journal judged bound =
      in_turn (session_meanings judged bound) few (in_rounds rounds 0 commands) (opening_of judged.session) journal (answers_of_commands mission (in_rounds rounds 0 commands) journal until.answers answered) replayed
      ∙ serial_is judged bound in
      until.summed
      ∙ ap summary_of (told_along mission rounds commands journal until.answers answered
      ∙ ap (λ (l : Entries). answers_along mission l (in_rounds rounds 0 commands)) serial_one)
