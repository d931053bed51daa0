-- The work of a client, command after command.
use Rattle.std.proofs.Common.{◌≡◌, refl, sym, ap, subst, ◌∙◌, ℕ, suc, ◌+◌, ◌<◌, List, [], ◌∷◌, ◌++◌, length, map, take, get_or, arith, append_assoc}
use Rattle.std.proofs.lemmas.List.{append-nil, length-take-le}
use Rattle.std.proofs.Math.Seq.{take-suc}
use Rattle.commands.specs.declared.commands.Command.{Command}
use Rattle.hangar_core.specs.Fits.{IsCommand, IsWorkOf}
use Rattle.hangar_core.specs.Journals.{Entries}
use Rattle.hangar_lock.specs.Passes.{PassView}
use Rattle.hangar_lock.specs.Places.{Places}
use Rattle.hangar_lock.specs.ClientEntries.{HasWorked, own_entry, reply_of}
use Rattle.client_work.specs.declared.missions.Mission.{Mission}
use Rattle.client_work.specs.declared.workplace.Worker.{Worker}
use Rattle.client_work.specs.Counts.{IsRise, PaysAsReplied}
use Rattle.client_work.specs.Rises.{rise_of}
use Rattle.client_work.specs.Lines.{ClientOf, told_line}
use Rattle.client_work.specs.Meanings.{meanings_of}
use Rattle.client_work.specs.Told.{command_told, count_told}
use Rattle.client_work.specs.Working.{IsCommandDone, IsLater, IsWorkDone, IsWorkTold, work_state_at, told_command_by, own_entries, work_of}
use Rattle.client_work.proofs.Carrying.{gained_both}

-- what is later than something later is later
pub later_on : {L K : Type 0} {first middle last : Worker L K} → IsLater first middle → IsLater middle last → IsLater first last
later_on one two = record {
  pass = two.pass ∙ one.pass;
  benches = two.benches ∙ one.benches;
  bound = two.bound ∙ one.bound;
  steps = two.steps ∙ one.steps;
  looks = two.looks ∙ one.looks;
  rise = let earlier = one.rise in let later = two.rise in omega (arith, earlier, later);
}

abbrev pub line_told : Mission → ClientOf → ℕ → Command → ℕ → Entries → List ℕ
line_told mission client number command statements own =
    told_line mission client.name number command (command_told mission (count_told mission statements) command (map reply_of own))

module _ (mission : Mission) (client : ClientOf) where
  -- one command more is told
  module _ (command : Command) (own : Entries) (statements : ℕ) where
    pub one_more : (number at : ℕ) (commands : List Command) (entries : Entries) (text : List ℕ) (total rise : ℕ) → at ≡ number + length commands →
        IsWorkTold mission client number commands entries text total →
        IsCommand (meanings_of mission.models mission.bound) client.number at command [] own →
        PaysAsReplied mission command (map reply_of own) statements → IsRise command statements rise →
        IsWorkTold mission client number (commands ++ (command ∷ [])) (entries ++ own) (text ++ line_told mission client at command statements own) (total + rise)
    one_more number at [] entries text total rise count told done paid rose =
        let same : at ≡ number = omega (arith, count) in
        let none = told.2 in (
          own,
          [],
          statements,
          [],
          ap (λ (l : Entries). l ++ own) told.0 ∙ sym (append-nil own),
          subst (λ (n : ℕ). IsCommand (meanings_of mission.models mission.bound) client.number n command [] own) same done,
          paid,
          ap (λ (l : List ℕ). l ++ line_told mission client at command statements own) told.1
              ∙ ap (λ (n : ℕ). line_told mission client n command statements own) same
              ∙ sym (append-nil (line_told mission client number command statements own)),
          rise,
          0,
          rose,
          omega (arith, none),
          (refl, refl, refl),
        )
    one_more number at (first ∷ commands) entries text total rise count told done paid rose =
        let later = one_more (number + 1) at commands told.1 told.3 told.9 rise (omega (arith, count)) told.12 done paid rose in
        let sum = told.11 in (
          told.0,
          told.1 ++ own,
          told.2,
          told.3 ++ line_told mission client at command statements own,
          ap (λ (l : Entries). l ++ own) told.4 ∙ append_assoc told.0 told.1 own,
          told.5,
          told.6,
          ap (λ (l : List ℕ). l ++ line_told mission client at command statements own) told.7
              ∙ append_assoc (line_told mission client number first told.2 told.0) told.3 (line_told mission client at command statements own),
          told.8,
          told.9 + rise,
          told.10,
          omega (arith, sum),
          later,
        )

  -- the entries that are told of are the work of the client
  is_work : (number : ℕ) (commands : List Command) (entries : Entries) (text : List ℕ) (total : ℕ) → IsWorkTold mission client number commands entries text total →
      IsWorkOf (meanings_of mission.models mission.bound) client.number number commands entries
  is_work number [] entries text total told = told.0
  is_work number (command ∷ commands) entries text total told = (told.0, told.1, told.4, told.5, is_work (number + 1) commands told.1 told.3 told.9 told.12)

  pub has_worked : (commands : List Command) (before after : PassView) (text : List ℕ) → IsWorkDone (work_of mission client commands) before after text →
      HasWorked (meanings_of mission.models mission.bound) client.number commands before after
  has_worked commands before after text done = record {
    gained = done.gained;
    mine = done.gains.mine;
    work = is_work 0 commands (own_entries done.gained) text done.total done.told;
    rises = done.gains.rises;
  }

  -- ---- command after command

  entries_both : (gained later : Places) → own_entries (gained ++ later) ≡ own_entries gained ++ own_entries later
  entries_both [] later = refl
  entries_both (place ∷ gained) later = ap (λ (l : Entries). own_entry place ∷ l) (entries_both gained later)

  pub one_done : (command : Command) (commands : List Command) (before middle after : PassView) (steps_before steps_after : ℕ) (text line : List ℕ) →
      IsWorkDone (work_of mission client commands) before middle text →
      IsCommandDone (told_command_by mission client (length commands) command) (work_state_at middle steps_before) (work_state_at after steps_after) line →
      IsWorkDone (work_of mission client (commands ++ (command ∷ []))) before after (text ++ line)
  one_done command commands before middle after steps_before steps_after text line work whose =
      let rose = rise_of command whose.statements steps_before steps_after whose.counted in
      let told = one_more command (own_entries whose.gained) whose.statements 0 (length commands) commands (own_entries work.gained) text work.total rose.rise (omega arith) work.told
      whose.parts whose.paid rose.counted in
      record {
        gained = work.gained ++ whose.gained;
        gains = gained_both before middle after work.gained whose.gained work.gains whose.gains;
        total = work.total + rose.rise;
        told = subst (λ (l : Entries). IsWorkTold mission client 0 (commands ++ (command ∷ [])) l (text ++ line) (work.total + rose.rise)) (sym (entries_both work.gained whose.gained))
            (subst (λ (l : List ℕ). IsWorkTold mission client 0 (commands ++ (command ∷ [])) (own_entries work.gained ++ own_entries whose.gained) (text ++ l) (work.total + rose.rise)) (sym whose.told) told);
      }

  -- behind the commands below a number, the next one
  pub next_done : (number : ℕ) (commands : List Command) (command : Command) (before middle after : PassView) (steps_before steps_after : ℕ) (text line whole : List ℕ) →
      number < length commands → command ≡ get_or commands number command → whole ≡ text ++ line →
      IsWorkDone (work_of mission client (take number commands)) before middle text →
      IsCommandDone (told_command_by mission client number command) (work_state_at middle steps_before) (work_state_at after steps_after) line →
      IsWorkDone (work_of mission client (take (number + 1) commands)) before after whole
  next_done number commands command before middle after steps_before steps_after text line whole within at is_whole work whose =
      let count : length (take number commands) ≡ number = length-take-le number commands (omega (arith, within)) in
      let one : suc number ≡ number + 1 = omega arith in
      let more : take (number + 1) commands ≡ take number commands ++ (command ∷ []) =
      subst (λ (n : ℕ). take n commands ≡ take number commands ++ (get_or commands number command ∷ [])) one (take-suc commands number command within)
      ∙ ap (λ (c : Command). take number commands ++ (c ∷ [])) (sym at) in
      subst (λ (l : List Command). IsWorkDone (work_of mission client l) before after whole) (sym more)
      (subst (IsWorkDone (work_of mission client (take number commands ++ (command ∷ []))) before after) (sym is_whole)
      (one_done command (take number commands) before middle after steps_before steps_after text line work
      (subst (λ (n : ℕ). IsCommandDone (told_command_by mission client n command) (work_state_at middle steps_before) (work_state_at after steps_after) line) (sym count) whose)))
