-- What is told of a client's commands is a function of its entries.
use Rattle.std.proofs.Common.{◌≡◌, ℕ, zero, suc, ◌+◌, ◌<◌, ◌≤◌, ◌⊎◌, inl, inr, ◌≢◌, true, false, List, [], ◌∷◌, ◌++◌, length, map, refl, sym, ap, ◌∙◌, subst, nat_eq, arith, append_assoc}
use Rattle.std.specs.List.{filter}
use Rattle.std.proofs.lemmas.List.{append-nil}
use Rattle.std.proofs.lemmas.List.Elements.{filter-append}
use Rattle.std.proofs.lemmas.Bool.{eq-eqb}
use Rattle.std.proofs.lemmas.Bool.Decides.{eqb_tells}
use Rattle.commands.specs.declared.commands.Command.{Command}
use Rattle.hangar_core.specs.declared.entries.Entry.{Entry}
use Rattle.hangar_core.specs.declared.replies.Reply.{Reply}
use Rattle.hangar_core.specs.Fits.{IsCommand, Meanings}
use Rattle.hangar_core.specs.Journals.{Entries}
use Rattle.hangar_lock.specs.ClientEntries.{reply_of}
use Rattle.client_work.specs.declared.missions.Mission.{Mission}
use Rattle.client_work.specs.Counts.{IsRise, PaysAsReplied}
use Rattle.client_work.specs.Lines.{ArePaidFor, ClientOf, replies_to, told_line, told_text}
use Rattle.client_work.specs.Meanings.{meanings_of}
use Rattle.client_work.specs.Told.{command_told, count_told}
use Rattle.client_work.specs.Working.{IsWorkTold}
use Rattle.session_run.specs.Steps.{AreRises, risen_in}

-- ---- one command more

abbrev pub line_told : Mission → ClientOf → ℕ → Command → ℕ → Entries → List ℕ
line_told mission client number command statements own =
    told_line mission client.name number command (command_told mission (count_told mission statements) command (map reply_of own))

module _ (mission : Mission) (client : ClientOf) (command : Command) (own : Entries) (statements : ℕ) where
  pub one_more : (number at : ℕ) (commands : List Command) (entries : Entries) (text : List ℕ) (total rise : ℕ) → at ≡ number + length commands →
      IsWorkTold mission client number commands entries text total →
      IsCommand (meanings_of mission.models mission.bound) client.number at command [] own →
      PaysAsReplied mission command (map reply_of own) statements → IsRise command statements rise →
      IsWorkTold mission client number (commands ++ (command ∷ [])) (entries ++ own) (text ++ line_told mission client at command statements own) (total + rise)
  one_more number at [] entries text total rise count told done paid rose =
      let same : at ≡ number = omega (arith, count) in
      let none = told.2 in (
        own,
        [],
        statements,
        [],
        ap (λ (l : Entries). l ++ own) told.0 ∙ sym (append-nil own),
        subst (λ (n : ℕ). IsCommand (meanings_of mission.models mission.bound) client.number n command [] own) same done,
        paid,
        ap (λ (l : List ℕ). l ++ line_told mission client at command statements own) told.1
            ∙ ap (λ (n : ℕ). line_told mission client n command statements own) same
            ∙ sym (append-nil (line_told mission client number command statements own)),
        rise,
        0,
        rose,
        omega (arith, none),
        (refl, refl, refl),
      )
  one_more number at (first ∷ commands) entries text total rise count told done paid rose =
      let later = one_more (number + 1) at commands told.1 told.3 told.9 rise (omega (arith, count)) told.12 done paid rose in
      let together = told.11 in (
        told.0,
        told.1 ++ own,
        told.2,
        told.3 ++ line_told mission client at command statements own,
        ap (λ (l : Entries). l ++ own) told.4 ∙ append_assoc told.0 told.1 own,
        told.5,
        told.6,
        ap (λ (l : List ℕ). l ++ line_told mission client at command statements own) told.7
            ∙ append_assoc (line_told mission client number first told.2 told.0) told.3 (line_told mission client at command statements own),
        told.8,
        told.9 + rise,
        told.10,
        omega (arith, together),
        later,
      )

-- ---- whose entries they are

-- each entry is of a command with a number that meets a condition
abbrev pub AreOf : (ℕ → Type 0) → Entries → Type 0
AreOf P [] = Unit {0}
AreOf P (x ∷ entries) = P x.0.command × AreOf P entries

pub of_weaker : (P Q : ℕ → Type 0) → ((n : ℕ) → P n → Q n) → (entries : Entries) → AreOf P entries → AreOf Q entries
of_weaker P Q weaker [] h = tt
of_weaker P Q weaker (x ∷ entries) h = (weaker x.0.command h.0, of_weaker P Q weaker entries h.1)

of_both : (P : ℕ → Type 0) (entries later : Entries) → AreOf P entries → AreOf P later → AreOf P (entries ++ later)
of_both P [] later h k = k
of_both P (x ∷ entries) later h k = (h.0, of_both P entries later h.1 k)

pub of_command : (meanings : Meanings) (client number : ℕ) (command : Command) (replies : List Reply) (own : Entries) →
    IsCommand meanings client number command replies own → AreOf (λ n. n ≡ number) own
of_command meanings client number command replies [] h = tt
of_command meanings client number command replies (x ∷ own) h =
    (ap (λ (z : Entry). z.command) h.1, of_command meanings client number command (replies ++ (x.1 ∷ [])) own h.2)

of_later : (mission : Mission) (client : ClientOf) (number : ℕ) (commands : List Command) (entries : Entries) (text : List ℕ) (total : ℕ) →
    IsWorkTold mission client number commands entries text total → AreOf (λ n. number ≤ n) entries
of_later mission client number [] entries text total told = subst (AreOf (λ n. number ≤ n)) (sym told.0) tt
of_later mission client number (command ∷ commands) entries text total told =
    subst (AreOf (λ n. number ≤ n)) (sym told.4)
    (of_both (λ n. number ≤ n) told.0 told.1
    (of_weaker (λ n. n ≡ number) (λ n. number ≤ n) (λ n same. omega (arith, same)) told.0
    (of_command (meanings_of mission.models mission.bound) client.number number command [] told.0 told.5))
    (of_weaker (λ n. number + 1 ≤ n) (λ n. number ≤ n) (λ n more. omega (arith, more)) told.1
    (of_later mission client (number + 1) commands told.1 told.3 told.9 told.12)))

-- ---- the entries of a command among all

abbrev pub of_number : ℕ → Entry × Reply → Rattle.std.specs.Prelude.Bool
of_number number x = nat_eq x.0.command number

pub none_of : (number : ℕ) (entries : Entries) → AreOf (λ n. n ≢ number) entries → filter (of_number number) entries ≡ []
none_of number [] h = refl
none_of number (x ∷ entries) h = decide (eqb_tells x.0.command number) (none_of number entries h.1)
  where
    decide : ((nat_eq x.0.command number ≡ true) × (x.0.command ≡ number)) ⊎ ((nat_eq x.0.command number ≡ false) × (x.0.command ≢ number)) →
        filter (of_number number) entries ≡ [] → filter (of_number number) (x ∷ entries) ≡ []
    decide (inl k) none = absurd (h.0 k.1)
    decide (inr k) none = rw k.0 none

pub all_of : (number : ℕ) (entries : Entries) → AreOf (λ n. n ≡ number) entries → filter (of_number number) entries ≡ entries
all_of number [] h = refl
all_of number (x ∷ entries) h = rw (eq-eqb x.0.command number h.0) (ap (λ (l : Entries). x ∷ l) (all_of number entries h.1))

picked : (number : ℕ) (before own later : Entries) → AreOf (λ n. n ≢ number) before → AreOf (λ n. n ≡ number) own → AreOf (λ n. n ≢ number) later →
    replies_to number (before ++ (own ++ later)) ≡ map reply_of own
picked number before own later none all none_later = ap (λ (l : Entries). map reply_of l) (
    filter-append (of_number number) before (own ++ later)
    ∙ ap (λ (l : Entries). l ++ filter (of_number number) (own ++ later)) (none_of number before none)
    ∙ filter-append (of_number number) own later
    ∙ ap (λ (l : Entries). filter (of_number number) own ++ l) (none_of number later none_later)
    ∙ append-nil (filter (of_number number) own)
    ∙ all_of number own all
    )

-- ---- a text by all entries

-- a count, and counts behind it
unfoldable pub first_then : {A : Type 0} → A → (ℕ → A) → ℕ → A
first_then first later zero = first
first_then first later (suc number) = later number

-- what a text tells: the counts, how far the steps rose, and what follows of them
pub record TellsBy (mission : Mission) (client : ClientOf) (number : ℕ) (commands : List Command) (entries : Entries) (text : List ℕ) (total : ℕ) : Type 0 where
  pub counts : ℕ → ℕ
  pub rises : ℕ → ℕ
  pub told : text ≡ told_text mission client counts entries number commands
  pub paid : ArePaidFor mission counts entries number commands
  pub counted : AreRises counts rises commands
  pub together : total ≡ risen_in rises commands

pub told_by : (mission : Mission) (client : ClientOf) (number : ℕ) (commands : List Command) (before entries : Entries) (text : List ℕ) (total : ℕ) → AreOf (λ n. n < number) before →
    IsWorkTold mission client number commands entries text total → TellsBy mission client number commands (before ++ entries) text total
unfolding first_then
told_by mission client number [] before entries text total earlier told =
    record { counts = λ n. 0; rises = λ n. 0; told = told.1; paid = tt; counted = tt; together = told.2 }
told_by mission client number (command ∷ commands) before entries text total earlier told =
    let own : Entries = told.0 in
    let later : Entries = told.1 in
    let are_own : AreOf (λ n. n ≡ number) own = of_command (meanings_of mission.models mission.bound) client.number number command [] own told.5 in
    let whole : before ++ entries ≡ before ++ (own ++ later) = ap (λ (l : Entries). before ++ l) told.4 in
    let rest = told_by mission client (number + 1) commands (before ++ own) later told.3 told.9
    (of_both (λ n. n < number + 1) before own
    (of_weaker (λ n. n < number) (λ n. n < number + 1) (λ n less. omega (arith, less)) before earlier)
    (of_weaker (λ n. n ≡ number) (λ n. n < number + 1) (λ n same. omega (arith, same)) own are_own))
    told.12 in
    let replies : replies_to number (before ++ entries) ≡ map reply_of own =
    ap (replies_to number) whole
    ∙ picked number before own later
    (of_weaker (λ n. n < number) (λ n. n ≢ number) (λ n less same. omega (arith, less, same)) before earlier) are_own
    (of_weaker (λ n. number + 1 ≤ n) (λ n. n ≢ number) (λ n more same. omega (arith, more, same)) later
    (of_later mission client (number + 1) commands later told.3 told.9 told.12)) in
    let later_is : before ++ own ++ later ≡ before ++ entries = append_assoc before own later ∙ sym whole in
    let others = rest.together in
    let all = told.11 in
    record {
      counts = first_then told.2 rest.counts;
      rises = first_then told.8 rest.rises;
      told =
          told.7
          ∙ ap (λ (l : List Reply). told_line mission client.name number command (command_told mission (count_told mission told.2) command l) ++ told.3) (sym replies)
          ∙ ap (λ (l : List ℕ). told_line mission client.name number command (command_told mission (count_told mission told.2) command (replies_to number (before ++ entries))) ++ l)
          (rest.told ∙ ap (λ (l : Entries). told_text mission client rest.counts l (number + 1) commands) later_is);
      paid = (
        subst (λ (l : List Reply). PaysAsReplied mission command l told.2) (sym replies) told.6,
        subst (λ (l : Entries). ArePaidFor mission rest.counts l (number + 1) commands) later_is rest.paid,
      );
      counted = (told.10, rest.counted);
      together = all ∙ ap (λ (n : ℕ). told.8 + n) others;
    }

pub told_is_text : (mission : Mission) (client : ClientOf) (commands : List Command) (entries : Entries) (text : List ℕ) (total : ℕ) →
    IsWorkTold mission client 0 commands entries text total → TellsBy mission client 0 commands entries text total
told_is_text mission client commands entries text total told = told_by mission client 0 commands [] entries text total tt told
