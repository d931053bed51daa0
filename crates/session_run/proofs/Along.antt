-- The entries of a command are those of the journal that are of its client and of its command, since no two commands are of the same.
use Rattle.std.proofs.Common.{◌≡◌, ℕ, zero, suc, ◌+◌, ◌≤◌, ◌⊎◌, inl, inr, ◌≢◌, true, false, List, [], ◌∷◌, ◌++◌, map, None, refl, sym, ap, ◌∙◌, nat_eq, arith, append_assoc}
use Rattle.std.specs.List.{AllByRecursion, filter}
use Rattle.std.proofs.lemmas.List.{append-nil}
use Rattle.std.proofs.lemmas.List.Elements.{filter-append}
use Rattle.std.proofs.lemmas.Bool.Decides.{eqb_tells}
use Rattle.commands.specs.declared.commands.Command.{Command}
use Rattle.hangar_core.specs.Fits.{is_of_client, IsCommand, Meanings}
use Rattle.hangar_core.specs.Journals.{Entries}
use Rattle.hangar_core.specs.Serial.{NumberedCommand, heads, later_commands, in_rounds}
use Rattle.hangar_lock.specs.ClientEntries.{reply_of}
use Rattle.report_text.specs.declared.answers.Answer.{Answer}
use Rattle.client_work.specs.declared.missions.Mission.{Mission}
use Rattle.client_work.specs.Meanings.{meanings_of}
use Rattle.client_work.specs.Told.{command_told}
use Rattle.session_run.specs.Answers.{answers_along, AreAnswered}
use Rattle.session_run.specs.Rounds.{AreEntriesOf}
use Rattle.session_run.proofs.Rounds.{all_by, none_by}
use Rattle.session_run.proofs.Telling.{all_of, none_of, of_command, of_number, of_weaker}

-- ---- no two commands are of the same command

abbrev AreApart : NumberedCommand → NumberedCommand → Type 0
AreApart one other = one.client ≡ other.client → one.number ≡ other.number → ⊥

abbrev AllApart : List NumberedCommand → Type 0
AllApart [] = Unit {0}
AllApart (numbered ∷ later) = AllByRecursion (AreApart numbered) later × AllApart later

all_weaker : {A : Type 0} (P Q : A → Type 0) → ((x : A) → P x → Q x) → (xs : List A) → AllByRecursion P xs → AllByRecursion Q xs
all_weaker P Q weaker [] all = tt
all_weaker P Q weaker (x ∷ xs) all = (weaker x all.0, all_weaker P Q weaker xs all.1)

all_both : {A : Type 0} (P : A → Type 0) (xs ys : List A) → AllByRecursion P xs → AllByRecursion P ys → AllByRecursion P (xs ++ ys)
all_both P [] ys one two = two
all_both P (x ∷ xs) ys one two = (one.0, all_both P xs ys one.1 two)

heads_numbers : (number client : ℕ) (xs : List (List Command)) → AllByRecursion (λ (numbered : NumberedCommand). numbered.number ≡ number) (heads number client xs)
heads_numbers number client [] = tt
heads_numbers number client ([] ∷ xs) = heads_numbers number (client + 1) xs
heads_numbers number client ((first ∷ more) ∷ xs) = (refl, heads_numbers number (client + 1) xs)

heads_clients : (number client : ℕ) (xs : List (List Command)) → AllByRecursion (λ (numbered : NumberedCommand). client ≤ numbered.client) (heads number client xs)
heads_clients number client [] = tt
heads_clients number client ([] ∷ xs) =
    all_weaker (λ (numbered : NumberedCommand). client + 1 ≤ numbered.client) (λ (numbered : NumberedCommand). client ≤ numbered.client) (λ numbered less. omega (arith, less)) (heads number (client + 1) xs)
    (heads_clients number (client + 1) xs)
heads_clients number client ((first ∷ more) ∷ xs) = (
  omega arith,
  all_weaker (λ (numbered : NumberedCommand). client + 1 ≤ numbered.client) (λ (numbered : NumberedCommand). client ≤ numbered.client) (λ numbered less. omega (arith, less)) (heads number (client + 1) xs)
      (heads_clients number (client + 1) xs),
)

heads_apart : (number client : ℕ) (xs : List (List Command)) → AllApart (heads number client xs)
heads_apart number client [] = tt
heads_apart number client ([] ∷ xs) = heads_apart number (client + 1) xs
heads_apart number client ((first ∷ more) ∷ xs) = (
  all_weaker (λ (numbered : NumberedCommand). client + 1 ≤ numbered.client) (AreApart (record { client = client; number = number; command = first }))
      (λ numbered less same _. absurd (omega (arith, less, same))) (heads number (client + 1) xs) (heads_clients number (client + 1) xs),
  heads_apart number (client + 1) xs,
)

later_numbers : (rounds number : ℕ) (xs : List (List Command)) → AllByRecursion (λ (numbered : NumberedCommand). number ≤ numbered.number) (in_rounds rounds number xs)
later_numbers zero number xs = tt
later_numbers (suc rounds) number xs =
    all_both (λ (numbered : NumberedCommand). number ≤ numbered.number) (heads number 0 xs) (in_rounds rounds (number + 1) (map later_commands xs))
    (all_weaker (λ (numbered : NumberedCommand). numbered.number ≡ number) (λ (numbered : NumberedCommand). number ≤ numbered.number) (λ numbered same. omega (arith, same)) (heads number 0 xs) (heads_numbers number 0 xs))
    (all_weaker (λ (numbered : NumberedCommand). number + 1 ≤ numbered.number) (λ (numbered : NumberedCommand). number ≤ numbered.number) (λ numbered less. omega (arith, less)) (in_rounds rounds (number + 1) (map later_commands xs))
    (later_numbers rounds (number + 1) (map later_commands xs)))

-- commands of one number and commands of greater ones
apart_both : (number : ℕ) (xs ys : List NumberedCommand) → AllByRecursion (λ (numbered : NumberedCommand). numbered.number ≡ number) xs → AllByRecursion (λ (numbered : NumberedCommand). number + 1 ≤ numbered.number) ys →
    AllApart xs → AllApart ys → AllApart (xs ++ ys)
apart_both number [] ys same more one two = two
apart_both number (x ∷ xs) ys same more one two = (
  all_both (AreApart x) xs ys one.0
      (all_weaker (λ (numbered : NumberedCommand). number + 1 ≤ numbered.number) (AreApart x) (λ numbered less _ is. let first = same.0 in absurd (omega (arith, first, less, is))) ys more),
  apart_both number xs ys same.1 more one.1 two,
)

in_rounds_apart : (rounds number : ℕ) (xs : List (List Command)) → AllApart (in_rounds rounds number xs)
in_rounds_apart zero number xs = tt
in_rounds_apart (suc rounds) number xs =
    apart_both number (heads number 0 xs) (in_rounds rounds (number + 1) (map later_commands xs)) (heads_numbers number 0 xs) (later_numbers rounds (number + 1) (map later_commands xs))
    (heads_apart number 0 xs) (in_rounds_apart rounds (number + 1) (map later_commands xs))

-- ---- the entries of a command among others

abbrev picked : NumberedCommand → Entries → Entries
picked numbered entries = filter (of_number numbered.number) (filter (is_of_client numbered.client) entries)

picked_both : (numbered : NumberedCommand) (xs ys : Entries) → picked numbered (xs ++ ys) ≡ picked numbered xs ++ picked numbered ys
picked_both numbered xs ys =
    ap (filter (of_number numbered.number)) (filter-append (is_of_client numbered.client) xs ys)
    ∙ filter-append (of_number numbered.number) (filter (is_of_client numbered.client) xs) (filter (is_of_client numbered.client) ys)

module _ (meanings : Meanings) where
  abbrev IsOfCommand : NumberedCommand → Entries → Type 0
  IsOfCommand numbered own = IsCommand meanings numbered.client numbered.number numbered.command [] own

  own_picked : (numbered : NumberedCommand) (own : Entries) → IsOfCommand numbered own → picked numbered own ≡ own
  own_picked numbered own done =
      ap (filter (of_number numbered.number)) (all_by meanings numbered.client numbered.number numbered.command [] own done)
      ∙ all_of numbered.number own (of_command meanings numbered.client numbered.number numbered.command [] own done)

  none_picked : (other numbered : NumberedCommand) (own : Entries) → AreApart numbered other → IsOfCommand numbered own → picked other own ≡ []
  none_picked other numbered own apart done = decide (eqb_tells other.client numbered.client)
    where
      decide : ((nat_eq other.client numbered.client ≡ true) × (other.client ≡ numbered.client)) ⊎ ((nat_eq other.client numbered.client ≡ false) × (other.client ≢ numbered.client)) → picked other own ≡ []
      decide (inl k) =
          ap (λ (client : ℕ). filter (of_number other.number) (filter (is_of_client client) own)) k.1
          ∙ ap (filter (of_number other.number)) (all_by meanings numbered.client numbered.number numbered.command [] own done)
          ∙ none_of other.number own
          (of_weaker (λ n. n ≡ numbered.number) (λ n. n ≢ other.number) (λ n is same. apart (sym k.1) (sym is ∙ same)) own
          (of_command meanings numbered.client numbered.number numbered.command [] own done))
      decide (inr k) = ap (filter (of_number other.number)) (none_by meanings numbered.client other.client numbered.number numbered.command [] own k.1 done)

-- ---- all commands

module _ (mission : Mission) where
  abbrev meanings : Meanings
  meanings = meanings_of mission.models mission.bound

  none_later : (numbered : NumberedCommand) (later : List NumberedCommand) (entries : Entries) (answers : List Answer) → AllByRecursion (AreApart numbered) later →
      AreAnswered mission later entries answers → picked numbered entries ≡ []
  none_later numbered [] entries answers apart are = ap (picked numbered) are.0
  none_later numbered (next ∷ later) entries answers apart are =
      ap (picked numbered) are.3
      ∙ picked_both numbered are.0 are.1
      ∙ ap (λ (l : Entries). l ++ picked numbered are.1) (none_picked meanings numbered next are.0 (λ client number. apart.0 (sym client) (sym number)) are.4)
      ∙ none_later numbered later are.1 are.2 apart.1 are.6

  abbrev NoneBefore : Entries → List NumberedCommand → Type 0
  NoneBefore before in_rounds = AllByRecursion (λ (numbered : NumberedCommand). picked numbered before ≡ []) in_rounds

  none_yet : (before own : Entries) (numbered : NumberedCommand) (later : List NumberedCommand) → IsOfCommand meanings numbered own → AllByRecursion (AreApart numbered) later →
      NoneBefore before later → NoneBefore (before ++ own) later
  none_yet before own numbered [] done apart none = tt
  none_yet before own numbered (next ∷ later) done apart none = (
    picked_both next before own
        ∙ ap (λ (l : Entries). l ++ picked next own) none.0
        ∙ none_picked meanings next numbered own apart.0 done,
    none_yet before own numbered later done apart.1 none.1,
  )

  along_behind : (in_rounds : List NumberedCommand) (before rest : Entries) (answers : List Answer) → NoneBefore before in_rounds → AllApart in_rounds → AreAnswered mission in_rounds rest answers →
      answers ≡ answers_along mission (before ++ rest) in_rounds
  along_behind [] before rest answers none apart are = are.1
  along_behind (numbered ∷ later) before rest answers none apart are =
      let own : Entries = are.0 in
      let behind : Entries = are.1 in
      let whole : before ++ rest ≡ before ++ (own ++ behind) = ap (λ (l : Entries). before ++ l) are.3 in
      let replies : picked numbered (before ++ rest) ≡ own =
      ap (picked numbered) whole
      ∙ picked_both numbered before (own ++ behind)
      ∙ ap (λ (l : Entries). l ++ picked numbered (own ++ behind)) none.0
      ∙ picked_both numbered own behind
      ∙ ap (λ (l : Entries). l ++ picked numbered behind) (own_picked meanings numbered own are.4)
      ∙ ap (λ (l : Entries). own ++ l) (none_later numbered later behind are.2 apart.0 are.6)
      ∙ append-nil own in
      let others : are.2 ≡ answers_along mission (before ++ rest) later =
      along_behind later (before ++ own) behind are.2 (none_yet before own numbered later are.4 apart.0 none.1) apart.1 are.6
      ∙ ap (λ (l : Entries). answers_along mission l later) (append_assoc before own behind ∙ sym whole) in
      are.5
      ∙ ap (λ (l : Entries). command_told mission None numbered.command (map reply_of l) ∷ are.2) (sym replies)
      ∙ ap (λ (l : List Answer). command_told mission None numbered.command (map reply_of (picked numbered (before ++ rest))) ∷ l) others

  none_at_first : (in_rounds : List NumberedCommand) → NoneBefore [] in_rounds
  none_at_first [] = tt
  none_at_first (numbered ∷ in_rounds) = (refl, none_at_first in_rounds)

  -- what is told of commands is what is told along their entries
  pub told_along : (rounds : ℕ) (commands : List (List Command)) (journal : Entries) (answers : List Answer) → AreAnswered mission (in_rounds rounds 0 commands) journal answers →
      answers ≡ answers_along mission journal (in_rounds rounds 0 commands)
  told_along rounds commands journal answers are = along_behind (in_rounds rounds 0 commands) [] journal answers (none_at_first (in_rounds rounds 0 commands)) (in_rounds_apart rounds 0 commands) are

  pub answers_of_commands : (in_rounds : List NumberedCommand) (entries : Entries) (answers : List Answer) → AreAnswered mission in_rounds entries answers → AreEntriesOf meanings in_rounds entries
  answers_of_commands [] entries answers are = are.0
  answers_of_commands (numbered ∷ later) entries answers are = (are.0, are.1, are.3, are.4, answers_of_commands later are.1 are.2 are.6)
