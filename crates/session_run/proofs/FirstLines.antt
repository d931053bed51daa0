-- The first line of a text tells the numbers of each entry, so that two texts with the same one are along the same journal.
use Rattle.std.proofs.Common.{◌≡◌, ℕ, zero, suc, ◌+◌, ◌/◌, ◌%◌, ◌^◌, ◌<◌, ◌≤◌, ◌==◌, Bool, true, false, cond, List, [], ◌∷◌, ◌++◌, length, map, decimal, Some, None, refl, sym, ap, ap₂, ◌∙◌, subst, arith, append_assoc, slice_get, lt-ltb, ne_eqb, eq-eqb}
use Rattle.std.specs.Fmt.{digit_glyph, digits, digits_onto}
use Rattle.std.specs.List.{AllByRecursion, filter}
use Rattle.std.proofs.lemmas.Fmt.{decimal_injective}
use Rattle.std.proofs.lemmas.List.{length-map}
use Rattle.serde_json.specs.View.{items_of}
use Rattle.serde_json.specs.Written.{compact_text, items_text}
use Rattle.json_line.specs.Json.{line_of}
use Rattle.commands.specs.declared.commands.Command.{Command}
use Rattle.hangar_core.specs.declared.entries.Entry.{Entry}
use Rattle.hangar_core.specs.declared.replies.Reply.{Reply}
use Rattle.hangar_core.specs.Fits.{IsCommand, IsWorkOf, Meanings, commands_of, is_of_client, triple_of}
use Rattle.hangar_core.specs.Journals.{Entries}
use Rattle.hangar_core.specs.laws.FittingJournals.{TriplesTellAll}
use Rattle.hangar_lock.specs.laws.ClientsWork.{CommandsHaveFewParts}
use Rattle.report_text.specs.JournalLines.{entry_data, journal_data}
use Rattle.session_reader.specs.FewClients.{HasFewClients}
use Rattle.session_reader.specs.declared.session.Client.{Client}
use Rattle.session_judge.specs.declared.judged.JudgedSession.{JudgedSession}
use Rattle.client_work.specs.declared.missions.Mission.{Mission}
use Rattle.client_work.specs.Lines.{ClientOf, replies_to, told_line, told_text}
use Rattle.client_work.specs.Told.{command_told}
use Rattle.session_run.specs.laws.FirstLines.{FirstLinesTellJournals, FirstLinesTellTexts, first_line}
use Rattle.session_run.specs.Missions.{all_commands, mission_of, opening_of, session_meanings, without_stats}
use Rattle.session_run.specs.Performed.{FitsSession}
use Rattle.session_run.specs.Texts.{client_numbered, clients_text, session_text}

-- ---- digits

abbrev IsDigit : ℕ → Type 0
IsDigit byte = (48 ≤ byte) × (byte ≤ 57)

abbrev AreDigits : List ℕ → Type 0
AreDigits bytes = AllByRecursion IsDigit bytes

glyph_digit : (n : ℕ) → n < 10 → IsDigit (digit_glyph false n)
glyph_digit n h = rw (lt-ltb n 10 h) (omega arith, omega arith)

either_digits : (b : Bool) (xs ys : List ℕ) → AreDigits xs → AreDigits ys → AreDigits (cond b xs ys)
either_digits true xs ys x y = x
either_digits false xs ys x y = y

onto_digits : (k n : ℕ) (bytes : List ℕ) → AreDigits bytes → AreDigits (digits_onto k 10 false n bytes)
onto_digits zero n bytes h = h
onto_digits (suc k) n bytes h =
    let more : AreDigits (digit_glyph false (n % 10) ∷ bytes) = (glyph_digit (n % 10) (omega arith), h) in
    either_digits (n / 10 == 0) (digit_glyph false (n % 10) ∷ bytes) _ more (onto_digits k (n / 10) (digit_glyph false (n % 10) ∷ bytes) more)

decimal_digits : (n : ℕ) → AreDigits (decimal n)
unfolding digits
decimal_digits n = onto_digits 64 n [] tt

-- digits end at the first byte that is none
same_digits : (ds es : List ℕ) (end : ℕ) (s t : List ℕ) → AreDigits ds → AreDigits es → (IsDigit end → ⊥) → ds ++ (end ∷ s) ≡ es ++ (end ∷ t) → (ds ≡ es) × (s ≡ t)
same_digits [] [] end s t d e ends h = (refl, cc)
same_digits [] (b ∷ es) end s t d e ends h = let same : b ≡ end = cc in absurd (ends (subst IsDigit same e.0))
same_digits (a ∷ ds) [] end s t d e ends h = let same : a ≡ end = cc in absurd (ends (subst IsDigit same d.0))
same_digits (a ∷ ds) (b ∷ es) end s t d e ends h =
    let same : a ≡ b = cc in
    let rest = same_digits ds es end s t d.1 e.1 ends cc in
    (ap₂ (λ (x : ℕ) (l : List ℕ). x ∷ l) same rest.0, rest.1)

same_number : (m n end : ℕ) (s t : List ℕ) → (IsDigit end → ⊥) → decimal m ++ (end ∷ s) ≡ decimal n ++ (end ∷ t) → (decimal m ≡ decimal n) × (s ≡ t)
same_number m n end s t ends h = same_digits (decimal m) (decimal n) end s t (decimal_digits m) (decimal_digits n) ends h

comma_ends : IsDigit 44 → ⊥
comma_ends h = omega (arith, h.0)

bracket_ends : IsDigit 93 → ⊥
bracket_ends h = omega (arith, h.1)

-- ---- entries

abbrev Whole : Type 0
Whole = Entry × Reply

-- the numbers of an entry are small
abbrev IsSmall : Whole → Type 0
IsSmall x = (x.0.client < 2 ^ 64) × (x.0.command < 2 ^ 64) × (x.0.part < 2 ^ 64)

-- what is written of an entry, and behind it
abbrev entry_onto : Whole → List ℕ → List ℕ
entry_onto x text = 91 ∷ (decimal x.0.client ++ (44 ∷ (decimal x.0.command ++ (44 ∷ (decimal x.0.part ++ (93 ∷ text))))))

-- what is written of further entries, and behind them
abbrev later_onto : Entries → List ℕ → List ℕ
later_onto [] text = 93 ∷ text
later_onto (x ∷ later) text = 44 ∷ entry_onto x (later_onto later text)

abbrev entries_onto : Entries → List ℕ → List ℕ
entries_onto [] text = 93 ∷ text
entries_onto (x ∷ later) text = entry_onto x (later_onto later text)

entry_written : (x : Whole) (text : List ℕ) → compact_text (entry_data x) ++ text ≡ entry_onto x text
entry_written x text = simp append_assoc

later_written : (entries : Entries) (text : List ℕ) → items_text true (items_of (map entry_data entries)) ++ text ≡ later_onto entries text
later_written [] text = refl
later_written (x ∷ later) text =
    ap (λ (l : List ℕ). 44 ∷ l) (append_assoc (compact_text (entry_data x)) (items_text true (items_of (map entry_data later))) text
    ∙ entry_written x (items_text true (items_of (map entry_data later)) ++ text) ∙ ap (entry_onto x) (later_written later text))

journal_written : (entries : Entries) (text : List ℕ) → line_of (journal_data entries) ++ text ≡ 91 ∷ entries_onto entries (10 ∷ text)
journal_written [] text = refl
journal_written (x ∷ later) text =
    let written : List ℕ = items_text true (items_of (map entry_data later)) in
    append_assoc (compact_text (journal_data (x ∷ later))) (10 ∷ []) text
    ∙ ap (λ (l : List ℕ). 91 ∷ l) (append_assoc (compact_text (entry_data x)) written (10 ∷ text)
    ∙ entry_written x (written ++ (10 ∷ text)) ∙ ap (entry_onto x) (later_written later (10 ∷ text)))

-- ---- the first line

-- digits stand in a line, and do not end it
digits_in_line : (ds text : List ℕ) → AreDigits ds → first_line (ds ++ text) ≡ ds ++ first_line text
digits_in_line [] text d = refl
digits_in_line (a ∷ ds) text d =
    rw (ne_eqb a 10 (λ e. omega (arith, d.0.0, e))) (ap (λ (l : List ℕ). a ∷ l) (digits_in_line ds text d.1))

number_in_line : (n : ℕ) (text : List ℕ) → first_line (decimal n ++ text) ≡ decimal n ++ first_line text
number_in_line n text = digits_in_line (decimal n) text (decimal_digits n)

entry_in_line : (x : Whole) (text : List ℕ) → first_line (entry_onto x text) ≡ entry_onto x (first_line text)
entry_in_line x text =
    rw (
      number_in_line x.0.client (44 ∷ (decimal x.0.command ++ (44 ∷ (decimal x.0.part ++ (93 ∷ text))))),
      number_in_line x.0.command (44 ∷ (decimal x.0.part ++ (93 ∷ text))),
      number_in_line x.0.part (93 ∷ text),
    ) refl

later_in_line : (entries : Entries) (text : List ℕ) → first_line (later_onto entries text) ≡ later_onto entries (first_line text)
later_in_line [] text = refl
later_in_line (x ∷ later) text = ap (λ (l : List ℕ). 44 ∷ l) (entry_in_line x (later_onto later text) ∙ ap (entry_onto x) (later_in_line later text))

entries_in_line : (entries : Entries) (text : List ℕ) → first_line (entries_onto entries text) ≡ entries_onto entries (first_line text)
entries_in_line [] text = refl
entries_in_line (x ∷ later) text = entry_in_line x (later_onto later text) ∙ ap (entry_onto x) (later_in_line later text)

line_written : (entries : Entries) (text : List ℕ) → first_line (line_of (journal_data entries) ++ text) ≡ 91 ∷ entries_onto entries (10 ∷ [])
line_written entries text = ap first_line (journal_written entries text) ∙ ap (λ (l : List ℕ). 91 ∷ l) (entries_in_line entries (10 ∷ text))

-- ---- what is written tells the numbers

triple_same : (x y : Whole) → x.0.client ≡ y.0.client → x.0.command ≡ y.0.command → x.0.part ≡ y.0.part → triple_of x ≡ triple_of y
triple_same x y client command part = rw (client, command, part) refl

entry_same : (x y : Whole) (s t : List ℕ) → IsSmall x → IsSmall y → entry_onto x s ≡ entry_onto y t → (triple_of x ≡ triple_of y) × (s ≡ t)
entry_same x y s t h k e =
    let client = same_number x.0.client y.0.client 44 (decimal x.0.command ++ (44 ∷ (decimal x.0.part ++ (93 ∷ s)))) (decimal y.0.command ++ (44 ∷ (decimal y.0.part ++ (93 ∷ t)))) comma_ends cc in
    let command = same_number x.0.command y.0.command 44 (decimal x.0.part ++ (93 ∷ s)) (decimal y.0.part ++ (93 ∷ t)) comma_ends client.1 in
    let part = same_number x.0.part y.0.part 93 s t bracket_ends command.1 in (
      triple_same x y (decimal_injective x.0.client y.0.client h.0 k.0 client.0) (decimal_injective x.0.command y.0.command h.1 k.1 command.0)
          (decimal_injective x.0.part y.0.part h.2 k.2 part.0),
      part.1,
    )

different : (a b : ℕ) (s t : List ℕ) → (a ≡ b → ⊥) → a ∷ s ≡ b ∷ t → ⊥
different a b s t apart e = apart cc

abbrev AreSmall : Entries → Type 0
AreSmall entries = AllByRecursion IsSmall entries

later_same : (j k : Entries) (s t : List ℕ) → AreSmall j → AreSmall k → later_onto j s ≡ later_onto k t → map triple_of j ≡ map triple_of k
later_same [] [] s t h g e = refl
later_same [] (y ∷ k) s t h g e = absurd (different 93 44 _ _ (λ same. omega (arith, same)) e)
later_same (x ∷ j) [] s t h g e = absurd (different 44 93 _ _ (λ same. omega (arith, same)) e)
later_same (x ∷ j) (y ∷ k) s t h g e =
    let both = entry_same x y (later_onto j s) (later_onto k t) h.0 g.0 cc in
    ap₂ (λ (z : ℕ × ℕ × ℕ) (l : List (ℕ × ℕ × ℕ)). z ∷ l) both.0 (later_same j k s t h.1 g.1 both.1)

entries_same : (j k : Entries) (s t : List ℕ) → AreSmall j → AreSmall k → entries_onto j s ≡ entries_onto k t → map triple_of j ≡ map triple_of k
entries_same [] [] s t h g e = refl
entries_same [] (y ∷ k) s t h g e = absurd (different 93 91 _ _ (λ same. omega (arith, same)) e)
entries_same (x ∷ j) [] s t h g e = absurd (different 91 93 _ _ (λ same. omega (arith, same)) e)
entries_same (x ∷ j) (y ∷ k) s t h g e =
    let both = entry_same x y (later_onto j s) (later_onto k t) h.0 g.0 e in
    ap₂ (λ (z : ℕ × ℕ × ℕ) (l : List (ℕ × ℕ × ℕ)). z ∷ l) both.0 (later_same j k s t h.1 g.1 both.1)

-- ---- the numbers of a journal that fits are small

all_in_both : (P : Whole → Type 0) (xs ys : Entries) → AllByRecursion P xs → AllByRecursion P ys → AllByRecursion P (xs ++ ys)
all_in_both P [] ys h k = k
all_in_both P (x ∷ xs) ys h k = (h.0, all_in_both P xs ys h.1 k)

abbrev IsSmallPart : Whole → Type 0
IsSmallPart x = (x.0.command < 2 ^ 64) × (x.0.part < 2 ^ 64)

module _ (few : CommandsHaveFewParts) (meanings : Meanings) where
  small_command : (client number : ℕ) (command : Command) (replies : List Reply) (own : Entries) → number < 2 ^ 64 → IsCommand meanings client number command replies own → AllByRecursion IsSmallPart own
  small_command client number command replies [] h is = tt
  small_command client number command replies (x ∷ own) h is =
      let parts = few meanings command replies x.0.action is.0 in
      let of_command : x.0.command ≡ number = ap (λ (entry : Entry). entry.command) is.1 in
      let of_part : x.0.part ≡ length replies = ap (λ (entry : Entry). entry.part) is.1 in
      ((omega (arith, of_command, h), omega (arith, of_part, parts)), small_command client number command (replies ++ (x.1 ∷ [])) own h is.2)

  small_work : (client number : ℕ) (commands : List Command) (entries : Entries) → number + length commands < 2 ^ 64 → IsWorkOf meanings client number commands entries → AllByRecursion IsSmallPart entries
  small_work client number [] entries h is = subst (AllByRecursion IsSmallPart) (sym is) tt
  small_work client number (command ∷ commands) entries h (own, rest, split, first, later) =
      subst (AllByRecursion IsSmallPart) (sym split) (all_in_both IsSmallPart own rest (small_command client number command [] own (omega arith) first)
      (small_work client (number + 1) commands rest (omega arith) later))

rest_of_client : (client : ℕ) (x : Whole) (later : Entries) → AllByRecursion IsSmallPart (filter (is_of_client client) (x ∷ later)) → AllByRecursion IsSmallPart (filter (is_of_client client) later)
rest_of_client client x later h = go (is_of_client client x) h
  where
    go : (v : Bool) → AllByRecursion IsSmallPart (cond v (x ∷ filter (is_of_client client) later) (filter (is_of_client client) later)) → AllByRecursion IsSmallPart (filter (is_of_client client) later)
    go true h = h.1
    go false h = h

all_small : (count : ℕ) (entries : Entries) → count < 2 ^ 64 → ((client : ℕ) → client < count → AllByRecursion IsSmallPart (filter (is_of_client client) entries))
    → ((place : ℕ) (x : Whole) → slice_get entries place ≡ Some x → x.0.client < count) → AreSmall entries
all_small count [] bound works no_other = tt
all_small count (x ∷ later) bound works no_other =
    let here : x.0.client < count = no_other 0 x refl in
    let own : AllByRecursion IsSmallPart (x ∷ filter (is_of_client x.0.client) later) = subst (λ (v : Bool). AllByRecursion IsSmallPart (cond v (x ∷ filter (is_of_client x.0.client) later) (filter (is_of_client x.0.client) later)))
    (eq-eqb x.0.client x.0.client refl) (works x.0.client here) in (
      (omega (arith, here, bound), own.0.0, own.0.1),
      all_small count later bound (λ client h. rest_of_client client x later (works client h)) (λ place y at. no_other (suc place) y at),
    )

-- ---- the laws

few_commands : (clients : List Client) (client : ℕ) → AllByRecursion (λ (it : Client). length it.commands ≤ 4_096) clients
    → length (commands_of client (all_commands clients)) ≤ 4_096
few_commands [] client few = omega arith
few_commands (first ∷ clients) zero few = few.0
few_commands (first ∷ clients) (suc client) few = few_commands clients client few.1

module _ (few : CommandsHaveFewParts) (tell : TriplesTellAll) (judged : JudgedSession) (bound : ℕ) (few_clients : HasFewClients judged.session) where
  abbrev clients : List (List Command)
  clients = all_commands judged.session.clients

  fitting_small : (journal : Entries) → FitsSession judged bound journal → AreSmall journal
  fitting_small journal fits =
      all_small (length clients) journal (omega (arith, length-map judged.session.clients (λ (it : Client). it.commands), few_clients.clients))
      (λ client h. small_work few (session_meanings judged bound) client 0 (commands_of client clients) (filter (is_of_client client) journal)
      (omega (arith, few_commands judged.session.clients client few_clients.commands)) (fits.works client h)) fits.no_other

  same_journal : (journal another : Entries) (rest others : List ℕ) → FitsSession judged bound journal → FitsSession judged bound another
      → first_line (line_of (journal_data journal) ++ rest) ≡ first_line (line_of (journal_data another) ++ others) → journal ≡ another
  same_journal journal another rest others fits other_fits e =
      let written : 91 ∷ entries_onto journal (10 ∷ []) ≡ 91 ∷ entries_onto another (10 ∷ []) = sym (line_written journal rest) ∙ e ∙ line_written another others in
      tell (session_meanings judged bound) (opening_of judged.session) clients journal another fits other_fits
      (entries_same journal another (10 ∷ []) (10 ∷ []) (fitting_small journal fits) (fitting_small another other_fits) cc)

pub journals_told : CommandsHaveFewParts → TriplesTellAll → FirstLinesTellJournals
journals_told few tell judged bound form other_form text other one two few_clients e =
    same_journal few tell judged bound few_clients one.journal two.journal
    (clients_text (mission_of judged bound form) one.counts one.journal 0 judged.session.clients)
    (clients_text (mission_of judged bound other_form) two.counts two.journal 0 judged.session.clients)
    one.fits two.fits (ap first_line (sym one.told) ∙ e ∙ ap first_line two.told)

-- what is told without counts is the same whatever was counted
module _ (judged : JudgedSession) (bound : ℕ) (detail : Bool) where
  abbrev mission : Mission
  mission = mission_of judged bound (without_stats detail)

  told_alike : (client : ClientOf) (counts others : ℕ → ℕ) (entries : Entries) (number : ℕ) (commands : List Command)
      → told_text mission client counts entries number commands ≡ told_text mission client others entries number commands
  told_alike client counts others entries number [] = refl
  told_alike client counts others entries number (command ∷ commands) =
      ap (λ (text : List ℕ). told_line mission client.name number command (command_told mission None command (replies_to number entries)) ++ text)
      (told_alike client (λ later. counts (suc later)) (λ later. others (suc later)) entries (number + 1) commands)

  texts_alike : (counts others : ℕ → ℕ → ℕ) (journal : Entries) (number : ℕ) (clients : List Client)
      → clients_text mission counts journal number clients ≡ clients_text mission others journal number clients
  texts_alike counts others journal number [] = refl
  texts_alike counts others journal number (client ∷ clients) =
      ap₂ (λ (text later : List ℕ). text ++ later)
      (told_alike (client_numbered number client) (counts 0) (others 0) (filter (is_of_client number) journal) 0 client.commands)
      (texts_alike (λ later. counts (suc later)) (λ later. others (suc later)) journal (number + 1) clients)

pub texts_told : CommandsHaveFewParts → TriplesTellAll → FirstLinesTellTexts
texts_told few tell judged bound detail text other one two few_clients e =
    one.told ∙ ap (session_text judged bound (without_stats detail) one.counts) (journals_told few tell judged bound (without_stats detail) (without_stats detail) text other one two few_clients e)
    ∙ ap (λ (texts : List ℕ). line_of (journal_data two.journal) ++ texts) (texts_alike judged bound detail one.counts two.counts two.journal 0 judged.session.clients)
    ∙ sym two.told
