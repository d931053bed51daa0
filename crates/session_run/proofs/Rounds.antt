-- Command by command, and round by round.
use Rattle.std.proofs.Common.{String, Global, ◌≡◌, ℕ, zero, suc, ◌+◌, ◌<◌, ◌≤◌, ◌⊎◌, inl, inr, ◌≢◌, true, false, List, [], ◌∷◌, ◌++◌, length, map, max, take, drop, Some, None, refl, sym, ap, ◌∙◌, subst, nat_eq, nat_le, arith, append_assoc, get_or, slice_get, slice_set}
use Rattle.std.specs.List.{AllByRecursion, filter}
use Rattle.std.specs.String.{string_bytes}
use Rattle.std.proofs.lemmas.List.{append-nil}
use Rattle.std.proofs.lemmas.List.Elements.{filter-append}
use Rattle.std.proofs.lemmas.Bool.{eq-eqb, le-ltb, lt-ltb}
use Rattle.std.proofs.lemmas.Bool.Decides.{eqb_tells, leb_tells}
use Rattle.std.proofs.lemmas.Option.{slice_get-get_or, slice_get_within}
use Rattle.commands.specs.declared.commands.Command.{Command}
use Rattle.hangar_core.specs.declared.entries.Entry.{Entry}
use Rattle.hangar_core.specs.declared.replies.Reply.{Reply}
use Rattle.hangar_core.specs.Fits.{is_of_client, IsCommand, Meanings}
use Rattle.hangar_core.specs.Journals.{Entries}
use Rattle.hangar_core.specs.Serial.{NumberedCommand, heads, later_commands, longest, in_rounds}
use Rattle.hangar_lock.specs.Passes.{LockView, PassView}
use Rattle.hangar_lock.specs.Places.{Places}
use Rattle.hangar_lock.specs.ClientEntries.{own_entry, RisesTo}
use Rattle.session_reader.specs.declared.session.Client.{Client}
use Rattle.client_work.specs.declared.missions.Mission.{Mission}
use Rattle.client_work.specs.Meanings.{meanings_of}
use Rattle.client_work.specs.Counts.{IsRise, tells_its_steps}
use Rattle.client_work.specs.Rises.{rise_of}
use Rattle.client_work.specs.Working.{own_entries, HasGained, IsAtWork, IsWorkTold}
use Rattle.session_run.specs.Missions.{all_commands}
use Rattle.session_run.specs.Texts.{client_numbered}
use Rattle.session_run.specs.Rounds.{AreToldUntil, AreEntriesOf, commands_behind, done_until, HasDoneUntil, Stand, TakesRound, TakesCommand, texts_without, in_rounds_until}
use Rattle.session_run.specs.Steps.{TellTheirSteps, together}
use Rattle.session_run.proofs.Telling.{line_told, one_more}

-- ---- lists

pub same_some : {A : Type 0} (x y : A) → Some x ≡ Some y → x ≡ y
same_some x y e = cc

pub none_some : {A : Type 0} (x : A) → None ≡ Some x → ⊥
none_some x e = cc

pub found_at : {A : Type 0} (xs : List A) (at : ℕ) (x : A) → at < length xs → x ≡ get_or xs at x → slice_get xs at ≡ Some x
found_at xs at x within is = slice_get-get_or xs at x within ∙ ap Some (sym is)

pub get_mapped : {A B : Type 0} (f : A → B) (xs : List A) (at : ℕ) (x : A) → slice_get xs at ≡ Some x → slice_get (map f xs) at ≡ Some (f x)
get_mapped f [] at x e = absurd (none_some x e)
get_mapped f (y ∷ xs) zero x e = ap (λ z. Some (f z)) (same_some y x e)
get_mapped f (y ∷ xs) (suc at) x e = get_mapped f xs at x e

pub drop_at : {A : Type 0} (xs : List A) (at : ℕ) (x : A) → slice_get xs at ≡ Some x → drop at xs ≡ x ∷ drop (suc at) xs
drop_at [] at x e = absurd (none_some x e)
drop_at (y ∷ xs) zero x e = ap (λ z. z ∷ xs) (same_some y x e)
drop_at (y ∷ xs) (suc at) x e = drop_at xs at x e

pub drop_all : {A : Type 0} (xs : List A) (at : ℕ) → length xs ≤ at → drop at xs ≡ []
drop_all [] zero less = refl
drop_all [] (suc at) less = refl
drop_all (y ∷ xs) zero less = absurd (omega (arith, less))
drop_all (y ∷ xs) (suc at) less = drop_all xs at (omega (arith, less))

pub take_at : {A : Type 0} (xs : List A) (at : ℕ) (x : A) → slice_get xs at ≡ Some x → take (suc at) xs ≡ take at xs ++ (x ∷ [])
take_at [] at x e = absurd (none_some x e)
take_at (y ∷ xs) zero x e = ap (λ z. z ∷ []) (same_some y x e)
take_at (y ∷ xs) (suc at) x e = ap (λ l. y ∷ l) (take_at xs at x e)

pub take_all : {A : Type 0} (xs : List A) (at : ℕ) → length xs ≤ at → take at xs ≡ xs
take_all [] zero less = refl
take_all [] (suc at) less = refl
take_all (y ∷ xs) zero less = absurd (omega (arith, less))
take_all (y ∷ xs) (suc at) less = ap (λ l. y ∷ l) (take_all xs at (omega (arith, less)))

take_length : {A : Type 0} (xs : List A) (at : ℕ) (x : A) → slice_get xs at ≡ Some x → length (take at xs) ≡ at
take_length [] at x e = absurd (none_some x e)
take_length (y ∷ xs) zero x e = refl
take_length (y ∷ xs) (suc at) x e = ap suc (take_length xs at x e)

pub mapped_length : {A B : Type 0} (f : A → B) (xs : List A) → length (map f xs) ≡ length xs
mapped_length f [] = refl
mapped_length f (x ∷ xs) = ap suc (mapped_length f xs)

pub mapped_append : {A B : Type 0} (f : A → B) (xs ys : List A) → map f (xs ++ ys) ≡ map f xs ++ map f ys
mapped_append f [] ys = refl
mapped_append f (x ∷ xs) ys = ap (λ l. f x ∷ l) (mapped_append f xs ys)

-- the greatest number of commands, behind a place
pub longest_behind : (clients : List Client) (at : ℕ) (client : Client) → slice_get clients at ≡ Some client →
    longest (all_commands (drop at clients)) ≡ max (length client.commands) (longest (all_commands (drop (suc at) clients)))
longest_behind clients at client there = ap (λ (l : List Client). longest (all_commands l)) (drop_at clients at client there)

pub one_without : (count : ℕ) → texts_without count ++ ([] ∷ []) ≡ texts_without (suc count)
one_without zero = refl
one_without (suc count) = ap (λ (l : List (List ℕ)). [] ∷ l) (one_without count)

pub pushed_text : (texts : List (String Global)) (text : String Global) (count : ℕ) → map string_bytes texts ≡ texts_without count → string_bytes text ≡ [] →
    map string_bytes (texts ++ (text ∷ [])) ≡ texts_without (count + 1)
pushed_text texts text count are empty =
    let next : suc count ≡ count + 1 = omega arith in
    mapped_append string_bytes texts (text ∷ [])
    ∙ ap (λ (l : List (List ℕ)). l ++ (string_bytes text ∷ [])) are
    ∙ ap (λ (l : List ℕ). texts_without count ++ (l ∷ [])) empty
    ∙ one_without count
    ∙ ap texts_without next

-- ---- whose command it is

heads_taken : (number base which : ℕ) (xs : List (List Command)) (command : Command) (rest : List Command) → slice_get xs which ≡ Some (command ∷ rest) →
    heads number base (take (suc which) xs) ≡ heads number base (take which xs) ++ (record { client = base + which; number = number; command = command } ∷ [])
heads_taken number base which [] command rest e = absurd (none_some (command ∷ rest) e)
heads_taken number base zero (x ∷ xs) command rest e =
    ap (λ (l : List Command). heads number base (l ∷ [])) (same_some x (command ∷ rest) e)
    ∙ ap (λ (n : ℕ). record { client = n; number = number; command = command } ∷ []) (omega arith)
heads_taken number base (suc which) ([] ∷ xs) command rest e =
    heads_taken number (base + 1) which xs command rest e
    ∙ ap (λ (n : ℕ). heads number (base + 1) (take which xs) ++ (record { client = n; number = number; command = command } ∷ [])) (omega arith)
heads_taken number base (suc which) ((first ∷ more) ∷ xs) command rest e =
    ap (λ (l : List NumberedCommand). record { client = base; number = number; command = first } ∷ l)
    (heads_taken number (base + 1) which xs command rest e
    ∙ ap (λ (n : ℕ). heads number (base + 1) (take which xs) ++ (record { client = n; number = number; command = command } ∷ [])) (omega arith))

heads_skipped : (number base which : ℕ) (xs : List (List Command)) → slice_get xs which ≡ Some [] → heads number base (take (suc which) xs) ≡ heads number base (take which xs)
heads_skipped number base which [] e = absurd (none_some {A = List Command} [] e)
heads_skipped number base zero (x ∷ xs) e = ap (λ (l : List Command). heads number base (l ∷ [])) (same_some {A = List Command} x [] e)
heads_skipped number base (suc which) ([] ∷ xs) e = heads_skipped number (base + 1) which xs e
heads_skipped number base (suc which) ((first ∷ more) ∷ xs) e =
    ap (λ (l : List NumberedCommand). record { client = base; number = number; command = first } ∷ l) (heads_skipped number (base + 1) which xs e)

later_behind : (rounds : ℕ) (xs : List (List Command)) → commands_behind rounds (map later_commands xs) ≡ commands_behind (suc rounds) xs
later_behind rounds [] = refl
later_behind rounds (x ∷ xs) = ap (λ (l : List Command). l ∷ commands_behind rounds (map later_commands xs)) (one x) ∙ ap (λ (l : List (List Command)). drop (suc rounds) x ∷ l) (later_behind rounds xs)
  where
    one : (x : List Command) → drop rounds (later_commands x) ≡ drop (suc rounds) x
    one [] = drop_all {A = Command} [] rounds (omega arith)
    one (command ∷ commands) = refl

none_behind : (xs : List (List Command)) → commands_behind 0 xs ≡ xs
none_behind [] = refl
none_behind (x ∷ xs) = ap (λ (l : List (List Command)). x ∷ l) (none_behind xs)

in_rounds_more : (rounds number : ℕ) (xs : List (List Command)) → in_rounds (suc rounds) number xs ≡ in_rounds rounds number xs ++ heads (number + rounds) 0 (commands_behind rounds xs)
in_rounds_more zero number xs =
    append-nil (heads number 0 xs)
    ∙ ap (λ (l : List (List Command)). heads number 0 l) (sym (none_behind xs))
    ∙ ap (λ (n : ℕ). heads n 0 (commands_behind 0 xs)) (omega arith)
in_rounds_more (suc rounds) number xs =
    ap (λ (l : List NumberedCommand). heads number 0 xs ++ l)
    (in_rounds_more rounds (number + 1) (map later_commands xs)
    ∙ ap (λ (n : ℕ). in_rounds rounds (number + 1) (map later_commands xs) ++ heads n 0 (commands_behind rounds (map later_commands xs))) (omega arith)
    ∙ ap (λ (l : List (List Command)). in_rounds rounds (number + 1) (map later_commands xs) ++ heads (number + suc rounds) 0 l) (later_behind rounds xs))
    ∙ sym (append_assoc (heads number 0 xs) (in_rounds rounds (number + 1) (map later_commands xs)) (heads (number + suc rounds) 0 (commands_behind (suc rounds) xs)))

-- ---- entries of commands

command_more : (meanings : Meanings) (numbered : NumberedCommand) (own : Entries) → IsCommand meanings numbered.client numbered.number numbered.command [] own →
    (earlier : List NumberedCommand) (entries : Entries) → AreEntriesOf meanings earlier entries → AreEntriesOf meanings (earlier ++ (numbered ∷ [])) (entries ++ own)
command_more meanings numbered own done [] entries are = (own, [], ap (λ (l : Entries). l ++ own) are ∙ sym (append-nil own), done, refl)
command_more meanings numbered own done (first ∷ earlier) entries are =
    (are.0, are.1 ++ own, ap (λ (l : Entries). l ++ own) are.2 ∙ append_assoc are.0 are.1 own, are.3, command_more meanings numbered own done earlier are.1 are.4)

-- ---- what a pass gains

rises_on : (low middle high : ℕ) (later : Places) → low ≤ middle → RisesTo middle high later → RisesTo low high later
rises_on low middle high [] less rises = omega (arith, less, rises)
rises_on low middle high (first ∷ rest) less rises = let least = rises.0 in (omega (arith, less, least), rises.1)

rises_both : (low middle high : ℕ) (gained later : Places) → RisesTo low middle gained → RisesTo middle high later → RisesTo low high (gained ++ later)
rises_both low middle high [] later first second = rises_on low middle high later first second
rises_both low middle high (place ∷ rest) later first second = (first.0, rises_both (place.0 + 1) middle high rest later first.1 second)

pub gained_both : (before middle after : PassView) (gained later : Places) → HasGained before middle gained → HasGained middle after later → HasGained before after (gained ++ later)
gained_both before middle after gained later one two = record {
  mine = two.mine ∙ ap (λ (mine : Places). mine ++ later) one.mine ∙ append_assoc before.mine gained later;
  rises = rises_both (length before.seen) (length middle.seen) (length after.seen) gained later one.rises two.rises;
  lock = two.lock ∙ one.lock;
  stands = two.stands ∙ one.stands;
  split = two.split ∙ one.split;
}

-- ---- texts

abbrev pub HasText : List (List ℕ) → ℕ → List ℕ → Type 0
HasText texts at text = slice_get texts at ≡ Some text

-- one of the items is another one
abbrev pub with_item : {A : Type 0} → ℕ → A → List A → List A
with_item which item [] = []
with_item zero item (first ∷ items) = item ∷ items
with_item (suc which) item (first ∷ items) = first ∷ with_item which item items

pub with_length : {A : Type 0} (which : ℕ) (item : A) (items : List A) → length (with_item which item items) ≡ length items
with_length which item [] = refl
with_length zero item (first ∷ items) = refl
with_length (suc which) item (first ∷ items) = ap suc (with_length which item items)

with_here : {A : Type 0} (which : ℕ) (new : A) (items : List A) (item : A) → slice_get (with_item which new items) which ≡ Some item → item ≡ new
with_here which new [] item e = absurd (none_some item e)
with_here zero new (first ∷ items) item e = sym (same_some new item e)
with_here (suc which) new (first ∷ items) item e = with_here which new items item e

with_there : {A : Type 0} (which other : ℕ) (new : A) (items : List A) (item : A) → other ≢ which → slice_get (with_item which new items) other ≡ Some item →
    slice_get items other ≡ Some item
with_there which other new [] item differ e = e
with_there zero zero new (first ∷ items) item differ e = absurd (differ refl)
with_there zero (suc other) new (first ∷ items) item differ e = e
with_there (suc which) zero new (first ∷ items) item differ e = e
with_there (suc which) (suc other) new (first ∷ items) item differ e = with_there which other new items item (λ same. differ (ap suc same)) e

-- ---- totals

-- one of them rises
together_with : (which total rise : ℕ) (totals : List ℕ) → slice_get totals which ≡ Some total → together (with_item which (total + rise) totals) ≡ together totals + rise
together_with which total rise [] e = absurd (none_some total e)
together_with zero total rise (first ∷ totals) e = let same = same_some first total e in omega (arith, same)
together_with (suc which) total rise (first ∷ totals) e = let rest = together_with which total rise totals e in omega (arith, rest)

abbrev zeros : ℕ → List ℕ
zeros zero = []
zeros (suc count) = 0 ∷ zeros count

zeros_many : (count : ℕ) → length (zeros count) ≡ count
zeros_many zero = refl
zeros_many (suc count) = ap suc (zeros_many count)

zeros_together : (count : ℕ) → together (zeros count) ≡ 0
zeros_together zero = refl
zeros_together (suc count) = let rest = zeros_together count in omega (arith, rest)

zero_at : (count at total : ℕ) → slice_get (zeros count) at ≡ Some total → total ≡ 0
zero_at zero at total e = absurd (none_some total e)
zero_at (suc count) zero total e = sym (same_some 0 total e)
zero_at (suc count) (suc at) total e = zero_at count at total e

-- what is at a place within
item_at : {A : Type 0} (items : List A) (at : ℕ) → at < length items → (item : A) × (slice_get items at ≡ Some item)
item_at [] at within = absurd (omega (arith, within))
item_at (first ∷ items) zero within = (first, refl)
item_at (first ∷ items) (suc at) within = item_at items at (omega (arith, within))

all_at : {A : Type 0} (P : A → Type 0) (items : List A) (at : ℕ) (item : A) → AllByRecursion P items → slice_get items at ≡ Some item → P item
all_at P [] at item all e = absurd (none_some item e)
all_at P (first ∷ items) zero item all e = subst P (same_some first item e) all.0
all_at P (first ∷ items) (suc at) item all e = all_at P items at item all.1 e

-- ---- the entries of a client

pub all_by : (meanings : Meanings) (client number : ℕ) (command : Command) (replies : List Reply) (own : Entries) → IsCommand meanings client number command replies own →
    filter (is_of_client client) own ≡ own
all_by meanings client number command replies [] done = refl
all_by meanings client number command replies (x ∷ own) done =
    rw (eq-eqb x.0.client client (ap (λ (z : Entry). z.client) done.1)) (ap (λ (l : Entries). x ∷ l) (all_by meanings client number command (replies ++ (x.1 ∷ [])) own done.2))

not_equal : (client other : ℕ) → client ≢ other → nat_eq client other ≡ false
not_equal client other differ = decide (eqb_tells client other)
  where
    decide : ((nat_eq client other ≡ true) × (client ≡ other)) ⊎ ((nat_eq client other ≡ false) × (client ≢ other)) → nat_eq client other ≡ false
    decide (inl k) = absurd (differ k.1)
    decide (inr k) = k.0

pub none_by : (meanings : Meanings) (client other number : ℕ) (command : Command) (replies : List Reply) (own : Entries) → other ≢ client → IsCommand meanings client number command replies own →
    filter (is_of_client other) own ≡ []
none_by meanings client other number command replies [] differ done = refl
none_by meanings client other number command replies (x ∷ own) differ done =
    let by : x.0.client ≡ client = ap (λ (z : Entry). z.client) done.1 in
    rw (not_equal x.0.client other (λ same. differ (sym same ∙ by))) (none_by meanings client other number command (replies ++ (x.1 ∷ [])) own differ done.2)

-- ---- how many commands are done

pub done_before : (number client which : ℕ) → client ≤ which → done_until number client which ≡ number
done_before number client which less = rw (le-ltb which client less) refl

done_after : (number client which : ℕ) → which < client → done_until number client which ≡ number + 1
done_after number client which less = rw (lt-ltb which client less) refl

done_alike : (number client which : ℕ) → which ≢ client → done_until number (suc client) which ≡ done_until number client which
done_alike number client which differ = decide (leb_tells client which)
  where
    decide : ((nat_le client which ≡ true) × (client ≤ which)) ⊎ ((nat_le client which ≡ false) × (which < client)) → done_until number (suc client) which ≡ done_until number client which
    decide (inl k) =
        let a = k.1 in
        done_before number (suc client) which (omega (arith, a, differ)) ∙ sym (done_before number client which a)
    decide (inr k) = let a = k.1 in done_after number (suc client) which (omega (arith, a)) ∙ sym (done_after number client which a)

-- ---- a command

abbrev Told : Mission → Places → ℕ → Client → ℕ → List ℕ → ℕ → Type 0
Told mission gained which client done text total = IsWorkTold mission (client_numbered which client) 0 (take done client.commands) (filter (is_of_client which) (own_entries gained)) text total

module _ (mission : Mission) (clients : List Client) (number which : ℕ) (client : Client) (at : slice_get clients which ≡ Some client) where
  abbrev meanings : Meanings
  meanings = meanings_of mission.models mission.bound

  abbrev behind : List (List Command)
  behind = commands_behind number (all_commands clients)

  behind_at : slice_get behind which ≡ Some (drop number client.commands)
  behind_at = get_mapped (drop number) (all_commands clients) which client.commands (get_mapped (λ (x : Client). x.commands) clients which client at)

  same_client : (x : Client) → slice_get clients which ≡ Some x → client ≡ x
  same_client x there = same_some client x (sym at ∙ there)

  module _ (command : Command) (has : slice_get client.commands number ≡ Some command) where
    pub in_rounds_taken : in_rounds_until number (suc which) (all_commands clients) ≡
        in_rounds_until number which (all_commands clients) ++ (record { client = which; number = number; command = command } ∷ [])
    in_rounds_taken =
        ap (λ (l : List NumberedCommand). in_rounds number 0 (all_commands clients) ++ l)
        (heads_taken number 0 which behind command (drop (suc number) client.commands) (behind_at ∙ ap Some (drop_at client.commands number command has))
        ∙ ap (λ (n : ℕ). heads number 0 (take which behind) ++ (record { client = n; number = number; command = command } ∷ [])) (omega arith))
        ∙ sym (append_assoc (in_rounds number 0 (all_commands clients)) (heads number 0 (take which behind)) (record { client = which; number = number; command = command } ∷ []))

    module _ (before after : Stand) (texts : List (List ℕ)) (text_before text_after : List ℕ) (there : HasText texts which text_before)
        (numbered : TakesCommand mission which client number command before after text_before text_after) (earlier : Places)
        (totals : List ℕ) (total_before rise : ℕ) (had : slice_get totals which ≡ Some total_before) (rose : IsRise command numbered.statements rise) where
      abbrev later_texts : List (List ℕ)
      later_texts = with_item which text_after texts

      abbrev later_totals : List ℕ
      later_totals = with_item which (total_before + rise) totals

      abbrev line : List ℕ
      line = line_told mission (client_numbered which client) number command numbered.statements (own_entries numbered.gained)

      told_here : (told : AreToldUntil mission clients number which (own_entries earlier) texts totals) (text : List ℕ) (total : ℕ) → HasText later_texts which text →
          slice_get later_totals which ≡ Some total →
          IsWorkTold mission (client_numbered which client) 0 (take (done_until number (suc which) which) client.commands) (filter (is_of_client which) (own_entries earlier ++ own_entries numbered.gained)) text total
      told_here told text total now has_total =
          let is : text ≡ text_before ++ line = with_here which text_after texts text now ∙ numbered.told in
          let is_total : total ≡ total_before + rise = with_here which (total_before + rise) totals total has_total in
          let was = told.each which client text_before total_before at there had in
          let was_taken : take (done_until number which which) client.commands ≡ take number client.commands =
          ap (λ (n : ℕ). take n client.commands) (done_before number which which (omega arith)) in
          let next : suc number ≡ number + 1 = omega arith in
          let is_taken : take number client.commands ++ (command ∷ []) ≡ take (done_until number (suc which) which) client.commands =
          sym (take_at client.commands number command has) ∙ ap (λ (n : ℕ). take n client.commands) (next ∙ sym (done_after number (suc which) which (omega arith))) in
          let more = one_more mission (client_numbered which client) command (own_entries numbered.gained) numbered.statements 0 number (take number client.commands)
          (filter (is_of_client which) (own_entries earlier)) text_before total_before rise (let k = take_length client.commands number command has in omega (arith, k))
          (subst (λ (l : List Command). IsWorkTold mission (client_numbered which client) 0 l (filter (is_of_client which) (own_entries earlier)) text_before total_before) was_taken was)
          numbered.parts numbered.paid rose in
          let own : filter (is_of_client which) (own_entries earlier) ++ own_entries numbered.gained ≡ filter (is_of_client which) (own_entries earlier ++ own_entries numbered.gained) =
          ap (λ (l : Entries). filter (is_of_client which) (own_entries earlier) ++ l) (sym (all_by meanings which number command [] (own_entries numbered.gained) numbered.parts))
          ∙ sym (filter-append (is_of_client which) (own_entries earlier) (own_entries numbered.gained)) in
          subst (λ (n : ℕ). IsWorkTold mission (client_numbered which client) 0 (take (done_until number (suc which) which) client.commands)
          (filter (is_of_client which) (own_entries earlier ++ own_entries numbered.gained)) text n) (sym is_total)
          (subst (λ (l : List Command). IsWorkTold mission (client_numbered which client) 0 l (filter (is_of_client which) (own_entries earlier ++ own_entries numbered.gained)) text (total_before + rise)) is_taken
          (subst (λ (l : Entries). IsWorkTold mission (client_numbered which client) 0 (take number client.commands ++ (command ∷ [])) l text (total_before + rise)) own
          (subst (λ (l : List ℕ). IsWorkTold mission (client_numbered which client) 0 (take number client.commands ++ (command ∷ []))
          (filter (is_of_client which) (own_entries earlier) ++ own_entries numbered.gained) l (total_before + rise)) (sym is) more)))

      told_there : (told : AreToldUntil mission clients number which (own_entries earlier) texts totals) (other : ℕ) (x : Client) (text : List ℕ) (total : ℕ) → other ≢ which →
          slice_get clients other ≡ Some x → HasText later_texts other text → slice_get later_totals other ≡ Some total →
          IsWorkTold mission (client_numbered other x) 0 (take (done_until number (suc which) other) x.commands) (filter (is_of_client other) (own_entries earlier ++ own_entries numbered.gained)) text total
      told_there told other x text total differ place now has_total =
          let was = told.each other x text total place (with_there which other text_after texts text differ now) (with_there which other (total_before + rise) totals total differ has_total) in
          let same : filter (is_of_client other) (own_entries earlier) ≡ filter (is_of_client other) (own_entries earlier ++ own_entries numbered.gained) =
          sym (filter-append (is_of_client other) (own_entries earlier) (own_entries numbered.gained)
          ∙ ap (λ (l : Entries). filter (is_of_client other) (own_entries earlier) ++ l) (none_by meanings which other number command [] (own_entries numbered.gained) differ numbered.parts)
          ∙ append-nil (filter (is_of_client other) (own_entries earlier))) in
          subst (λ (l : Entries). IsWorkTold mission (client_numbered other x) 0 (take (done_until number (suc which) other) x.commands) l text total) same
          (subst (λ (n : ℕ). IsWorkTold mission (client_numbered other x) 0 (take n x.commands) (filter (is_of_client other) (own_entries earlier)) text total) (sym (done_alike number which other differ)) was)

      told_after : AreToldUntil mission clients number which (own_entries earlier) texts totals →
          AreToldUntil mission clients number (suc which) (own_entries earlier ++ own_entries numbered.gained) later_texts later_totals
      told_after told = record {
        count = with_length which text_after texts ∙ told.count;
        many = with_length which (total_before + rise) totals ∙ told.many;
        each = λ other x text total place there has_total. decide (eqb_tells other which) x text total place there has_total;
      }
        where
          decide : {other : ℕ} → ((nat_eq other which ≡ true) × (other ≡ which)) ⊎ ((nat_eq other which ≡ false) × (other ≢ which)) → (x : Client) (text : List ℕ) (total : ℕ) →
              slice_get clients other ≡ Some x → HasText later_texts other text → slice_get later_totals other ≡ Some total →
              IsWorkTold mission (client_numbered other x) 0 (take (done_until number (suc which) other) x.commands) (filter (is_of_client other) (own_entries earlier ++ own_entries numbered.gained)) text total
          decide {other} (inl k) x text total place there has_total =
              subst (λ (n : ℕ). IsWorkTold mission (client_numbered n x) 0 (take (done_until number (suc which) n) x.commands) (filter (is_of_client n) (own_entries earlier ++ own_entries numbered.gained)) text total) (sym k.1)
              (subst (λ (z : Client). IsWorkTold mission (client_numbered which z) 0 (take (done_until number (suc which) which) z.commands) (filter (is_of_client which) (own_entries earlier ++ own_entries numbered.gained)) text total)
              (same_client x (ap (slice_get clients) (sym k.1) ∙ place))
              (told_here told text total (ap (slice_get later_texts) (sym k.1) ∙ there) (ap (slice_get later_totals) (sym k.1) ∙ has_total)))
          decide {other} (inr k) x text total place there has_total = told_there told other x text total k.1 place there has_total

    tells : TellTheirSteps (all_commands clients) → tells_its_steps command ≡ true
    tells all =
        all_at (λ (command : Command). tells_its_steps command ≡ true) client.commands number command
        (all_at (AllByRecursion (λ (command : Command). tells_its_steps command ≡ true)) (all_commands clients) which client.commands all
        (get_mapped (λ (x : Client). x.commands) clients which client at)) has

    pub command_taken : (first before after : Stand) (texts : List (List ℕ)) (text_before text_after : List ℕ) → HasText texts which text_before →
        HasDoneUntil mission clients number which first before texts → TakesCommand mission which client number command before after text_before text_after →
        HasDoneUntil mission clients number (suc which) first after (with_item which text_after texts)
    command_taken first before after texts text_before text_after there until numbered =
        let entries : own_entries (until.gained ++ numbered.gained) ≡ own_entries until.gained ++ own_entries numbered.gained = mapped_append own_entry until.gained numbered.gained in
        let rose = rise_of command numbered.statements before.steps after.steps numbered.counted in
        let many = until.told.many in
        let within = slice_get_within clients which client at in
        let had = item_at until.totals which (omega (arith, many, within)) in
        record {
          gained = until.gained ++ numbered.gained;
          gains = gained_both first.pass before.pass after.pass until.gained numbered.gained until.gains numbered.gains;
          done =
              subst (AreEntriesOf meanings (in_rounds_until number (suc which) (all_commands clients))) (sym entries)
              (subst (λ (l : List NumberedCommand). AreEntriesOf meanings l (own_entries until.gained ++ own_entries numbered.gained)) (sym in_rounds_taken)
              (command_more meanings (record { client = which; number = number; command = command }) (own_entries numbered.gained) numbered.parts
              (in_rounds_until number which (all_commands clients)) (own_entries until.gained) until.done));
          totals = with_item which (had.0 + rose.rise) until.totals;
          told = subst (λ (l : Entries). AreToldUntil mission clients number (suc which) l (with_item which text_after texts) (with_item which (had.0 + rose.rise) until.totals)) (sym entries)
              (told_after before after texts text_before text_after there numbered until.gained until.totals had.0 rose.rise had.1 rose.counted until.told);
          risen = λ all.
              let own = rose.risen (tells all) numbered.still in
              let earlier = until.risen all in
              let more = together_with which had.0 rose.rise until.totals had.1 in
              omega (arith, own, earlier, more);
        }

  -- a client without such a command
  pub in_rounds_skipped : length client.commands ≤ number → in_rounds_until number (suc which) (all_commands clients) ≡ in_rounds_until number which (all_commands clients)
  in_rounds_skipped less = ap (λ (l : List NumberedCommand). in_rounds number 0 (all_commands clients) ++ l) (heads_skipped number 0 which behind (behind_at ∙ ap Some (drop_all client.commands number less)))

  pub command_skipped : length client.commands ≤ number → (first after : Stand) (texts : List (List ℕ)) → HasDoneUntil mission clients number which first after texts →
      HasDoneUntil mission clients number (suc which) first after texts
  command_skipped less first after texts until = record {
    gained = until.gained;
    gains = until.gains;
    done = subst (λ (l : List NumberedCommand). AreEntriesOf meanings l (own_entries until.gained)) (sym (in_rounds_skipped less)) until.done;
    totals = until.totals;
    told = record { count = until.told.count; many = until.told.many; each = each };
    risen = until.risen;
  }
    where
      here : (text : List ℕ) (total : ℕ) → Told mission until.gained which client (done_until number which which) text total →
          Told mission until.gained which client (done_until number (suc which) which) text total
      here text total was =
          let a : take (done_until number which which) client.commands ≡ take (done_until number (suc which) which) client.commands =
          ap (λ (n : ℕ). take n client.commands) (done_before number which which (omega arith))
          ∙ take_all client.commands number less
          ∙ sym (take_all client.commands (number + 1) (omega (arith, less)))
          ∙ ap (λ (n : ℕ). take n client.commands) (sym (done_after number (suc which) which (omega arith))) in
          subst (λ (l : List Command). IsWorkTold mission (client_numbered which client) 0 l (filter (is_of_client which) (own_entries until.gained)) text total) a was

      each : (other : ℕ) (x : Client) (text : List ℕ) (total : ℕ) → slice_get clients other ≡ Some x → HasText texts other text → slice_get until.totals other ≡ Some total →
          Told mission until.gained other x (done_until number (suc which) other) text total
      each other x text total place there has_total = decide (eqb_tells other which)
        where
          decide : ((nat_eq other which ≡ true) × (other ≡ which)) ⊎ ((nat_eq other which ≡ false) × (other ≢ which)) → Told mission until.gained other x (done_until number (suc which) other) text total
          decide (inl k) =
              subst (λ (n : ℕ). Told mission until.gained n x (done_until number (suc which) n) text total) (sym k.1)
              (subst (λ (z : Client). Told mission until.gained which z (done_until number (suc which) which) text total) (same_client x (ap (slice_get clients) (sym k.1) ∙ place))
              (here text total (until.told.each which client text total at (ap (slice_get texts) (sym k.1) ∙ there) (ap (slice_get until.totals) (sym k.1) ∙ has_total))))
          decide (inr k) = subst (λ (n : ℕ). Told mission until.gained other x n text total) (sym (done_alike number which other k.1)) (until.told.each other x text total place there has_total)

-- ---- a round

-- all commands of a round are those before the next one
pub round_in_rounds : (clients : List Client) (number : ℕ) → in_rounds_until number (length clients) (all_commands clients) ≡ in_rounds_until (number + 1) 0 (all_commands clients)
round_in_rounds clients number =
    ap (λ (l : List (List Command)). in_rounds number 0 (all_commands clients) ++ heads number 0 l)
    (take_all (commands_behind number (all_commands clients)) (length clients) (let k = behind_length in omega (arith, k)))
    ∙ ap (λ (n : ℕ). in_rounds number 0 (all_commands clients) ++ heads n 0 (commands_behind number (all_commands clients))) {x = number} {y = 0 + number} (omega arith)
    ∙ sym (in_rounds_more number 0 (all_commands clients))
    ∙ ap (λ (n : ℕ). in_rounds n 0 (all_commands clients)) {x = suc number} {y = number + 1} (omega arith)
    ∙ sym (append-nil (in_rounds (number + 1) 0 (all_commands clients)))
  where
    behind_length : length (commands_behind number (all_commands clients)) ≡ length clients
    behind_length = mapped_length (drop number) (all_commands clients) ∙ mapped_length (λ (x : Client). x.commands) clients

module _ (mission : Mission) (clients : List Client) where
  -- a round is over behind the last client
  pub round_done : (number : ℕ) (first after : Stand) (texts : List (List ℕ)) → HasDoneUntil mission clients number (length clients) first after texts →
      HasDoneUntil mission clients (number + 1) 0 first after texts
  round_done number first after texts until = record {
    gained = until.gained;
    gains = until.gains;
    done = subst (λ (l : List NumberedCommand). AreEntriesOf (meanings_of mission.models mission.bound) l (own_entries until.gained)) (round_in_rounds clients number) until.done;
    totals = until.totals;
    told = record {
      count = until.told.count;
      many = until.told.many;
      each = λ which x text total place there has_total.
          subst (λ (n : ℕ). IsWorkTold mission (client_numbered which x) 0 (take n x.commands) (filter (is_of_client which) (own_entries until.gained)) text total)
          (done_after number (length clients) which (slice_get_within clients which x place) ∙ sym (done_before (number + 1) 0 which (omega arith)))
          (until.told.each which x text total place there has_total);
    };
    risen = until.risen;
  }

  no_text : (count at : ℕ) (text : List ℕ) → HasText (texts_without count) at text → text ≡ []
  no_text zero at text e = absurd (none_some text e)
  no_text (suc count) zero text e = sym (same_some {A = List ℕ} [] text e)
  no_text (suc count) (suc at) text e = no_text count at text e

  replicated : (count : ℕ) → length (texts_without count) ≡ count
  replicated zero = refl
  replicated (suc count) = ap suc (replicated count)

  -- nothing is done at first
  pub begun : (first : Stand) → HasDoneUntil mission clients 0 0 first first (texts_without (length clients))
  begun first = record {
    gained = [];
    gains = record { mine = sym (append-nil first.pass.mine); rises = omega arith; lock = refl; stands = refl; split = refl };
    done = refl;
    totals = zeros (length clients);
    told = record {
      count = replicated (length clients);
      many = zeros_many (length clients);
      each = λ which x text total place there has_total.
          subst (λ (n : ℕ). IsWorkTold mission (client_numbered which x) 0 (take n x.commands) [] text total) (sym (done_before 0 0 which (omega arith)))
          (refl, no_text (length clients) which text there, zero_at (length clients) which total has_total);
    };
    risen = λ all. let none = zeros_together (length clients) in omega (arith, none);
  }

-- ---- a round that goes on

-- in a round with a number, so many clients had their command done
pub record IsInRound (mission : Mission) (lock : LockView) (clients : List Client) (number which : ℕ) (before now : Stand) (texts_before texts_now : List (List ℕ)) : Type 0 where
  pub at : IsAtWork mission lock now.pass
  pub own : before.pass.lock ≡ lock
  pub many : length texts_now ≡ length clients
  pub goes_on : (first : Stand) → HasDoneUntil mission clients number 0 first before texts_before → HasDoneUntil mission clients number which first now texts_now

pub round_begun : (mission : Mission) (lock : LockView) (clients : List Client) (number : ℕ) (first : Stand) (texts : List (List ℕ)) → IsAtWork mission lock first.pass → length texts ≡ length clients →
    IsInRound mission lock clients number 0 first first texts texts
round_begun mission lock clients number first texts at many = record { at = at; own = at.own; many = many; goes_on = λ begun until. until }

pub still_at : (mission : Mission) (lock : LockView) (before after : PassView) (gained : Places) → IsAtWork mission lock before → HasGained before after gained → IsAtWork mission lock after
still_at mission lock before after gained at gains = record { own = gains.lock ∙ at.own; some_model = at.some_model; models = at.models; ruled = at.ruled; bound = at.bound }

pub round_taken : (mission : Mission) (lock : LockView) (clients : List Client) (number which : ℕ) (before now after : Stand) (texts_before texts_now : List (List ℕ))
    (client : Client) (command : Command) (text_before text_after : List ℕ) → slice_get clients which ≡ Some client → slice_get client.commands number ≡ Some command →
    HasText texts_now which text_before → TakesCommand mission which client number command now after text_before text_after →
    IsInRound mission lock clients number which before now texts_before texts_now → IsInRound mission lock clients number (which + 1) before after texts_before (with_item which text_after texts_now)
round_taken mission lock clients number which before now after texts_before texts_now client command text_before text_after place has there numbered round =
    let next : suc which ≡ which + 1 = omega arith in
    record {
      at = still_at mission lock now.pass after.pass numbered.gained round.at numbered.gains;
      own = round.own;
      many = with_length which text_after texts_now ∙ round.many;
      goes_on = λ first until. subst (λ (n : ℕ). HasDoneUntil mission clients number n first after (with_item which text_after texts_now)) next
          (command_taken mission clients number which client place command has first now after texts_now text_before text_after there (round.goes_on first until) numbered);
    }

pub round_skipped : (mission : Mission) (lock : LockView) (clients : List Client) (number which : ℕ) (before now : Stand) (texts_before texts_now : List (List ℕ)) (client : Client) →
    slice_get clients which ≡ Some client → length client.commands ≤ number → IsInRound mission lock clients number which before now texts_before texts_now →
    IsInRound mission lock clients number (which + 1) before now texts_before texts_now
round_skipped mission lock clients number which before now texts_before texts_now client place less round =
    let next : suc which ≡ which + 1 = omega arith in
    record {
      at = round.at;
      own = round.own;
      many = round.many;
      goes_on = λ first until. subst (λ (n : ℕ). HasDoneUntil mission clients number n first now texts_now) next
          (command_skipped mission clients number which client place less first now texts_now (round.goes_on first until));
    }

pub round_over : (mission : Mission) (lock : LockView) (clients : List Client) (number which : ℕ) (before now : Stand) (texts_before texts_now : List (List ℕ)) →
    which ≡ length clients → length texts_before ≡ length clients → IsInRound mission lock clients number which before now texts_before texts_now →
    TakesRound mission clients number before now texts_before texts_now
round_over mission lock clients number which before now texts_before texts_now all many round = record {
  lock = round.at.own ∙ sym round.own;
  count = round.many ∙ sym many;
  goes_on = λ first until. round_done mission clients number first now texts_now
      (subst (λ (n : ℕ). HasDoneUntil mission clients number n first now texts_now) all (round.goes_on first until));
}

-- one of the texts in memory is another one
pub text_set : (texts : List (String Global)) (which : ℕ) (text : String Global) → map string_bytes (slice_set texts which text) ≡ with_item which (string_bytes text) (map string_bytes texts)
text_set [] which text = refl
text_set (first ∷ texts) zero text = refl
text_set (first ∷ texts) (suc which) text = ap (λ (l : List (List ℕ)). string_bytes first ∷ l) (text_set texts which text)
