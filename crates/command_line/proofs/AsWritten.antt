-- What clap answers is what the grammar says.
use Rattle.std.proofs.Common.{◌≡◌, ℕ, Bool, true, false, cond, ◌||◌, List, [], ◌∷◌, ◌++◌, Option, Some, None, is_some, chars, codes, slice_get, append-nil, bytes_eq, option_and_then, refl, sym, ap, subst, ◌∙◌}
use Rattle.std.proofs.lemmas.List.Folds.{list_any-append}
use Rattle.clap.specs.Walk.{Held, Walk, has_row, nothing_held, settled, walk, walk_from, with_values, without}
use Rattle.clap.specs.Faults.{entered_fault, level_fault, turn_fault, walk_fault}
use Rattle.clap.specs.Simple.{built, entered}
use Rattle.clap.specs.declared.builder.value_parser.Reading.TheVariants.{AsWritten}
use Rattle.clap.specs.declared.parser.matches.ValueSource.TheVariants.{CommandLine}
use Rattle.command_line.specs.Commands.{are_taken, command, given, is_no_fault, requested}
use Rattle.command_line.specs.Grammar.{CommandPart, Word, WordSort, mode_part, flag_part, parts_behind_dashes, parts_by_sort, parts_from, plain, sort_of_word, with_part}
use Rattle.command_line.specs.Invocations.{are_different, invocation_in, invocation_of, is_part}
use Rattle.command_line.proofs.Parts.{bad_none, judged, judged_with, mode, name_of, or_true, repeated_none, still_different}
use Rattle.command_line.proofs.Rows.{Pending, none, some, all_different, conflict, held, is_stale, parts_in, row_added, row_there, rows_of, settle_faults, settles, texts_in, top}
use Rattle.command_line.proofs.Ends.{answer_by, end_fault, ends}
use Rattle.command_line.proofs.WordSorts.{Flag, Opt, View, a_limit, a_number, dashed, dashes_view, detail, explain, flag_name, flag_view, option_name, option_view, plain_view, serial, short_view, some_pieces, stats, text, unknown_view, valued_of, valued_view, view}
use Rattle.command_line.proofs.WordByWord.{IsValue, answer_at, at, dashes_iteration, dashes_walk, dead, fails, flag_stale, flag_iteration, flag_walk, goes, last_iteration, last_walk, behind_last, option_iteration, option_walk, plain_is_value, second_iteration, short_idle, short_is_value, short_waits, stays_dead, unknown_idle, unknown_waits, value_iteration, value_walk, valued_stale, valued_iteration, valued_walk, waiting, waits_at, waits_dashes_iteration, waits_dashes_walk, waits_end, waits_flag, waits_option, waits_value_iteration, waits_value_walk, waits_valued}

-- ---- where the walk stands

pub data State : Type 0 where
  free : Pending → State
  waits : Opt → State

abbrev walk_of : List CommandPart → State → Bool → Walk
walk_of ps (free pending) taken = at (held ps pending) taken false
walk_of ps (waits o) taken = waits_at (waiting ps o) o taken

abbrev given_in : List CommandPart → State → List CommandPart
given_in ps (free pending) = ps ++ parts_in pending
given_in ps (waits o) = ps

abbrev waits_in : State → Option Word
waits_in (free pending) = None
waits_in (waits o) = Some (option_name o)

-- what is answered is what the parts so far and those of the words ask for
abbrev Answers : List Word → Type 0
Answers words = (ps : List CommandPart) (s : State) (taken : Bool) → are_different ps ≡ true → is_part (codes "mode") (given_in ps s) ≡ taken
    → answer_at (walk_of ps s taken) words ≡ judged (given_in ps s) (parts_from words (waits_in s))

-- ---- parts at the end

or_false : (t : Bool) → (t || false) ≡ t
or_false true = refl
or_false false = refl

-- a part that is no mode leaves it open whether there is one
mode_stays : (ps : List CommandPart) (name value : Word) → bytes_eq name (codes "mode") ≡ false → is_part (codes "mode") ((ps ++ (name, value) ∷ []) ++ []) ≡ is_part (codes "mode") ps
mode_stays ps name value e =
    ap (is_part (codes "mode")) (append-nil (ps ++ (name, value) ∷ [])) ∙ list_any-append (λ p. bytes_eq p.0 (codes "mode")) ps ((name, value) ∷ [])
    ∙ (rw e (or_false (is_part (codes "mode") ps)))

mode_comes : (ps : List CommandPart) (value : Word) → is_part (codes "mode") (ps ++ mode_part value ∷ []) ≡ true
mode_comes ps value = list_any-append (λ p. bytes_eq p.0 (codes "mode")) ps (mode_part value ∷ []) ∙ or_true (is_part (codes "mode") ps)

-- ---- a step

-- what was given before is refused
stale_none : (ps : List CommandPart) (pending : Pending) (more : Option (List CommandPart)) → is_stale ps pending ≡ true → judged (ps ++ parts_in pending) more ≡ None
stale_none ps none more e = absurd cc
stale_none ps (some v value) more e = repeated_none ps (name_of v, value) more e

end_free : (ps : List CommandPart) (pending : Pending) (taken trailing : Bool) → are_different ps ≡ true
    → answer_at (at (held ps pending) taken trailing) [] ≡ judged (ps ++ parts_in pending) (Some [])
unfolding answer_at walk_fault
end_free ps pending taken trailing d = ends ps pending d ∙ ap invocation_in (sym (append-nil (ps ++ parts_in pending)))

-- the end of the words
at_end : Answers []
unfolding parts_from
at_end ps (free pending) taken d m = end_free ps pending taken false d
at_end ps (waits o) taken d m = waits_end ps o taken

-- a part that is used at once
used : (ps : List CommandPart) (pending : Pending) (name value : Word) → is_stale ps pending ≡ false → is_part name (ps ++ parts_in pending) ≡ false
    → record { rows = with_values name AsWritten CommandLine (value ∷ []) (without name (settled top.rules (held ps pending)).rows); pending = None; skip = 0 }
    ≡ held ((ps ++ parts_in pending) ++ (name, value) ∷ []) none
used ps pending name value new once =
    ap (λ (h : Held). record { rows = with_values name AsWritten CommandLine (value ∷ []) (without name h.rows); pending = None; skip = 0 }) (settles ps pending new)
    ∙ ap (λ rows. record { rows = rows; pending = None; skip = 0 }) (row_added (ps ++ parts_in pending) name value once)

rows_there : (ps : List CommandPart) (pending : Pending) (name : Word) (t : Bool) → is_stale ps pending ≡ false → is_part name (ps ++ parts_in pending) ≡ t
    → has_row name (settled top.rules (held ps pending)).rows ≡ t
rows_there ps pending name t new e = ap (λ (h : Held). has_row name h.rows) (settles ps pending new) ∙ row_there name (ps ++ parts_in pending) ∙ e

-- the answer to what stands behind a part that is used at once
behind_used : (rest : List Word) → Answers rest → (ps : List CommandPart) (name value : Word) (taken : Bool) → are_different ps ≡ true → is_part (codes "mode") ps ≡ taken
    → is_part name ps ≡ false → bytes_eq name (codes "mode") ≡ false
    → answer_at (at (held (ps ++ (name, value) ∷ []) none) taken false) rest ≡ judged ps (with_part (name, value) (parts_from rest None))
behind_used rest next ps name value taken d m once other =
    next (ps ++ (name, value) ∷ []) (free none) taken (still_different ps (name, value) d once) (mode_stays ps name value other ∙ m)
    ∙ ap (λ qs. judged qs (parts_from rest None)) (append-nil (ps ++ (name, value) ∷ [])) ∙ sym (judged_with ps (name, value) (parts_from rest None))

pub flag_parts : (f : Flag) (rest : List Word) → parts_from (dashed (flag_name f) ∷ rest) None ≡ with_part (flag_part (flag_name f)) (parts_from rest None)
unfolding parts_from
flag_parts serial rest = refl
flag_parts stats rest = refl
flag_parts text rest = refl
flag_parts explain rest = refl
flag_parts detail rest = refl

flag_no_mode : (f : Flag) → bytes_eq (flag_name f) (codes "mode") ≡ false
flag_no_mode serial = refl
flag_no_mode stats = refl
flag_no_mode text = refl
flag_no_mode explain = refl
flag_no_mode detail = refl

flag_step : (f : Flag) (rest : List Word) → Answers rest → (ps : List CommandPart) (pending : Pending) (taken : Bool) → are_different ps ≡ true
    → is_part (codes "mode") (ps ++ parts_in pending) ≡ taken
    → answer_at (at (held ps pending) taken false) (dashed (flag_name f) ∷ rest) ≡ judged (ps ++ parts_in pending) (parts_from (dashed (flag_name f) ∷ rest) None)
flag_step f rest next ps pending taken d m = go (is_stale ps pending) refl ∙ sym (ap (judged (ps ++ parts_in pending)) (flag_parts f rest))
  where
    last : (t : Bool) → is_stale ps pending ≡ false → is_part (flag_name f) (ps ++ parts_in pending) ≡ t
        → answer_at (at (held ps pending) taken false) (dashed (flag_name f) ∷ rest) ≡ judged (ps ++ parts_in pending) (with_part (flag_part (flag_name f)) (parts_from rest None))
    last true new twice =
        fails (at (held ps pending) taken false) (dashed (flag_name f)) rest
        (ap is_no_fault (flag_iteration f (held ps pending) taken true (settle_faults ps pending ∙ ap conflict new) (rows_there ps pending (flag_name f) true new twice)))
        ∙ sym (judged_with (ps ++ parts_in pending) (flag_part (flag_name f)) (parts_from rest None) ∙ repeated_none (ps ++ parts_in pending) (flag_part (flag_name f)) (parts_from rest None) twice)
    last false new once =
        goes (at (held ps pending) taken false) (at (held ((ps ++ parts_in pending) ++ flag_part (flag_name f) ∷ []) none) taken false) (dashed (flag_name f)) rest
        (flag_iteration f (held ps pending) taken false (settle_faults ps pending ∙ ap conflict new) (rows_there ps pending (flag_name f) false new once))
        (flag_walk f (held ps pending) taken ∙ ap (λ h. at h taken false) (used ps pending (flag_name f) (codes "true") new once))
        ∙ behind_used rest next (ps ++ parts_in pending) (flag_name f) (codes "true") taken (all_different ps pending d new) m once (flag_no_mode f)

    go : (t : Bool) → is_stale ps pending ≡ t
        → answer_at (at (held ps pending) taken false) (dashed (flag_name f) ∷ rest) ≡ judged (ps ++ parts_in pending) (with_part (flag_part (flag_name f)) (parts_from rest None))
    go true stale =
        fails (at (held ps pending) taken false) (dashed (flag_name f)) rest (flag_stale f (held ps pending) taken (settle_faults ps pending ∙ ap conflict stale))
        ∙ sym (stale_none ps pending (with_part (flag_part (flag_name f)) (parts_from rest None)) stale)
    go false new = last (is_part (flag_name f) (ps ++ parts_in pending)) new refl

pub valued_parts : (o : Opt) (value : Word) (rest : List Word) → parts_from (dashed (option_name o ++ 61 ∷ value) ∷ rest) None ≡ with_part (option_name o, value) (parts_from rest None)
unfolding parts_from
valued_parts a_limit value rest = refl
valued_parts some_pieces value rest = refl
valued_parts a_number value rest = refl

option_no_mode : (o : Opt) → bytes_eq (option_name o) (codes "mode") ≡ false
option_no_mode a_limit = refl
option_no_mode some_pieces = refl
option_no_mode a_number = refl

valued_step : (o : Opt) (value : Word) (rest : List Word) → Answers rest → (ps : List CommandPart) (pending : Pending) (taken : Bool) → are_different ps ≡ true
    → is_part (codes "mode") (ps ++ parts_in pending) ≡ taken
    → answer_at (at (held ps pending) taken false) (dashed (option_name o ++ 61 ∷ value) ∷ rest) ≡ judged (ps ++ parts_in pending) (parts_from (dashed (option_name o ++ 61 ∷ value) ∷ rest) None)
valued_step o value rest next ps pending taken d m = go (is_stale ps pending) refl ∙ sym (ap (judged (ps ++ parts_in pending)) (valued_parts o value rest))
  where
    last : (t : Bool) → is_stale ps pending ≡ false → is_part (option_name o) (ps ++ parts_in pending) ≡ t
        → answer_at (at (held ps pending) taken false) (dashed (option_name o ++ 61 ∷ value) ∷ rest) ≡ judged (ps ++ parts_in pending) (with_part (option_name o, value) (parts_from rest None))
    last true new twice =
        fails (at (held ps pending) taken false) (dashed (option_name o ++ 61 ∷ value)) rest
        (ap is_no_fault (valued_iteration o value (held ps pending) taken true (settle_faults ps pending ∙ ap conflict new) (rows_there ps pending (option_name o) true new twice)))
        ∙ sym (judged_with (ps ++ parts_in pending) (option_name o, value) (parts_from rest None) ∙ repeated_none (ps ++ parts_in pending) (option_name o, value) (parts_from rest None) twice)
    last false new once =
        goes (at (held ps pending) taken false) (at (held ((ps ++ parts_in pending) ++ (option_name o, value) ∷ []) none) taken false) (dashed (option_name o ++ 61 ∷ value)) rest
        (valued_iteration o value (held ps pending) taken false (settle_faults ps pending ∙ ap conflict new) (rows_there ps pending (option_name o) false new once))
        (valued_walk o value (held ps pending) taken ∙ ap (λ h. at h taken false) (used ps pending (option_name o) value new once))
        ∙ behind_used rest next (ps ++ parts_in pending) (option_name o) value taken (all_different ps pending d new) m once (option_no_mode o)

    go : (t : Bool) → is_stale ps pending ≡ t
        → answer_at (at (held ps pending) taken false) (dashed (option_name o ++ 61 ∷ value) ∷ rest) ≡ judged (ps ++ parts_in pending) (with_part (option_name o, value) (parts_from rest None))
    go true stale =
        fails (at (held ps pending) taken false) (dashed (option_name o ++ 61 ∷ value)) rest (valued_stale o value (held ps pending) taken (settle_faults ps pending ∙ ap conflict stale))
        ∙ sym (stale_none ps pending (with_part (option_name o, value) (parts_from rest None)) stale)
    go false new = last (is_part (option_name o) (ps ++ parts_in pending)) new refl

pub option_parts : (o : Opt) (rest : List Word) → parts_from (dashed (option_name o) ∷ rest) None ≡ parts_from rest (Some (option_name o))
unfolding parts_from
option_parts a_limit rest = refl
option_parts some_pieces rest = refl
option_parts a_number rest = refl

option_step : (o : Opt) (rest : List Word) → Answers rest → (ps : List CommandPart) (pending : Pending) (taken : Bool) → are_different ps ≡ true
    → is_part (codes "mode") (ps ++ parts_in pending) ≡ taken
    → answer_at (at (held ps pending) taken false) (dashed (option_name o) ∷ rest) ≡ judged (ps ++ parts_in pending) (parts_from (dashed (option_name o) ∷ rest) None)
option_step o rest next ps pending taken d m = go (is_stale ps pending) refl ∙ sym (ap (judged (ps ++ parts_in pending)) (option_parts o rest))
  where
    go : (t : Bool) → is_stale ps pending ≡ t
        → answer_at (at (held ps pending) taken false) (dashed (option_name o) ∷ rest) ≡ judged (ps ++ parts_in pending) (parts_from rest (Some (option_name o)))
    go true stale =
        fails (at (held ps pending) taken false) (dashed (option_name o)) rest (ap is_no_fault (option_iteration o (held ps pending) taken true (settle_faults ps pending ∙ ap conflict stale)))
        ∙ sym (stale_none ps pending (parts_from rest (Some (option_name o))) stale)
    go false new =
        goes (at (held ps pending) taken false) (waits_at (waiting (ps ++ parts_in pending) o) o taken) (dashed (option_name o)) rest
        (option_iteration o (held ps pending) taken false (settle_faults ps pending ∙ ap conflict new))
        (option_walk o (held ps pending) taken ∙ ap (λ (h : Held). waits_at (record h { pending = Some (option_name o, []) }) o taken) (settles ps pending new))
        ∙ next (ps ++ parts_in pending) (waits o) taken (all_different ps pending d new) m

-- ---- the mode, and words that are refused

pub plain_parts : (word : Word) (rest : List Word) → sort_of_word word ≡ plain → parts_from (word ∷ rest) None ≡ with_part (mode_part word) (parts_from rest None)
unfolding parts_from
plain_parts word rest e = ap (λ (s : WordSort). parts_by_sort s word rest (parts_from rest)) e

-- a word that clap refuses, and that is no mode
refused_step : (word tail : Word) (rest : List Word) (ps : List CommandPart) (pending : Pending) (taken : Bool) → word ≡ 45 ∷ tail → sort_of_word word ≡ plain
    → is_no_fault (turn_fault top [] (at (held ps pending) taken false) word) ≡ false
    → answer_at (at (held ps pending) taken false) (word ∷ rest) ≡ judged (ps ++ parts_in pending) (parts_from (word ∷ rest) None)
refused_step word tail rest ps pending taken hyphen sort fault =
    fails (at (held ps pending) taken false) word rest fault
    ∙ sym (ap (judged (ps ++ parts_in pending)) (plain_parts word rest sort) ∙ judged_with (ps ++ parts_in pending) (mode_part word) (parts_from rest None)
    ∙ ap (λ (w : Word). judged ((ps ++ parts_in pending) ++ mode_part w ∷ []) (parts_from rest None)) hyphen ∙ bad_none mode tail (ps ++ parts_in pending) (parts_from rest None))

value_step : (word : Word) (rest : List Word) → IsValue word → sort_of_word word ≡ plain → Answers rest → (ps : List CommandPart) (pending : Pending) (taken : Bool) → are_different ps ≡ true
    → is_part (codes "mode") (ps ++ parts_in pending) ≡ taken
    → answer_at (at (held ps pending) taken false) (word ∷ rest) ≡ judged (ps ++ parts_in pending) (parts_from (word ∷ rest) None)
value_step word rest is sort next ps pending taken d m = go taken refl m ∙ sym (ap (judged (ps ++ parts_in pending)) (plain_parts word rest sort))
  where
    first : (t : Bool) → is_stale ps pending ≡ t
        → answer_at (at (held ps pending) false false) (word ∷ rest) ≡ judged (ps ++ parts_in pending) (with_part (mode_part word) (parts_from rest None))
    first true stale =
        fails (at (held ps pending) false false) word rest (ap is_no_fault (value_iteration word (rows_of ps) (texts_in pending) true is (settle_faults ps pending ∙ ap conflict stale)))
        ∙ sym (stale_none ps pending (with_part (mode_part word) (parts_from rest None)) stale)
    first false new =
        goes (at (held ps pending) false false) (at (held (ps ++ parts_in pending) (some mode word)) true false) word rest
        (value_iteration word (rows_of ps) (texts_in pending) false is (settle_faults ps pending ∙ ap conflict new))
        (value_walk word (rows_of ps) (texts_in pending) is ∙ ap (λ (h : Held). at (record h { pending = Some (codes "mode", word ∷ []) }) true false) (settles ps pending new))
        ∙ next (ps ++ parts_in pending) (free (some mode word)) true (all_different ps pending d new) (mode_comes (ps ++ parts_in pending) word)
        ∙ sym (judged_with (ps ++ parts_in pending) (mode_part word) (parts_from rest None))

    go : (t : Bool) → taken ≡ t → is_part (codes "mode") (ps ++ parts_in pending) ≡ taken
        → answer_at (at (held ps pending) taken false) (word ∷ rest) ≡ judged (ps ++ parts_in pending) (with_part (mode_part word) (parts_from rest None))
    go true e there =
        fails (at (held ps pending) taken false) word rest
        (ap (λ (t : Bool). is_no_fault (turn_fault top [] (at (held ps pending) t false) word)) e ∙ second_iteration word (rows_of ps) (texts_in pending) is)
        ∙ sym (judged_with (ps ++ parts_in pending) (mode_part word) (parts_from rest None) ∙ repeated_none (ps ++ parts_in pending) (mode_part word) (parts_from rest None) (there ∙ e))
    go false e there = ap (λ (t : Bool). answer_at (at (held ps pending) t false) (word ∷ rest)) e ∙ first (is_stale ps pending) refl

-- ---- behind `--`

behind_mode : (ps : List CommandPart) (pending : Pending) (word : Word) (rest : List Word) → answer_at (at (held ps pending) true true) (word ∷ rest) ≡ None
behind_mode ps pending word rest = fails (at (held ps pending) true true) word rest (behind_last word (held ps pending))

-- the answer to the last words
last_words : (ps : List CommandPart) (pending : Pending) (taken : Bool) (words : List Word) → are_different ps ≡ true → is_part (codes "mode") (ps ++ parts_in pending) ≡ taken
    → answer_at (at (held ps pending) taken true) words ≡ judged (ps ++ parts_in pending) (parts_behind_dashes words)
last_words ps pending taken [] d m = end_free ps pending taken true d
last_words ps pending taken (word ∷ rest) d m = go taken refl m
  where
    after : (more : List Word) → is_stale ps pending ≡ false → answer_at (at (held (ps ++ parts_in pending) (some mode word)) true true) more ≡ judged (ps ++ parts_in pending) (parts_behind_dashes (word ∷ more))
    after [] new =
        end_free (ps ++ parts_in pending) (some mode word) true true (all_different ps pending d new)
        ∙ sym (judged_with (ps ++ parts_in pending) (mode_part word) (Some []))
    after (other ∷ more) new = behind_mode (ps ++ parts_in pending) (some mode word) other more

    first : (t : Bool) → is_stale ps pending ≡ t → answer_at (at (held ps pending) false true) (word ∷ rest) ≡ judged (ps ++ parts_in pending) (parts_behind_dashes (word ∷ rest))
    first true stale =
        fails (at (held ps pending) false true) word rest (ap is_no_fault (last_iteration word (held ps pending) true (settle_faults ps pending ∙ ap conflict stale)))
        ∙ sym (stale_none ps pending (parts_behind_dashes (word ∷ rest)) stale)
    first false new =
        goes (at (held ps pending) false true) (at (held (ps ++ parts_in pending) (some mode word)) true true) word rest
        (last_iteration word (held ps pending) false (settle_faults ps pending ∙ ap conflict new))
        (last_walk word (held ps pending) ∙ ap (λ (h : Held). at (record h { pending = Some (codes "mode", word ∷ []) }) true true) (settles ps pending new))
        ∙ after rest new

    twice : (more : List Word) → is_part (codes "mode") (ps ++ parts_in pending) ≡ true → None ≡ judged (ps ++ parts_in pending) (parts_behind_dashes (word ∷ more))
    twice [] there = sym (judged_with (ps ++ parts_in pending) (mode_part word) (Some []) ∙ repeated_none (ps ++ parts_in pending) (mode_part word) (Some []) there)
    twice (other ∷ more) there = refl

    go : (t : Bool) → taken ≡ t → is_part (codes "mode") (ps ++ parts_in pending) ≡ taken
        → answer_at (at (held ps pending) taken true) (word ∷ rest) ≡ judged (ps ++ parts_in pending) (parts_behind_dashes (word ∷ rest))
    go true e there = ap (λ (t : Bool). answer_at (at (held ps pending) t true) (word ∷ rest)) e ∙ behind_mode ps pending word rest ∙ twice rest (there ∙ e)
    go false e there = ap (λ (t : Bool). answer_at (at (held ps pending) t true) (word ∷ rest)) e ∙ first (is_stale ps pending) refl

pub dashes_parts : (rest : List Word) → parts_from (dashed [] ∷ rest) None ≡ parts_behind_dashes rest
unfolding parts_from
dashes_parts rest = refl

dashes_step : (rest : List Word) (ps : List CommandPart) (pending : Pending) (taken : Bool) → are_different ps ≡ true
    → is_part (codes "mode") (ps ++ parts_in pending) ≡ taken
    → answer_at (at (held ps pending) taken false) (dashed [] ∷ rest) ≡ judged (ps ++ parts_in pending) (parts_from (dashed [] ∷ rest) None)
dashes_step rest ps pending taken d m =
    goes (at (held ps pending) taken false) (at (held ps pending) taken true) (dashed []) rest (dashes_iteration (held ps pending) taken) (dashes_walk (held ps pending) taken)
    ∙ last_words ps pending taken rest d m ∙ sym (ap (judged (ps ++ parts_in pending)) (dashes_parts rest))

-- ---- any word

-- a word behind one hyphen: clap looks for a short option, or takes it as a value
short_case : (b : ℕ) (more : Word) (P : Type 0) → ((c : ℕ) → slice_get (chars (b ∷ more)) 0 ≡ Some c → P) → (slice_get (chars (b ∷ more)) 0 ≡ None → P) → P
short_case b more P short other = go (slice_get (chars (b ∷ more)) 0) refl
  where
    go : (o : Option ℕ) → slice_get (chars (b ∷ more)) 0 ≡ o → P
    go (Some c) e = short c e
    go None e = other e

free_step : (word : Word) → View word → (rest : List Word) → Answers rest → (ps : List CommandPart) (pending : Pending) (taken : Bool) → are_different ps ≡ true
    → is_part (codes "mode") (ps ++ parts_in pending) ≡ taken
    → answer_at (at (held ps pending) taken false) (word ∷ rest) ≡ judged (ps ++ parts_in pending) (parts_from (word ∷ rest) None)
free_step word (dashes_view e) rest next ps pending taken d m =
    subst (λ (w : Word). answer_at (at (held ps pending) taken false) (w ∷ rest) ≡ judged (ps ++ parts_in pending) (parts_from (w ∷ rest) None)) e (dashes_step rest ps pending taken d m)
free_step word (flag_view f e) rest next ps pending taken d m =
    subst (λ (w : Word). answer_at (at (held ps pending) taken false) (w ∷ rest) ≡ judged (ps ++ parts_in pending) (parts_from (w ∷ rest) None)) e (flag_step f rest next ps pending taken d m)
free_step word (option_view o e) rest next ps pending taken d m =
    subst (λ (w : Word). answer_at (at (held ps pending) taken false) (w ∷ rest) ≡ judged (ps ++ parts_in pending) (parts_from (w ∷ rest) None)) e (option_step o rest next ps pending taken d m)
free_step word (valued_view o value e) rest next ps pending taken d m =
    subst (λ (w : Word). answer_at (at (held ps pending) taken false) (w ∷ rest) ≡ judged (ps ++ parts_in pending) (parts_from (w ∷ rest) None)) e (valued_step o value rest next ps pending taken d m)
free_step word (unknown_view b more e refuses sort) rest next ps pending taken d m =
    refused_step word (45 ∷ b ∷ more) rest ps pending taken (sym e) sort
    (subst (λ (w : Word). is_no_fault (turn_fault top [] (at (held ps pending) taken false) w) ≡ false) e (unknown_idle b more (held ps pending) (cond taken 2 1) refuses))
free_step word (short_view b more e other sort) rest next ps pending taken d m =
    short_case b more (answer_at (at (held ps pending) taken false) (word ∷ rest) ≡ judged (ps ++ parts_in pending) (parts_from (word ∷ rest) None))
    (λ c is. refused_step word (b ∷ more) rest ps pending taken (sym e) sort
    (subst (λ (w : Word). is_no_fault (turn_fault top [] (at (held ps pending) taken false) w) ≡ false) e (short_idle b more (rows_of ps) (texts_in pending) (cond taken 2 1) c other is)))
    (λ is. value_step word rest (subst IsValue e (short_is_value b more other is)) sort next ps pending taken d m)
free_step word (plain_view is sort) rest next ps pending taken d m = value_step word rest (plain_is_value word is) sort next ps pending taken d m

-- ---- a word that an option waits for

pub waits_parts : (name word : Word) (rest : List Word) → parts_from (word ∷ rest) (Some name) ≡ with_part (name, word) (parts_from rest None)
unfolding parts_from
waits_parts name word rest = refl

waits_none : (o : Opt) (word tail : Word) (rest : List Word) (ps : List CommandPart) → word ≡ 45 ∷ tail → judged ps (parts_from (word ∷ rest) (Some (option_name o))) ≡ None
waits_none o word tail rest ps hyphen =
    ap (judged ps) (waits_parts (option_name o) word rest) ∙ judged_with ps (option_name o, word) (parts_from rest None)
    ∙ ap (λ (w : Word). judged (ps ++ (option_name o, w) ∷ []) (parts_from rest None)) hyphen ∙ bad_none (valued_of o) tail ps (parts_from rest None)

waits_fails : (o : Opt) (word tail : Word) (rest : List Word) (ps : List CommandPart) (taken : Bool) → word ≡ 45 ∷ tail → is_no_fault (turn_fault top [] (waits_at (waiting ps o) o taken) word) ≡ false
    → answer_at (waits_at (waiting ps o) o taken) (word ∷ rest) ≡ judged ps (parts_from (word ∷ rest) (Some (option_name o)))
waits_fails o word tail rest ps taken hyphen fault = fails (waits_at (waiting ps o) o taken) word rest fault ∙ sym (waits_none o word tail rest ps hyphen)

waits_takes : (o : Opt) (word : Word) (rest : List Word) → IsValue word → Answers rest → (ps : List CommandPart) (taken : Bool) → are_different ps ≡ true → is_part (codes "mode") ps ≡ taken
    → answer_at (waits_at (waiting ps o) o taken) (word ∷ rest) ≡ judged ps (parts_from (word ∷ rest) (Some (option_name o)))
waits_takes o word rest is next ps taken d m =
    goes (waits_at (waiting ps o) o taken) (at (held ps (some (valued_of o) word)) taken false) word rest (waits_value_iteration word ps o taken is) (waits_value_walk word ps o taken is)
    ∙ next ps (free (some (valued_of o) word)) taken d (stays ∙ m)
    ∙ sym (ap (judged ps) (waits_parts (option_name o) word rest) ∙ judged_with ps (option_name o, word) (parts_from rest None))
  where
    stays : is_part (codes "mode") (ps ++ (option_name o, word) ∷ []) ≡ is_part (codes "mode") ps
    stays = sym (ap (is_part (codes "mode")) (append-nil (ps ++ (option_name o, word) ∷ []))) ∙ mode_stays ps (option_name o) word (option_no_mode o)

waits_step : (word : Word) → View word → (rest : List Word) → Answers rest → (ps : List CommandPart) (o : Opt) (taken : Bool) → are_different ps ≡ true → is_part (codes "mode") ps ≡ taken
    → answer_at (waits_at (waiting ps o) o taken) (word ∷ rest) ≡ judged ps (parts_from (word ∷ rest) (Some (option_name o)))
waits_step word (dashes_view e) rest next ps o taken d m =
    subst (λ (w : Word). answer_at (waits_at (waiting ps o) o taken) (w ∷ rest) ≡ judged ps (parts_from (w ∷ rest) (Some (option_name o)))) e
    (goes (waits_at (waiting ps o) o taken) (dead ps o taken) (dashed []) rest (waits_dashes_iteration ps o taken) (waits_dashes_walk ps o taken) ∙ stays_dead ps o taken rest
    ∙ sym (waits_none o (dashed []) (45 ∷ []) rest ps refl))
waits_step word (flag_view f e) rest next ps o taken d m =
    waits_fails o word (45 ∷ flag_name f) rest ps taken (sym e) (subst (λ (w : Word). is_no_fault (turn_fault top [] (waits_at (waiting ps o) o taken) w) ≡ false) e (waits_flag f ps o taken))
waits_step word (option_view p e) rest next ps o taken d m =
    waits_fails o word (45 ∷ option_name p) rest ps taken (sym e) (subst (λ (w : Word). is_no_fault (turn_fault top [] (waits_at (waiting ps o) o taken) w) ≡ false) e (waits_option p ps o taken))
waits_step word (valued_view p value e) rest next ps o taken d m =
    waits_fails o word (45 ∷ (option_name p ++ 61 ∷ value)) rest ps taken (sym e)
    (subst (λ (w : Word). is_no_fault (turn_fault top [] (waits_at (waiting ps o) o taken) w) ≡ false) e (waits_valued p value ps o taken))
waits_step word (unknown_view b more e refuses sort) rest next ps o taken d m =
    waits_fails o word (45 ∷ b ∷ more) rest ps taken (sym e)
    (subst (λ (w : Word). is_no_fault (turn_fault top [] (waits_at (waiting ps o) o taken) w) ≡ false) e (unknown_waits b more (waiting ps o) o taken refuses))
waits_step word (short_view b more e other sort) rest next ps o taken d m =
    short_case b more (answer_at (waits_at (waiting ps o) o taken) (word ∷ rest) ≡ judged ps (parts_from (word ∷ rest) (Some (option_name o))))
    (λ c is. waits_fails o word (b ∷ more) rest ps taken (sym e)
    (subst (λ (w : Word). is_no_fault (turn_fault top [] (waits_at (waiting ps o) o taken) w) ≡ false) e (short_waits b more (rows_of ps) (Some (option_name o, [])) o taken c other is)))
    (λ is. waits_takes o word rest (subst IsValue e (short_is_value b more other is)) next ps taken d m)
waits_step word (plain_view is sort) rest next ps o taken d m = waits_takes o word rest (plain_is_value word is) next ps taken d m

-- ---- all words

answers : (words : List Word) → Answers words
answers [] ps s taken d m = at_end ps s taken d m
answers (word ∷ rest) ps (free pending) taken d m = free_step word (view word) rest (λ qs s t e n. answers rest qs s t e n) ps pending taken d m
answers (word ∷ rest) ps (waits o) taken d m = waits_step word (view word) rest (λ qs s t e n. answers rest qs s t e n) ps o taken d m

answered : (words : List Word) → answer_at (walk_from nothing_held) words ≡ invocation_of words
unfolding invocation_of
answered words = answers words [] (free none) false refl refl ∙ go (parts_from words None)
  where
    go : (o : Option (List CommandPart)) → judged [] o ≡ option_and_then invocation_in o
    go None = refl
    go (Some ps) = refl

-- what clap makes of the words of the command
in_full : (words : List Word) → cond (are_taken words) (requested (given words)) None ≡ answer_at (walk_from nothing_held) words
unfolding are_taken given answer_at answer_by end_fault top
in_full words = go (walk top.rules [] nothing_held words).stopped
  where
    go : (stop : Option (Word × List Word)) → cond (is_no_fault (level_fault top [] nothing_held words (is_some (entered (built command) stop)) (entered_fault (built command) stop))) (requested (given words)) None
        ≡ answer_at (walk_from nothing_held) words
    go None = refl
    go (Some s) = refl

-- the words ask for what the grammar says
pub as_written : (words : List Word) → cond (are_taken words) (requested (given words)) None ≡ invocation_of words
as_written words = in_full words ∙ answered words

pub taken_as_written : (words : List Word) → are_taken words ≡ true → requested (given words) ≡ invocation_of words
taken_as_written words e = ap (λ t. cond t (requested (given words)) None) (sym e) ∙ as_written words

pub refused_as_written : (words : List Word) → are_taken words ≡ false → None ≡ invocation_of words
refused_as_written words e = ap (λ t. cond t (requested (given words)) None) (sym e) ∙ as_written words

pub refused_when : (words : List Word) → (are_taken words ≡ true → ⊥) → None ≡ invocation_of words
refused_when words not_taken = go (are_taken words) refl
  where
    go : (t : Bool) → are_taken words ≡ t → None ≡ invocation_of words
    go true e = absurd (not_taken e)
    go false e = refused_as_written words e
