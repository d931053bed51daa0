-- What clap makes of one word, by where its walk stands.
use Rattle.std.proofs.Common.{◌≡◌, ℕ, ◌==◌, Bool, true, false, cond, ◌&&◌, List, [], ◌∷◌, ◌++◌, Option, Some, None, chars, length, slice_get, suc, codes, refl, ap, ◌∙◌}
use Rattle.std.specs.List.{fold}
use Rattle.clap.specs.Walk.{Held, Row, Waiting, Walk, has_row, idle, option, settled, walked, with_values, without}
use Rattle.clap.specs.Faults.{bundle_step_fault, flags_fault, settle_fault, turn_fault, walk_fault, word_fault}
use Rattle.clap.specs.Walk.{bundle_met, bundle_step, plain, plain_word, value as a_value, word_met}
use Rattle.clap.specs.Kinds.{Kinds, or_else}
use Rattle.clap.specs.declared.builder.value_parser.Reading.TheVariants.{AsWritten}
use Rattle.clap.specs.declared.error.kind.ErrorKind.TheVariants as kind
use Rattle.clap.specs.declared.parser.matches.ValueSource.TheVariants.{CommandLine}
use Rattle.command_line.specs.Commands.{is_no_fault}
use Rattle.command_line.specs.Grammar.{CommandPart, Word}
use Rattle.command_line.specs.declared.invocation.Invocation.{Invocation}
use Rattle.command_line.proofs.Parts.{and_false}
use Rattle.command_line.proofs.Rows.{conflict, rows_of, top}
use Rattle.command_line.proofs.Ends.{answer_by, end_fault}
use Rattle.command_line.proofs.WordSorts.{Flag, IsPlain, IsRefused, Opt, a_limit, a_number, dashed, detail, explain, flag_name, option_name, serial, some_pieces, stats, text}

-- ---- one iteration

-- what is answered where the walk stands here, before these words
unfoldable pub answer_at : Walk → List Word → Option Invocation
answer_at w words = answer_by (walk_fault top [] w words) (fold (walked top.rules []) w words).held

no_fault_or : (a b : Kinds) → is_no_fault (or_else a b) ≡ (is_no_fault a && is_no_fault b)
no_fault_or [] b = refl
no_fault_or (k ∷ ks) b = refl

pub goes : (w next : Walk) (word : Word) (rest : List Word) → turn_fault top [] w word ≡ [] → walked top.rules [] w word ≡ next → answer_at w (word ∷ rest) ≡ answer_at next rest
unfolding answer_at walk_fault
goes w next word rest none is =
    ap (λ (kinds : Kinds). answer_by (or_else kinds (walk_fault top [] (walked top.rules [] w word) rest)) (fold (walked top.rules []) (walked top.rules [] w word) rest).held) none
    ∙ ap (λ (v : Walk). answer_by (walk_fault top [] v rest) (fold (walked top.rules []) v rest).held) is

answer_fails : (kinds more : Kinds) (end : Held) → is_no_fault kinds ≡ false → answer_by (or_else kinds more) end ≡ None
unfolding answer_by
answer_fails [] more end e = absurd cc
answer_fails (k ∷ ks) more end e = refl

pub fails : (w : Walk) (word : Word) (rest : List Word) → is_no_fault (turn_fault top [] w word) ≡ false → answer_at w (word ∷ rest) ≡ None
unfolding answer_at walk_fault
fails w word rest e =
    answer_fails (turn_fault top [] w word) (walk_fault top [] (walked top.rules [] w word) rest) (fold (walked top.rules []) (walked top.rules [] w word) rest).held e

-- ---- where no option waits

abbrev pub at : Held → Bool → Bool → Walk
at h taken trailing = record { held = h; waiting = idle; position = cond taken 2 1; is_trailing = trailing; stopped = None }

-- nothing stands in the way of settling; or what is held was given before
abbrev pub Settles : Held → Bool → Type 0
Settles h stale = settle_fault top.rules false h ≡ conflict stale

abbrev pub used_flag : Flag → Held → Held
used_flag f h = record { rows = with_values (flag_name f) AsWritten CommandLine (codes "true" ∷ []) (without (flag_name f) (settled top.rules h).rows); pending = None; skip = h.skip }

abbrev pub used_option : Opt → Word → Held → Held
used_option o value h = record { rows = with_values (option_name o) AsWritten CommandLine (value ∷ []) (without (option_name o) (settled top.rules h).rows); pending = None; skip = h.skip }

pub dashes_iteration : (h : Held) (taken : Bool) → turn_fault top [] (at h taken false) (dashed []) ≡ []
unfolding top
dashes_iteration h taken = refl

pub dashes_walk : (h : Held) (taken : Bool) → walked top.rules [] (at h taken false) (dashed []) ≡ at h taken true
unfolding top walked
dashes_walk h taken = refl

pub flag_iteration : (f : Flag) (h : Held) (taken t : Bool) → Settles h false → has_row (flag_name f) (settled top.rules h).rows ≡ t
    → turn_fault top [] (at h taken false) (dashed (flag_name f)) ≡ conflict t
unfolding top
flag_iteration serial h taken true s e = rw (s, e) refl
flag_iteration serial h taken false s e = rw (s, e) refl
flag_iteration stats h taken true s e = rw (s, e) refl
flag_iteration stats h taken false s e = rw (s, e) refl
flag_iteration text h taken true s e = rw (s, e) refl
flag_iteration text h taken false s e = rw (s, e) refl
flag_iteration explain h taken true s e = rw (s, e) refl
flag_iteration explain h taken false s e = rw (s, e) refl
flag_iteration detail h taken true s e = rw (s, e) refl
flag_iteration detail h taken false s e = rw (s, e) refl

pub flag_stale : (f : Flag) (h : Held) (taken : Bool) → Settles h true → is_no_fault (turn_fault top [] (at h taken false) (dashed (flag_name f))) ≡ false
unfolding top
flag_stale serial h taken s = rw s refl
flag_stale stats h taken s = rw s refl
flag_stale text h taken s = rw s refl
flag_stale explain h taken s = rw s refl
flag_stale detail h taken s = rw s refl

pub flag_walk : (f : Flag) (h : Held) (taken : Bool) → walked top.rules [] (at h taken false) (dashed (flag_name f)) ≡ at (used_flag f h) taken false
unfolding top walked
flag_walk serial h taken = refl
flag_walk stats h taken = refl
flag_walk text h taken = refl
flag_walk explain h taken = refl
flag_walk detail h taken = refl

-- an option that waits for its value, behind these rows
abbrev pub waiting : List CommandPart → Opt → Held
waiting ps o = record { rows = rows_of ps; pending = Some (option_name o, []); skip = 0 }

abbrev pub waits_at : Held → Opt → Bool → Walk
waits_at h o taken = record { held = h; waiting = option (option_name o); position = cond taken 2 1; is_trailing = false; stopped = None }

pub option_iteration : (o : Opt) (h : Held) (taken t : Bool) → Settles h t → turn_fault top [] (at h taken false) (dashed (option_name o)) ≡ conflict t
unfolding top
option_iteration a_limit h taken true s = rw s refl
option_iteration a_limit h taken false s = rw s refl
option_iteration some_pieces h taken true s = rw s refl
option_iteration some_pieces h taken false s = rw s refl
option_iteration a_number h taken true s = rw s refl
option_iteration a_number h taken false s = rw s refl

pub option_walk : (o : Opt) (h : Held) (taken : Bool)
    → walked top.rules [] (at h taken false) (dashed (option_name o)) ≡ waits_at (record (settled top.rules h) { pending = Some (option_name o, []) }) o taken
unfolding top walked
option_walk a_limit h taken = refl
option_walk some_pieces h taken = refl
option_walk a_number h taken = refl

pub valued_iteration : (o : Opt) (value : Word) (h : Held) (taken t : Bool) → Settles h false → has_row (option_name o) (settled top.rules h).rows ≡ t
    → turn_fault top [] (at h taken false) (dashed (option_name o ++ 61 ∷ value)) ≡ conflict t
unfolding top
valued_iteration a_limit value h taken true s e = rw (s, e) refl
valued_iteration a_limit value h taken false s e = rw (s, e) refl
valued_iteration some_pieces value h taken true s e = rw (s, e) refl
valued_iteration some_pieces value h taken false s e = rw (s, e) refl
valued_iteration a_number value h taken true s e = rw (s, e) refl
valued_iteration a_number value h taken false s e = rw (s, e) refl

pub valued_stale : (o : Opt) (value : Word) (h : Held) (taken : Bool) → Settles h true
    → is_no_fault (turn_fault top [] (at h taken false) (dashed (option_name o ++ 61 ∷ value))) ≡ false
unfolding top
valued_stale a_limit value h taken s = rw s refl
valued_stale some_pieces value h taken s = rw s refl
valued_stale a_number value h taken s = rw s refl

pub valued_walk : (o : Opt) (value : Word) (h : Held) (taken : Bool)
    → walked top.rules [] (at h taken false) (dashed (option_name o ++ 61 ∷ value)) ≡ at (used_option o value h) taken false
unfolding top walked
valued_walk a_limit value h taken = refl
valued_walk some_pieces value h taken = refl
valued_walk a_number value h taken = refl

-- ---- words that clap refuses wherever they stand

-- a walk that is not behind `--`, and has met no subcommand
abbrev pub before_dashes : Held → Waiting → ℕ → Walk
before_dashes h w position = record { held = h; waiting = w; position = position; is_trailing = false; stopped = None }

pub unknown_idle : (b : ℕ) (rest : Word) (h : Held) (position : ℕ) → IsRefused (b ∷ rest) → is_no_fault (turn_fault top [] (before_dashes h idle position) (dashed (b ∷ rest))) ≡ false
unfolding top
unknown_idle b rest h position refuses = rw no_fault_or (rw (refuses h) refl)

pub unknown_waits : (b : ℕ) (rest : Word) (h : Held) (o : Opt) (taken : Bool) → IsRefused (b ∷ rest) → is_no_fault (turn_fault top [] (waits_at h o taken) (dashed (b ∷ rest))) ≡ false
unfolding top
unknown_waits b rest h o taken refuses = rw no_fault_or (rw (refuses h) refl)

-- there are no short options
no_short : (rows : List Row) (pending : Option (Word × List Word)) (flags : Word) (k c : ℕ) → slice_get (chars flags) 0 ≡ Some c
    → flags_fault top.rules false (suc k) flags 0 (record { rows = rows; pending = pending; skip = 0 }) ≡ kind.UnknownArgument ∷ []
unfolding top flags_fault
no_short rows pending flags k c e =
    ap (λ o. bundle_step_fault top.rules false o flags 0 (record { rows = rows; pending = pending; skip = 0 }) (flags_fault top.rules false k)) e

pub short_idle : (b : ℕ) (rest : Word) (rows : List Row) (pending : Option (Word × List Word)) (position c : ℕ) → (b == 45) ≡ false → slice_get (chars (b ∷ rest)) 0 ≡ Some c
    → is_no_fault (turn_fault top [] (before_dashes (record { rows = rows; pending = pending; skip = 0 }) idle position) (45 ∷ b ∷ rest)) ≡ false
unfolding top
short_idle b rest rows pending position c e is = rw (e, e, no_short rows pending (b ∷ rest) (length rest) c is) refl

pub short_waits : (b : ℕ) (rest : Word) (rows : List Row) (pending : Option (Word × List Word)) (o : Opt) (taken : Bool) (c : ℕ) → (b == 45) ≡ false → slice_get (chars (b ∷ rest)) 0 ≡ Some c
    → is_no_fault (turn_fault top [] (waits_at (record { rows = rows; pending = pending; skip = 0 }) o taken) (45 ∷ b ∷ rest)) ≡ false
unfolding top
short_waits b rest rows pending o taken c e is = rw (e, e, no_short rows pending (b ∷ rest) (length rest) c is) refl

-- ---- words that are no options

abbrev pub with_pending : List Row → Option (Word × List Word) → Held
with_pending rows pending = record { rows = rows; pending = pending; skip = 0 }

-- clap takes the word as a value
pub record IsValue (word : Word) : Type 0 where
  pub fault : (rows : List Row) (pending : Option (Word × List Word)) → word_fault top [] false idle word (with_pending rows pending) ≡ []
  pub met : (rows : List Row) (pending : Option (Word × List Word)) (position : ℕ) → word_met top.rules [] false idle position word (with_pending rows pending) ≡ (with_pending rows pending, a_value)
  pub waits_fault : (o : Opt) (rows : List Row) (pending : Option (Word × List Word)) → word_fault top [] false (option (option_name o)) word (with_pending rows pending) ≡ []
  pub waits_met : (o : Opt) (rows : List Row) (pending : Option (Word × List Word)) (position : ℕ)
      → word_met top.rules [] false (option (option_name o)) position word (with_pending rows pending) ≡ plain_word top.rules (option (option_name o)) word (with_pending rows pending)

pub plain_is_value : (word : Word) → IsPlain word → IsValue word
unfolding top
plain_is_value word is = record {
  fault = λ rows pending. rw (is.dashes, is.long, is.short) refl;
  met = λ rows pending position. rw (is.dashes, is.long, is.short) refl;
  waits_fault = λ o rows pending. rw (is.dashes, is.long, is.short) refl;
  waits_met = λ o rows pending position. rw (is.dashes, is.long, is.short) refl;
}

no_char_fault : (rows : List Row) (pending : Option (Word × List Word)) (flags : Word) (k : ℕ) → slice_get (chars flags) 0 ≡ None
    → flags_fault top.rules false (suc k) flags 0 (with_pending rows pending) ≡ []
unfolding flags_fault
no_char_fault rows pending flags k e = ap (λ o. bundle_step_fault top.rules false o flags 0 (with_pending rows pending) (flags_fault top.rules false k)) e

no_char_met : (rows : List Row) (pending : Option (Word × List Word)) (flags : Word) (k : ℕ) → slice_get (chars flags) 0 ≡ None
    → bundle_met top.rules (suc k) flags 0 plain (with_pending rows pending) ≡ (with_pending rows pending, plain)
unfolding bundle_met
no_char_met rows pending flags k e = ap (λ o. bundle_step top.rules o flags 0 plain (with_pending rows pending) (bundle_met top.rules k)) e

pub short_is_value : (b : ℕ) (rest : Word) → (b == 45) ≡ false → slice_get (chars (b ∷ rest)) 0 ≡ None → IsValue (45 ∷ b ∷ rest)
unfolding top
short_is_value b rest e none = record {
  fault = λ rows pending. rw (e, e, no_char_fault rows pending (b ∷ rest) (length rest) none) refl;
  met = λ rows pending position. rw (e, e, no_char_met rows pending (b ∷ rest) (length rest) none) refl;
  waits_fault = λ o rows pending. rw (e, e, no_char_fault rows pending (b ∷ rest) (length rest) none) refl;
  waits_met = λ o rows pending position. rw (e, e, no_char_met rows pending (b ∷ rest) (length rest) none) refl;
}

-- a value where no mode stands yet
pub value_iteration : (word : Word) (rows : List Row) (pending : Option (Word × List Word)) (t : Bool) → IsValue word → Settles (with_pending rows pending) t
    → turn_fault top [] (at (with_pending rows pending) false false) word ≡ conflict t
unfolding top
value_iteration word rows pending true is s = rw (is.fault rows pending, is.met rows pending 1) (rw (and_false, s) refl)
value_iteration word rows pending false is s = rw (is.fault rows pending, is.met rows pending 1) (rw (and_false, s) refl)

-- a second one
pub second_iteration : (word : Word) (rows : List Row) (pending : Option (Word × List Word)) → IsValue word
    → is_no_fault (turn_fault top [] (at (with_pending rows pending) true false) word) ≡ false
unfolding top
second_iteration word rows pending is = rw (is.fault rows pending, is.met rows pending 2) refl

pub value_walk : (word : Word) (rows : List Row) (pending : Option (Word × List Word)) → IsValue word
    → walked top.rules [] (at (with_pending rows pending) false false) word ≡ at (record (settled top.rules (with_pending rows pending)) { pending = Some (codes "mode", word ∷ []) }) true false
unfolding top walked
value_walk word rows pending is = rw (is.met rows pending 1) (rw and_false refl)

-- ---- where an option waits for its value

pub waits_value_iteration : (word : Word) (ps : List CommandPart) (o : Opt) (taken : Bool) → IsValue word → turn_fault top [] (waits_at (waiting ps o) o taken) word ≡ []
unfolding top
waits_value_iteration word ps o taken is = rw (is.waits_fault o (rows_of ps) (Some (option_name o, [])), is.waits_met o (rows_of ps) (Some (option_name o, [])) (cond taken 2 1)) refl

pub waits_value_walk : (word : Word) (ps : List CommandPart) (o : Opt) (taken : Bool) → IsValue word
    → walked top.rules [] (waits_at (waiting ps o) o taken) word ≡ at (with_pending (rows_of ps) (Some (option_name o, word ∷ []))) taken false
unfolding top walked
waits_value_walk word ps a_limit taken is = rw (is.waits_met a_limit (rows_of ps) (Some (option_name a_limit, [])) (cond taken 2 1)) refl
waits_value_walk word ps some_pieces taken is = rw (is.waits_met some_pieces (rows_of ps) (Some (option_name some_pieces, [])) (cond taken 2 1)) refl
waits_value_walk word ps a_number taken is = rw (is.waits_met a_number (rows_of ps) (Some (option_name a_number, [])) (cond taken 2 1)) refl

pub waits_flag : (f : Flag) (ps : List CommandPart) (o : Opt) (taken : Bool) → is_no_fault (turn_fault top [] (waits_at (waiting ps o) o taken) (dashed (flag_name f))) ≡ false
unfolding top
waits_flag serial ps a_limit taken = refl
waits_flag serial ps some_pieces taken = refl
waits_flag serial ps a_number taken = refl
waits_flag stats ps a_limit taken = refl
waits_flag stats ps some_pieces taken = refl
waits_flag stats ps a_number taken = refl
waits_flag text ps a_limit taken = refl
waits_flag text ps some_pieces taken = refl
waits_flag text ps a_number taken = refl
waits_flag explain ps a_limit taken = refl
waits_flag explain ps some_pieces taken = refl
waits_flag explain ps a_number taken = refl
waits_flag detail ps a_limit taken = refl
waits_flag detail ps some_pieces taken = refl
waits_flag detail ps a_number taken = refl

pub waits_option : (p : Opt) (ps : List CommandPart) (o : Opt) (taken : Bool) → is_no_fault (turn_fault top [] (waits_at (waiting ps o) o taken) (dashed (option_name p))) ≡ false
unfolding top
waits_option a_limit ps a_limit taken = refl
waits_option a_limit ps some_pieces taken = refl
waits_option a_limit ps a_number taken = refl
waits_option some_pieces ps a_limit taken = refl
waits_option some_pieces ps some_pieces taken = refl
waits_option some_pieces ps a_number taken = refl
waits_option a_number ps a_limit taken = refl
waits_option a_number ps some_pieces taken = refl
waits_option a_number ps a_number taken = refl

pub waits_valued : (p : Opt) (value : Word) (ps : List CommandPart) (o : Opt) (taken : Bool)
    → is_no_fault (turn_fault top [] (waits_at (waiting ps o) o taken) (dashed (option_name p ++ 61 ∷ value))) ≡ false
unfolding top
waits_valued a_limit value ps a_limit taken = refl
waits_valued a_limit value ps some_pieces taken = refl
waits_valued a_limit value ps a_number taken = refl
waits_valued some_pieces value ps a_limit taken = refl
waits_valued some_pieces value ps some_pieces taken = refl
waits_valued some_pieces value ps a_number taken = refl
waits_valued a_number value ps a_limit taken = refl
waits_valued a_number value ps some_pieces taken = refl
waits_valued a_number value ps a_number taken = refl

-- an option without a value, behind `--`
abbrev pub dead : List CommandPart → Opt → Bool → Walk
dead ps o taken = record { held = waiting ps o; waiting = option (option_name o); position = cond taken 2 1; is_trailing = true; stopped = None }

pub waits_dashes_iteration : (ps : List CommandPart) (o : Opt) (taken : Bool) → turn_fault top [] (waits_at (waiting ps o) o taken) (dashed []) ≡ []
unfolding top
waits_dashes_iteration ps o taken = refl

pub waits_dashes_walk : (ps : List CommandPart) (o : Opt) (taken : Bool) → walked top.rules [] (waits_at (waiting ps o) o taken) (dashed []) ≡ dead ps o taken
unfolding top walked
waits_dashes_walk ps o taken = refl

pub waits_end : (ps : List CommandPart) (o : Opt) (taken : Bool) → answer_at (waits_at (waiting ps o) o taken) [] ≡ None
unfolding top answer_at answer_by end_fault walk_fault
waits_end ps a_limit taken = refl
waits_end ps some_pieces taken = refl
waits_end ps a_number taken = refl

dead_end : (ps : List CommandPart) (o : Opt) (taken : Bool) → answer_at (dead ps o taken) [] ≡ None
unfolding top answer_at answer_by end_fault walk_fault
dead_end ps a_limit taken = refl
dead_end ps some_pieces taken = refl
dead_end ps a_number taken = refl

dead_iteration : (ps : List CommandPart) (o : Opt) (taken : Bool) (word : Word) → is_no_fault (turn_fault top [] (dead ps o taken) word) ≡ false
unfolding top
dead_iteration ps a_limit true word = refl
dead_iteration ps a_limit false word = refl
dead_iteration ps some_pieces true word = refl
dead_iteration ps some_pieces false word = refl
dead_iteration ps a_number true word = refl
dead_iteration ps a_number false word = refl

pub stays_dead : (ps : List CommandPart) (o : Opt) (taken : Bool) (words : List Word) → answer_at (dead ps o taken) words ≡ None
stays_dead ps o taken [] = dead_end ps o taken
stays_dead ps o taken (word ∷ rest) = fails (dead ps o taken) word rest (dead_iteration ps o taken word)

-- ---- behind `--`

pub last_iteration : (word : Word) (h : Held) (t : Bool) → Settles h t → turn_fault top [] (at h false true) word ≡ conflict t
unfolding top
last_iteration word h true s = rw (and_false, s) refl
last_iteration word h false s = rw (and_false, s) refl

pub last_walk : (word : Word) (h : Held) → walked top.rules [] (at h false true) word ≡ at (record (settled top.rules h) { pending = Some (codes "mode", word ∷ []) }) true true
unfolding top walked
last_walk word h = rw and_false refl

pub behind_last : (word : Word) (h : Held) → is_no_fault (turn_fault top [] (at h true true) word) ≡ false
unfolding top
behind_last word h = refl
