-- The rows in which clap holds what was given, as parts.
use Rattle.std.proofs.Common.{◌≡◌, Bool, true, false, cond, ◌||◌, List, [], ◌∷◌, ◌++◌, map, Option, Some, None, bytes_eq, append-nil, refl, sym, ap, ◌∙◌}
use Rattle.std.proofs.lemmas.List.{map-append}
use Rattle.clap.specs.Walk.{Held, Row, at_row, has_row, more_values, settled, with_values, without}
use Rattle.clap.specs.Simple.{Shape, built}
use Rattle.clap.specs.Faults.{settle_fault}
use Rattle.clap.specs.Kinds.{Kinds}
use Rattle.clap.specs.declared.builder.value_parser.Reading.TheVariants.{AsWritten}
use Rattle.clap.specs.declared.error.kind.ErrorKind.TheVariants as kind
use Rattle.clap.specs.declared.parser.matches.ValueSource.TheVariants.{CommandLine}
use Rattle.command_line.specs.Commands.{command}
use Rattle.command_line.specs.Grammar.{CommandPart, Word}
use Rattle.command_line.specs.Invocations.{are_different, is_part}
use Rattle.command_line.proofs.Parts.{Valued, mode, limit, pieces, number, name_of, still_different}

-- the command as clap builds it
unfoldable pub top : Shape
top = (built command).top

-- the row of a part
abbrev pub row_of : CommandPart → Row
row_of p = record { id = p.0; values = p.1 ∷ []; count = None; source = Some CommandLine; reading = AsWritten }

abbrev pub rows_of : List CommandPart → List Row
rows_of ps = map row_of ps

pub row_there : (name : Word) (ps : List CommandPart) → has_row name (rows_of ps) ≡ is_part name ps
row_there name [] = refl
row_there name (p ∷ ps) = ap (λ t. bytes_eq p.0 name || t) (row_there name ps)

pub row_missing : (id : Word) (change : Row → List Row) (missing rows : List Row) → has_row id rows ≡ false → at_row id change missing rows ≡ rows ++ missing
row_missing id change missing [] none = refl
row_missing id change missing (r ∷ rows) none = go (bytes_eq r.id id) none (λ apart. row_missing id change missing rows apart)
  where
    go : (t : Bool) → (t || has_row id rows) ≡ false → (has_row id rows ≡ false → at_row id change missing rows ≡ rows ++ missing)
        → cond t (change r ++ rows) (r ∷ at_row id change missing rows) ≡ r ∷ rows ++ missing
    go false apart below = ap (λ rest. r ∷ rest) (below apart)
    go true apart below = absurd cc

-- a new part is one row more
pub row_added : (ps : List CommandPart) (name value : Word) → is_part name ps ≡ false
    → with_values name AsWritten CommandLine (value ∷ []) (without name (rows_of ps)) ≡ rows_of (ps ++ (name, value) ∷ [])
row_added ps name value none =
    let apart : has_row name (rows_of ps) ≡ false = row_there name ps ∙ none in
    let same : without name (rows_of ps) ≡ rows_of ps = row_missing name (λ _. []) [] (rows_of ps) apart ∙ append-nil (rows_of ps) in
    ap (with_values name AsWritten CommandLine (value ∷ [])) same ∙ row_missing name (more_values CommandLine (value ∷ [])) (row_of (name, value) ∷ []) (rows_of ps) apart ∙ sym (map-append row_of ps ((name, value) ∷ []))

-- ---- a part that is not settled yet

pub data Pending : Type 0 where
  none : Pending
  some : Valued → Word → Pending

abbrev pub parts_in : Pending → List CommandPart
parts_in none = []
parts_in (some v value) = (name_of v, value) ∷ []

abbrev pub texts_in : Pending → Option (Word × List Word)
texts_in none = None
texts_in (some v value) = Some (name_of v, value ∷ [])

abbrev pub held : List CommandPart → Pending → Held
held ps pending = record { rows = rows_of ps; pending = texts_in pending; skip = 0 }

-- it was given before
abbrev pub is_stale : List CommandPart → Pending → Bool
is_stale ps none = false
is_stale ps (some v value) = is_part (name_of v) ps

abbrev pub conflict : Bool → Kinds
conflict stale = cond stale (kind.ArgumentConflict ∷ []) []

settle_by : (v : Valued) (value : Word) (ps : List CommandPart) (t : Bool) → has_row (name_of v) (rows_of ps) ≡ t → settle_fault top.rules false (held ps (some v value)) ≡ conflict t
unfolding top
settle_by mode value ps true e = rw e refl
settle_by mode value ps false e = rw e refl
settle_by limit value ps true e = rw e refl
settle_by limit value ps false e = rw e refl
settle_by pieces value ps true e = rw e refl
settle_by pieces value ps false e = rw e refl
settle_by number value ps true e = rw e refl
settle_by number value ps false e = rw e refl

pub settle_faults : (ps : List CommandPart) (pending : Pending) → settle_fault top.rules false (held ps pending) ≡ conflict (is_stale ps pending)
settle_faults ps none = refl
settle_faults ps (some v value) = settle_by v value ps (is_part (name_of v) ps) (row_there (name_of v) ps)

settled_by : (v : Valued) (value : Word) (ps : List CommandPart) → settled top.rules (held ps (some v value)) ≡ record { rows = with_values (name_of v) AsWritten CommandLine (value ∷ []) (without (name_of v) (rows_of ps)); pending = None; skip = 0 }
unfolding top
settled_by mode value ps = refl
settled_by limit value ps = refl
settled_by pieces value ps = refl
settled_by number value ps = refl

pub settles : (ps : List CommandPart) (pending : Pending) → is_stale ps pending ≡ false → settled top.rules (held ps pending) ≡ held (ps ++ parts_in pending) none
settles ps none new = ap (λ qs. held qs none) (sym (append-nil ps))
settles ps (some v value) new = settled_by v value ps ∙ ap (λ rows. record { rows = rows; pending = None; skip = 0 }) (row_added ps (name_of v) value new)

pub all_different : (ps : List CommandPart) (pending : Pending) → are_different ps ≡ true → is_stale ps pending ≡ false → are_different (ps ++ parts_in pending) ≡ true
all_different ps none d new = ap are_different (append-nil ps) ∙ d
all_different ps (some v value) d new = still_different ps (name_of v, value) d new
