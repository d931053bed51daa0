-- What is answered where the words end.
use Rattle.std.proofs.Common.{◌≡◌, Bool, true, false, cond, ◌&&◌, ◌||◌, List, [], ◌∷◌, ◌++◌, Option, Some, None, codes, find, is_some, option_map, option_and_then, slice_get, bytes_eq, append-nil, refl, sym, ap, ap₂, subst, ◌∙◌}
use Rattle.std.specs.List.{fold, list_all}
use Rattle.std.specs.Option.{option_map_or}
use Rattle.clap.specs.Facts.{explicit_source}
use Rattle.clap.specs.Walk.{Held, Row, Rule, finished, first_of, has_row, is_empty, more_values, settled, with_default, with_values}
use Rattle.clap.specs.Faults.{check_fault, default_fault, defaults_fault, given_default_fault, settle_fault}
use Rattle.clap.specs.Kinds.{Kinds, or_else}
use Rattle.clap.specs.Takes.{is_given}
use Rattle.clap.specs.declared.builder.value_parser.Reading.TheVariants.{AsWritten}
use Rattle.clap.specs.declared.error.kind.ErrorKind.TheVariants as kind
use Rattle.clap.specs.declared.parser.matches.ValueSource.TheVariants.{CommandLine, DefaultValue}
use Rattle.command_line.specs.Commands.{is_no_fault, requested, value_of}
use Rattle.command_line.specs.Grammar.{CommandPart, Word, flags}
use Rattle.command_line.specs.Invocations.{Values, are_different, invocation_by, invocation_in, says_true, value_in}
use Rattle.command_line.specs.WrittenLines.{is_name_in}
use Rattle.command_line.specs.declared.invocation.Invocation.{Invocation}
use Rattle.command_line.proofs.Parts.{always, is_itself, name_of, or_none, repeated_none, same_name}
use Rattle.command_line.proofs.Rows.{Pending, none, some, all_different, conflict, held, is_stale, parts_in, row_missing, rows_of, settle_faults, settles, top}

-- ---- the flags that were not given

-- a flag that was not given has the value `false`
abbrev pub off_row : Word → Row
off_row name = record { id = name; values = codes "false" ∷ []; count = None; source = Some DefaultValue; reading = AsWritten }

abbrev pub with_off : Word → List Row → List Row
with_off name rows = cond (has_row name rows) rows (with_values name AsWritten DefaultValue (codes "false" ∷ []) rows)

abbrev pub with_every_off : List Word → List Row → List Row
with_every_off [] rows = rows
with_every_off (flag ∷ more) rows = with_every_off more (with_off flag rows)

abbrev pub with_flags : List Row → List Row
with_flags rows = with_every_off flags rows

abbrev same : Word → Row → Bool
same name row = bytes_eq row.id name

find_more : (p : Row → Bool) (rows : List Row) (r : Row) → p r ≡ false → find p (rows ++ r ∷ []) ≡ find p rows
find_more p [] r e = rw e refl
find_more p (q ∷ rows) r e = ap (λ o. cond (p q) (Some q) o) (find_more p rows r e)

find_off : (name flag : Word) (rows : List Row) → bytes_eq flag name ≡ false → find (same name) (with_off flag rows) ≡ find (same name) rows
find_off name flag rows e = go (has_row flag rows) refl
  where
    go : (t : Bool) → has_row flag rows ≡ t → find (same name) (cond t rows (with_values flag AsWritten DefaultValue (codes "false" ∷ []) rows)) ≡ find (same name) rows
    go true has = refl
    go false has =
        ap (find (same name)) (row_missing flag (more_values DefaultValue (codes "false" ∷ [])) (off_row flag ∷ []) rows has) ∙ find_more (same name) rows (off_row flag) e

none_found : (name : Word) (rows : List Row) → has_row name rows ≡ false → find (same name) rows ≡ None
none_found name [] e = refl
none_found name (r ∷ rows) e = let apart = or_none (bytes_eq r.id name) (has_row name rows) e in rw apart.0 (none_found name rows apart.1)

found_last : (name : Word) (rows : List Row) (r : Row) → has_row name rows ≡ false → bytes_eq r.id name ≡ true → find (same name) (rows ++ r ∷ []) ≡ Some r
found_last name [] r e is = rw is refl
found_last name (q ∷ rows) r e is = let apart = or_none (bytes_eq q.id name) (has_row name rows) e in rw apart.0 (found_last name rows r apart.1 is)

says_off : (flag : Word) (rows : List Row) → says_true (first_of flag (with_off flag rows)) ≡ says_true (first_of flag rows)
says_off flag rows = go (has_row flag rows) refl
  where
    go : (t : Bool) → has_row flag rows ≡ t → says_true (first_of flag (cond t rows (with_values flag AsWritten DefaultValue (codes "false" ∷ []) rows))) ≡ says_true (first_of flag rows)
    go true has = refl
    go false has =
        ap (λ (rs : List Row). says_true (first_of flag rs)) (row_missing flag (more_values DefaultValue (codes "false" ∷ [])) (off_row flag ∷ []) rows has)
        ∙ ap (λ (o : Option Row). says_true (option_and_then (λ (r : Row). slice_get r.values 0) o)) (found_last flag rows (off_row flag) has (is_itself flag))
        ∙ sym (ap (λ (o : Option Row). says_true (option_and_then (λ (r : Row). slice_get r.values 0) o)) (none_found flag rows has))

find_name : (names : List Word) (name : Word) (rows : List Row) → is_name_in names name ≡ false → find (same name) (with_every_off names rows) ≡ find (same name) rows
find_name [] name rows e = refl
find_name (flag ∷ more) name rows e =
    let apart = or_none (bytes_eq flag name) (is_name_in more name) e in find_name more name (with_off flag rows) apart.1 ∙ find_off name flag rows apart.0

first_name : (name : Word) (rows : List Row) → is_name_in flags name ≡ false → first_of name (with_flags rows) ≡ first_of name rows
first_name name rows e = ap (option_and_then (λ (r : Row). slice_get r.values 0)) (find_name flags name rows e)

-- a flag that was not given says nothing of any name
says_same : (name flag : Word) (rows : List Row) → says_true (first_of name (with_off flag rows)) ≡ says_true (first_of name rows)
says_same name flag rows = go (bytes_eq flag name) refl
  where
    go : (t : Bool) → bytes_eq flag name ≡ t → says_true (first_of name (with_off flag rows)) ≡ says_true (first_of name rows)
    go true is = subst (λ (n : Word). says_true (first_of n (with_off flag rows)) ≡ says_true (first_of n rows)) (same_name flag name is) (says_off flag rows)
    go false other = ap (λ (o : Option Row). says_true (option_and_then (λ (r : Row). slice_get r.values 0) o)) (find_off name flag rows other)

says_every : (names : List Word) (name : Word) (rows : List Row) → says_true (first_of name (with_every_off names rows)) ≡ says_true (first_of name rows)
says_every [] name rows = refl
says_every (flag ∷ more) name rows = says_every more name (with_off flag rows) ∙ says_same name flag rows

-- ---- values

first_part : (name : Word) (ps : List CommandPart) → first_of name (rows_of ps) ≡ value_in ps name
first_part name [] = refl
first_part name (p ∷ ps) = go (bytes_eq p.0 name) (first_part name ps)
  where
    go : (t : Bool) → first_of name (rows_of ps) ≡ value_in ps name
        → option_and_then (λ (r : Row). slice_get r.values 0) (cond t (Some (record { id = p.0; values = p.1 ∷ []; count = None; source = Some CommandLine; reading = AsWritten })) (find (same name) (rows_of ps)))
        ≡ option_map (λ (q : CommandPart). q.1) (cond t (Some p) (find (λ q. bytes_eq q.0 name) ps))
    go true e = refl
    go false e = e

given_part : (name : Word) (ps : List CommandPart) → is_given name (rows_of ps) ≡ is_some (value_in ps name)
given_part name [] = refl
given_part name (p ∷ ps) = go (bytes_eq p.0 name) (given_part name ps)
  where
    go : (t : Bool) → is_given name (rows_of ps) ≡ is_some (value_in ps name)
        → option_map_or (λ (r : Row). explicit_source r.source) (cond t (Some (record { id = p.0; values = p.1 ∷ []; count = None; source = Some CommandLine; reading = AsWritten })) (find (same name) (rows_of ps))) false
        ≡ is_some (option_map (λ (q : CommandPart). q.1) (cond t (Some p) (find (λ q. bytes_eq q.0 name) ps)))
    go true e = refl
    go false e = e

pub same_by : (f g : Values) → ((name : Word) → says_true (f name) ≡ says_true (g name)) → f (codes "mode") ≡ g (codes "mode")
    → f (codes "limit") ≡ g (codes "limit") → f (codes "pieces") ≡ g (codes "pieces") → f (codes "number") ≡ g (codes "number") → invocation_by f ≡ invocation_by g
same_by f g said m l p n =
    rw (said (codes "serial"), said (codes "stats"), said (codes "text"), said (codes "explain"), said (codes "detail"), m, l, p, n) refl

-- what the rows with the flags ask for is what the parts ask for
same_requested : (ps : List CommandPart) → requested (with_flags (rows_of ps)) ≡ invocation_by (value_in ps)
same_requested ps = same_by (value_of (with_flags (rows_of ps))) (value_in ps)
    (λ name. says_every flags name (rows_of ps) ∙ ap says_true (first_part name ps))
    (first_name (codes "mode") (rows_of ps) refl ∙ first_part (codes "mode") ps)
    (first_name (codes "limit") (rows_of ps) refl ∙ first_part (codes "limit") ps)
    (first_name (codes "pieces") (rows_of ps) refl ∙ first_part (codes "pieces") ps)
    (first_name (codes "number") (rows_of ps) refl ∙ first_part (codes "number") ps)

-- ---- the last checks

filled : (rows : List Row) → fold with_default rows top.rules ≡ with_flags rows
unfolding top
filled rows = simp always

no_fault : (kinds : Kinds) → is_no_fault kinds ≡ true → kinds ≡ []
no_fault [] e = refl
no_fault (k ∷ ks) e = absurd cc

abbrev harmless : Rule → Bool
harmless a = is_empty a.defaults || is_no_fault (given_default_fault a a.defaults)

no_default_fault : (rows : List Row) (c : List Rule) → list_all harmless c ≡ true → defaults_fault rows c ≡ []
unfolding defaults_fault
no_default_fault rows [] e = refl
no_default_fault rows (a ∷ c) e =
    let parts = both (harmless a) (list_all harmless c) e in
    let here : default_fault rows a ≡ [] = go (has_row a.id rows) (is_empty a.defaults) (given_default_fault a a.defaults) parts.0 in
    rw here (no_default_fault (with_default rows a) c parts.1)
  where
    both : (s t : Bool) → (s && t) ≡ true → (s ≡ true) × (t ≡ true)
    both true t e = (refl, e)
    both false t e = absurd cc

    go : (s t : Bool) (kinds : Kinds) → (t || is_no_fault kinds) ≡ true → cond (s || t) [] kinds ≡ []
    go true t kinds e = refl
    go false true kinds e = refl
    go false false kinds e = no_fault kinds e

are_harmless : list_all harmless top.rules ≡ true
unfolding top
are_harmless = refl

checked : (rows : List Row) (t : Bool) → is_given (codes "mode") rows ≡ t → check_fault top rows false ≡ cond t [] (kind.MissingRequiredArgument ∷ [])
unfolding top
checked rows true e = rw e refl
checked rows false e = rw e refl

-- ---- the end

unfoldable pub end_fault : Held → Kinds
end_fault end = or_else (settle_fault top.rules false end) (or_else (defaults_fault (settled top.rules end).rows top.rules) (check_fault top (finished top.rules end) false))

-- what is answered after faults of the words so far, where this is held
unfoldable pub answer_by : Kinds → Held → Option Invocation
answer_by kinds end = cond (is_no_fault (or_else kinds (end_fault end))) (requested (finished top.rules end)) None

no_mode_none : (ps : List CommandPart) → is_some (value_in ps (codes "mode")) ≡ false → invocation_by (value_in ps) ≡ None
no_mode_none ps e = go (value_in ps (codes "mode")) refl e
  where
    go : (o : Option Word) → value_in ps (codes "mode") ≡ o → is_some o ≡ false → invocation_by (value_in ps) ≡ None
    go None is e = rw is refl
    go (Some m) is e = absurd cc

end_of : (ps : List CommandPart) → answer_by [] (held ps none) ≡ invocation_by (value_in ps)
unfolding answer_by end_fault
end_of ps = rw (no_default_fault (rows_of ps) top.rules are_harmless, filled (rows_of ps)) (go (is_some (value_in ps (codes "mode"))) refl)
  where
    given : is_given (codes "mode") (with_flags (rows_of ps)) ≡ is_some (value_in ps (codes "mode"))
    given = ap (λ (o : Option Row). option_map_or (λ (r : Row). explicit_source r.source) o false) (find_name flags (codes "mode") (rows_of ps) refl) ∙ given_part (codes "mode") ps

    go : (t : Bool) → is_some (value_in ps (codes "mode")) ≡ t
        → cond (is_no_fault (check_fault top (with_flags (rows_of ps)) false)) (requested (with_flags (rows_of ps))) None ≡ invocation_by (value_in ps)
    go true e = rw (checked (with_flags (rows_of ps)) true (given ∙ e)) (same_requested ps)
    go false e = rw (checked (with_flags (rows_of ps)) false (given ∙ e)) (sym (no_mode_none ps e))

-- the same, by what settling comes to
abbrev by_settled : Kinds → Held → Option Invocation
by_settled kinds h =
    cond (is_no_fault (or_else kinds (or_else (defaults_fault h.rows top.rules) (check_fault top (fold with_default h.rows top.rules) false))))
    (requested (fold with_default h.rows top.rules)) None

-- where the words end, what was held is what the parts ask for
pub ends : (ps : List CommandPart) (pending : Pending) → are_different ps ≡ true → answer_by [] (held ps pending) ≡ invocation_in (ps ++ parts_in pending)
unfolding answer_by end_fault
ends ps pending d = go (is_stale ps pending) refl
  where
    stale : (p : Pending) → is_stale ps p ≡ true → invocation_in (ps ++ parts_in p) ≡ None
    stale none e = absurd cc
    stale (some v value) e = ap invocation_in (sym (append-nil (ps ++ (name_of v, value) ∷ []))) ∙ repeated_none ps (name_of v, value) (Some []) e

    go : (t : Bool) → is_stale ps pending ≡ t → answer_by [] (held ps pending) ≡ invocation_in (ps ++ parts_in pending)
    go true e = rw (settle_faults ps pending, e) (sym (stale pending e))
    go false e =
        ap₂ by_settled (settle_faults ps pending ∙ ap conflict e) (settles ps pending e)
        ∙ (rw (all_different ps pending d e) (end_of (ps ++ parts_in pending)))
