-- Texts between marks.
use Rattle.std.specs.Prelude.{◌≡◌, ℕ, ◌+◌, ◌==◌, ◌&&◌, Bool, not, List, drop, Option, Some, None, codes, if◌then◌else◌, refl}
use Rattle.std.specs.List.{prefix_len}
use Rattle.aerie_text.specs.Bytes.{begins_with}

-- the quotation mark
abbrev pub quotation_mark : ℕ
quotation_mark = 34

-- the backquote
abbrev pub backquote : ℕ
backquote = 96

-- what may stand between quotation marks: all but a quotation mark and a line feed
abbrev pub is_quotable : ℕ → Bool
is_quotable byte = not (byte == 34) && not (byte == 10)

-- what may stand between backquotes: all but a backquote
abbrev pub is_raw : ℕ → Bool
is_raw byte = not (byte == 96)

-- how long a text between two marks is, with both, of which the first stands before this text; none where what may
-- stand between them is not followed by the second
abbrev pub enclosed_len : (ℕ → Bool) → ℕ → List ℕ → Option ℕ
enclosed_len inside mark text =
    let count = prefix_len inside text in
    if begins_with (λ byte. byte == mark) (drop count text) then Some (count + 2) else None

-- ---- worked cases, each behind its first mark

pub nothing_quoted : enclosed_len is_quotable quotation_mark (codes "\" ") ≡ Some 2
nothing_quoted = refl

pub quoted : enclosed_len is_quotable quotation_mark (codes "n // `\"") ≡ Some 8
quoted = refl

pub open_quote : enclosed_len is_quotable quotation_mark (codes "n") ≡ None
open_quote = refl

pub quote_over_lines : enclosed_len is_quotable quotation_mark (codes "n\n\"") ≡ None
quote_over_lines = refl

pub raw_over_lines : enclosed_len is_raw backquote (codes "\"\n`") ≡ Some 4
raw_over_lines = refl

pub open_raw : enclosed_len is_raw backquote (codes "n\n") ≡ None
open_raw = refl
