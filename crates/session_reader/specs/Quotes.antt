-- Texts that stand between two marks.
use Rattle.std.specs.Prelude.{◌≡◌, ℕ, ◌-◌, ◌==◌, ◌&&◌, Bool, List, [], codes, length, nat_le, slice_index_or, if◌then◌else◌, refl}
use Rattle.aerie_text.specs.Marks.{slice_of}

-- whether the text begins and ends with the mark
abbrev pub is_quoted : ℕ → List ℕ → Bool
is_quoted mark text =
    nat_le 2 (length text) && slice_index_or text 0 0 == mark && slice_index_or text (length text - 1) 0 == mark

-- the text between the marks; a text that does not stand between them is left as it is
abbrev pub unquoted : ℕ → List ℕ → List ℕ
unquoted mark text = if is_quoted mark text then slice_of text 1 (length text - 1) else text

-- ---- worked cases

pub a_text : unquoted 34 (codes "\"2030\"") ≡ codes "2030"
a_text = refl

pub no_text : unquoted 96 (codes "``") ≡ []
no_text = refl

pub one_mark : unquoted 96 (codes "`") ≡ codes "`"
one_mark = refl
