-- The lines that tell what takes a session further.
use Rattle.std.specs.Prelude.{◌≡◌, ℕ, ◌==◌, List, [], ◌∷◌, ◌++◌, codes, take, if◌then◌else◌, refl}
use Rattle.std.specs.Fmt.{decimal, digits}
use Rattle.aerie_text.specs.Marks.{slice_of}
use Rattle.explain.specs.Shown.{as_shown}
use Rattle.explain.specs.Spots.{spot_at}
use Rattle.explain.specs.declared.hint.Hint.{Hint}
use Rattle.explain.specs.declared.spots.Spot.{Spot}

-- a text as it is shown in a line, of which at most so many bytes are
abbrev pub quoted : List ℕ → List ℕ
quoted bytes = codes "`" ++ as_shown (take 60 bytes) ++ codes "`"

abbrev pub spot_words : Spot → List ℕ
spot_words spot = codes " at line " ++ decimal spot.line ++ codes ", column " ++ decimal spot.column ++ codes "\n"

-- what is put in
abbrev pub put_words : List ℕ → List ℕ
put_words put = codes "  hint: put in " ++ quoted put

-- what stands in place of what
abbrev pub replaced_words : List ℕ → List ℕ → List ℕ
replaced_words put old = codes "  hint: write " ++ quoted put ++ codes " in place of " ++ quoted old

abbrev pub change_words : List ℕ → Hint → List ℕ
change_words bytes hint =
    if hint.from == hint.to then put_words hint.put else replaced_words hint.put (slice_of bytes hint.from hint.to)

-- that, and where
abbrev pub hint_line : List ℕ → Hint → List ℕ
hint_line bytes hint = change_words bytes hint ++ spot_words (spot_at bytes hint.from)

abbrev pub hint_lines : List ℕ → List Hint → List ℕ
hint_lines bytes [] = []
hint_lines bytes (hint ∷ later) = hint_line bytes hint ++ hint_lines bytes later

-- ---- worked cases

pub a_semicolon : hint_line (codes "a = 0\nb") (record { from = 5; to = 5; put = codes ";" }) ≡ codes "  hint: put in `;` at line 1, column 6\n"
unfolding digits
a_semicolon = refl

pub another_name : hint_line (codes "Slow()") (record { from = 0; to = 4; put = codes "Slew" }) ≡ codes "  hint: write `Slew` in place of `Slow` at line 1, column 1\n"
unfolding digits
another_name = refl
