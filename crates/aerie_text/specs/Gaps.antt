-- What separates tokens: white space and comments.
use Rattle.std.specs.Prelude.{◌≡◌, ℕ, ◌==◌, Bool, not, List, nat_eq, codes, if◌then◌else◌, refl}
use Rattle.std.specs.List.{prefix_len, starts_with}
use Rattle.aerie_text.specs.Bytes.{is_white}

-- whether a byte is on the line that it stands in, and not the line feed that ends the line
abbrev pub is_in_line : ℕ → Bool
is_in_line byte = not (byte == 10)

-- whether a comment begins here
abbrev pub begins_comment : List ℕ → Bool
begins_comment text = starts_with nat_eq text (codes "//")

-- how many bytes of white space or of one comment stand in front: a comment runs to the end of its line
abbrev pub gap_len : List ℕ → ℕ
gap_len text = if begins_comment text then prefix_len is_in_line text else prefix_len is_white text

-- ---- worked cases

pub white_space : gap_len (codes " \t\r\n n") ≡ 5
white_space = refl

pub a_comment : gap_len (codes "// n\n") ≡ 4
a_comment = refl

pub a_comment_at_the_end : gap_len (codes "//") ≡ 2
a_comment_at_the_end = refl

pub one_slash : gap_len (codes "/ n") ≡ 0
one_slash = refl

pub a_word : gap_len (codes "n ") ≡ 0
a_word = refl
