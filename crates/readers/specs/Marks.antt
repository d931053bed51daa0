-- Marks: what a reader sees of the tokens of a text.
use Rattle.std.specs.Prelude.{◌≡◌, ℕ, ℤ, pos, List, [], Result, Ok, Err, map, codes, refl}
use Rattle.std.specs.Str.{chars}
use Rattle.aerie_base.specs.declared.places.Place.{Place}
use Rattle.aerie_text.specs.Marks.{count_of, slice_of, sort_of}
use Rattle.aerie_text.specs.Places.{place_of}
use Rattle.aerie_text.specs.Sorts.{symbol_sort, word_sort}
use Rattle.aerie_text.specs.Tokens.{token, tokens_of}
use Rattle.aerie_text.specs.declared.sorts.Sort.{Sort}
use Rattle.aerie_text.specs.declared.sorts.Sort.TheVariants as sort
use Rattle.aerie_text.specs.declared.token.Token.{Token}
use Rattle.aerie_text.specs.declared.token.TokenKind.TheVariants as kind

-- What a reader sees of a token: its sort; what a number counts, and a length of time in microseconds, and 0 for other
-- tokens; the place of its first character; and its bytes.
pub record Mark : Type 0 where
  pub sort : Sort
  pub number : ℤ
  pub at : Place
  pub word : List ℕ

-- the mark of a token of a text
abbrev pub mark_of : List ℕ → Token → Mark
mark_of text token =
    record {
      sort = sort_of text token;
      number = pos (count_of token.kind (slice_of text token.from token.to));
      at = place_of text token.from;
      word = slice_of text token.from token.to;
    }

-- the marks of tokens of a text, in order
abbrev pub marks_of : List ℕ → List Token → List Mark
marks_of text tokens = map (λ token. mark_of text token) tokens

-- the marks of a text, where it is cut into tokens
abbrev pub marks_where : List ℕ → Result (List Token) ℕ → List Mark
marks_where text (Ok tokens) = marks_of text tokens
marks_where text (Err at) = []

-- the marks of a text; none where some place of it begins no token
abbrev pub marks_in : List ℕ → List Mark
marks_in text = marks_where text (tokens_of text)

-- ---- worked cases

pub reserved_word : mark_of (codes "\n while x") (token 2 kind.Word 5) ≡ record { sort = sort.While; number = pos 0; at = record { line = 2; column = 2 }; word = codes "while" }
unfolding chars word_sort
reserved_word = refl

pub name : mark_of (codes "\n while x") (token 8 kind.Word 1) ≡ record { sort = sort.Name; number = pos 0; at = record { line = 2; column = 8 }; word = codes "x" }
unfolding chars word_sort
name = refl

pub symbol : mark_of (codes "n += 2") (token 2 kind.Symbol 2) ≡ record { sort = sort.PlusAssign; number = pos 0; at = record { line = 1; column = 3 }; word = codes "+=" }
unfolding chars symbol_sort
symbol = refl

pub duration : mark_of (codes "n += 2min") (token 5 kind.Duration 4) ≡ record { sort = sort.Time; number = pos 120_000_000; at = record { line = 1; column = 6 }; word = codes "2min" }
unfolding chars
duration = refl

pub number : mark_of (codes "n += 20") (token 5 kind.Number 2) ≡ record { sort = sort.Number; number = pos 20; at = record { line = 1; column = 6 }; word = codes "20" }
unfolding chars
number = refl
