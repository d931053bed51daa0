-- The tokens of a text, each with its sort.
use Rattle.std.specs.Prelude.{ℕ, ◌-◌, ◌==◌, nat_lt, List, [], map, Option, Some, None, Result, Ok, Err, slice_get, if◌then◌else◌}
use Rattle.std.specs.List.{prefix_len}
use Rattle.std.specs.Str.{is_utf8}
use Rattle.aerie_text.specs.Marks.{slice_of, sort_of}
use Rattle.aerie_text.specs.Tokens.{tokens_of}
use Rattle.aerie_text.specs.declared.sorts.Sort.TheVariants as sort
use Rattle.aerie_text.specs.declared.token.Token.{Token}
use Rattle.explain.specs.declared.sorted.SortedToken.{SortedToken}

abbrev pub sorted_token : List ℕ → Token → SortedToken
sorted_token text token = record { sort = sort_of text token; from = token.from; to = token.to }

-- the tokens of a text that is cut so, or none where it cannot be cut
abbrev pub sorted_cut : List ℕ → Result (List Token) ℕ → List SortedToken
sorted_cut text (Ok tokens) = map (sorted_token text) tokens
sorted_cut text (Err at) = []

-- the tokens of bytes, or none where they are no text or cannot be cut
unfoldable pub sorted_tokens : List ℕ → List SortedToken
sorted_tokens bytes = if is_utf8 bytes then sorted_cut bytes (tokens_of bytes) else []

-- ---- one of them

-- a token, or else an empty one at the beginning
abbrev pub or_none : Option SortedToken → SortedToken
or_none (Some token) = token
or_none None = record { sort = sort.Arrow; from = 0; to = 0 }

-- the token of this number, or else an arrow, of which nothing is said below
abbrev pub token_at_number : List SortedToken → ℕ → SortedToken
token_at_number tokens at = or_none (slice_get tokens at)

-- the token before the one of this number
abbrev pub token_before : List SortedToken → ℕ → SortedToken
token_before tokens at = if at == 0 then or_none None else token_at_number tokens (at - 1)

-- how many tokens stand before a byte
abbrev pub tokens_before : List SortedToken → ℕ → ℕ
tokens_before tokens offset = prefix_len (λ token. nat_lt token.from offset) tokens

-- the text of a token
abbrev pub word_of_token : List ℕ → SortedToken → List ℕ
word_of_token bytes token = slice_of bytes token.from token.to
