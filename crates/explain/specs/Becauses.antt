-- What the sentence of a cause names.
use Rattle.std.specs.Prelude.{ℕ, ◌+◌, Bool, List}
use Rattle.std.specs.List.{list_any}
use Rattle.aerie_text.specs.Bytes.{begins_with, is_letter}
use Rattle.aerie_text.specs.Sorts.{same_sort}
use Rattle.aerie_text.specs.declared.sorts.Sort.{Sort}
use Rattle.explain.specs.Spots.{spot_at}
use Rattle.explain.specs.WordsOfTokens.{token_at_number, word_of_token}
use Rattle.explain.specs.declared.causes.Because.{Because}
use Rattle.explain.specs.declared.causes.Cause.{Cause}
use Rattle.explain.specs.declared.sorted.SortedToken.{SortedToken}

-- nothing
abbrev pub plain : Cause → Because
plain cause = record { cause = cause; from = 0; to = 0; number = 0 }

-- a number
abbrev pub of_line : Cause → ℕ → Because
of_line cause number = record { cause = cause; from = 0; to = 0; number = number }

-- a token
abbrev pub about : SortedToken → Cause → Because
about token cause = record { cause = cause; from = token.from; to = token.to; number = 0 }

-- a token and a number
abbrev pub about_line : SortedToken → Cause → ℕ → Because
about_line token cause number = record { cause = cause; from = token.from; to = token.to; number = number }

-- what goes from one token to another
abbrev pub across : SortedToken → SortedToken → Cause → Because
across first last cause = record { cause = cause; from = first.from; to = last.to; number = 0 }

-- ---- what is asked of tokens

-- the sort is one of these
abbrev pub is_among_sorts : List Sort → Sort → Bool
is_among_sorts sorts sort = list_any (λ one. same_sort one sort) sorts

-- the token behind the one of this number
abbrev pub token_behind : List SortedToken → ℕ → SortedToken
token_behind tokens at = token_at_number tokens (at + 1)

-- the token is a word, reserved or not
abbrev pub is_letter_word : List ℕ → SortedToken → Bool
is_letter_word bytes token = begins_with is_letter (word_of_token bytes token)

-- the line of a byte
abbrev pub spot_line : List ℕ → ℕ → ℕ
spot_line bytes at = (spot_at bytes at).line
