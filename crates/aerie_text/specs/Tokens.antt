-- The tokens of a text.
use Rattle.std.specs.Prelude.{◌≡◌, ℕ, zero, suc, ◌+◌, ◌-◌, List, [], ◌∷◌, ◌++◌, Option, None, Some, Result, Ok, Err, codes, refl}
use Rattle.aerie_text.specs.Gaps.{gap_len}
use Rattle.aerie_text.specs.TokenAt.{token_at}
use Rattle.aerie_text.specs.Numerals.{digits_at}
use Rattle.aerie_text.specs.Symbols.{symbol_len}
use Rattle.aerie_text.specs.declared.text_error.TextError.{TextError}
use Rattle.aerie_text.specs.declared.text_error.TextError.TheVariants.{BadToken}
use Rattle.aerie_text.specs.declared.token.Token.{Token}
use Rattle.aerie_text.specs.declared.token.TokenKind.{TokenKind}
use Rattle.aerie_text.specs.declared.token.TokenKind.TheVariants.{Word, Number, Duration, Raw, Symbol}

-- these tokens, and behind them those that were read there, or the place where none begins
abbrev pub with_tokens : List Token → Result (List Token) ℕ → Result (List Token) ℕ
with_tokens before (Ok behind) = Ok (before ++ behind)
with_tokens before (Err at) = Err at

abbrev pub token : ℕ → TokenKind → ℕ → Token
token at kind len = record { kind = kind; from = at; to = at + len }

-- the token that begins at a place, or that none does
abbrev pub found_at : ℕ → Option (TokenKind × ℕ) → Result Token TextError
found_at at None = Err (BadToken at)
found_at at (Some (kind, len)) = Ok (token at kind len)

-- what is read at a place: nothing where a gap stands there, the token that begins there, or that none does; and
-- then what is read behind so many bytes more than one
abbrev pub read_at : ℕ → ℕ → Option (TokenKind × ℕ) → (ℕ → Result (List Token) ℕ) → Result (List Token) ℕ
read_at at (suc more) found behind = behind more
read_at at zero None behind = Err at
read_at at zero (Some (kind, len)) behind = with_tokens (token at kind len ∷ []) (behind (len - 1))

-- the tokens of a text that begins at this place of a longer text, and whose first `skipped` bytes belong to what was
-- read before; or the first place, behind white space and comments, where no token begins
unfoldable pub tokens_from : ℕ → ℕ → List ℕ → Result (List Token) ℕ
tokens_from at skipped [] = Ok []
tokens_from at (suc skipped) (byte ∷ rest) = tokens_from (at + 1) skipped rest
tokens_from at zero (byte ∷ rest) =
    read_at at (gap_len (byte ∷ rest)) (token_at (byte ∷ rest)) (λ skipped. tokens_from (at + 1) skipped rest)

-- the tokens of a text in order, or the first place where none begins
unfoldable pub tokens_of : List ℕ → Result (List Token) ℕ
tokens_of text = tokens_from 0 0 text

-- ---- worked cases

pub a_line : tokens_of (codes "n += 2min; // on\n`x`") ≡ Ok (token 0 Word 1 ∷ token 2 Symbol 2 ∷ token 5 Duration 4 ∷ token 9 Symbol 1 ∷ token 17 Raw 3 ∷ [])
unfolding tokens_of tokens_from token_at digits_at symbol_len
a_line = refl

pub a_unit_and_a_word : tokens_of (codes "5minx") ≡ Ok (token 0 Duration 4 ∷ token 4 Word 1 ∷ [])
unfolding tokens_of tokens_from token_at digits_at
a_unit_and_a_word = refl

pub parts_and_a_word : tokens_of (codes "7h30minx") ≡ Ok (token 0 Duration 7 ∷ token 7 Word 1 ∷ [])
unfolding tokens_of tokens_from token_at digits_at
parts_and_a_word = refl

pub a_unit_that_rises : tokens_of (codes "30min7h") ≡ Ok (token 0 Duration 5 ∷ token 5 Duration 2 ∷ [])
unfolding tokens_of tokens_from token_at digits_at
a_unit_that_rises = refl

pub parts_and_digits : tokens_of (codes "12h30") ≡ Ok (token 0 Duration 3 ∷ token 3 Number 2 ∷ [])
unfolding tokens_of tokens_from token_at digits_at
parts_and_digits = refl

pub parts_too_long : tokens_of (codes "x 11574d2h") ≡ Err 2
unfolding tokens_of tokens_from token_at digits_at
parts_too_long = refl

pub a_letter_past_ascii : tokens_of (53 ∷ 195 ∷ 169 ∷ []) ≡ Err 1
unfolding tokens_of tokens_from token_at digits_at symbol_len
a_letter_past_ascii = refl

pub white_space_alone : tokens_of (codes " \n\t") ≡ Ok []
unfolding tokens_of tokens_from
white_space_alone = refl

pub open_quote : tokens_of (codes "a \"b") ≡ Err 2
unfolding tokens_of tokens_from token_at
open_quote = refl
