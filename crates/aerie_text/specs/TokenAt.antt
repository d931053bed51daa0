-- The token that begins at a place: the longest that matches there.
use Rattle.std.specs.Prelude.{◌≡◌, ℕ, ◌==◌, List, [], ◌∷◌, Option, None, Some, nat_le, codes, map, replicate, option_map, if◌then◌else◌, refl}
use Rattle.std.specs.Char.{is_ascii_digit}
use Rattle.std.specs.List.{prefix_len}
use Rattle.aerie_text.specs.Bytes.{is_letter, is_word_byte}
use Rattle.aerie_text.specs.Numerals.{digits_at}
use Rattle.aerie_text.specs.Quotes.{backquote, enclosed_len, is_quotable, is_raw, quotation_mark}
use Rattle.aerie_text.specs.Symbols.{symbol_len}
use Rattle.aerie_text.specs.declared.token.TokenKind.{TokenKind}
use Rattle.aerie_text.specs.declared.token.TokenKind.TheVariants.{Word, Quoted, Raw, Symbol}

-- the longest word, in bytes
abbrev pub word_limit : ℕ
word_limit = 64

-- how long the word in front is, where it is not too long
abbrev pub word_len : List ℕ → Option ℕ
word_len text =
    let count = prefix_len is_word_byte text in
    if nat_le count word_limit then Some count else None

-- a token of this kind, where there is one of such a length
abbrev pub of_kind : TokenKind → Option ℕ → Option (TokenKind × ℕ)
of_kind kind len = option_map (λ n. (kind, n)) len

-- the kind and the length of the token in front, where one begins there: its first byte says which kinds it may be of
unfoldable pub token_at : List ℕ → Option (TokenKind × ℕ)
token_at [] = None
token_at (first ∷ rest) =
    if is_letter first then of_kind Word (word_len (first ∷ rest))
    else if is_ascii_digit first then digits_at (first ∷ rest)
    else if first == 34 then of_kind Quoted (enclosed_len is_quotable quotation_mark rest)
    else if first == 96 then of_kind Raw (enclosed_len is_raw backquote rest)
    else of_kind Symbol (symbol_len (first ∷ rest))

-- ---- worked cases

-- texts, and the token in front of each
abbrev pub worked_tokens : List (List ℕ × Option (TokenKind × ℕ))
worked_tokens =
    (codes "_a1 b", Some (Word, 3)) ∷  -- a word
    (replicate 64 97, Some (Word, 64)) ∷  -- longest word
    (replicate 65 97, None) ∷  -- longer word
    (codes "\"a\"b", Some (Quoted, 3)) ∷  -- quoted
    (codes "\"a", None) ∷  -- open quote
    (codes "`a\n`", Some (Raw, 4)) ∷  -- raw
    (195 ∷ 169 ∷ [], None) ∷  -- no ascii letter
    (codes "", None) ∷  -- nothing
    []

pub tokens_as_worked : map (λ row. token_at row.0) worked_tokens ≡ map (λ row. row.1) worked_tokens
unfolding token_at symbol_len
tokens_as_worked = refl
