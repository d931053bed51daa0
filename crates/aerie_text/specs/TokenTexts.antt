-- What a token of each kind is, and the longest of them at a place.
use Rattle.std.specs.Prelude.{◌≡◌, ℕ, ◌++◌, ◌≤◌, nat_eq, Bool, true, not, List, [], ◌∷◌, length, take, drop, Some}
use Rattle.std.specs.Char.{is_ascii_digit}
use Rattle.std.specs.List.{list_all, list_any}
use Rattle.std.specs.Str.{bytes_eq}
use Rattle.std.specs.Str.Parse.{digits_value}
use Rattle.aerie_base.specs.Durations.{duration_len, duration_of}
use Rattle.aerie_base.specs.Ranges.{number_limit}
use Rattle.aerie_text.specs.Bytes.{begins_with, is_letter, is_word_byte}
use Rattle.aerie_text.specs.Numerals.{digit_limit}
use Rattle.aerie_text.specs.Quotes.{backquote, is_quotable, is_raw, quotation_mark}
use Rattle.aerie_text.specs.Symbols.{double_symbols, is_single_symbol}
use Rattle.aerie_text.specs.TokenAt.{word_limit}
use Rattle.aerie_text.specs.declared.token.TokenKind.{TokenKind}
use Rattle.aerie_text.specs.declared.token.TokenKind.TheVariants.{Word, Number, Duration, Quoted, Raw, Symbol}

-- whether the text is a symbol of two characters
abbrev pub is_double_symbol : List ℕ → Bool
is_double_symbol text = list_any (λ symbol. bytes_eq text symbol) double_symbols

-- the whole text is a token of this kind
pub data IsTextOf : TokenKind → List ℕ → Type 0 where
  word : (text : List ℕ) → begins_with is_letter text ≡ true → list_all is_word_byte text ≡ true → length text ≤ word_limit → IsTextOf Word text
  number : (text : List ℕ) → 1 ≤ length text → length text ≤ digit_limit → list_all is_ascii_digit text ≡ true → digits_value 10 text ≤ number_limit
      → IsTextOf Number text
  duration : (text : List ℕ) (micros : ℕ) → duration_of text ≡ Some micros → IsTextOf Duration text
  quoted : (text inside : List ℕ) → text ≡ quotation_mark ∷ inside ++ quotation_mark ∷ [] → list_all is_quotable inside ≡ true → IsTextOf Quoted text
  raw : (text inside : List ℕ) → text ≡ backquote ∷ inside ++ backquote ∷ [] → list_all is_raw inside ≡ true → IsTextOf Raw text
  single : (text : List ℕ) (byte : ℕ) → text ≡ byte ∷ [] → is_single_symbol byte ≡ true → IsTextOf Symbol text
  double : (text : List ℕ) → is_double_symbol text ≡ true → IsTextOf Symbol text

-- whether a token of this kind may end behind so many bytes of a text. None is cut: behind a word and a number stands no
-- letter, digit or underscore, and a duration has all parts in front whose units fall
abbrev pub may_end : TokenKind → List ℕ → ℕ → Bool
may_end Word text len = not (begins_with is_word_byte (drop len text))
may_end Number text len = not (begins_with is_word_byte (drop len text))
may_end Duration text len = nat_eq (duration_len text) len
may_end Quoted text len = true
may_end Raw text len = true
may_end Symbol text len = true

-- so many bytes in front of the text are a token of this kind
pub record Matches (text : List ℕ) (kind : TokenKind) (len : ℕ) : Type 0 where
  pub within : len ≤ length text
  pub is_token : IsTextOf kind (take len text)
  pub ends : may_end kind text len ≡ true

-- no other token in front of the text is longer
pub record IsLongest (text : List ℕ) (kind : TokenKind) (len : ℕ) : Type 0 where
  pub matches : Matches text kind len
  pub longest : (other : TokenKind) (more : ℕ) → Matches text other more → more ≤ len

-- no token stands in front of the text
abbrev pub BeginsNone : List ℕ → Type 0
BeginsNone text = (kind : TokenKind) (len : ℕ) → Matches text kind len → ⊥
