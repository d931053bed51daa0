-- Runs of digits: numbers and durations.
use Rattle.std.specs.Prelude.{◌≡◌, ℕ, ◌&&◌, Bool, List, [], ◌∷◌, take, drop, length, map, Option, Some, None, is_some, nat_le, codes, if◌then◌else◌, refl}
use Rattle.std.specs.Char.{is_ascii_digit}
use Rattle.std.specs.List.{prefix_len}
use Rattle.std.specs.Str.Parse.{digits_value}
use Rattle.aerie_base.specs.Durations.{duration_len, duration_of}
use Rattle.aerie_base.specs.Ranges.{number_limit}
use Rattle.aerie_text.specs.Bytes.{begins_with, is_word_byte}
use Rattle.aerie_text.specs.declared.token.TokenKind.{TokenKind}
use Rattle.aerie_text.specs.declared.token.TokenKind.TheVariants.{Number, Duration}

-- the most digits of a number
abbrev pub digit_limit : ℕ
digit_limit = 19

-- whether the text is a duration
abbrev pub is_duration : List ℕ → Bool
is_duration text = is_some (duration_of text)

-- whether digits are few enough, and their value small enough, to be a number
abbrev pub fits_number : List ℕ → Bool
fits_number digits = nat_le (length digits) digit_limit && nat_le (digits_value 10 digits) number_limit

-- the number in front: all digits, with no letter, digit or underscore behind them
abbrev pub number_at : List ℕ → Option (TokenKind × ℕ)
number_at text =
    let count = prefix_len is_ascii_digit text in
    if begins_with is_word_byte (drop count text) then None
    else if fits_number (take count text) then Some (Number, count)
    else None

-- the token of the digits in front. It takes all of them: they begin the parts in front whose units fall, which are a
-- duration unless they are too long in all, or else they are a number, or no token.
unfoldable pub digits_at : List ℕ → Option (TokenKind × ℕ)
digits_at text =
    let len = duration_len text in
    if is_duration (take len text) then Some (Duration, len) else number_at text

-- ---- worked cases

-- texts, and the token of the digits in front of each
abbrev pub worked_digits : List (List ℕ × Option (TokenKind × ℕ))
worked_digits =
    (codes "0000000000000000007 ", Some (Number, 19)) ∷  -- nineteen digits
    (codes "00000000000000000007", None) ∷  -- twenty digits
    (codes "1000000000000000000", Some (Number, 19)) ∷  -- greatest number
    (codes "1000000000000000001", None) ∷  -- above the greatest
    (codes "5x", None) ∷  -- a letter behind
    (codes "5_", None) ∷  -- an underscore behind
    (codes "5m", None) ∷  -- a part of a unit
    (codes "5minx", Some (Duration, 4)) ∷  -- a unit and a letter
    (53 ∷ 195 ∷ 169 ∷ [], Some (Number, 1)) ∷  -- no ascii letter
    (codes "1000000000000000us", Some (Duration, 18)) ∷  -- longest in microseconds
    (codes "1000000000000001us", None) ∷  -- longer in microseconds
    (codes "1000000000000ms", Some (Duration, 15)) ∷  -- longest in milliseconds
    (codes "1000000000001ms", None) ∷  -- longer in milliseconds
    (codes "1000000000s", Some (Duration, 11)) ∷  -- longest in seconds
    (codes "1000000001s", None) ∷  -- longer in seconds
    (codes "16666666min", Some (Duration, 11)) ∷  -- longest in minutes
    (codes "16666667min", None) ∷  -- longer in minutes
    (codes "277777h", Some (Duration, 7)) ∷  -- longest in hours
    (codes "277778h", None) ∷  -- longer in hours
    (codes "11574d", Some (Duration, 6)) ∷  -- longest in days
    (codes "11575d", None) ∷  -- longer in days
    (codes "0000000000000000000000005us", Some (Duration, 27)) ∷  -- leading zeros
    (codes "7h30min;", Some (Duration, 7)) ∷  -- two parts
    (codes "1d12h", Some (Duration, 5)) ∷  -- two others
    (codes "1min30s500ms", Some (Duration, 12)) ∷  -- three parts
    (codes "1h0min", Some (Duration, 6)) ∷  -- a part of nothing
    (codes "0d0h", Some (Duration, 4)) ∷  -- nothing in two parts
    (codes "1ms1us", Some (Duration, 6)) ∷  -- the least units
    (codes "30min7h", Some (Duration, 5)) ∷  -- a unit that rises
    (codes "1s1s", Some (Duration, 2)) ∷  -- a unit twice
    (codes "12h30", Some (Duration, 3)) ∷  -- digits behind
    (codes "7h30x", Some (Duration, 2)) ∷  -- digits and a word behind
    (codes "7h30minx", Some (Duration, 7)) ∷  -- parts and a word
    (codes "11574d1h46min40s", Some (Duration, 16)) ∷  -- longest in parts
    (codes "11574d1h46min41s", None) ∷  -- longer by the last part
    (codes "11575d1h", None) ∷  -- longer by the first part
    (codes "11575d30d", None) ∷  -- longer before a unit twice
    []

pub digits_as_worked : map (λ row. digits_at row.0) worked_digits ≡ map (λ row. row.1) worked_digits
unfolding digits_at
digits_as_worked = refl
