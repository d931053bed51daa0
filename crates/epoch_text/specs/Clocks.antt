-- The text of a time of day, as "23:59:59.999999Z", and the microseconds since midnight that it says.
use Rattle.std.specs.Prelude.{ℕ, ◌+◌, ◌-◌, ◌*◌, nat_eq, ◌&&◌, List, [], ◌∷◌, ◌++◌, length, take, drop, Bool, Option, Some, None, option_and_then, option_map, if◌then◌else◌, codes}
use Rattle.std.specs.Char.{is_ascii_digit}
use Rattle.std.specs.List.{list_all}
use Rattle.std.specs.Str.Parse.{digits_value}
use Rattle.std.specs.Cmp.Lexicographic.{pointwise}
use Rattle.epoch_text.specs.Dates.{is_between}
use Rattle.epoch_text.specs.Forms.{has_form, written_number}

-- the seconds since midnight at this hour, minute and second, where a day has them: there is no 24:00, and no leap second
abbrev pub seconds_at : ℕ → ℕ → ℕ → Option ℕ
seconds_at hour minute second =
    if is_between 0 23 hour && is_between 0 59 minute && is_between 0 59 second
    then Some (hour * 3600 + minute * 60 + second)
    else None

-- the seconds since midnight that a text as "23:59:59" says, where it says any
abbrev pub seconds_of : List ℕ → Option ℕ
seconds_of clock =
    if has_form clock (codes "00:00:00")
    then seconds_at (written_number 0 2 clock) (written_number 3 2 clock) (written_number 6 2 clock)
    else None

-- the end of a start without the Z that may stand there
abbrev pub without_zone : List ℕ → List ℕ
without_zone end =
    if pointwise nat_eq (drop (length end - 1) end) (codes "Z") then take (length end - 1) end else end

-- whether these are the digits of a fraction: 1 to 6 of them
abbrev pub are_fraction_digits : List ℕ → Bool
are_fraction_digits digits = is_between 1 6 (length digits) && list_all is_ascii_digit digits

-- the microseconds of a second's fraction: its digits, with zeros behind up to six
abbrev pub micros_of_digits : List ℕ → ℕ
micros_of_digits digits = digits_value 10 (digits ++ drop (length digits) (codes "000000"))

-- the microseconds that a fraction as ".5" says, or none of it, where it is one
abbrev pub fraction_of : List ℕ → Option ℕ
fraction_of [] = Some 0
fraction_of (point ∷ digits) =
    if nat_eq point 46 && are_fraction_digits digits then Some (micros_of_digits digits) else None

-- the microseconds since midnight that a text says, where it is a time of day, then perhaps a fraction, then perhaps Z
abbrev pub micros_of : List ℕ → Option ℕ
micros_of clock =
    option_and_then
    (λ fraction. option_map (λ seconds. seconds * 1_000_000 + fraction) (seconds_of (take 8 clock)))
    (fraction_of (without_zone (drop 8 clock)))
