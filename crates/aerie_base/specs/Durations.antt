-- The text of a duration: parts, each of digits and at once a unit, whose units fall, as "2min" and "1h30min".
use Rattle.std.specs.Prelude.{◌≡◌, ℕ, ◌+◌, ◌*◌, ◌&&◌, ◌||◌, nat_eq, nat_lt, List, [], ◌∷◌, ◌++◌, length, take, drop, Bool, false, Option, Some, None, if◌then◌else◌, codes, refl}
use Rattle.std.specs.Char.{is_ascii_digit}
use Rattle.std.specs.Fmt.{decimal, digits}
use Rattle.std.specs.List.{prefix_len, starts_with}
use Rattle.std.specs.Str.Parse.{digits_value}
use Rattle.aerie_base.specs.Ranges.{time_of}
use Rattle.aerie_base.specs.declared.durations.Unit.{Unit}
use Rattle.aerie_base.specs.declared.durations.Unit.TheVariants.{Day, Hour, Minute, Second, Millisecond, Microsecond}

-- the units, each less than the one before
abbrev pub units : List Unit
units = Day ∷ Hour ∷ Minute ∷ Second ∷ Millisecond ∷ Microsecond ∷ []

-- how a unit is written
abbrev pub unit_text : Unit → List ℕ
unit_text Day = codes "d"
unit_text Hour = codes "h"
unit_text Minute = codes "min"
unit_text Second = codes "s"
unit_text Millisecond = codes "ms"
unit_text Microsecond = codes "us"

-- the microseconds of a unit; a day has 24 hours
abbrev pub unit_micros : Unit → ℕ
unit_micros Day = 86_400_000_000
unit_micros Hour = 3_600_000_000
unit_micros Minute = 60_000_000
unit_micros Second = 1_000_000
unit_micros Millisecond = 1_000
unit_micros Microsecond = 1

-- how many digits stand in front
abbrev pub digit_count : List ℕ → ℕ
digit_count text = prefix_len is_ascii_digit text

-- whether a part of this unit stands in front: one or more digits, and at once the unit
abbrev pub begins_part : Unit → List ℕ → Bool
begins_part unit text = nat_lt 0 (digit_count text) && starts_with nat_eq (drop (digit_count text) text) (unit_text unit)

-- how long the part of this unit in front is, or 0 where none stands there
abbrev pub part_len : Unit → List ℕ → ℕ
part_len unit text = if begins_part unit text then digit_count text + length (unit_text unit) else 0

-- what it comes to in microseconds: so many of the unit as its digits write
abbrev pub part_micros : Unit → List ℕ → ℕ
part_micros unit text = if begins_part unit text then digits_value 10 (take (digit_count text) text) * unit_micros unit else 0

-- whether a letter with which a unit begins stands in front
abbrev pub begins_unit : List ℕ → Bool
begins_unit [] = false
begins_unit (byte ∷ rest) = nat_eq byte 100 || nat_eq byte 104 || nat_eq byte 109 || nat_eq byte 115 || nat_eq byte 117

-- how long the parts in front are, of each of these units in their order one or none
abbrev pub parts_len : List Unit → List ℕ → ℕ
parts_len [] text = 0
parts_len (unit ∷ lesser) text = part_len unit text + parts_len lesser (drop (part_len unit text) text)

-- what they come to in microseconds: the sum
abbrev pub parts_micros : List Unit → List ℕ → ℕ
parts_micros [] text = 0
parts_micros (unit ∷ lesser) text = part_micros unit text + parts_micros lesser (drop (part_len unit text) text)

-- how long the parts in front are, as many as there are with units that fall
abbrev pub duration_len : List ℕ → ℕ
duration_len text = parts_len units text

-- the duration that a text says in microseconds, where it says one: the text is one or more parts whose units fall, and
-- their sum is not too long
abbrev pub duration_of : List ℕ → Option ℕ
duration_of text =
    if nat_lt 0 (length text) && nat_eq (duration_len text) (length text) then time_of (parts_micros units text)
    else None

-- how a duration of so many microseconds is written: their number in digits without leading zeros, and `us`
abbrev pub duration_text : ℕ → List ℕ
duration_text micros = decimal micros ++ codes "us"

-- ---- worked cases

pub microseconds : duration_of (codes "7us") ≡ Some 7
microseconds = refl

pub milliseconds : duration_of (codes "7ms") ≡ Some 7_000
milliseconds = refl

pub seconds : duration_of (codes "7s") ≡ Some 7_000_000
seconds = refl

pub minutes : duration_of (codes "2min") ≡ Some 120_000_000
minutes = refl

pub hours : duration_of (codes "1h") ≡ Some 3_600_000_000
hours = refl

pub days : duration_of (codes "1d") ≡ Some 86_400_000_000
days = refl

pub leading_zeros : duration_of (codes "0000005us") ≡ Some 5
leading_zeros = refl

pub nothing_long : duration_of (codes "0d") ≡ Some 0
nothing_long = refl

pub the_longest : duration_of (codes "1000000000000000us") ≡ Some 1_000_000_000_000_000
the_longest = refl

pub one_longer : duration_of (codes "1000000000000001us") ≡ None
one_longer = refl

pub longer_in_days : duration_of (codes "11575d") ≡ None
longer_in_days = refl

pub no_digits : duration_of (codes "us") ≡ None
no_digits = refl

pub no_unit : duration_of (codes "5") ≡ None
no_unit = refl

pub a_blank_between : duration_of (codes "5 us") ≡ None
a_blank_between = refl

pub a_letter_behind : duration_of (codes "5mins") ≡ None
a_letter_behind = refl

pub no_text : duration_of (codes "") ≡ None
no_text = refl

pub parts : duration_of (codes "7h30min") ≡ Some 27_000_000_000
parts = refl

pub some_units : duration_of (codes "1d12h") ≡ Some 129_600_000_000
some_units = refl

pub lesser_units : duration_of (codes "1min30s500ms") ≡ Some 90_500_000
lesser_units = refl

pub all_units : duration_of (codes "1d1h1min1s1ms1us") ≡ Some 90_061_001_001
all_units = refl

pub nothing_of_a_unit : duration_of (codes "1h0min") ≡ Some 3_600_000_000
nothing_of_a_unit = refl

pub nothing_of_all : duration_of (codes "0d0h") ≡ Some 0
nothing_of_all = refl

pub more_of_a_unit_than_the_greater_has : duration_of (codes "1h90min") ≡ Some 9_000_000_000
more_of_a_unit_than_the_greater_has = refl

pub far_units : duration_of (codes "1ms1us") ≡ Some 1_001
far_units = refl

pub a_unit_that_rises : duration_of (codes "30min7h") ≡ None
a_unit_that_rises = refl

pub a_unit_twice : duration_of (codes "1s1s") ≡ None
a_unit_twice = refl

pub digits_behind : duration_of (codes "12h30") ≡ None
digits_behind = refl

pub parts_behind_a_blank : duration_of (codes "7h 30min") ≡ None
parts_behind_a_blank = refl

pub the_longest_in_parts : duration_of (codes "11574d1h46min40s") ≡ Some 1_000_000_000_000_000
the_longest_in_parts = refl

pub longer_by_the_last_part : duration_of (codes "11574d1h46min40s1us") ≡ None
longer_by_the_last_part = refl

pub parts_in_front : duration_len (codes "7h30min30min") ≡ 7
parts_in_front = refl

pub parts_before_digits : duration_len (codes "12h30") ≡ 3
parts_before_digits = refl

pub parts_before_a_word : duration_len (codes "5minx") ≡ 4
parts_before_a_word = refl

pub parts_before_a_rise : duration_len (codes "30min7h") ≡ 5
parts_before_a_rise = refl

pub no_parts : duration_len (codes "5mn") ≡ 0
no_parts = refl

pub a_sign : duration_of (codes "-5us") ≡ None
a_sign = refl

pub two_minutes_written : duration_text 120_000_000 ≡ codes "120000000us"
unfolding digits
two_minutes_written = refl

pub nothing_written : duration_text 0 ≡ codes "0us"
unfolding digits
nothing_written = refl
