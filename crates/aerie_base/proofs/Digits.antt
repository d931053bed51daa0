-- Digits in front of a text, the number that they write, and the digits that write a number.
use Rattle.std.proofs.Common.{◌≡◌, ℕ, ◌+◌, ◌<◌, ◌≤◌, List, [], ◌∷◌, ◌++◌, length, take, codes, nat_eq, nat_le, nat_lt, ◌&&◌, Bool, true, false, Some, None, refl, ap, ◌∙◌, drop, arith, add_comm, add-one}
use Rattle.std.specs.Char.{is_ascii_digit, digit_value}
use Rattle.std.specs.List.{list_all, starts_with}
use Rattle.std.specs.Fmt.{decimal}
use Rattle.std.specs.Str.Parse.{digits_value, AllDigits}
use Rattle.std.proofs.Math.Seq.{take-append_seam, drop-append_seam}
use Rattle.std.proofs.lemmas.Bool.Decides.{nat_tests}
use Rattle.std.proofs.lemmas.List.Sums.{prefix_len-le-length}
use Rattle.std.proofs.lemmas.Fmt.{decimal_is_IsNumeral}
use Rattle.std.proofs.lemmas.Str.Parse.{digits_value-take-le, digit_from_value}
use Rattle.aerie_base.specs.Ranges.{time_of, time_limit}
use Rattle.std.proofs.lemmas.Bool.{eq-eqb}
use Rattle.std.proofs.lemmas.List.{length-append}
use Rattle.aerie_base.specs.Durations.{begins_part, begins_unit, digit_count, unit_text, duration_len, duration_of, duration_text, parts_len, parts_micros, units}
use Rattle.aerie_base.specs.declared.durations.Unit.{Unit}
use Rattle.aerie_base.specs.declared.durations.Unit.TheVariants.{Day, Hour, Minute, Second, Millisecond, Microsecond}

-- they are no more than the text has bytes
pub digit_count_within : (text : List ℕ) → digit_count text ≤ length text
digit_count_within text = prefix_len-le-length is_ascii_digit text

-- what stands in front are digits
pub digits_in_front : (text : List ℕ) → list_all is_ascii_digit (take (digit_count text) text) ≡ true
digits_in_front [] = refl
digits_in_front (byte ∷ rest) = go (is_ascii_digit byte) refl (digits_in_front rest)
  where
    go : (v : Bool) → is_ascii_digit byte ≡ v → list_all is_ascii_digit (take (digit_count rest) rest) ≡ true →
        list_all is_ascii_digit (take (digit_count (byte ∷ rest)) (byte ∷ rest)) ≡ true
    go true e front = rw (e, add_comm 1 (digit_count rest), add-one, e) front
    go false e front = rw e refl

-- more digits never make the number smaller, so what is above the limit stays there
pub above_stays : (digits : List ℕ) (i : ℕ) → time_limit < digits_value 10 (take i digits) → time_of (digits_value 10 digits) ≡ None
above_stays digits i above =
    let more : digits_value 10 (take i digits) ≤ digits_value 10 digits = digits_value-take-le 10 digits i (omega arith) in
    grind arith

-- ---- what is written, read again

is_digit : (byte : ℕ) → digit_value byte < 10 → is_ascii_digit byte ≡ true
is_digit byte below = let range = digit_from_value byte below in grind (arith, nat_tests, range.0, range.1)

-- digits with none behind them are all that stand in front
digits_alone : (digits rest : List ℕ) → AllDigits 10 digits → digit_count rest ≡ 0 → digit_count (digits ++ rest) ≡ length digits
digits_alone [] rest all none = none
digits_alone (digit ∷ digits) rest all none =
    let more = digits_alone digits rest all.1 none in
    rw (is_digit digit all.0, more) (omega arith)

-- no part of such a unit stands in front: the parts are those of the units less than it
passes : (unit : Unit) (lesser : List Unit) (text : List ℕ) → begins_part unit text ≡ false
    → (parts_len (unit ∷ lesser) text ≡ parts_len lesser text) × (parts_micros (unit ∷ lesser) text ≡ parts_micros lesser text)
passes unit lesser text e = (rw e (omega arith), rw e (omega arith))

-- the part of the last unit in front is all
record Written (units : List Unit) (text : List ℕ) (micros : ℕ) : Type 0 where
  len : parts_len units text ≡ length text
  sum : parts_micros units text ≡ micros

last_part : (text : List ℕ) (micros : ℕ) → begins_part Microsecond text ≡ true → digit_count text + 2 ≡ length text → digits_value 10 (take (digit_count text) text) ≡ micros
    → Written (Microsecond ∷ []) text micros
last_part text micros e whole value =
    record { len = rw e (omega (arith, whole)); sum = rw (e, value) (omega arith) }

behind : (unit : Unit) (lesser : List Unit) (text : List ℕ) (micros : ℕ) → begins_part unit text ≡ false → Written lesser text micros → Written (unit ∷ lesser) text micros
behind unit lesser text micros e written =
    let pass = passes unit lesser text e in
    record { len = pass.0 ∙ written.len; sum = pass.1 ∙ written.sum }

-- digits and `us`
in_microseconds : (text : List ℕ) (micros : ℕ) → drop (digit_count text) text ≡ codes "us" → nat_lt 0 (digit_count text) ≡ true
    → digits_value 10 (take (digit_count text) text) ≡ micros → digit_count text + 2 ≡ length text → Written units text micros
in_microseconds text micros unit some value whole =
    behind Day _ text micros (rw (some, unit) refl)
    (behind Hour _ text micros (rw (some, unit) refl)
    (behind Minute _ text micros (rw (some, unit) refl)
    (behind Second _ text micros (rw (some, unit) refl)
    (behind Millisecond _ text micros (rw (some, unit) refl) (last_part text micros (rw (some, unit) refl) whole value)))))

-- where parts are all of a text, it is a duration unless their sum is too long
pub all_parts : (text : List ℕ) → 0 < duration_len text → duration_len text ≤ length text → length text ≤ duration_len text
    → duration_of text ≡ time_of (parts_micros units text)
all_parts text some within whole =
    let filled : nat_lt 0 (length text) ≡ true = let positive : 0 < length text = omega arith in grind (arith, nat_tests) in
    let same : nat_eq (duration_len text) (length text) ≡ true = eq-eqb (duration_len text) (length text) (omega arith) in
    rw (filled, same) refl

-- a time that is written and read again is the same
pub written_is_read : (micros : ℕ) → micros ≤ time_limit → duration_of (duration_text micros) ≡ Some micros
written_is_read micros within =
    let text = duration_text micros in
    let numeral = decimal_is_IsNumeral micros (omega arith) in
    let all : digit_count text ≡ length (decimal micros) = digits_alone (decimal micros) (codes "us") numeral.0.1 refl in
    let some : nat_lt 0 (digit_count text) ≡ true = let filled = numeral.0.0 in rw all (grind (arith, nat_tests)) in
    let unit : drop (digit_count text) text ≡ codes "us" = rw all (drop-append_seam (decimal micros) (codes "us")) in
    let front : take (digit_count text) text ≡ decimal micros = rw all (take-append_seam (decimal micros) (codes "us")) in
    let long : length text ≡ length (decimal micros) + 2 = length-append (decimal micros) (codes "us") in
    let whole : digit_count text + 2 ≡ length text = omega (arith, all, long) in
    let written = in_microseconds text micros unit some (ap (digits_value 10) front ∙ numeral.1) whole in
    let filled : nat_lt 0 (length text) ≡ true = let positive : 0 < length text = omega (arith, long) in grind (arith, nat_tests) in
    let same : nat_eq (length text) (length text) ≡ true = eq-eqb (length text) (length text) refl in
    let is : nat_le micros time_limit ≡ true = grind (arith, nat_tests) in
    rw (written.len, written.sum, filled, same, is) refl

-- ---- no unit behind the digits

-- no unit stands in front where none of their letters does
no_unit : (unit : Unit) (text : List ℕ) → begins_unit text ≡ false → starts_with nat_eq text (unit_text unit) ≡ false
no_unit Day [] e = refl
no_unit Hour [] e = refl
no_unit Minute [] e = refl
no_unit Second [] e = refl
no_unit Millisecond [] e = refl
no_unit Microsecond [] e = refl
no_unit Day (byte ∷ rest) e = grind (arith, nat_tests, e)
no_unit Hour (byte ∷ rest) e = grind (arith, nat_tests, e)
no_unit Minute (byte ∷ rest) e = grind (arith, nat_tests, e)
no_unit Second (byte ∷ rest) e = grind (arith, nat_tests, e)
no_unit Millisecond (byte ∷ rest) e = grind (arith, nat_tests, e)
no_unit Microsecond (byte ∷ rest) e = grind (arith, nat_tests, e)

and_no : (b : Bool) → (b && false) ≡ false
and_no true = refl
and_no false = refl

no_part : (unit : Unit) (text : List ℕ) → begins_unit (drop (digit_count text) text) ≡ false → begins_part unit text ≡ false
no_part unit text e = rw (no_unit unit (drop (digit_count text) text) e) (and_no (nat_lt 0 (digit_count text)))

-- so there is no duration in front
pub no_parts : (text : List ℕ) → begins_unit (drop (digit_count text) text) ≡ false → duration_len text ≡ 0
no_parts text e =
    (passes Day (Hour ∷ Minute ∷ Second ∷ Millisecond ∷ Microsecond ∷ []) text (no_part Day text e)).0
    ∙ (passes Hour (Minute ∷ Second ∷ Millisecond ∷ Microsecond ∷ []) text (no_part Hour text e)).0
    ∙ (passes Minute (Second ∷ Millisecond ∷ Microsecond ∷ []) text (no_part Minute text e)).0
    ∙ (passes Second (Millisecond ∷ Microsecond ∷ []) text (no_part Second text e)).0
    ∙ (passes Millisecond (Microsecond ∷ []) text (no_part Millisecond text e)).0
    ∙ (passes Microsecond [] text (no_part Microsecond text e)).0
