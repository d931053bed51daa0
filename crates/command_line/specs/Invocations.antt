-- What the words ask for.
use Rattle.std.specs.Prelude.{ℕ, ◌≤◌, Bool, true, false, ◌&&◌, not, List, [], ◌∷◌, Option, Some, None, codes, find, length}
use Rattle.std.specs.Prelude.{nat_le, nat_lt, option_and_then, option_map, if◌then◌else◌}
use Rattle.std.specs.Char.{digit_value}
use Rattle.std.specs.List.{list_all, list_any}
use Rattle.std.specs.Str.{bytes_eq}
use Rattle.std.specs.Str.Parse.{digits_value, without_leading_plus}
use Rattle.command_line.specs.Grammar.{CommandPart, Word, command_parts}
use Rattle.command_line.specs.declared.invocation.Mode.{Mode}
use Rattle.command_line.specs.declared.invocation.Mode.TheVariants.{Run, Check, Make}
use Rattle.command_line.specs.declared.invocation.Invocation.{Invocation}

-- ---- numbers

-- one decimal digit or more, and nothing else
abbrev pub is_numeral : List ℕ → Bool
is_numeral text = nat_lt 0 (length text) && list_all (λ byte. nat_lt (digit_value byte) 10) text

-- digits of a number from 1 up to some other
abbrev pub is_number_within : ℕ → List ℕ → Bool
is_number_within most digits = is_numeral digits && nat_le 1 (digits_value 10 digits) && nat_le (digits_value 10 digits) most

abbrev pub digits_within : ℕ → List ℕ → Option ℕ
digits_within most digits = if is_number_within most digits then Some (digits_value 10 digits) else None

-- the number from 1 up to some other that a text is; a plus may stand in front of its digits
abbrev pub number_up_to : ℕ → List ℕ → Option ℕ
number_up_to most text = digits_within most (without_leading_plus text)

-- the number of an option that has a usual one
abbrev pub number_or : ℕ → ℕ → Option (List ℕ) → Option ℕ
number_or usual most None = Some usual
number_or usual most (Some text) = number_up_to most text

-- ---- modes

-- a mode that takes neither `--number` nor `--text`
abbrev pub plain_mode : Mode → Option (List ℕ) → Bool → Option Mode
plain_mode mode None false = Some mode
plain_mode mode None true = None
plain_mode mode (Some number) text = None

abbrev pub make_of : Bool → Option ℕ → Option Mode
make_of text None = None
make_of text (Some number) = Some (Make number text)

-- to make a session takes a number
abbrev pub make_mode : Option (List ℕ) → Bool → Option Mode
make_mode None text = None
make_mode (Some number) text = make_of text (number_up_to 20_000 number)

abbrev pub mode_named : List ℕ → Option (List ℕ) → Bool → Option Mode
mode_named word number text =
    if bytes_eq word (codes "run") then plain_mode Run number text
    else if bytes_eq word (codes "check") then plain_mode Check number text
    else if bytes_eq word (codes "make") then make_mode number text
    else None

abbrev pub mode_of : Option (List ℕ) → Option (List ℕ) → Bool → Option Mode
mode_of None number text = None
mode_of (Some word) number text = mode_named word number text

-- `--explain` does not go with make, and `--detail` goes with run alone
abbrev pub is_allowed : Bool → Bool → Mode → Bool
is_allowed explain detail Run = true
is_allowed explain detail Check = not detail
is_allowed explain detail (Make number text) = not explain && not detail

abbrev pub allowed : Bool → Bool → Option Mode → Option Mode
allowed explain detail None = None
allowed explain detail (Some mode) = if is_allowed explain detail mode then Some mode else None

-- ---- values by name

-- the values that were given, each by the name of what it is for
abbrev pub Values : Type 0
Values = Word → Option Word

abbrev pub says_true : Option Word → Bool
says_true None = false
says_true (Some text) = bytes_eq text (codes "true")

-- the flags of an invocation, each with whether it was given
pub record GivenFlags : Type 0 where
  pub serial : Bool
  pub stats : Bool
  pub explain : Bool
  pub detail : Bool

abbrev pub given_flags : Values → GivenFlags
given_flags values =
    record {
      serial = says_true (values (codes "serial"));
      stats = says_true (values (codes "stats"));
      explain = says_true (values (codes "explain"));
      detail = says_true (values (codes "detail"));
    }

-- the mode that values name, where it goes with their flags
abbrev pub mode_by : Values → Option Mode
mode_by values =
    allowed (says_true (values (codes "explain"))) (says_true (values (codes "detail")))
    (mode_of (values (codes "mode")) (values (codes "number")) (says_true (values (codes "text"))))

abbrev pub invocation_with : GivenFlags → Option Mode → Option ℕ → Option ℕ → Option Invocation
invocation_with flags None limit pieces = None
invocation_with flags (Some mode) None pieces = None
invocation_with flags (Some mode) (Some limit) None = None
invocation_with flags (Some mode) (Some limit) (Some pieces) =
    Some (record {
      mode = mode;
      limit = limit;
      pieces = pieces;
      serial = flags.serial;
      stats = flags.stats;
      explain = flags.explain;
      detail = flags.detail;
    })

-- what values ask for
abbrev pub invocation_by : Values → Option Invocation
invocation_by values =
    invocation_with (given_flags values) (mode_by values)
    (number_or 1_000_000 100_000_000 (values (codes "limit")))
    (number_or 4 64 (values (codes "pieces")))

-- ---- the invocation

abbrev pub is_part : Word → List CommandPart → Bool
is_part name parts = list_any (λ part. bytes_eq part.0 name) parts

-- no two parts are given for the same
abbrev pub are_different : List CommandPart → Bool
are_different [] = true
are_different (part ∷ more) = not (is_part part.0 more) && are_different more

abbrev pub value_in : List CommandPart → Word → Option Word
value_in parts name = option_map (λ part. part.1) (find (λ part. bytes_eq part.0 name) parts)

abbrev pub invocation_in : List CommandPart → Option Invocation
invocation_in parts = if are_different parts then invocation_by (value_in parts) else None

-- what the words after the program's name ask for, or none where they are not in the grammar
unfoldable pub invocation_of : List Word → Option Invocation
invocation_of words = option_and_then invocation_in (command_parts words)

-- ---- ranges

-- a session that is made has 1 to 20,000 directives
abbrev pub IsModeWithin : Mode → Type 0
IsModeWithin Run = Unit {0}
IsModeWithin Check = Unit {0}
IsModeWithin (Make number text) = (1 ≤ number) × (number ≤ 20_000)

-- the numbers are in their ranges
pub record HasNumbersWithin (invocation : Invocation) : Type 0 where
  pub mode : IsModeWithin invocation.mode
  pub some_limit : 1 ≤ invocation.limit
  pub most_limit : invocation.limit ≤ 100_000_000
  pub some_pieces : 1 ≤ invocation.pieces
  pub most_pieces : invocation.pieces ≤ 64
