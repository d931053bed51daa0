-- The windows that are meant by those that are written, with their numbers, values and sums. Of what is refused this is never used.
use Rattle.std.specs.Prelude.{ℕ, zero, suc, ℤ, pos, ◌+ℤ◌, Bool, false, List, [], ◌∷◌, ◌++◌, Option, Some, None, nat_le, if◌then◌else◌}
use Rattle.std.specs.Int.RustNames.{unsigned_abs}
use Rattle.aerie_base.specs.Ranges.{is_number, time_limit}
use Rattle.aerie_base.specs.declared.models.model.Parts.{Parts}
use Rattle.aerie_base.specs.models.Limits.{term_limit}
use Rattle.aerie_base.specs.declared.values.Value.{Value}
use Rattle.aerie_base.specs.declared.values.Value.TheVariants as value
use Rattle.model_reader.specs.declared.raw.names.RawName.{RawName}
use Rattle.rule_grammar.specs.declared.raw.sums.RawTerm.{RawTerm}
use Rattle.aerie_base.specs.declared.expressions.Comparison.{Comparison}
use Rattle.rule_grammar.specs.declared.raw.windows.RawTested.{RawTested}
use Rattle.rule_grammar.specs.declared.raw.windows.RawTested.TheVariants as tested
use Rattle.rule_grammar.specs.declared.raw.windows.RawWindow.{RawWindow}
use Rattle.rule_grammar.specs.declared.raw.windows.RawWindow.TheOpen.{RawWindow-F}
use Rattle.constraints.specs.declared.types.RuleSum.{RuleSum}
use Rattle.constraints.specs.declared.types.Window.{Window}
use Rattle.constraints.specs.declared.types.Window as window
use Rattle.rule_check.specs.RawWindows.{raw_window_gives}
use Rattle.diagnostics.specs.ShortNumbers.{short}
use Rattle.rule_check.specs.RuleNames.{Datasets, position_of_type, position_of_enum, variant_position, reading_named}
use Rattle.rule_check.specs.WindowRefusals.{is_bound}

-- the number of a part of a model, where there is one
abbrev pub number_or_first : Option ℕ → ℕ
number_or_first None = 0
number_or_first (Some number) = short number

-- the number of an activity type
abbrev pub number_of_type : Parts → RawName → ℕ
number_of_type model name = number_or_first (position_of_type model.activities name.name)

-- ---- values and times

-- the variant of an enumeration of this position
abbrev pub variant_in : Parts → Option ℕ → RawName → Value
variant_in model None variant = value.Truth false
variant_in model (Some kind) variant = value.Variant (short kind) (number_or_first (variant_position model.enums kind variant.name))

abbrev pub tested_value : Parts → RawTested → Value
tested_value model (tested.Truth truth) = value.Truth truth
tested_value model (tested.Variant kind variant) = variant_in model (position_of_enum model.enums kind.name) variant

-- a length of time with its sign; one that is written is at most the longest one
abbrev pub signed_time : ℤ → ℤ
signed_time count = if nat_le (unsigned_abs count) time_limit then count else pos 0

-- the same without a sign
abbrev pub time_within : ℤ → ℕ
time_within count = if nat_le (unsigned_abs count) time_limit then unsigned_abs count else time_limit

-- ---- sums

-- a number; one that is written is within the range
abbrev pub number_within : ℤ → ℤ
number_within number = if is_number number then number else pos 0

abbrev pub no_terms : RuleSum
no_terms = record { terms = []; constant = pos 0 }

-- a sum with a number, or with a term, more
abbrev pub with_factor : Parts → Datasets → RuleSum → ℤ → Option RawName → RuleSum
with_factor model datasets sum number None = record { terms = sum.terms; constant = sum.constant +ℤ number_within number }
with_factor model datasets sum number (Some name) =
    record { terms = sum.terms ++ record { coefficient = number; resource = reading_named model datasets name.name } ∷ []; constant = sum.constant }

-- a sum with so many terms more at most
abbrev pub sum_with : Parts → Datasets → ℕ → RuleSum → List RawTerm → RuleSum
sum_with model datasets room sum [] = sum
sum_with model datasets zero sum (term ∷ rest) = sum
sum_with model datasets (suc room) sum (term ∷ rest) = sum_with model datasets room (with_factor model datasets sum term.number term.resource) rest

abbrev pub meant_sum : Parts → Datasets → List RawTerm → RuleSum
meant_sum model datasets terms = sum_with model datasets term_limit no_terms terms

abbrev pub compared_sums : Parts → Datasets → List RawTerm → Comparison → List RawTerm → Window
compared_sums model datasets left how right = window.Compare (meant_sum model datasets left) how (meant_sum model datasets right)

-- ---- windows

-- a test for a value
abbrev pub same_as : Parts → Datasets → List ℕ → RawTested → Bool → Window
same_as model datasets name value equal = window.Same (reading_named model datasets name) (tested_value model value) equal

-- the span in a `during`: the one that is bound, or any of a type
abbrev pub during_of : Parts → Option (List ℕ) → RawName → Window
during_of model bound name = if is_bound bound name.name then window.DuringBound else window.During (number_of_type model name)

abbrev pub window_level : Parts → Datasets → Option (List ℕ) → RawWindow-F Window → Window
window_level model datasets bound (RawWindow-F.Literal truth) = window.Literal truth
window_level model datasets bound (RawWindow-F.And left right) = window.And left right
window_level model datasets bound (RawWindow-F.Or left right) = window.Or left right
window_level model datasets bound (RawWindow-F.Not part) = window.Not part
window_level model datasets bound (RawWindow-F.During name) = during_of model bound name
window_level model datasets bound (RawWindow-F.Shift part start end) = window.Shift part (signed_time start) (signed_time end)
window_level model datasets bound (RawWindow-F.Longer part least) = window.Longer part (time_within least)
window_level model datasets bound (RawWindow-F.Truth name) = window.Truth (reading_named model datasets name.name)
window_level model datasets bound (RawWindow-F.Same name with_value equal) = same_as model datasets name.name with_value equal
window_level model datasets bound (RawWindow-F.Compare left how right) = compared_sums model datasets left how right

-- the window that is meant by one in which this name is bound
unfoldable pub window_of : Parts → Datasets → Option (List ℕ) → RawWindow → Window
window_of model datasets bound raw = raw_window_gives Window (window.Literal false) (window_level model datasets bound) raw
