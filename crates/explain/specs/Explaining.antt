-- The text that explains a refusal.
use Rattle.std.specs.Prelude.{ℕ, ◌+◌, ◌-◌, ◌==◌, List, [], ◌∷◌, ◌++◌, codes, Option, Some, None, option_map, if◌then◌else◌}
use Rattle.std.specs.Str.{bytes_eq}
use Rattle.aerie_base.specs.declared.places.Place.{Place}
use Rattle.aerie_text.specs.Sorts.{same_sort}
use Rattle.aerie_text.specs.declared.sorts.Sort.{Sort}
use Rattle.aerie_text.specs.declared.sorts.Sort.TheVariants as sort
use Rattle.dataset_in.specs.declared.dataset_error.DatasetError.{DatasetError}
use Rattle.plan_edit.specs.declared.errors.EditError.{EditError}
use Rattle.refusal_text.specs.declared.refusals.Refusal.{Refusal}
use Rattle.explain.specs.Becauses.{about, of_line, plain}
use Rattle.explain.specs.Causes.{because_line}
use Rattle.explain.specs.EditCauses.{edit_line, fault_because}
use Rattle.explain.specs.Headlines.{headline}
use Rattle.explain.specs.HintLines.{hint_lines}
use Rattle.explain.specs.LimitCauses.{limit_cause}
use Rattle.explain.specs.NameCauses.{duplicate_because, unknown_because}
use Rattle.explain.specs.Sources.{source}
use Rattle.explain.specs.Spots.{offset_at, spot_at, spot_of_place}
use Rattle.explain.specs.SyntaxCauses.{syntax_because}
use Rattle.explain.specs.TypeCauses.{range_because, wrong_because}
use Rattle.explain.specs.WordsOfTokens.{sorted_tokens, token_at_number, token_before, tokens_before}
use Rattle.explain.specs.declared.causes.Because.{Because}
use Rattle.explain.specs.declared.causes.Cause.TheVariants as cause
use Rattle.explain.specs.declared.hint.Hint.{Hint}
use Rattle.explain.specs.declared.sorted.SortedToken.{SortedToken}
use Rattle.explain.specs.declared.spots.Spot.{Spot}

-- ---- the spot

-- where the token of this sort begins before which so many of its sort stand
abbrev pub numbered_from : Sort → ℕ → List SortedToken → Option ℕ
numbered_from one number [] = None
numbered_from one number (token ∷ later) =
    if same_sort one token.sort then (if number == 0 then Some token.from else numbered_from one (number - 1) later)
    else numbered_from one number later

-- what counts the parts of a text that are refused by their number: the `load` of each dataset, the `at` of each directive
abbrev pub counting_word : Option DatasetError → Sort
counting_word (Some fault) = sort.Load
counting_word None = sort.At

-- the byte that is refused, by its number or by that of a directive or a dataset
abbrev pub refused_from : List SortedToken → Option ℕ → Option ℕ → Option DatasetError → Option ℕ
refused_from tokens (Some at) number fault = Some at
refused_from tokens None (Some number) fault = numbered_from (counting_word fault) number tokens
refused_from tokens None None fault = None

-- the spot of a place, or else of a byte
abbrev pub placed_or : List ℕ → Option Place → Option ℕ → Option Spot
placed_or bytes (Some place) at = Some (spot_of_place place)
placed_or bytes None at = option_map (spot_at bytes) at

-- the spot of a refusal: its place, or that of the byte that is refused
abbrev pub spot_of_refusal : List ℕ → List SortedToken → Refusal → Option Spot
spot_of_refusal bytes tokens refusal =
    placed_or bytes refusal.place (refused_from tokens refusal.at refusal.number refusal.fault)

-- ---- the causes

-- the cause of a limit that is passed
abbrev pub limit_because : Option (List ℕ) → Because
limit_because (Some word) = plain (limit_cause word)
limit_because None = plain cause.Refused

-- a number as people count
abbrev pub counted : Option ℕ → ℕ
counted (Some number) = number + 1
counted None = 0

-- by the name of the refusal, at a byte before which so many tokens stand
abbrev pub named_because : List ℕ → List SortedToken → ℕ → ℕ → List ℕ → Option (List ℕ) → Because
named_because bytes tokens offset at name limit =
    if bytes_eq name (codes "Syntax") then syntax_because bytes tokens offset at
    else if bytes_eq name (codes "Unknown") then unknown_because bytes tokens at
    else if bytes_eq name (codes "Duplicate") then duplicate_because bytes cause.SecondTime tokens at
    else if bytes_eq name (codes "WrongType") then wrong_because bytes tokens at
    else if bytes_eq name (codes "NotLinear") then about (token_at_number tokens at) cause.NotLinear
    else if bytes_eq name (codes "OutOfRange") then range_because (token_before tokens at)
    else if bytes_eq name (codes "Invalid") then about (token_at_number tokens at) cause.RequireOfGoal
    else if bytes_eq name (codes "Start") then about (token_at_number tokens at) cause.NoStart
    else if bytes_eq name (codes "Client") then duplicate_because bytes cause.SameClient tokens at
    else if bytes_eq name (codes "TooMany") then limit_because limit
    else if bytes_eq name (codes "NotText") then plain cause.NotText
    else plain cause.Refused

-- the lines that tell why: of a directive or a dataset, which it is, and why it is refused
abbrev pub cause_lines : List ℕ → List SortedToken → ℕ → ℕ → Refusal → Option EditError → Option DatasetError → List ℕ
cause_lines bytes tokens offset at refusal (Some edit) fault =
    because_line bytes (of_line cause.DirectiveNumber (counted refusal.number)) ++ edit_line bytes tokens at edit
cause_lines bytes tokens offset at refusal None (Some fault) =
    because_line bytes (of_line cause.DatasetNumber (counted refusal.number)) ++ because_line bytes (fault_because fault)
cause_lines bytes tokens offset at refusal None None =
    because_line bytes (named_because bytes tokens offset at refusal.name refusal.what)

-- a refusal without a place is one of a whole text
abbrev pub placeless_because : List ℕ → Because
placeless_because name = if bytes_eq name (codes "TooLarge") then plain cause.TooLarge else plain cause.Refused

-- the line of the text, and why it is refused
abbrev pub told_at_spot : List ℕ → List SortedToken → Refusal → Option Spot → List ℕ
told_at_spot bytes tokens refusal None = because_line bytes (placeless_because refusal.name)
told_at_spot bytes tokens refusal (Some spot) =
    source bytes spot
    ++ cause_lines bytes tokens (offset_at bytes spot) (tokens_before tokens (offset_at bytes spot)) refusal refusal.edit refusal.fault

-- ---- the text

abbrev pub explained : List ℕ → List SortedToken → Refusal → List Hint → List ℕ
explained bytes tokens refusal hints =
    headline refusal.name (spot_of_refusal bytes tokens refusal)
    ++ told_at_spot bytes tokens refusal (spot_of_refusal bytes tokens refusal)
    ++ hint_lines bytes hints

-- What is refused and where, the line of the text with a mark, why it is refused, and what takes the session further.
unfoldable pub explanation_of : List ℕ → Refusal → List Hint → List ℕ
explanation_of bytes refusal hints = explained bytes (sorted_tokens bytes) refusal hints
