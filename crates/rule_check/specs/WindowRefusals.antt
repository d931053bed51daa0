-- What is refused of windows: names of nothing that may stand there, resources and datasets of another type, coefficients out
-- of their range and terms past the limit. What has a name of nothing is not refused for anything besides, nor is what stands
-- behind a limit that is passed: it stands later in the text.
use Rattle.std.specs.Prelude.{ℕ, ℤ, Bool, false, ◌||◌, List, [], ◌++◌, Option, Some, None, is_some, nat_eq, nat_le}
use Rattle.std.specs.Int.RustNames.{unsigned_abs}
use Rattle.aerie_base.specs.declared.models.model.Parts.{Parts}
use Rattle.aerie_base.specs.declared.places.Place.{Place}
use Rattle.aerie_base.specs.declared.values.Kind.{Kind}
use Rattle.aerie_base.specs.declared.values.Kind.TheVariants.{Int, Truth, Enum}
use Rattle.aerie_base.specs.models.Limits.{coefficient_limit, term_limit}
use Rattle.aerie_base.specs.models.Names.{same_name}
use Rattle.model_reader.specs.declared.raw.names.RawName.{RawName}
use Rattle.readers.specs.declared.limits.Limit.TheVariants.{Terms}
use Rattle.rule_grammar.specs.declared.raw.sums.RawTerm.{RawTerm}
use Rattle.rule_grammar.specs.declared.raw.windows.RawTested.{RawTested}
use Rattle.rule_grammar.specs.declared.raw.windows.RawTested.TheVariants as tested
use Rattle.rule_grammar.specs.declared.raw.windows.RawWindow.{RawWindow}
use Rattle.rule_grammar.specs.declared.raw.windows.RawWindow.TheOpen.{RawWindow-F}
use Rattle.constraints.specs.OfModel.{is_of_kind}
use Rattle.diagnostics.specs.declared.diagnostic.Diagnostic.{Diagnostic}
use Rattle.rule_check.specs.declared.causes.WrongRule.{WrongRule}
use Rattle.rule_check.specs.declared.causes.WrongRule.TheVariants.{Unknown, WrongType, OutOfRange, TooMany}
use Rattle.rule_check.specs.RawWindows.{raw_window_gives}
use Rattle.diagnostics.specs.Diagnostics.{at_place, refused_unless}
use Rattle.rule_check.specs.Refusals.{refusals_up_to}
use Rattle.rule_check.specs.RuleNames.{Datasets, position_of_type, position_of_enum, variant_position, name_kind}

-- ---- names

-- a name that reads something of the wanted type
abbrev pub refusals_of_reading : Option (Option Kind) → Kind → Place → List (Diagnostic WrongRule)
refusals_of_reading None wanted at = at_place Unknown at
refusals_of_reading (Some kind) wanted at = refused_unless (is_of_kind wanted kind) WrongType at

abbrev pub refusals_of_name : Parts → Datasets → Kind → RawName → List (Diagnostic WrongRule)
refusals_of_name model datasets wanted name = refusals_of_reading (name_kind model datasets name.name) wanted name.at

-- the name of an activity type
abbrev pub refusals_of_type : Parts → RawName → List (Diagnostic WrongRule)
refusals_of_type model name = refused_unless (is_some (position_of_type model.activities name.name)) Unknown name.at

-- the name is the one that `for` binds
abbrev pub is_bound : Option (List ℕ) → List ℕ → Bool
is_bound None name = false
is_bound (Some bound) name = same_name bound name

-- the name in a `during`: the one that is bound hides an activity type of the same name
abbrev pub refusals_of_span : Parts → Option (List ℕ) → RawName → List (Diagnostic WrongRule)
refusals_of_span model bound name = refused_unless (is_bound bound name.name || is_some (position_of_type model.activities name.name)) Unknown name.at

-- ---- values

-- a variant of an enumeration of this number
abbrev pub refusals_of_variant : Parts → Option ℕ → ℕ → Place → RawName → RawName → List (Diagnostic WrongRule)
refusals_of_variant model None wanted at kind variant = at_place Unknown kind.at
refusals_of_variant model (Some number) wanted at kind variant =
    refused_unless (nat_eq number wanted) WrongType at ++ refused_unless (is_some (variant_position model.enums number variant.name)) Unknown variant.at

-- the enumeration by its name
abbrev pub refusals_of_named_variant : Parts → ℕ → Place → RawName → RawName → List (Diagnostic WrongRule)
refusals_of_named_variant model wanted at kind variant = refusals_of_variant model (position_of_enum model.enums kind.name) wanted at kind variant

-- a variant, beside something of a type
abbrev pub refusals_beside : Parts → Option Kind → Place → RawName → RawName → List (Diagnostic WrongRule)
refusals_beside model (Some (Enum wanted)) at kind variant = refusals_of_named_variant model wanted at kind variant
refusals_beside model _ at kind variant = at_place WrongType at

-- `==` or `!=` with a value
abbrev pub refusals_of_tested : Parts → Option (Option Kind) → Place → RawTested → List (Diagnostic WrongRule)
refusals_of_tested model None at value = at_place Unknown at
refusals_of_tested model (Some kind) at (tested.Truth truth) = refused_unless (is_of_kind Truth kind) WrongType at
refusals_of_tested model (Some kind) at (tested.Variant enum variant) = refusals_beside model kind at enum variant

-- ---- sums

-- a coefficient
abbrev pub is_coefficient_within : ℤ → Bool
is_coefficient_within coefficient = nat_le (unsigned_abs coefficient) coefficient_limit

abbrev pub refusals_of_factor : Parts → Datasets → RawTerm → Option RawName → List (Diagnostic WrongRule)
refusals_of_factor model datasets term None = []
refusals_of_factor model datasets term (Some name) = refused_unless (is_coefficient_within term.number) OutOfRange term.at ++ refusals_of_name model datasets Int name

abbrev pub refusals_of_term : Parts → Datasets → RawTerm → List (Diagnostic WrongRule)
refusals_of_term model datasets term = refusals_of_factor model datasets term term.resource

-- one term more than there may be
abbrev pub too_many_terms : RawTerm → List (Diagnostic WrongRule)
too_many_terms term = at_place (TooMany Terms) term.at

-- the terms of a sum, of which there may be so many more
abbrev pub refusals_of_terms : Parts → Datasets → ℕ → List RawTerm → List (Diagnostic WrongRule)
refusals_of_terms model datasets room terms = refusals_up_to (refusals_of_term model datasets) too_many_terms room terms

abbrev pub refusals_of_sum : Parts → Datasets → List RawTerm → List (Diagnostic WrongRule)
refusals_of_sum model datasets terms = refusals_of_terms model datasets term_limit terms

-- both sides of a comparison
abbrev pub refusals_of_sums : Parts → Datasets → List RawTerm → List RawTerm → List (Diagnostic WrongRule)
refusals_of_sums model datasets left right = refusals_of_sum model datasets left ++ refusals_of_sum model datasets right

-- ---- windows

abbrev pub refusals_of_level : Parts → Datasets → Option (List ℕ) → RawWindow-F (List (Diagnostic WrongRule)) → List (Diagnostic WrongRule)
refusals_of_level model datasets bound (RawWindow-F.Literal truth) = []
refusals_of_level model datasets bound (RawWindow-F.And left right) = left ++ right
refusals_of_level model datasets bound (RawWindow-F.Or left right) = left ++ right
refusals_of_level model datasets bound (RawWindow-F.Not part) = part
refusals_of_level model datasets bound (RawWindow-F.During name) = refusals_of_span model bound name
refusals_of_level model datasets bound (RawWindow-F.Shift part start end) = part
refusals_of_level model datasets bound (RawWindow-F.Longer part least) = part
refusals_of_level model datasets bound (RawWindow-F.Truth name) = refusals_of_name model datasets Truth name
refusals_of_level model datasets bound (RawWindow-F.Same name value equal) = refusals_of_tested model (name_kind model datasets name.name) name.at value
refusals_of_level model datasets bound (RawWindow-F.Compare left how right) = refusals_of_sums model datasets left right

-- what is refused of a window in which this name is bound
unfoldable pub refusals_of_window : Parts → Datasets → Option (List ℕ) → RawWindow → List (Diagnostic WrongRule)
refusals_of_window model datasets bound window = raw_window_gives (List (Diagnostic WrongRule)) [] (refusals_of_level model datasets bound) window
