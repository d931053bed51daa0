-- What a constraint names, in the order of the text: resources and activity types, by their numbers, and datasets.
use Rattle.std.specs.Prelude.{◌≡◌, ℕ, pos, Bool, true, false, List, [], ◌∷◌, ◌++◌, codes, flat_map, nat_eq, if◌then◌else◌, refl}
use Rattle.std.specs.List.{list_any}
use Rattle.aerie_base.specs.declared.expressions.Comparison.TheVariants.{AtMost}
use Rattle.aerie_base.specs.models.Names.{same_name}
use Rattle.constraints.specs.Recursion.{window_gives}
use Rattle.constraints.specs.declared.types.Constraint.{Constraint}
use Rattle.constraints.specs.declared.types.Reading.{Reading}
use Rattle.constraints.specs.declared.types.Reading.TheVariants as read
use Rattle.constraints.specs.declared.types.Rule.{Rule}
use Rattle.constraints.specs.declared.types.Rule.TheVariants.{Plain, Each, Forbid}
use Rattle.constraints.specs.declared.types.RuleSum.{RuleSum}
use Rattle.constraints.specs.declared.types.Window.{Window, During, Compare, Truth, fold-Window}
use Rattle.constraints.specs.declared.types.Window.TheOpen.{Window-F}
use Rattle.dataset_in.specs.declared.series.Series.{Series}
use Rattle.dataset_in.specs.declared.series.Series.TheVariants as series

-- ---- each once

-- items with one more behind them, unless the same is among them
abbrev pub noted : {A : Type 0} → (A → A → Bool) → List A → A → List A
noted same items item = if list_any (λ other. same other item) items then items else items ++ item ∷ []

-- items with more behind them, likewise
abbrev pub noted_all : {A : Type 0} → (A → A → Bool) → List A → List A → List A
noted_all same items [] = items
noted_all same items (item ∷ rest) = noted_all same (noted same items item) rest

-- each once, where it stands first
abbrev pub once : {A : Type 0} → (A → A → Bool) → List A → List A
once same items = noted_all same [] items

-- ---- activity types

abbrev pub types_step : Window-F (List ℕ) → List ℕ
types_step (Window-F.Literal truth) = []
types_step (Window-F.And left right) = left ++ right
types_step (Window-F.Or left right) = left ++ right
types_step (Window-F.Not part) = part
types_step (Window-F.During kind) = kind ∷ []
types_step Window-F.DuringBound = []
types_step (Window-F.Shift part start end) = part
types_step (Window-F.Longer part least) = part
types_step (Window-F.Truth reading) = []
types_step (Window-F.Same resource value equal) = []
types_step (Window-F.Compare left how right) = []

-- those that a window names
unfoldable pub window_types : Window → List ℕ
window_types window = window_gives (List ℕ) [] types_step window

-- the same by the fold, which does not compute and is the form for a proof
abbrev pub types_by_fold : Window → List ℕ
types_by_fold window = fold-Window (List ℕ) types_step window

-- those that a rule names
abbrev pub rule_types : Rule → List ℕ
rule_types (Plain window) = window_types window
rule_types (Each kind window) = kind ∷ window_types window
rule_types (Forbid one other) = one ∷ other ∷ []

abbrev pub named_types : Rule → List ℕ
named_types rule = once nat_eq (rule_types rule)

-- ---- resources

abbrev pub reading_resources : Reading → List ℕ
reading_resources (read.Resource number) = number ∷ []
reading_resources (read.Series name series) = []

abbrev pub sum_resources : RuleSum → List ℕ
sum_resources sum = flat_map (λ term. reading_resources term.resource) sum.terms

abbrev pub resources_step : Window-F (List ℕ) → List ℕ
resources_step (Window-F.Literal truth) = []
resources_step (Window-F.And left right) = left ++ right
resources_step (Window-F.Or left right) = left ++ right
resources_step (Window-F.Not part) = part
resources_step (Window-F.During kind) = []
resources_step Window-F.DuringBound = []
resources_step (Window-F.Shift part start end) = part
resources_step (Window-F.Longer part least) = part
resources_step (Window-F.Truth reading) = reading_resources reading
resources_step (Window-F.Same resource value equal) = reading_resources resource
resources_step (Window-F.Compare left how right) = sum_resources left ++ sum_resources right

-- those that a window reads
unfoldable pub window_resources : Window → List ℕ
window_resources window = window_gives (List ℕ) [] resources_step window

abbrev pub resources_by_fold : Window → List ℕ
resources_by_fold window = fold-Window (List ℕ) resources_step window

-- those that a rule reads
abbrev pub rule_resources : Rule → List ℕ
rule_resources (Plain window) = window_resources window
rule_resources (Each kind window) = window_resources window
rule_resources (Forbid one other) = []

abbrev pub named_resources : Rule → List ℕ
named_resources rule = once nat_eq (rule_resources rule)

-- ---- datasets

-- a dataset with its name
abbrev pub NamedSeries : Type 0
NamedSeries = List ℕ × Series

-- two datasets of one name are one: a session has no two
abbrev pub has_name_of : NamedSeries → NamedSeries → Bool
has_name_of dataset other = same_name dataset.0 other.0

abbrev pub reading_datasets : Reading → List NamedSeries
reading_datasets (read.Resource number) = []
reading_datasets (read.Series name series) = (name, series) ∷ []

abbrev pub sum_datasets : RuleSum → List NamedSeries
sum_datasets sum = flat_map (λ term. reading_datasets term.resource) sum.terms

abbrev pub datasets_step : Window-F (List NamedSeries) → List NamedSeries
datasets_step (Window-F.Literal truth) = []
datasets_step (Window-F.And left right) = left ++ right
datasets_step (Window-F.Or left right) = left ++ right
datasets_step (Window-F.Not part) = part
datasets_step (Window-F.During kind) = []
datasets_step Window-F.DuringBound = []
datasets_step (Window-F.Shift part start end) = part
datasets_step (Window-F.Longer part least) = part
datasets_step (Window-F.Truth reading) = reading_datasets reading
datasets_step (Window-F.Same resource value equal) = reading_datasets resource
datasets_step (Window-F.Compare left how right) = sum_datasets left ++ sum_datasets right

-- those that a window reads
unfoldable pub window_datasets : Window → List NamedSeries
window_datasets window = window_gives (List NamedSeries) [] datasets_step window

abbrev pub datasets_by_fold : Window → List NamedSeries
datasets_by_fold window = fold-Window (List NamedSeries) datasets_step window

-- those that a rule reads
abbrev pub rule_datasets : Rule → List NamedSeries
rule_datasets (Plain window) = window_datasets window
rule_datasets (Each kind window) = window_datasets window
rule_datasets (Forbid one other) = []

abbrev pub named_datasets : Rule → List NamedSeries
named_datasets rule = once has_name_of (rule_datasets rule)

-- those that constraints read
abbrev pub constraint_datasets : List Constraint → List NamedSeries
constraint_datasets constraints = flat_map (λ constraint. rule_datasets constraint.rule) constraints

abbrev pub all_datasets : List Constraint → List NamedSeries
all_datasets constraints = once has_name_of (constraint_datasets constraints)

-- ---- worked cases

-- 2 * the resource 1 + the resource 0 <= the resource 1
abbrev a_comparison : Window
a_comparison =
    Compare (record { terms = record { coefficient = pos 2; resource = read.Resource 1 } ∷ record { coefficient = pos 1; resource = read.Resource 0 } ∷ []; constant = pos 0 })
    AtMost (record { terms = record { coefficient = pos 1; resource = read.Resource 1 } ∷ []; constant = pos 0 })

pub each_once : named_resources (Plain a_comparison) ≡ 1 ∷ 0 ∷ []
unfolding window_resources
each_once = refl

pub no_type_of_a_comparison : named_types (Plain a_comparison) ≡ []
unfolding window_types
no_type_of_a_comparison = refl

pub the_type_of_the_span_first : named_types (Each 2 (During 0)) ≡ 2 ∷ 0 ∷ []
unfolding window_types
the_type_of_the_span_first = refl

pub one_type_twice : named_types (Forbid 3 3) ≡ 3 ∷ []
one_type_twice = refl

-- two datasets of truths
abbrev day : Reading
day = read.Series (codes "day") (series.Truth ((0, true) ∷ []))

abbrev visible : Reading
visible = read.Series (codes "visible") (series.Truth ((0, false) ∷ []))

pub each_dataset_once : all_datasets (record { name = codes "seen"; rule = Plain (Truth visible) } ∷ record { name = codes "by_day"; rule = Each 0 (Truth day) }
    ∷ record { name = codes "again"; rule = Plain (Truth visible) } ∷ []) ≡ (codes "visible", series.Truth ((0, false) ∷ [])) ∷ (codes "day", series.Truth ((0, true) ∷ [])) ∷ []
unfolding window_datasets
each_dataset_once = refl
