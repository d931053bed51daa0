-- What a window names: resources and activity types. Profiles and times are made beforehand of what is named.
use Rattle.std.specs.Prelude.{ℕ, Bool, true, false, ◌||◌, nat_eq}
use Rattle.std.specs.List.{list_any}
use Rattle.constraints.specs.declared.types.Reading.{Reading}
use Rattle.constraints.specs.declared.types.Reading.TheVariants as read
use Rattle.constraints.specs.declared.types.RuleTerm.{RuleTerm}
use Rattle.constraints.specs.declared.types.RuleSum.{RuleSum}
use Rattle.constraints.specs.declared.types.Window.{Window, fold-Window}
use Rattle.constraints.specs.declared.types.Window.TheOpen.{Window-F}

-- ---- resources

-- whether the resource with the number is read
abbrev pub reads_resource : ℕ → Reading → Bool
reads_resource number (read.Resource other) = nat_eq other number
reads_resource number (read.Series name series) = false

-- whether a term of the sum reads it
abbrev pub sum_reads_resource : ℕ → RuleSum → Bool
sum_reads_resource number sum = list_any (λ (term : RuleTerm). reads_resource number term.resource) sum.terms

abbrev pub names_resource_step : ℕ → Window-F Bool → Bool
names_resource_step number (Window-F.Literal truth) = false
names_resource_step number (Window-F.And left right) = left || right
names_resource_step number (Window-F.Or left right) = left || right
names_resource_step number (Window-F.Not part) = part
names_resource_step number (Window-F.During kind) = false
names_resource_step number Window-F.DuringBound = false
names_resource_step number (Window-F.Shift part start end) = part
names_resource_step number (Window-F.Longer part least) = part
names_resource_step number (Window-F.Truth reading) = reads_resource number reading
names_resource_step number (Window-F.Same resource value equal) = reads_resource number resource
names_resource_step number (Window-F.Compare left how right) = sum_reads_resource number left || sum_reads_resource number right

-- whether the window names the resource with the number
abbrev pub names_resource : ℕ → Window → Bool
names_resource number window = fold-Window Bool (names_resource_step number) window

-- ---- activity types

-- whether some `during` of the window is of a type that passes
abbrev pub names_type_step : (ℕ → Bool) → Window-F Bool → Bool
names_type_step test (Window-F.Literal truth) = false
names_type_step test (Window-F.And left right) = left || right
names_type_step test (Window-F.Or left right) = left || right
names_type_step test (Window-F.Not part) = part
names_type_step test (Window-F.During kind) = test kind
names_type_step test Window-F.DuringBound = false
names_type_step test (Window-F.Shift part start end) = part
names_type_step test (Window-F.Longer part least) = part
names_type_step test (Window-F.Truth reading) = false
names_type_step test (Window-F.Same resource value equal) = false
names_type_step test (Window-F.Compare left how right) = false

-- whether the window names the activity type with the number
abbrev pub names_type : ℕ → Window → Bool
names_type kind window = fold-Window Bool (names_type_step (λ other. nat_eq other kind)) window

-- whether the window names some activity type
abbrev pub names_some_type : Window → Bool
names_some_type window = fold-Window Bool (names_type_step (λ other. true)) window
