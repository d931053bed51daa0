-- What a plan becomes in another model.
use Rattle.std.specs.Prelude.{◌≡◌, ℕ, ◌<◌, pos, Bool, true, List, [], ◌∷◌, find, length, map, IsTrue, nat_eq, nat_lt, slice_get, slice_index_or, Option, Some, None, option_and_then, Result, Ok, Err}
use Rattle.aerie_base.specs.declared.values.Kind.{Kind}
use Rattle.aerie_base.specs.declared.values.Kind.TheVariants as kind
use Rattle.aerie_base.specs.declared.values.Value.{Value}
use Rattle.aerie_base.specs.declared.values.Value.TheVariants.{Int, Truth, Variant}
use Rattle.aerie_base.specs.declared.models.Activity.{Activity}
use Rattle.aerie_base.specs.declared.models.Parameter.{Parameter}
use Rattle.aerie_base.specs.declared.models.model.Parts.{Parts}
use Rattle.aerie_base.specs.declared.plans.Directive.{Directive}
use Rattle.aerie_base.specs.declared.plans.Plan.{Plan}
use Rattle.aerie_base.specs.models.Signatures.{parameter_kinds}
use Rattle.aerie_base.specs.plans.OfModel.{is_directive_of, takes}
use Rattle.std.specs.List.{list_all}
use Rattle.plan_edit.specs.declared.errors.MigrateError.{MigrateError}
use Rattle.plan_edit.specs.declared.errors.MigrateError.TheVariants.{Unmapped, Misfit, OutOfMemory}
use Rattle.plan_edit.specs.declared.mappings.Feed.{Feed}
use Rattle.plan_edit.specs.declared.mappings.Feed.TheVariants.{Old, Fixed}
use Rattle.plan_edit.specs.declared.mappings.TypeRule.{TypeRule}
use Rattle.plan_edit.specs.declared.mappings.Mapping.{Mapping}
use Rattle.plan_edit.specs.Requires.{first_unmet}
use Rattle.plan_edit.specs.Answers.{put_in_front}

-- ---- values

-- the variant with the same number of an enumeration; another value stays
abbrev pub retyped : Kind → Value → Value
retyped kind.Int value = value
retyped kind.Truth value = value
retyped (kind.Enum to) (Int number) = Int number
retyped (kind.Enum to) (Truth truth) = Truth truth
retyped (kind.Enum to) (Variant from number) = Variant to number

-- what a parameter of a type gets from the old arguments
abbrev pub mapped_argument : List Value → Kind → Feed → Value
mapped_argument arguments kind (Old position) = retyped kind (slice_index_or arguments position (Int (pos 0)))
mapped_argument arguments kind (Fixed value) = value

-- what the parameters get, one for each feed
abbrev pub mapped_arguments : List Value → List Kind → List Feed → List Value
mapped_arguments arguments [] feeds = []
mapped_arguments arguments (kind ∷ kinds) [] = []
mapped_arguments arguments (kind ∷ kinds) (feed ∷ feeds) = mapped_argument arguments kind feed ∷ mapped_arguments arguments kinds feeds

abbrev pub kinds_of_parameters : List Parameter → List Kind
kinds_of_parameters parameters = map (λ parameter. parameter.kind) parameters

-- ---- directives

-- whether a directive has arguments of its type's parameters
abbrev pub takes_arguments : Parts → Directive → Bool
takes_arguments model directive = takes model.enums (slice_get model.activities directive.kind) directive.arguments

-- these are directives of some plan of the model
abbrev pub AreDirectivesOf : Parts → List Directive → Type 0
AreDirectivesOf model directives = (plan : Plan) × IsTrue (list_all (is_directive_of model plan) directives)

-- the first rule for a type
abbrev pub rule_of : List TypeRule → ℕ → Option TypeRule
rule_of rules kind = find (λ rule. nat_eq rule.old kind) rules

-- a directive of another type, with other arguments
abbrev pub retyped_directive : Directive → ℕ → List Value → Directive
retyped_directive directive kind values = record directive { kind = kind; arguments = values }

abbrev pub unless_misfit : {A : Type 0} → ℕ → Option ℕ → A → Result A MigrateError
unless_misfit id None made = Ok made
unless_misfit id (Some number) made = Err (Misfit id number)

abbrev pub requires_of : Option Activity → List Value → Option ℕ
requires_of None values = None
requires_of (Some activity) values = first_unmet 0 values activity.requires_

abbrev pub parameter_kinds_of : Option Activity → List Kind
parameter_kinds_of None = []
parameter_kinds_of (Some activity) = parameter_kinds activity

-- what a rule makes of a directive, where the `require`s of the new type are met
abbrev pub ruled : Directive → ℕ → Option Activity → List Value → Result Directive MigrateError
ruled directive kind activity values = unless_misfit directive.id (requires_of activity values) (retyped_directive directive kind values)

abbrev pub by_rule : Parts → Directive → Option TypeRule → Result Directive MigrateError
by_rule new directive None = Err (Unmapped directive.id)
by_rule new directive (Some rule) =
    ruled directive rule.new (slice_get new.activities rule.new)
    (mapped_arguments directive.arguments (parameter_kinds_of (slice_get new.activities rule.new)) rule.feeds)

-- what becomes of a directive
abbrev pub migrated : Parts → Mapping → Directive → Result Directive MigrateError
migrated new mapping directive = by_rule new directive (rule_of mapping.rules directive.kind)

-- ---- plans

-- what becomes of directives, or why nothing: for the first for which there is a cause
abbrev pub all_migrated : Parts → Mapping → List Directive → Result (List Directive) MigrateError
all_migrated new mapping [] = Ok []
all_migrated new mapping (directive ∷ rest) = put_in_front (migrated new mapping directive) (all_migrated new mapping rest)

abbrev pub with_migrated : Plan → ℕ → Result (List Directive) MigrateError → Result Plan MigrateError
with_migrated plan model (Ok directives) = Ok (record plan { model = model; directives = directives })
with_migrated plan model (Err refusal) = Err refusal

-- the plan in the new model. Ids, starts, anchors, duration and next id stay.
abbrev pub migrate_of : Parts → Mapping → Plan → Result Plan MigrateError
migrate_of new mapping plan = with_migrated plan mapping.to (all_migrated new mapping plan.directives)

-- this is why a plan does not migrate: the refusal, or want of memory
abbrev pub IsMigrateRefusal : {A : Type 0} → Result A MigrateError → MigrateError → Type 0
IsMigrateRefusal made OutOfMemory = Unit {0}
IsMigrateRefusal made (Unmapped id) = made ≡ Err (Unmapped id)
IsMigrateRefusal made (Misfit id number) = made ≡ Err (Misfit id number)

-- this is what becomes of something, or why nothing does
abbrev pub IsMigrated : {A : Type 0} → Result A MigrateError → Result A MigrateError → Type 0
IsMigrated made (Ok part) = made ≡ Ok part
IsMigrated made (Err refusal) = IsMigrateRefusal made refusal

-- ---- a table of rules by old type

-- at the position of each type stands the position of the first rule for it, where there is one
abbrev pub IsRuleTable : List TypeRule → List (Option ℕ) → Type 0
IsRuleTable rules table =
    (kind : ℕ) → kind < length table → option_and_then (slice_get rules) (slice_index_or table kind None) ≡ rule_of rules kind

-- whether a feed is of one of so many old parameters, where it is of one
abbrev pub is_feed_within : ℕ → Feed → Bool
is_feed_within count (Old position) = nat_lt position count
is_feed_within count (Fixed value) = true
