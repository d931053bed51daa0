-- The mappings from one model to another that may be used: those that fit both models.
use Rattle.std.specs.Prelude.{Bool, true, false, ◌&&◌, IsTrue, List, [], ◌∷◌, Option, Some, None, slice_get}
use Rattle.std.specs.List.{list_all}
use Rattle.std.specs.Cmp.Lexicographic.{pointwise}
use Rattle.aerie_base.specs.declared.values.Kind.{Kind}
use Rattle.aerie_base.specs.declared.values.Kind.TheVariants.{Int, Truth, Enum}
use Rattle.aerie_base.specs.declared.models.EnumType.{EnumType}
use Rattle.aerie_base.specs.declared.models.Activity.{Activity}
use Rattle.aerie_base.specs.declared.models.model.Parts.{Parts}
use Rattle.aerie_base.specs.models.Names.{same_name}
use Rattle.aerie_base.specs.models.Signatures.{parameter_kinds}
use Rattle.aerie_base.specs.models.Values.{is_value_of}
use Rattle.plan_edit.specs.declared.mappings.Feed.{Feed}
use Rattle.plan_edit.specs.declared.mappings.Feed.TheVariants.{Old, Fixed}
use Rattle.plan_edit.specs.declared.mappings.TypeRule.{TypeRule}
use Rattle.plan_edit.specs.declared.mappings.Mapping.{Mapping}

-- whether two enumerations have the same list of variant names
abbrev pub same_variants : Option EnumType → Option EnumType → Bool
same_variants None other = false
same_variants (Some enum) None = false
same_variants (Some enum) (Some other) = pointwise same_name enum.variants other.variants

-- whether values of a type of the old model may feed a parameter of a type of the new one
abbrev pub may_feed : List EnumType → List EnumType → Kind → Kind → Bool
may_feed old new Int Int = true
may_feed old new Int Truth = false
may_feed old new Int (Enum to) = false
may_feed old new Truth Int = false
may_feed old new Truth Truth = true
may_feed old new Truth (Enum to) = false
may_feed old new (Enum from) Int = false
may_feed old new (Enum from) Truth = false
may_feed old new (Enum from) (Enum to) = same_variants (slice_get old from) (slice_get new to)

abbrev pub feeds_from : List EnumType → List EnumType → Option Kind → Kind → Bool
feeds_from old new None kind = false
feeds_from old new (Some from) kind = may_feed old new from kind

-- whether this may feed a parameter of a type, by the types of the old parameters
abbrev pub is_feed : List EnumType → List EnumType → List Kind → Kind → Feed → Bool
is_feed old new kinds kind (Old position) = feeds_from old new (slice_get kinds position) kind
is_feed old new kinds kind (Fixed value) = is_value_of new kind value

-- whether there is a feed for each parameter
abbrev pub are_feeds : List EnumType → List EnumType → List Kind → List Kind → List Feed → Bool
are_feeds old new from [] [] = true
are_feeds old new from [] (feed ∷ feeds) = false
are_feeds old new from (kind ∷ kinds) [] = false
are_feeds old new from (kind ∷ kinds) (feed ∷ feeds) = is_feed old new from kind feed && are_feeds old new from kinds feeds

abbrev pub is_rule_for : Parts → Parts → List Feed → Option Activity → Option Activity → Bool
is_rule_for old new feeds None to = false
is_rule_for old new feeds (Some from) None = false
is_rule_for old new feeds (Some from) (Some to) = are_feeds old.enums new.enums (parameter_kinds from) (parameter_kinds to) feeds

-- whether a rule is from a type of the old model to one of the new
abbrev pub is_type_rule : Parts → Parts → TypeRule → Bool
is_type_rule old new rule = is_rule_for old new rule.feeds (slice_get old.activities rule.old) (slice_get new.activities rule.new)

-- the condition on a mapping. That no type has two rules is not asked: the first rule counts.
abbrev pub IsMappingOf : Parts → Parts → Mapping → Type 0
IsMappingOf old new mapping = IsTrue (list_all (is_type_rule old new) mapping.rules)
