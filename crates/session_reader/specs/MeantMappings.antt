-- The mappings that are meant; where something is wrong with one, it is never used.
use Rattle.std.specs.Prelude.{ℕ, false, List, [], Option, Some, None, find, map}
use Rattle.aerie_base.specs.declared.models.Activity.{Activity}
use Rattle.aerie_base.specs.declared.models.Parameter.{Parameter}
use Rattle.aerie_base.specs.declared.models.model.Parts.{Parts}
use Rattle.aerie_base.specs.declared.values.Value.{Value}
use Rattle.aerie_base.specs.declared.values.Value.TheVariants.{Truth}
use Rattle.aerie_base.specs.models.Names.{same_name}
use Rattle.diagnostics.specs.ShortNumbers.{short}
use Rattle.plan_edit.specs.declared.mappings.Feed.{Feed}
use Rattle.plan_edit.specs.declared.mappings.Feed.TheVariants.{Old, Fixed}
use Rattle.plan_edit.specs.declared.mappings.TypeRule.{TypeRule}
use Rattle.plan_edit.specs.declared.mappings.Mapping.{Mapping}
use Rattle.plan_edit.specs.Arguments.{parameter_position}
use Rattle.plan_edit.specs.Editing.{type_position}
use Rattle.session_grammar.specs.declared.raw.mappings.RawFeed.{RawFeed}
use Rattle.session_grammar.specs.declared.raw.mappings.RawFeedValue.{RawFeedValue}
use Rattle.session_grammar.specs.declared.raw.mappings.RawFeedValue.TheVariants as feed
use Rattle.session_grammar.specs.declared.raw.mappings.RawMapping.{RawMapping}
use Rattle.session_grammar.specs.declared.raw.mappings.RawTypeRule.{RawTypeRule}
use Rattle.session_reader.specs.KnownParts.{model_position, model_named, type_named}
use Rattle.session_reader.specs.Literals.{literal_value}

-- the number of a part at a position, which has 16 bits
abbrev pub number_at : Option ℕ → ℕ
number_at None = 0
number_at (Some place) = short place

-- ---- feeds

abbrev pub default_of : Option Value → Value
default_of None = Truth false
default_of (Some value) = value

abbrev pub feed_written : Parts → Activity → RawFeedValue → Feed
feed_written new from (feed.Parameter name) = Old (number_at (parameter_position from.parameters name.name))
feed_written new from (feed.Literal literal) = Fixed (literal_value new.enums literal.what)

-- what a parameter gets: what its feed says, or else its default
abbrev pub feed_or_default : Parts → Activity → Parameter → Option RawFeed → Feed
feed_or_default new from parameter None = Fixed (default_of parameter.default)
feed_or_default new from parameter (Some raw) = feed_written new from raw.value

abbrev pub feed_for : Parts → Activity → List RawFeed → Parameter → Feed
feed_for new from feeds parameter =
    feed_or_default new from parameter (find (λ raw. same_name raw.parameter.name parameter.name) feeds)

-- ---- rules

-- a feed for each parameter of the new type, in their order
abbrev pub feeds_between : Parts → List RawFeed → Option Activity → Option Activity → List Feed
feeds_between new feeds None to = []
feeds_between new feeds (Some from) None = []
feeds_between new feeds (Some from) (Some to) = map (feed_for new from feeds) to.parameters

abbrev pub rule_meant : Parts → Parts → RawTypeRule → TypeRule
rule_meant old new raw =
    record {
      old = number_at (type_position old raw.old.name);
      new = number_at (type_position new raw.new.name);
      feeds = feeds_between new raw.feeds (type_named old raw.old.name) (type_named new raw.new.name);
    }

-- ---- mappings

abbrev pub rules_among : List RawTypeRule → Option Parts → Option Parts → List TypeRule
rules_among rules None new = []
rules_among rules (Some old) None = []
rules_among rules (Some old) (Some new) = map (rule_meant old new) rules

abbrev pub mapping_meant : List Parts → RawMapping → Mapping
mapping_meant models raw =
    record {
      from = number_at (model_position models raw.from.name);
      to = number_at (model_position models raw.to.name);
      rules = rules_among raw.rules (model_named models raw.from.name) (model_named models raw.to.name);
    }

abbrev pub mappings_meant : List Parts → List RawMapping → List Mapping
mappings_meant models mappings = map (mapping_meant models) mappings
