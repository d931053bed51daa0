-- What the reader of a session judges: how much it has of each sort, how long its plan lasts, in which range its numbers lie, and
-- where the rules of its sections stand.
use Rattle.std.specs.Prelude.{◌≡◌, ℕ, ◌≤◌, List, Option, Some, None, length}
use Rattle.std.specs.List.{AllByRecursion}
use Rattle.model_reader.specs.Limits.{CountNumbers, IsLiteralInRange, IsWithinLimits}
use Rattle.readers.specs.Marks.{Mark}
use Rattle.readers.specs.Parsed.{parsed}
use Rattle.session_grammar.specs.declared.raw.clients.RawClient.{RawClient}
use Rattle.session_grammar.specs.declared.raw.mappings.RawFeed.{RawFeed}
use Rattle.session_grammar.specs.declared.raw.mappings.RawFeedValue.{RawFeedValue}
use Rattle.session_grammar.specs.declared.raw.mappings.RawFeedValue.TheVariants as fed
use Rattle.session_grammar.specs.declared.raw.mappings.RawMapping.{RawMapping}
use Rattle.session_grammar.specs.declared.raw.mappings.RawTypeRule.{RawTypeRule}
use Rattle.session_grammar.specs.declared.raw.plans.RawBeginning.{RawBeginning}
use Rattle.session_grammar.specs.declared.raw.plans.RawPlan.{RawPlan}
use Rattle.session_grammar.specs.declared.raw.plans.RawRate.{RawRate}
use Rattle.session_grammar.specs.declared.raw.sections.RawSection.{RawSection}
use Rattle.session_grammar.specs.declared.raw.sessions.RawSession.{RawSession}
use Rattle.session_grammar.specs.reading.Commands.{command_limit}
use Rattle.session_grammar.specs.reading.Mappings.{mapping_limit}
use Rattle.session_grammar.specs.reading.Plans.{dataset_limit}
use Rattle.session_grammar.specs.reading.Sessions.{client_limit, model_limit, whole_session_at}

-- the number of a literal that a parameter gets has its range
abbrev pub IsFedInRange : RawFeedValue → Type 0
IsFedInRange (fed.Parameter name) = Unit {0}
IsFedInRange (fed.Literal literal) = IsLiteralInRange literal.what

abbrev pub IsFeedInRange : RawFeed → Type 0
IsFeedInRange feed = IsFedInRange feed.value

abbrev pub AreFeedsInRange : List RawFeed → Type 0
AreFeedsInRange = AllByRecursion IsFeedInRange

abbrev pub IsTypeRuleInRange : RawTypeRule → Type 0
IsTypeRuleInRange rule = AreFeedsInRange rule.feeds

abbrev pub IsMappingInRange : RawMapping → Type 0
IsMappingInRange mapping = AllByRecursion IsTypeRuleInRange mapping.rules

-- the numbers of what a cell begins with have their range
abbrev pub IsRateInRange : Option RawRate → Type 0
IsRateInRange (Some rate) = IsLiteralInRange rate.rate.what
IsRateInRange None = Unit {0}

abbrev pub IsBeginningInRange : RawBeginning → Type 0
IsBeginningInRange beginning = IsLiteralInRange beginning.value.what × IsRateInRange beginning.rate

-- the plan lasts some time, and each number of a beginning has its range
pub record IsLimitedPlan (plan : RawPlan) : Type 0 where
  pub lasts : 1 ≤ plan.duration
  pub beginnings : AllByRecursion IsBeginningInRange plan.beginnings

-- the rules of the section stand in a row among so many tokens
pub record IsRangeWithin (count : ℕ) (section : RawSection) : Type 0 where
  pub rises : section.from ≤ section.to
  pub within : section.to ≤ count

abbrev pub AreRangesWithin : ℕ → List RawSection → Type 0
AreRangesWithin count = AllByRecursion (IsRangeWithin count)

-- at most so many commands
abbrev pub IsLimitedClient : RawClient → Type 0
IsLimitedClient client = length client.commands ≤ command_limit

-- a session in a text of so many tokens
pub record IsLimitedSession (count : ℕ) (raw : RawSession) : Type 0 where
  pub models : AllByRecursion IsWithinLimits raw.models
  pub some_models : 1 ≤ length raw.models
  pub few_models : length raw.models ≤ model_limit
  pub literals : AllByRecursion IsMappingInRange raw.mappings
  pub few_mappings : length raw.mappings ≤ mapping_limit
  pub lasts : 1 ≤ raw.plan.duration
  pub beginnings : AllByRecursion IsBeginningInRange raw.plan.beginnings
  pub few_datasets : length raw.datasets ≤ dataset_limit
  pub constraints : AreRangesWithin count raw.sections.constraints
  pub goals : AreRangesWithin count raw.sections.goals
  pub sequences : AreRangesWithin count raw.sections.sequences
  pub commands : AllByRecursion IsLimitedClient raw.clients
  pub few_clients : length raw.clients ≤ client_limit

-- what is read of marks that count numbers is within the limits
abbrev pub ReadsLimitedSessions : Type 0
ReadsLimitedSessions = (marks rest : List Mark) (raw : RawSession) → CountNumbers marks → whole_session_at marks ≡ parsed raw rest → IsLimitedSession (length marks) raw
