-- The violations of constraints by a run, as the value that is printed.
use Rattle.std.specs.Prelude.{◌≡◌, ℕ, Bool, true, false, List, [], ◌∷◌, codes, flat_map, map, Option, Some, None, refl}
use Rattle.std.specs.Fmt.{digits}
use Rattle.json.specs.Print.{escape_byte}
use Rattle.serde_json.specs.Data.{Data, array, item, no_items, string}
use Rattle.serde_json.specs.View.{items_of}
use Rattle.serde_json.specs.Written.{compact_text}
use Rattle.aerie_base.specs.Paths.{directive_path, root}
use Rattle.aerie_base.specs.declared.models.model.Parts.{Parts}
use Rattle.json_line.specs.Json.{object_of}
use Rattle.constraints.specs.Violating.{violations_of}
use Rattle.constraints.specs.declared.types.Constraint.{Constraint}
use Rattle.constraints.specs.declared.types.Rule.{Rule}
use Rattle.constraints.specs.declared.types.Rule.TheVariants.{Plain, Each, Forbid}
use Rattle.constraints.specs.declared.violation.Violation.{Violation}
use Rattle.findings.specs.MeetingPairs.{PathPair, paired_intervals}
use Rattle.findings.specs.declared.pairs.PairedInterval.{PairedInterval}
use Rattle.json_line.specs.Parts.{optional_data}
use Rattle.run_data.specs.Spans.{spans_of}
use Rattle.run_data.specs.declared.runs.Run.{Run}
use Rattle.windows.specs.Times.{Interval}
use Rattle.json_line.specs.Numbers.{natural_data}
use Rattle.json_line.specs.PathTexts.{path_data}

-- ---- intervals

-- its start and its end
abbrev pub interval_data : Interval → Data
interval_data interval = array (item (natural_data interval.0) (item (natural_data interval.1) no_items))

abbrev pub intervals_data : List Interval → Data
intervals_data intervals = array (items_of (map interval_data intervals))

abbrev pub pair_data : PathPair → Data
pair_data pair = array (item (path_data pair.0) (item (path_data pair.1) no_items))

-- both, and something behind them
abbrev pub interval_with : ℕ → ℕ → Data → Data
interval_with from to behind = array (item (natural_data from) (item (natural_data to) (item behind no_items)))

-- behind both the paths of two spans that meet at the start, where there are such
abbrev pub with_pair_data : ℕ → ℕ → Option PathPair → Data
with_pair_data from to None = interval_data (from, to)
with_pair_data from to (Some pair) = interval_with from to (pair_data pair)

abbrev pub paired_data : PairedInterval → Data
paired_data interval = with_pair_data interval.from interval.to interval.pair

abbrev pub paired_list_data : List PairedInterval → Data
paired_list_data intervals = array (items_of (map paired_data intervals))

-- ---- violations

-- a violation of the constraint with a name, by its intervals: the path of the span for which it does not hold is null where it
-- is of no span
abbrev pub violation_by : List ℕ → Option (List ℕ) → Data → Data
violation_by constraint path intervals =
    object_of ((codes "constraint", string constraint) ∷ (codes "intervals", intervals) ∷ (codes "path", optional_data path_data path) ∷ [])

abbrev pub plain_violation_data : List ℕ → Violation → Data
plain_violation_data constraint violation = violation_by constraint violation.path (intervals_data violation.intervals.intervals)

-- one of two types that exclude one another: with each interval the least pair of spans that meet at its start
abbrev pub meeting_violation_data : Parts → Run → List ℕ → ℕ → ℕ → Violation → Data
meeting_violation_data model run constraint one other violation =
    violation_by constraint violation.path
    (paired_list_data (paired_intervals run.reach one other (spans_of model run) violation.intervals.intervals))

-- by the rule
abbrev pub detailed_violation_data : Parts → Run → List ℕ → Rule → Violation → Data
detailed_violation_data model run constraint (Plain window) violation = plain_violation_data constraint violation
detailed_violation_data model run constraint (Each kind window) violation = plain_violation_data constraint violation
detailed_violation_data model run constraint (Forbid one other) violation = meeting_violation_data model run constraint one other violation

-- where details are told, and where they are not
abbrev pub violation_data : Bool → Parts → Run → Constraint → Violation → Data
violation_data true model run constraint violation = detailed_violation_data model run constraint.name constraint.rule violation
violation_data false model run constraint violation = plain_violation_data constraint.name violation

-- those of a constraint, in their order
abbrev pub constraint_data : Bool → Parts → Run → Constraint → List Data
constraint_data detail model run constraint = map (violation_data detail model run constraint) (violations_of model run constraint)

-- those of all constraints, in the order of these
abbrev pub violations_data : Bool → Parts → Run → List Constraint → Data
violations_data detail model run constraints = array (items_of (flat_map (constraint_data detail model run) constraints))

-- ---- worked cases

pub two_that_meet : compact_text (paired_data (record { from = 8; to = 15; pair = Some (root 1, directive_path 2 (0 ∷ [])) })) ≡ codes "[8,15,[\"1\",\"2.0\"]]"
unfolding digits escape_byte
two_that_meet = refl
