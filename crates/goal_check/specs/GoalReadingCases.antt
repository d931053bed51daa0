-- Worked cases of goals that are read.
use Rattle.std.specs.Prelude.{◌≡◌, ℕ, ◌+◌, ℤ, pos, negsuc, false, List, [], ◌∷◌, codes, None, refl}
use Rattle.aerie_base.specs.declared.models.Activity.{Activity}
use Rattle.aerie_base.specs.declared.models.model.Parts.{Parts}
use Rattle.aerie_base.specs.declared.places.Place.{Place}
use Rattle.aerie_base.specs.declared.values.Kind.TheVariants.{Int}
use Rattle.aerie_base.specs.declared.values.Value.TheVariants as value
use Rattle.model_reader.specs.declared.raw.literals.RawLiteralKind.{RawLiteralKind}
use Rattle.model_reader.specs.declared.raw.literals.RawLiteralKind.TheVariants as literal
use Rattle.model_reader.specs.declared.raw.names.RawName.{RawName}
use Rattle.rule_grammar.specs.declared.raw.goals.RawAnchor.TheVariants as raw_anchor
use Rattle.rule_grammar.specs.declared.raw.goals.RawGoal.{RawGoal}
use Rattle.rule_grammar.specs.declared.raw.goals.RawGoalKind.{RawGoalKind}
use Rattle.rule_grammar.specs.declared.raw.goals.RawGoalKind.TheVariants as raw_kind
use Rattle.rule_grammar.specs.declared.raw.goals.RawNumber.{RawNumber}
use Rattle.rule_check.specs.declared.causes.WrongRule.TheVariants.{Unknown, Duplicate, WrongType, OutOfRange}
use Rattle.diagnostics.specs.Diagnostics.{at_place}
use Rattle.goals.specs.declared.types.GoalKind.TheVariants as goal_kind
use Rattle.goal_check.specs.GoalMeaning.{meant_goals}
use Rattle.goal_check.specs.GoalRefusals.{refusals_of_goals}
use Rattle.goal_check.specs.TemplateMeaning.{Argument}

-- an activity type with a number
abbrev bump : Activity
bump = record {
  name = codes "Bump";
  parameters = record { name = codes "by"; kind = Int; default = None } ∷ [];
  result = None;
  requires_ = [];
  slots = 1;
  body = [];
}

abbrev model : Parts
model = record { name = codes "m"; enums = []; cells = []; resources = []; activities = bump ∷ []; daemons = [] }

abbrev at : ℕ → Place
at column = record { line = 1; column = column }

abbrev named : ℕ → List ℕ → RawName
named column name = record { at = at column; name = name }

abbrev by : ℕ → RawLiteralKind → Argument
by column what = (named column (codes "by"), record { at = at (column + 5); what = what })

abbrev number_at : ℕ → ℤ → RawNumber
number_at column number = record { at = at column; number = number }

abbrev goal : List Argument → RawGoalKind → List RawName → RawGoal
goal arguments kind keeping = record {
  name = named 1 (codes "g");
  template = record { kind = named 16 (codes "Bump"); arguments = arguments };
  kind = kind;
  keeping = keeping;
  rollback = false;
}

-- so many starts in the first ten microseconds
abbrev counted : ℕ → RawGoalKind
counted count = raw_kind.Cardinality (number_at 40 (pos count)) (record { from = pos 0; to = number_at 50 (pos 10) })

-- a start beside each end of a span of the same type
abbrev beside : ℤ → ℤ → RawGoalKind
beside from to = raw_kind.Coexistence (raw_anchor.Ends (named 40 (codes "Bump"))) from (number_at 60 to)

abbrev three : Argument
three = by 21 (literal.Number (pos 3))

pub a_goal_that_is_read : meant_goals model [] (goal (three ∷ []) (counted 2) [] ∷ []) ≡ record {
  name = codes "g";
  template = record { kind = 0; arguments = value.Int (pos 3) ∷ [] };
  kind = goal_kind.Cardinality 2 0 10;
  keeping = [];
  rollback = false;
} ∷ []
a_goal_that_is_read = refl

pub nothing_is_refused : refusals_of_goals model 10 [] [] (goal (three ∷ []) (counted 2) [] ∷ []) ≡ []
nothing_is_refused = refl

pub a_range_behind_the_plan : refusals_of_goals model 9 [] [] (goal (three ∷ []) (counted 2) [] ∷ []) ≡ at_place OutOfRange (at 50)
a_range_behind_the_plan = refl

pub no_starts_at_all : refusals_of_goals model 10 [] [] (goal (three ∷ []) (counted 0) [] ∷ []) ≡ at_place OutOfRange (at 40)
no_starts_at_all = refl

pub a_missing_argument : refusals_of_goals model 10 [] [] (goal [] (counted 1) [] ∷ []) ≡ at_place WrongType (at 16)
a_missing_argument = refl

pub an_argument_twice : refusals_of_goals model 10 [] [] (goal (three ∷ by 31 (literal.Number (pos 4)) ∷ []) (counted 1) [] ∷ []) ≡ at_place Duplicate (at 31)
an_argument_twice = refl

pub an_end_before_its_begin : refusals_of_goals model 10 [] [] (goal (three ∷ []) (beside (pos 1) (pos 0)) [] ∷ []) ≡ at_place OutOfRange (at 60)
an_end_before_its_begin = refl

pub no_such_constraint : refusals_of_goals model 10 [] [] (goal (three ∷ []) (beside (negsuc 0) (pos 0)) (named 70 (codes "c") ∷ []) ∷ []) ≡ at_place Unknown (at 70)
no_such_constraint = refl
