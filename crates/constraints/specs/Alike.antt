-- Two runs that are alike in what a rule names: the same spans of each type, the same values of each resource. The rule has the same
-- violations on both.
use Rattle.std.specs.Prelude.{◌≡◌, ℕ, ◌<◌, Bool, true, false, ◌||◌, List, [], ◌∷◌, None, nat_eq, slice_get, if◌then◌else◌, refl}
use Rattle.aerie_base.specs.declared.models.model.Parts.{Parts}
use Rattle.run_data.specs.declared.runs.Run.{Run}
use Rattle.run_data.specs.Spans.{SpanOf, spans_of}
use Rattle.constraints.specs.declared.types.Rule.{Rule}
use Rattle.constraints.specs.declared.types.Rule.TheVariants.{Plain, Each, Forbid}
use Rattle.constraints.specs.declared.types.Constraint.{Constraint}
use Rattle.constraints.specs.Holding.{value_of_resource}
use Rattle.constraints.specs.NamedParts.{names_resource, names_type}
use Rattle.constraints.specs.Violating.{violations_of}

-- ---- what a rule names

-- whether a rule names the activity type with the number
abbrev pub rule_names_type : ℕ → Rule → Bool
rule_names_type kind (Plain window) = names_type kind window
rule_names_type kind (Each judged window) = nat_eq judged kind || names_type kind window
rule_names_type kind (Forbid one other) = nat_eq one kind || nat_eq other kind

-- whether it names the resource with the number
abbrev pub rule_names_resource : ℕ → Rule → Bool
rule_names_resource number (Plain window) = names_resource number window
rule_names_resource number (Each judged window) = names_resource number window
rule_names_resource number (Forbid one other) = false

-- ---- runs

-- those spans that are of a type, in their order
abbrev pub spans_of_type : ℕ → List SpanOf → List SpanOf
spans_of_type kind [] = []
spans_of_type kind (span ∷ rest) = if nat_eq span.kind kind then span ∷ spans_of_type kind rest else spans_of_type kind rest

-- two runs have the same values of a resource
abbrev pub HaveSameValues : Parts → Run → Run → ℕ → Type 0
HaveSameValues model run other number =
    (t : ℕ) → t < run.reach →
    value_of_resource model run (slice_get model.resources number) t ≡ value_of_resource model other (slice_get model.resources number) t

-- the same values of each resource that a rule names
abbrev pub SameNamed : Parts → Run → Run → Rule → Type 0
SameNamed model run other rule = (number : ℕ) → rule_names_resource number rule ≡ true → HaveSameValues model run other number

-- two runs end at the same time, and have the same spans of each type and the same values of each resource that a rule names
pub record AreAlikeFor (model : Parts) (run other : Run) (rule : Rule) : Type 0 where
  pub reach : run.reach ≡ other.reach
  pub spans : (kind : ℕ) → rule_names_type kind rule ≡ true → spans_of_type kind (spans_of model run) ≡ spans_of_type kind (spans_of model other)
  pub values : SameNamed model run other rule

-- a constraint has the same violations on two runs that are alike in what it names
abbrev pub AlikeRunsAreJudgedAlike : Type 0
AlikeRunsAreJudgedAlike =
    (model : Parts) (run other : Run) (constraint : Constraint) → AreAlikeFor model run other constraint.rule →
    violations_of model run constraint ≡ violations_of model other constraint

-- ---- worked cases

abbrev a_span : ℕ → ℕ → SpanOf
a_span id kind = record { path = id ∷ []; kind = kind; arguments = []; start = id; end = None; result = None }

-- a span of another type makes no difference
pub one_type_alone : spans_of_type 1 (a_span 3 1 ∷ a_span 5 0 ∷ a_span 8 1 ∷ []) ≡ spans_of_type 1 (a_span 3 1 ∷ a_span 8 1 ∷ [])
one_type_alone = refl
