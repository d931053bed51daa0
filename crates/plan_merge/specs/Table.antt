-- What becomes of a directive of the base, by what source and target made of it.
use Rattle.std.specs.Prelude.{◌≡◌, Bool, true, false, ◌&&◌, ◌||◌, List, [], ◌∷◌, Option, Some, None, Result, Ok, Err, nat_eq, if◌then◌else◌}
use Rattle.aerie_base.specs.declared.values.Value.{Value}
use Rattle.aerie_base.specs.declared.plans.Anchor.{Anchor}
use Rattle.aerie_base.specs.declared.plans.Edge.{Edge}
use Rattle.aerie_base.specs.declared.plans.Edge.TheVariants.{Start, End}
use Rattle.aerie_base.specs.declared.plans.Directive.{Directive}
use Rattle.aerie_base.specs.expressions.Arithmetic.{same_value}
use Rattle.plan_merge.specs.declared.answers.ConflictKind.{ConflictKind}
use Rattle.plan_merge.specs.declared.answers.ConflictKind.TheVariants.{Both, Removed}

-- ---- equal directives

abbrev pub same_values : List Value → List Value → Bool
same_values [] [] = true
same_values [] (other ∷ others) = false
same_values (value ∷ values) [] = false
same_values (value ∷ values) (other ∷ others) = same_value value other && same_values values others

abbrev pub same_edge : Edge → Edge → Bool
same_edge Start Start = true
same_edge Start End = false
same_edge End Start = false
same_edge End End = true

abbrev pub same_anchor : Option Anchor → Option Anchor → Bool
same_anchor None None = true
same_anchor None (Some other) = false
same_anchor (Some anchor) None = false
same_anchor (Some anchor) (Some other) = nat_eq anchor.to other.to && same_edge anchor.edge other.edge

-- whether type, arguments, start and anchor are equal
abbrev pub same : Directive → Directive → Bool
same directive other =
    nat_eq directive.kind other.kind && (same_values directive.arguments other.arguments && (nat_eq directive.start other.start && same_anchor directive.anchor other.anchor))

-- equal directives, part by part
abbrev pub IsSame : Directive → Directive → Type 0
IsSame directive other =
    (directive.kind ≡ other.kind) × ((directive.arguments ≡ other.arguments) × ((directive.start ≡ other.start) × (directive.anchor ≡ other.anchor)))

-- ---- the table

-- the directive that the merged plan has for one of the base, or none, or the conflict: by the base's, the source's (renamed)
-- and the target's, as far as they are there
abbrev pub row : Directive → Option Directive → Option Directive → Result (Option Directive) ConflictKind
row base (Some source) (Some target) =
    if same source base || same source target then Ok (Some target) else if same target base then Ok (Some source) else Err Both
row base None (Some target) = if same target base then Ok None else Err Removed
row base (Some source) None = if same source base then Ok None else Err Removed
row base None None = Ok None
