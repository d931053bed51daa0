-- Worked cases of the edits.
use Rattle.std.specs.Prelude.{◌≡◌, ℕ, pos, true, false, List, [], ◌∷◌, codes, Some, None, Ok, Err, refl}
use Rattle.aerie_base.specs.declared.values.Kind.TheVariants as kind
use Rattle.aerie_base.specs.declared.values.Value.TheVariants.{Int, Truth, Variant}
use Rattle.aerie_base.specs.declared.arguments.RawValue.{RawValue}
use Rattle.aerie_base.specs.declared.arguments.RawValue.TheVariants as raw
use Rattle.aerie_base.specs.declared.arguments.RawArgument.{RawArgument}
use Rattle.aerie_base.specs.declared.operands.Operand.TheVariants.{Local}
use Rattle.aerie_base.specs.declared.expressions.Expr.{Operand}
use Rattle.aerie_base.specs.declared.models.EnumType.{EnumType}
use Rattle.aerie_base.specs.declared.models.Activity.{Activity}
use Rattle.aerie_base.specs.declared.models.model.Parts.{Parts}
use Rattle.aerie_base.specs.declared.plans.Edge.TheVariants.{End}
use Rattle.aerie_base.specs.declared.plans.When.{When}
use Rattle.aerie_base.specs.declared.plans.Directive.{Directive}
use Rattle.aerie_base.specs.declared.plans.Plan.{Plan}
use Rattle.aerie_base.specs.expressions.Evaluation.{evaluated}
use Rattle.plan_edit.specs.declared.errors.EditError.TheVariants.{NoDirective, UnknownType, BadArgument, Invalid, OutsidePlan, TooMany, NoAnchor, Cycle, Anchored}
use Rattle.plan_edit.specs.Editing.{add_of, remove_of, move_of, set_of}

-- ---- a model: Bump(by: int), and Check(ok: truth, mode: Mode = Mode.SAFE) that requires ok

abbrev mode : EnumType
mode = record { name = codes "Mode"; variants = codes "SAFE" ∷ codes "NOMINAL" ∷ [] }

abbrev bump : Activity
bump = record {
  name = codes "Bump";
  parameters = record { name = codes "by"; kind = kind.Int; default = None } ∷ [];
  result = None;
  requires_ = [];
  slots = 1;
  body = [];
}

abbrev check : Activity
check = record {
  name = codes "Check";
  parameters = record { name = codes "ok"; kind = kind.Truth; default = None }
      ∷ record { name = codes "mode"; kind = kind.Enum 0; default = Some (Variant 0 0) } ∷ [];
  result = None;
  requires_ = Operand (Local 0) ∷ [];
  slots = 2;
  body = [];
}

abbrev pub model : Parts
model = record { name = codes "m"; enums = mode ∷ []; cells = []; resources = []; activities = bump ∷ check ∷ []; daemons = [] }

-- ---- plans of 100 microseconds

abbrev pub plan : ℕ → List Directive → Plan
plan next_id directives = record { model = 0; duration = 100; next_id = next_id; directives = directives }

abbrev pub at : ℕ → When
at start = record { start = start; anchor = None }

abbrev pub behind : ℕ → When
behind to = record { start = 5; anchor = Some (record { to = to; edge = End }) }

abbrev pub bumped : ℕ → When → ℕ → Directive
bumped id when by = record { id = id; start = when.start; anchor = when.anchor; kind = 0; arguments = Int (pos by) ∷ [] }

abbrev pub checked : ℕ → ℕ → ℕ → Directive
checked id start number =
    record { id = id; start = start; anchor = None; kind = 1; arguments = Truth true ∷ Variant 0 number ∷ [] }

abbrev argument : List ℕ → RawValue → RawArgument
argument name value = record { name = name; value = value }

abbrev by : ℕ → RawArgument
by number = argument (codes "by") (raw.Int (pos number))

-- ---- add

pub a_directive_with_the_next_id : add_of model (plan 1 []) (at 5) (codes "Bump") (by 3 ∷ []) ≡ Ok (plan 2 (bumped 1 (at 5) 3 ∷ []))
a_directive_with_the_next_id = refl

pub a_default_and_a_variant_by_its_word : add_of model (plan 1 []) (at 5) (codes "Check")
    (argument (codes "mode") (raw.Word (codes "Mode.NOMINAL")) ∷ argument (codes "ok") (raw.Truth true) ∷ [])
    ≡ Ok (plan 2 (checked 1 5 1 ∷ []))
unfolding evaluated
a_default_and_a_variant_by_its_word = refl

pub a_default : add_of model (plan 1 []) (at 5) (codes "Check") (argument (codes "ok") (raw.Truth true) ∷ []) ≡ Ok (plan 2 (checked 1 5 0 ∷ []))
unfolding evaluated
a_default = refl

pub no_such_type : add_of model (plan 1 []) (at 5) (codes "Nope") [] ≡ Err UnknownType
no_such_type = refl

pub at_the_end_of_the_plan : add_of model (plan 1 []) (at 100) (codes "Bump") (by 3 ∷ []) ≡ Err OutsidePlan
at_the_end_of_the_plan = refl

pub none_given : add_of model (plan 1 []) (at 5) (codes "Bump") [] ≡ Err (BadArgument (codes "by"))
none_given = refl

-- the unknown one is told, although another one is missing
pub unknown_before_missing : add_of model (plan 1 []) (at 5) (codes "Bump") (argument (codes "x") (raw.Truth true) ∷ []) ≡ Err (BadArgument (codes "x"))
unknown_before_missing = refl

-- the second one of two that are equal is the bad one
pub unknown_before_doubled : add_of model (plan 1 []) (at 5) (codes "Bump") (by 1 ∷ argument (codes "x") (raw.Truth true) ∷ by 3 ∷ []) ≡ Err (BadArgument (codes "x"))
unknown_before_doubled = refl

pub doubled : add_of model (plan 1 []) (at 5) (codes "Bump") (by 1 ∷ by 1 ∷ []) ≡ Err (BadArgument (codes "by"))
doubled = refl

pub of_another_type : add_of model (plan 1 []) (at 5) (codes "Bump") (argument (codes "by") (raw.Truth true) ∷ []) ≡ Err (BadArgument (codes "by"))
of_another_type = refl

pub a_require_that_is_false : add_of model (plan 1 []) (at 5) (codes "Check") (argument (codes "ok") (raw.Truth false) ∷ []) ≡ Err (Invalid 0)
unfolding evaluated
a_require_that_is_false = refl

pub anchored_to_its_own_id : add_of model (plan 1 []) (behind 1) (codes "Bump") (by 3 ∷ []) ≡ Err NoAnchor
anchored_to_its_own_id = refl

pub the_last_id : add_of model (plan 4_294_967_294 []) (at 5) (codes "Bump") (by 3 ∷ []) ≡ Ok (plan 4_294_967_295 (bumped 4_294_967_294 (at 5) 3 ∷ []))
the_last_id = refl

pub no_id_is_left : add_of model (plan 4_294_967_295 []) (at 5) (codes "Bump") (by 3 ∷ []) ≡ Err TooMany
no_id_is_left = refl

-- ---- two directives, the second behind the first

abbrev pub two : Plan
two = plan 3 (bumped 1 (at 5) 3 ∷ bumped 2 (behind 1) 1 ∷ [])

pub one_is_anchored_to_it : remove_of two 1 ≡ Err (Anchored 2)
one_is_anchored_to_it = refl

-- its id is not used again
pub removed : remove_of two 2 ≡ Ok (plan 3 (bumped 1 (at 5) 3 ∷ []))
removed = refl

pub not_there : remove_of two 9 ≡ Err NoDirective
not_there = refl

pub moved : move_of two 1 (at 50) ≡ Ok (plan 3 (bumped 1 (at 50) 3 ∷ bumped 2 (behind 1) 1 ∷ []))
moved = refl

pub behind_one_behind_it : move_of two 1 (behind 2) ≡ Err Cycle
behind_one_behind_it = refl

pub behind_itself : move_of two 1 (behind 1) ≡ Err Cycle
behind_itself = refl

pub behind_none : move_of two 1 (behind 9) ≡ Err NoAnchor
behind_none = refl

pub set_to_four : set_of model two 1 (codes "by") (raw.Int (pos 4)) ≡ Ok (plan 3 (bumped 1 (at 5) 4 ∷ bumped 2 (behind 1) 1 ∷ []))
set_to_four = refl

pub set_to_a_truth : set_of model two 1 (codes "by") (raw.Truth true) ≡ Err (BadArgument (codes "by"))
set_to_a_truth = refl
