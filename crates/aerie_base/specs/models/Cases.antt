-- Worked cases of valid models, and of models that are not valid.
use Rattle.std.specs.Prelude.{◌≡◌, ℕ, pos, Bool, true, false, List, [], ◌∷◌, Some, None, codes, replicate, refl}
use Rattle.aerie_base.specs.declared.values.Value.TheVariants as value
use Rattle.aerie_base.specs.declared.values.Kind.TheVariants as kind
use Rattle.aerie_base.specs.declared.operands.CellRead.TheVariants as read
use Rattle.aerie_base.specs.declared.operands.Operand.TheVariants as operand
use Rattle.aerie_base.specs.declared.expressions.Comparison.TheVariants as by
use Rattle.aerie_base.specs.declared.expressions.Operator.TheVariants as operator
use Rattle.aerie_base.specs.declared.expressions.Expr.{Expr, Literal, Operand, Binary}
use Rattle.aerie_base.specs.declared.expressions.Expr.TheBlock.{hidden-the_row-Expr-0, shape-the_row-Expr-0}
use Rattle.aerie_base.specs.declared.statements.Emission.TheVariants as emission
use Rattle.aerie_base.specs.declared.statements.Stmt.{Stmt, Let, Assign, Emit, Delay, Spawn, Call, If, While, Return}
use Rattle.aerie_base.specs.declared.statements.Stmt.TheBlock.{hidden-the_row-Stmt-0, shape-the_row-Stmt-0}
use Rattle.aerie_base.specs.declared.models.CellStart.TheVariants as cell
use Rattle.aerie_base.specs.declared.models.Resource.TheVariants as resource
use Rattle.aerie_base.specs.declared.models.Parameter.{Parameter}
use Rattle.aerie_base.specs.declared.models.Activity.{Activity}
use Rattle.aerie_base.specs.declared.models.model.Parts.{Parts}
use Rattle.aerie_base.specs.expressions.Typing.{kind_of}
use Rattle.aerie_base.specs.statements.Places.{count}
use Rattle.aerie_base.specs.models.Activities.{is_activity, is_return}
use Rattle.aerie_base.specs.models.Bodies.{checked, is_body}
use Rattle.aerie_base.specs.models.Depth.{stmt_depth}
use Rattle.aerie_base.specs.models.Expressions.{typed, has_literals, expr_depth}
use Rattle.aerie_base.specs.models.ValidModel.{valid_model, has_good_names, has_good_enums, has_good_cells, has_good_resources, has_good_activities, has_good_daemons}
use denote.Hole.Carrier.{hidden}

-- ---- a model to begin with: a counter that a resource shows, and an activity type with a body to be filled in

abbrev by_int : Parameter
by_int = record { name = codes "by"; kind = kind.Int; default = None }

abbrev number : ℕ → Expr
number n = Literal (value.Int (pos n))

abbrev local : ℕ → Expr
local slot = Operand (operand.Local slot)

abbrev counter : Expr
counter = Operand (operand.Read (read.Counter 0))

abbrev add : Expr → Stmt
add by = Emit 0 (emission.Add by)

abbrev activity : ℕ → List Stmt → Activity
activity slots body = record {
  name = codes "Bump";
  parameters = by_int ∷ [];
  result = None;
  requires_ = [];
  slots = slots;
  body = body;
}

abbrev with_activity : Activity → Parts
with_activity of = record {
  name = codes "m";
  enums = [];
  cells = (codes "n", cell.Counter (pos 0)) ∷ [];
  resources = (codes "n", resource.Discrete (read.Counter 0)) ∷ [];
  activities = of ∷ [];
  daemons = [];
}

-- the activity adds its argument, waits ten microseconds and adds it again
pub a_bump_is_valid : valid_model (with_activity (activity 1 (add (local 0) ∷ Delay (number 10) ∷ add (local 0) ∷ []))) ≡ true
unfolding valid_model has_good_names has_good_enums has_good_cells has_good_resources has_good_activities has_good_daemons is_activity is_body is_return checked count stmt_depth typed has_literals expr_depth kind_of
a_bump_is_valid = refl

-- ---- bodies

abbrev has_body : ℕ → List Stmt → Bool
has_body slots body = valid_model (with_activity (activity slots body))

pub a_local_takes_the_next_slot : has_body 2 (Let 1 counter ∷ add (local 1) ∷ []) ≡ true
unfolding valid_model has_good_names has_good_enums has_good_cells has_good_resources has_good_activities has_good_daemons is_activity is_body is_return checked count stmt_depth typed has_literals expr_depth kind_of
a_local_takes_the_next_slot = refl

pub no_slot_is_left_out : has_body 3 (Let 2 counter ∷ []) ≡ false
unfolding valid_model has_good_names has_good_enums has_good_cells has_good_resources has_good_activities has_good_daemons is_activity is_body is_return checked count stmt_depth typed has_literals expr_depth kind_of
no_slot_is_left_out = refl

pub a_local_is_not_known_in_front : has_body 2 (add (local 1) ∷ Let 1 counter ∷ []) ≡ false
unfolding valid_model has_good_names has_good_enums has_good_cells has_good_resources has_good_activities has_good_daemons is_activity is_body is_return checked count stmt_depth typed has_literals expr_depth kind_of
a_local_is_not_known_in_front = refl

abbrev positive : Expr → Expr
positive of = Binary (operator.Compare by.More) of (number 0)

-- behind its block a local is no longer known, and the next one takes the next slot
pub a_local_ends_with_its_block :
    has_body 2 (If (positive counter) (Let 1 counter ∷ add (local 1) ∷ []) [] ∷ add (local 1) ∷ []) ≡ false
unfolding valid_model has_good_names has_good_enums has_good_cells has_good_resources has_good_activities has_good_daemons is_activity is_body is_return checked count stmt_depth typed has_literals expr_depth kind_of hidden-the_row-Expr-0 shape-the_row-Expr-0 hidden-the_row-Stmt-0 shape-the_row-Stmt-0 hidden
a_local_ends_with_its_block = refl

pub blocks_have_slots_of_their_own :
    has_body 4 (If (positive counter) (Let 1 counter ∷ add (local 1) ∷ []) (Let 2 counter ∷ []) ∷ Let 3 (local 0) ∷ []) ≡ true
unfolding valid_model has_good_names has_good_enums has_good_cells has_good_resources has_good_activities has_good_daemons is_activity is_body is_return checked count stmt_depth typed has_literals expr_depth kind_of hidden-the_row-Expr-0 shape-the_row-Expr-0 hidden-the_row-Stmt-0 shape-the_row-Stmt-0 hidden
blocks_have_slots_of_their_own = refl

pub a_parameter_keeps_its_value : has_body 1 (Assign 0 (number 1) ∷ []) ≡ false
unfolding valid_model has_good_names has_good_enums has_good_cells has_good_resources has_good_activities has_good_daemons is_activity is_body is_return checked count stmt_depth typed has_literals expr_depth kind_of
a_parameter_keeps_its_value = refl

pub a_test_is_a_truth : has_body 1 (While counter [] ∷ []) ≡ false
unfolding valid_model has_good_names has_good_enums has_good_cells has_good_resources has_good_activities has_good_daemons is_activity is_body is_return checked count stmt_depth typed has_literals expr_depth kind_of hidden-the_row-Stmt-0 shape-the_row-Stmt-0 hidden
a_test_is_a_truth = refl

pub arguments_are_of_the_parameters : has_body 1 (Spawn 0 (counter ∷ []) ∷ Call 0 (number 1 ∷ []) None ∷ []) ≡ true
unfolding valid_model has_good_names has_good_enums has_good_cells has_good_resources has_good_activities has_good_daemons is_activity is_body is_return checked count stmt_depth typed has_literals expr_depth kind_of
arguments_are_of_the_parameters = refl

pub an_argument_is_missing : has_body 1 (Spawn 0 [] ∷ []) ≡ false
unfolding valid_model has_good_names has_good_enums has_good_cells has_good_resources has_good_activities has_good_daemons is_activity is_body is_return checked count stmt_depth typed has_literals expr_depth kind_of
an_argument_is_missing = refl

-- the activity type has no result that a local could take
pub no_result_to_take : has_body 2 (Call 0 (number 1 ∷ []) (Some 1) ∷ []) ≡ false
unfolding valid_model has_good_names has_good_enums has_good_cells has_good_resources has_good_activities has_good_daemons is_activity is_body is_return checked count stmt_depth typed has_literals expr_depth kind_of
no_result_to_take = refl

pub nothing_to_return : has_body 1 (Return (Some counter) ∷ []) ≡ false
unfolding valid_model has_good_names has_good_enums has_good_cells has_good_resources has_good_activities has_good_daemons is_activity is_body is_return checked count stmt_depth typed has_literals expr_depth kind_of
nothing_to_return = refl

pub the_greatest_literal : has_body 1 (add (number 1_000_000_000_000_000_000) ∷ []) ≡ true
unfolding valid_model has_good_names has_good_enums has_good_cells has_good_resources has_good_activities has_good_daemons is_activity is_body is_return checked count stmt_depth typed has_literals expr_depth kind_of
the_greatest_literal = refl

pub a_literal_out_of_range : has_body 1 (add (number 10_000_000_000_000_000_000_000_000_000_000_000_000_000) ∷ []) ≡ false
unfolding valid_model has_good_names has_good_enums has_good_cells has_good_resources has_good_activities has_good_daemons is_activity is_body is_return checked count stmt_depth typed has_literals expr_depth kind_of
a_literal_out_of_range = refl

pub as_many_statements_as_can_be : has_body 1 (replicate 4096 (add (local 0))) ≡ true
unfolding valid_model has_good_names has_good_enums has_good_cells has_good_resources has_good_activities has_good_daemons is_activity is_body is_return checked count stmt_depth typed has_literals expr_depth kind_of
as_many_statements_as_can_be = refl

pub one_statement_more : has_body 1 (replicate 4097 (add (local 0))) ≡ false
unfolding valid_model has_good_names has_good_enums has_good_cells has_good_resources has_good_activities has_good_daemons is_activity is_body is_return checked count stmt_depth typed has_literals expr_depth kind_of
one_statement_more = refl
