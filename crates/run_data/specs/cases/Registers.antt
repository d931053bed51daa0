-- Worked cases of a register: concurrent effects, and what a child sees.
use Rattle.std.specs.Prelude.{◌≡◌, pos, true, false, List, [], ◌∷◌, codes, refl}
use Rattle.aerie_base.specs.declared.values.Value.{Value}
use Rattle.aerie_base.specs.declared.values.Value.TheVariants as value
use Rattle.aerie_base.specs.declared.values.Kind.TheVariants as kind
use Rattle.aerie_base.specs.declared.operands.CellRead.TheVariants as read
use Rattle.aerie_base.specs.declared.expressions.Expr.{Expr}
use Rattle.aerie_base.specs.declared.names.Name.{Name}
use Rattle.aerie_base.specs.declared.models.CellStart.{CellStart}
use Rattle.aerie_base.specs.declared.models.CellStart.TheVariants as cell
use Rattle.aerie_base.specs.declared.statements.Emission.TheVariants as emission
use Rattle.aerie_base.specs.declared.statements.Stmt.{Stmt, Let, Emit, Spawn, out-Stmt}
use Rattle.aerie_base.specs.declared.models.Activity.{Activity}
use Rattle.aerie_base.specs.declared.models.model.Parts.{Parts}
use Rattle.aerie_base.specs.Paths.{root, directive_path}
use Rattle.aerie_base.specs.declared.expressions.Expr.TheBlock.{hidden-the_row-Expr-0, shape-the_row-Expr-0}
use Rattle.aerie_base.specs.declared.statements.Stmt.TheBlock.{hidden-the_row-Stmt-0, shape-the_row-Stmt-0, shown-the_row-Stmt-0}
use Rattle.aerie_base.specs.expressions.Evaluation.{evaluated}
use Rattle.aerie_base.specs.statements.Places.{left, lefts, size}
use Rattle.effect_cells.specs.declared.trees.Part.TheBlock.{hidden-the_row-Part-0, shape-the_row-Part-0}
use denote.Hole.Carrier.{hidden, shown, out}
use Rattle.run_data.specs.declared.runs.Run.{Run}
use Rattle.run_data.specs.Spans.{spans_of}
use Rattle.run_data.specs.cases.SmallModels.{number, local, reading, activity, by_int, plain, small_model, directive, plan_of, ran, values_of, ints, span}

-- `register r: int = 0; counter value_read = 0;`, the cells 1 and 2
abbrev cells : List (Name × CellStart)
cells = (codes "r", cell.Register kind.Int (value.Int (pos 0))) ∷ (codes "seen", cell.Counter (pos 0)) ∷ []

-- `r := value`
abbrev set : Expr → Stmt
set to = Emit 1 (emission.Set to)

-- ---- `Put(v: int) { r := v; }`, two with the same value

abbrev putting : Parts
putting = small_model cells (activity (by_int ∷ []) 1 (set (local 0) ∷ []) ∷ []) []

abbrev puts : Run
puts = ran putting (plan_of 100 (directive 1 5 0 (ints (7 ∷ [])) ∷ directive 2 5 0 (ints (7 ∷ [])) ∷ []))

abbrev truths : List Value
truths = value.Truth false ∷ value.Truth true ∷ []

pub equal_sets_keep_the_value : values_of putting puts (read.Register 1) (4 ∷ 5 ∷ []) ≡ ints (0 ∷ 0 ∷ [])
unfolding left lefts size evaluated out-Stmt out shown hidden shown-the_row-Stmt-0 hidden-the_row-Stmt-0 shape-the_row-Stmt-0 hidden-the_row-Expr-0 shape-the_row-Expr-0 hidden-the_row-Part-0 shape-the_row-Part-0
equal_sets_keep_the_value = refl

pub equal_sets_conflict : values_of putting puts (read.Conflicted 1) (4 ∷ 5 ∷ []) ≡ truths
unfolding left lefts size evaluated out-Stmt out shown hidden shown-the_row-Stmt-0 hidden-the_row-Stmt-0 shape-the_row-Stmt-0 hidden-the_row-Expr-0 shape-the_row-Expr-0 hidden-the_row-Part-0 shape-the_row-Part-0
equal_sets_conflict = refl

pub both_spans_stand : spans_of putting puts ≡ span (root 1) 0 (ints (7 ∷ [])) 5 5 ∷ span (root 2) 0 (ints (7 ∷ [])) 5 5 ∷ []
unfolding left lefts size evaluated out-Stmt out shown hidden shown-the_row-Stmt-0 hidden-the_row-Stmt-0 shape-the_row-Stmt-0 hidden-the_row-Expr-0 shape-the_row-Expr-0 hidden-the_row-Part-0 shape-the_row-Part-0
both_spans_stand = refl

-- ---- `C() { let x = r; value_read += x; r := 2; }`

abbrev child : Activity
child = activity [] 1 (Let 0 (reading (read.Register 1)) ∷ Emit 2 (emission.Add (local 0)) ∷ set (number 2) ∷ [])

-- ---- `P() { r := 1; spawn C(); r := 3; }`

abbrev with_later_effect : Parts
with_later_effect = small_model cells (child ∷ plain (set (number 1) ∷ Spawn 0 [] ∷ set (number 3) ∷ []) ∷ []) []

abbrev conflicted : Run
conflicted = ran with_later_effect (plan_of 100 (directive 1 5 1 [] ∷ []))

pub the_later_effect_conflicts_with_the_child : values_of with_later_effect conflicted (read.Conflicted 1) (4 ∷ 5 ∷ []) ≡ truths
unfolding left lefts size evaluated out-Stmt out shown hidden shown-the_row-Stmt-0 hidden-the_row-Stmt-0 shape-the_row-Stmt-0 hidden-the_row-Expr-0 shape-the_row-Expr-0 hidden-the_row-Part-0 shape-the_row-Part-0
the_later_effect_conflicts_with_the_child = refl

pub the_value_in_front_stays : values_of with_later_effect conflicted (read.Register 1) (4 ∷ 5 ∷ []) ≡ ints (0 ∷ 1 ∷ [])
unfolding left lefts size evaluated out-Stmt out shown hidden shown-the_row-Stmt-0 hidden-the_row-Stmt-0 shape-the_row-Stmt-0 hidden-the_row-Expr-0 shape-the_row-Expr-0 hidden-the_row-Part-0 shape-the_row-Part-0
the_value_in_front_stays = refl

pub the_child_sees_what_was_in_front : values_of with_later_effect conflicted (read.Counter 2) (4 ∷ 5 ∷ []) ≡ ints (0 ∷ 1 ∷ [])
unfolding left lefts size evaluated out-Stmt out shown hidden shown-the_row-Stmt-0 hidden-the_row-Stmt-0 shape-the_row-Stmt-0 hidden-the_row-Expr-0 shape-the_row-Expr-0 hidden-the_row-Part-0 shape-the_row-Part-0
the_child_sees_what_was_in_front = refl

pub the_child_has_a_span : spans_of with_later_effect conflicted ≡ span (root 1) 1 [] 5 5 ∷ span (directive_path 1 (0 ∷ [])) 0 [] 5 5 ∷ []
unfolding left lefts size evaluated out-Stmt out shown hidden shown-the_row-Stmt-0 hidden-the_row-Stmt-0 shape-the_row-Stmt-0 hidden-the_row-Expr-0 shape-the_row-Expr-0 hidden-the_row-Part-0 shape-the_row-Part-0
the_child_has_a_span = refl

-- ---- `P() { r := 1; spawn C(); }`

abbrev without_it : Parts
without_it = small_model cells (child ∷ plain (set (number 1) ∷ Spawn 0 [] ∷ []) ∷ []) []

abbrev agreed : Run
agreed = ran without_it (plan_of 100 (directive 1 5 1 [] ∷ []))

pub the_child_sets_after_its_parent : values_of without_it agreed (read.Register 1) (4 ∷ 5 ∷ []) ≡ ints (0 ∷ 2 ∷ [])
unfolding left lefts size evaluated out-Stmt out shown hidden shown-the_row-Stmt-0 hidden-the_row-Stmt-0 shape-the_row-Stmt-0 hidden-the_row-Expr-0 shape-the_row-Expr-0 hidden-the_row-Part-0 shape-the_row-Part-0
the_child_sets_after_its_parent = refl

pub nothing_conflicts : values_of without_it agreed (read.Conflicted 1) (4 ∷ 5 ∷ []) ≡ value.Truth false ∷ value.Truth false ∷ []
unfolding left lefts size evaluated out-Stmt out shown hidden shown-the_row-Stmt-0 hidden-the_row-Stmt-0 shape-the_row-Stmt-0 hidden-the_row-Expr-0 shape-the_row-Expr-0 hidden-the_row-Part-0 shape-the_row-Part-0
nothing_conflicts = refl

pub the_child_sees_the_same : values_of without_it agreed (read.Counter 2) (4 ∷ 5 ∷ []) ≡ ints (0 ∷ 1 ∷ [])
unfolding left lefts size evaluated out-Stmt out shown hidden shown-the_row-Stmt-0 hidden-the_row-Stmt-0 shape-the_row-Stmt-0 hidden-the_row-Expr-0 shape-the_row-Expr-0 hidden-the_row-Part-0 shape-the_row-Part-0
the_child_sees_the_same = refl
