-- Worked cases of children: how deep they may be made, whose fault is told, what a caller takes, and how they are numbered.
use Rattle.std.specs.Prelude.{◌≡◌, [], ◌∷◌, Some, replicate, refl}
use Rattle.aerie_base.specs.declared.operands.CellRead.TheVariants as read
use Rattle.aerie_base.specs.declared.expressions.Expr.{Binary}
use Rattle.aerie_base.specs.declared.expressions.Operator.TheVariants as operator
use Rattle.aerie_base.specs.declared.expressions.Comparison.TheVariants as by
use Rattle.aerie_base.specs.declared.faults.Fault.TheVariants.{Divide, TooDeep}
use Rattle.aerie_base.specs.declared.statements.Stmt.{Spawn, Call, Return, If, out-Stmt}
use Rattle.aerie_base.specs.declared.models.model.Parts.{Parts}
use Rattle.aerie_base.specs.Paths.{root, directive_path}
use Rattle.aerie_base.specs.declared.expressions.Expr.TheBlock.{hidden-the_row-Expr-0, shape-the_row-Expr-0}
use Rattle.aerie_base.specs.declared.statements.Stmt.TheBlock.{hidden-the_row-Stmt-0, shape-the_row-Stmt-0, shown-the_row-Stmt-0}
use Rattle.aerie_base.specs.expressions.Evaluation.{evaluated}
use Rattle.aerie_base.specs.statements.Places.{left, lefts, size}
use Rattle.effect_cells.specs.declared.trees.Part.TheBlock.{hidden-the_row-Part-0, shape-the_row-Part-0}
use denote.Hole.Carrier.{hidden, shown, out}
use Rattle.run_data.specs.declared.runs.Outcome.TheVariants.{Failed}
use Rattle.run_data.specs.declared.runs.Who.TheVariants as who
use Rattle.run_data.specs.Spans.{spans_of}
use Rattle.run_data.specs.cases.SmallModels.{number, local, add, delay, activity, by_int, plain, small_model, directive, plan_of, ran, values_of, ints, span}

-- ---- an activity that makes itself without end

-- `R() { spawn R(); }`
abbrev deep : Parts
deep = small_model [] (plain (Spawn 0 [] ∷ []) ∷ []) []

-- the task whose child would be below 64 children is the one that faults
pub too_deep_at_64 : (ran deep (plan_of 100 (directive 1 5 0 [] ∷ []))).outcome ≡ Failed 5 (who.Task (directive_path 1 (replicate 64 0))) TooDeep
unfolding left lefts size evaluated out-Stmt out shown hidden shown-the_row-Stmt-0 hidden-the_row-Stmt-0 shape-the_row-Stmt-0 hidden-the_row-Expr-0 shape-the_row-Expr-0 hidden-the_row-Part-0 shape-the_row-Part-0
too_deep_at_64 = refl

-- `R(d: int) { spawn R(d + 1); if d == 64 { n += 1 / 0; } }`
abbrev tied : Parts
tied = small_model [] (activity (by_int ∷ []) 1 (Spawn 0 (Binary operator.Plus (local 0) (number 1) ∷ [])
    ∷ If (Binary (operator.Compare by.Equal) (local 0) (number 64)) (add (Binary operator.Divide (number 1) (number 0)) ∷ []) [] ∷ []) ∷ []) []

-- where a task has faulted and a child of it is too deep, which stand under one path, the task's own fault is told
pub its_own_fault : (ran tied (plan_of 100 (directive 1 5 0 (ints (0 ∷ [])) ∷ []))).outcome ≡ Failed 5 (who.Task (directive_path 1 (replicate 64 0))) Divide
unfolding left lefts size evaluated out-Stmt out shown hidden shown-the_row-Stmt-0 hidden-the_row-Stmt-0 shape-the_row-Stmt-0 hidden-the_row-Expr-0 shape-the_row-Expr-0 hidden-the_row-Part-0 shape-the_row-Part-0
its_own_fault = refl

-- ---- a caller

-- `A() -> int { delay 3us; return 7; }`, `B() { let x = call A(); n += x; }`
abbrev calling_one : Parts
calling_one = small_model [] (plain (delay 3 ∷ Return (Some (number 7)) ∷ []) ∷ activity [] 1 (Call 0 [] (Some 0) ∷ add (local 0) ∷ []) ∷ []) []

-- the caller goes on with the result of its callee
pub the_result_is_taken : values_of calling_one (ran calling_one (plan_of 100 (directive 1 2 1 [] ∷ []))) (read.Counter 0) (4 ∷ 5 ∷ []) ≡ ints (0 ∷ 7 ∷ [])
unfolding left lefts size evaluated out-Stmt out shown hidden shown-the_row-Stmt-0 hidden-the_row-Stmt-0 shape-the_row-Stmt-0 hidden-the_row-Expr-0 shape-the_row-Expr-0 hidden-the_row-Part-0 shape-the_row-Part-0
the_result_is_taken = refl

-- ---- numbers

-- `P() { spawn L(); delay 5us; spawn L(); }`
abbrev twice : Parts
twice = small_model [] (plain [] ∷ plain (Spawn 0 [] ∷ delay 5 ∷ Spawn 0 [] ∷ []) ∷ []) []

-- the children of a task are numbered on from one step to the next
pub numbers_go_on : spans_of twice (ran twice (plan_of 100 (directive 1 5 1 [] ∷ [])))
    ≡ span (root 1) 1 [] 5 10 ∷ span (directive_path 1 (0 ∷ [])) 0 [] 5 5 ∷ span (directive_path 1 (1 ∷ [])) 0 [] 10 10 ∷ []
unfolding left lefts size evaluated out-Stmt out shown hidden shown-the_row-Stmt-0 hidden-the_row-Stmt-0 shape-the_row-Stmt-0 hidden-the_row-Expr-0 shape-the_row-Expr-0 hidden-the_row-Part-0 shape-the_row-Part-0
numbers_go_on = refl
