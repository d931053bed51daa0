-- Worked cases of waiting: a condition that comes true later, one that does not in time, and one that holds at once.
use Rattle.std.specs.Prelude.{◌≡◌, ℕ, pos, [], ◌∷◌, codes, length, map, refl}
use Rattle.aerie_base.specs.declared.operands.CellRead.{CellRead}
use Rattle.aerie_base.specs.declared.operands.CellRead.TheVariants as read
use Rattle.aerie_base.specs.declared.operands.Operand.TheVariants as operand
use Rattle.aerie_base.specs.declared.expressions.Comparison.TheVariants.{AtLeast}
use Rattle.aerie_base.specs.declared.conditions.Cond.{Cond, Compare}
use Rattle.aerie_base.specs.declared.models.CellStart.TheVariants as cell
use Rattle.aerie_base.specs.declared.statements.Stmt.{WaitUntil, out-Stmt}
use Rattle.aerie_base.specs.declared.models.model.Parts.{Parts}
use Rattle.aerie_base.specs.Paths.{root}
use Rattle.aerie_base.specs.declared.expressions.Expr.TheBlock.{hidden-the_row-Expr-0, shape-the_row-Expr-0}
use Rattle.aerie_base.specs.declared.statements.Stmt.TheBlock.{hidden-the_row-Stmt-0, shape-the_row-Stmt-0, shown-the_row-Stmt-0}
use Rattle.aerie_base.specs.expressions.Evaluation.{evaluated}
use Rattle.aerie_base.specs.statements.Places.{left, lefts, size}
use Rattle.effect_cells.specs.declared.trees.Part.TheBlock.{hidden-the_row-Part-0, shape-the_row-Part-0}
use denote.Hole.Carrier.{hidden, shown, out}
use Rattle.aerie_base.specs.declared.conditions.Cond.TheBlock.{hidden-the_row-Cond-0, shape-the_row-Cond-0}
use Rattle.aerie_base.specs.conditions.Filling.{filled}
use Rattle.aerie_base.specs.conditions.Holding.{holds}
use Rattle.run_data.specs.declared.runs.Outcome.TheVariants.{Completed}
use Rattle.run_data.specs.declared.runs.Run.{Run}
use Rattle.run_data.specs.Spans.{spans_of}
use Rattle.run_data.specs.cases.SmallModels.{number, add, plain, small_model, directive, plan_of, ran, values_of, ints, span, unfinished}

-- `read >= least`
abbrev at_least : CellRead → ℕ → Cond
at_least of least = Compare
    (record { terms = record { coefficient = pos 1; operand = operand.Read of } ∷ []; constant = pos 0 }) AtLeast
    (record { terms = []; constant = pos least })

-- ---- `accumulator v = 0 rate 3;` and `W() { wait until v.volume >= 10; n += 1; }`

abbrev filling : Parts
filling = small_model ((codes "v", cell.Accumulator (pos 0) (pos 3)) ∷ [])
    (plain (WaitUntil (at_least (read.Volume 1) 10) ∷ add (number 1) ∷ []) ∷ []) []

abbrev waited : Run
waited = ran filling (plan_of 100 (directive 1 0 0 [] ∷ []))

pub it_wakes_at_four : spans_of filling waited ≡ span (root 1) 0 [] 0 4 ∷ []
unfolding left lefts size evaluated out-Stmt out shown hidden shown-the_row-Stmt-0 hidden-the_row-Stmt-0 shape-the_row-Stmt-0 hidden-the_row-Expr-0 shape-the_row-Expr-0 hidden-the_row-Part-0 shape-the_row-Part-0 holds filled hidden-the_row-Cond-0 shape-the_row-Cond-0
it_wakes_at_four = refl

pub it_goes_on_then : values_of filling waited (read.Counter 0) (3 ∷ 4 ∷ []) ≡ ints (0 ∷ 1 ∷ [])
unfolding left lefts size evaluated out-Stmt out shown hidden shown-the_row-Stmt-0 hidden-the_row-Stmt-0 shape-the_row-Stmt-0 hidden-the_row-Expr-0 shape-the_row-Expr-0 hidden-the_row-Part-0 shape-the_row-Part-0 holds filled hidden-the_row-Cond-0 shape-the_row-Cond-0
it_goes_on_then = refl

pub the_volume_rises : values_of filling waited (read.Volume 1) (0 ∷ 3 ∷ 4 ∷ 99 ∷ []) ≡ ints (0 ∷ 9 ∷ 12 ∷ 297 ∷ [])
unfolding left lefts size evaluated out-Stmt out shown hidden shown-the_row-Stmt-0 hidden-the_row-Stmt-0 shape-the_row-Stmt-0 hidden-the_row-Expr-0 shape-the_row-Expr-0 hidden-the_row-Part-0 shape-the_row-Part-0 holds filled hidden-the_row-Cond-0 shape-the_row-Cond-0
the_volume_rises = refl

-- ---- the same in a plan of 4 microseconds

abbrev cut_short : Run
cut_short = ran filling (plan_of 4 (directive 1 0 0 [] ∷ []))

pub it_does_not_wake_at_the_end : spans_of filling cut_short ≡ unfinished (root 1) 0 [] 0 ∷ []
unfolding left lefts size evaluated out-Stmt out shown hidden shown-the_row-Stmt-0 hidden-the_row-Stmt-0 shape-the_row-Stmt-0 hidden-the_row-Expr-0 shape-the_row-Expr-0 hidden-the_row-Part-0 shape-the_row-Part-0 holds filled hidden-the_row-Cond-0 shape-the_row-Cond-0
it_does_not_wake_at_the_end = refl

pub the_plan_is_completed : cut_short.outcome ≡ Completed
unfolding left lefts size evaluated out-Stmt out shown hidden shown-the_row-Stmt-0 hidden-the_row-Stmt-0 shape-the_row-Stmt-0 hidden-the_row-Expr-0 shape-the_row-Expr-0 hidden-the_row-Part-0 shape-the_row-Part-0 holds filled hidden-the_row-Cond-0 shape-the_row-Cond-0
the_plan_is_completed = refl

pub it_reaches_four : cut_short.reach ≡ 4
unfolding left lefts size evaluated out-Stmt out shown hidden shown-the_row-Stmt-0 hidden-the_row-Stmt-0 shape-the_row-Stmt-0 hidden-the_row-Expr-0 shape-the_row-Expr-0 hidden-the_row-Part-0 shape-the_row-Part-0 holds filled hidden-the_row-Cond-0 shape-the_row-Cond-0
it_reaches_four = refl

-- ---- `Q() { wait until n >= 0; n += 1; }`

abbrev ready_at_once : Parts
ready_at_once = small_model [] (plain (WaitUntil (at_least (read.Counter 0) 0) ∷ add (number 1) ∷ []) ∷ []) []

abbrev at_once : Run
at_once = ran ready_at_once (plan_of 100 (directive 1 0 0 [] ∷ []))

pub it_holds_at_once : spans_of ready_at_once at_once ≡ span (root 1) 0 [] 0 0 ∷ []
unfolding left lefts size evaluated out-Stmt out shown hidden shown-the_row-Stmt-0 hidden-the_row-Stmt-0 shape-the_row-Stmt-0 hidden-the_row-Expr-0 shape-the_row-Expr-0 hidden-the_row-Part-0 shape-the_row-Part-0 holds filled hidden-the_row-Cond-0 shape-the_row-Cond-0
it_holds_at_once = refl

pub in_a_batch_of_its_own : map (λ instant. length instant.batches) at_once.instants ≡ 2 ∷ []
unfolding left lefts size evaluated out-Stmt out shown hidden shown-the_row-Stmt-0 hidden-the_row-Stmt-0 shape-the_row-Stmt-0 hidden-the_row-Expr-0 shape-the_row-Expr-0 hidden-the_row-Part-0 shape-the_row-Part-0 holds filled hidden-the_row-Cond-0 shape-the_row-Cond-0
in_a_batch_of_its_own = refl
