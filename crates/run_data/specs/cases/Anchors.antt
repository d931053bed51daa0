-- Worked cases of anchored directives.
use Rattle.std.specs.Prelude.{◌≡◌, ℕ, [], ◌∷◌, Some, length, map, refl}
use Rattle.aerie_base.specs.declared.operands.CellRead.TheVariants as read
use Rattle.aerie_base.specs.declared.models.model.Parts.{Parts}
use Rattle.aerie_base.specs.declared.plans.Directive.{Directive}
use Rattle.aerie_base.specs.declared.plans.Edge.{Edge}
use Rattle.aerie_base.specs.declared.plans.Edge.TheVariants.{Start, End}
use Rattle.aerie_base.specs.declared.statements.Stmt.{out-Stmt}
use Rattle.aerie_base.specs.Paths.{root}
use Rattle.aerie_base.specs.declared.expressions.Expr.TheBlock.{hidden-the_row-Expr-0, shape-the_row-Expr-0}
use Rattle.aerie_base.specs.declared.statements.Stmt.TheBlock.{hidden-the_row-Stmt-0, shape-the_row-Stmt-0, shown-the_row-Stmt-0}
use Rattle.aerie_base.specs.expressions.Evaluation.{evaluated}
use Rattle.aerie_base.specs.statements.Places.{left, lefts, size}
use Rattle.effect_cells.specs.declared.trees.Part.TheBlock.{hidden-the_row-Part-0, shape-the_row-Part-0}
use denote.Hole.Carrier.{hidden, shown, out}
use Rattle.run_data.specs.declared.runs.Run.{Run}
use Rattle.run_data.specs.Spans.{spans_of}
use Rattle.run_data.specs.cases.SmallModels.{bump, small_model, directive, plan_of, ran, values_of, ints, span, unfinished}

abbrev bumps : Parts
bumps = small_model [] (bump ∷ []) []

-- a bump so long after an edge of another directive
abbrev anchored_bump : ℕ → Edge → ℕ → ℕ → ℕ → Directive
anchored_bump id edge to start by =
    record { id = id; start = start; anchor = Some (record { to = to; edge = edge }); kind = 0; arguments = ints (by ∷ []) }

-- ---- 5 microseconds behind the end of another, which then is moved

abbrev behind : ℕ → Run
behind start = ran bumps (plan_of 100 (directive 1 start 0 (ints (3 ∷ [])) ∷ anchored_bump 2 End 1 5 1 ∷ []))

pub it_follows_the_end : spans_of bumps (behind 5) ≡ span (root 1) 0 (ints (3 ∷ [])) 5 15 ∷ span (root 2) 0 (ints (1 ∷ [])) 20 30 ∷ []
unfolding left lefts size evaluated out-Stmt out shown hidden shown-the_row-Stmt-0 hidden-the_row-Stmt-0 shape-the_row-Stmt-0 hidden-the_row-Expr-0 shape-the_row-Expr-0 hidden-the_row-Part-0 shape-the_row-Part-0
it_follows_the_end = refl

pub so_do_its_effects : values_of bumps (behind 5) (read.Counter 0) (4 ∷ 5 ∷ 15 ∷ 20 ∷ 30 ∷ []) ≡ ints (0 ∷ 3 ∷ 6 ∷ 7 ∷ 8 ∷ [])
unfolding left lefts size evaluated out-Stmt out shown hidden shown-the_row-Stmt-0 hidden-the_row-Stmt-0 shape-the_row-Stmt-0 hidden-the_row-Expr-0 shape-the_row-Expr-0 hidden-the_row-Part-0 shape-the_row-Part-0
so_do_its_effects = refl

pub it_moves_with_it : spans_of bumps (behind 50) ≡ span (root 1) 0 (ints (3 ∷ [])) 50 60 ∷ span (root 2) 0 (ints (1 ∷ [])) 65 75 ∷ []
unfolding left lefts size evaluated out-Stmt out shown hidden shown-the_row-Stmt-0 hidden-the_row-Stmt-0 shape-the_row-Stmt-0 hidden-the_row-Expr-0 shape-the_row-Expr-0 hidden-the_row-Part-0 shape-the_row-Part-0
it_moves_with_it = refl

-- ---- one with the start and one with the end of another that does not end in time

abbrev at_the_edge : Run
at_the_edge = ran bumps (plan_of 100
    (directive 1 95 0 (ints (3 ∷ [])) ∷ anchored_bump 2 End 1 0 1 ∷ anchored_bump 3 Start 1 0 2 ∷ []))

pub only_the_start_comes : spans_of bumps at_the_edge ≡ unfinished (root 1) 0 (ints (3 ∷ [])) 95 ∷ unfinished (root 3) 0 (ints (2 ∷ [])) 95 ∷ []
unfolding left lefts size evaluated out-Stmt out shown hidden shown-the_row-Stmt-0 hidden-the_row-Stmt-0 shape-the_row-Stmt-0 hidden-the_row-Expr-0 shape-the_row-Expr-0 hidden-the_row-Part-0 shape-the_row-Part-0
only_the_start_comes = refl

pub both_starts_add : values_of bumps at_the_edge (read.Counter 0) (94 ∷ 95 ∷ []) ≡ ints (0 ∷ 5 ∷ [])
unfolding left lefts size evaluated out-Stmt out shown hidden shown-the_row-Stmt-0 hidden-the_row-Stmt-0 shape-the_row-Stmt-0 hidden-the_row-Expr-0 shape-the_row-Expr-0 hidden-the_row-Part-0 shape-the_row-Part-0
both_starts_add = refl

pub the_second_in_a_batch_of_its_own : map (λ instant. length instant.batches) at_the_edge.instants ≡ 0 ∷ 2 ∷ []
unfolding left lefts size evaluated out-Stmt out shown hidden shown-the_row-Stmt-0 hidden-the_row-Stmt-0 shape-the_row-Stmt-0 hidden-the_row-Expr-0 shape-the_row-Expr-0 hidden-the_row-Part-0 shape-the_row-Part-0
the_second_in_a_batch_of_its_own = refl
