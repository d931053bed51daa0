-- What is found on a small run: a count that rises twice, and a constraint that it leaves.
use Rattle.std.specs.Prelude.{◌≡◌, pos, [], ◌∷◌, None, codes, refl}
use Rattle.aerie_base.specs.declared.expressions.Comparison.TheVariants.{AtMost}
use Rattle.aerie_base.specs.declared.expressions.Expr.TheBlock.{hidden-the_row-Expr-0, shape-the_row-Expr-0}
use Rattle.aerie_base.specs.declared.models.Resource.TheVariants as resource
use Rattle.aerie_base.specs.declared.models.model.Parts.{Parts}
use Rattle.aerie_base.specs.declared.operands.CellRead.TheVariants as read
use Rattle.aerie_base.specs.declared.statements.Stmt.{out-Stmt}
use Rattle.aerie_base.specs.declared.statements.Stmt.TheBlock.{hidden-the_row-Stmt-0, shape-the_row-Stmt-0, shown-the_row-Stmt-0}
use Rattle.aerie_base.specs.declared.values.Value.TheVariants.{Int}
use Rattle.aerie_base.specs.expressions.Evaluation.{evaluated}
use Rattle.aerie_base.specs.statements.Places.{left, lefts, size}
use Rattle.effect_cells.specs.declared.trees.Part.TheBlock.{hidden-the_row-Part-0, shape-the_row-Part-0}
use denote.Hole.Carrier.{hidden, shown, out}
use Rattle.run_data.specs.declared.runs.Run.{Run}
use Rattle.run_data.specs.cases.SmallModels.{bump, directive, ints, small_model, plan_of, ran}
use Rattle.constraints.specs.Holding.{window_holds}
use Rattle.constraints.specs.declared.types.Constraint.{Constraint}
use Rattle.constraints.specs.declared.types.Reading.TheVariants.{Resource}
use Rattle.constraints.specs.declared.types.Rule.TheVariants.{Plain}
use Rattle.constraints.specs.declared.types.Window.{Compare}
use Rattle.profiles.specs.declared.sampling.Profile.TheVariants.{Discrete}
use Rattle.profiles.specs.Profiles.{all_profiles}
use Rattle.findings.specs.Found.{all_violations}

-- one resource, which shows how much was added
abbrev bumps : Parts
bumps = record (small_model [] (bump ∷ []) []) { resources = (codes "n", resource.Discrete (read.Counter 0)) ∷ [] }

-- 3 is added at 5 and again at 15, in a plan of 20 microseconds
abbrev bumped : Run
bumped = ran bumps (plan_of 20 (directive 1 5 0 (ints (3 ∷ [])) ∷ []))

-- n <= 3
abbrev at_most_three : Constraint
at_most_three = record {
  name = codes "c";
  rule = Plain (Compare (record { terms = record { coefficient = pos 1; resource = Resource 0 } ∷ []; constant = pos 0 }) AtMost (record { terms = []; constant = pos 3 }));
}

pub the_count_rises_twice : all_profiles bumps bumped ≡ Discrete ((0, Int (pos 0)) ∷ (5, Int (pos 3)) ∷ (15, Int (pos 6)) ∷ []) ∷ []
unfolding left lefts size evaluated out-Stmt out shown hidden shown-the_row-Stmt-0 hidden-the_row-Stmt-0 shape-the_row-Stmt-0 hidden-the_row-Expr-0 shape-the_row-Expr-0 hidden-the_row-Part-0 shape-the_row-Part-0
the_count_rises_twice = refl

-- it is violated from the second rise to the end
pub it_leaves_the_constraint : all_violations bumps bumped (at_most_three ∷ []) ≡ (record { path = None; intervals = record { reach = 20; intervals = (15, 20) ∷ [] } } ∷ []) ∷ []
unfolding window_holds left lefts size evaluated out-Stmt out shown hidden shown-the_row-Stmt-0 hidden-the_row-Stmt-0 shape-the_row-Stmt-0 hidden-the_row-Expr-0 shape-the_row-Expr-0 hidden-the_row-Part-0 shape-the_row-Part-0
it_leaves_the_constraint = refl
