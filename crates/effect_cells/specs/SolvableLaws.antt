-- A file of lemmas: what it proves need not be read to trust a clause.
--
-- Whether a condition may be solved is what its fold gives.
use Rattle.std.specs.Prelude.{◌≡◌, Bool, false}
use Rattle.aerie_base.specs.conditions.RecursionLaws.{gives_fold}
use Rattle.aerie_base.specs.declared.conditions.Cond.{Cond}
use Rattle.aerie_base.specs.models.Conditions.{ReadKinds}
use Rattle.effect_cells.specs.Solvable.{solvable_step, may_be_solved, may_be_solved_by_fold}

-- both are one
pub may_be_solved_is : (kinds : ReadKinds) (condition : Cond) → may_be_solved kinds condition ≡ may_be_solved_by_fold kinds condition
unfolding may_be_solved
may_be_solved_is kinds condition = gives_fold Bool false (solvable_step kinds) condition
