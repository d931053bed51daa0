-- Whether a condition is fillable, and the condition with its locals filled in, are what their folds give.
use Rattle.std.specs.Prelude.{◌≡◌, Bool, false, List}
use Rattle.aerie_base.specs.declared.values.Value.{Value}
use Rattle.aerie_base.specs.declared.conditions.Cond.{Cond, Literal}
use Rattle.aerie_base.specs.conditions.Filling.{filled, filled_step}
use Rattle.aerie_base.specs.conditions.RecursionLaws.{gives_fold}
use Rattle.task_step.specs.Fillable.{fillable_step, is_fillable, is_fillable_by_fold, filled_by_fold}

pub is_fillable_is : (condition : Cond) → is_fillable condition ≡ is_fillable_by_fold condition
unfolding is_fillable
is_fillable_is condition = gives_fold Bool false fillable_step condition

pub filled_is : (condition : Cond) → filled condition ≡ filled_by_fold condition
unfolding filled
filled_is condition = gives_fold (List Value → Cond) (λ locals. Literal false) filled_step condition
