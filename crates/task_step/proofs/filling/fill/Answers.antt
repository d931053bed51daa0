-- A condition of a model may be filled in, and the fold is what fills it in.
use Rattle.std.proofs.Common.{subst, IsTrue, IfOk, ◌≡◌, sym, List}
use Rattle.aerie_base.specs.declared.conditions.Cond.{Cond}
use Rattle.aerie_base.specs.declared.values.Value.{Value}
use Rattle.task_step.proofs.FillableFolds.{is_fillable_is, filled_is}
use Rattle.task_step.proofs.Fillings.{is_fillable_of}
use Rattle.task_step.proofs.filling.fill.Goals as goal

pub fill_by_fold-requires : goal.fill_by_fold-requires
fill_by_fold-requires c =
    subst IsTrue (is_fillable_is c.args.condition.now)
    (is_fillable_of c.requires.0 c.requires.1 c.requires.2 c.args.condition.now c.requires.3)

pub returns : goal.returns
returns c =
    subst (λ (f : List Value → Cond). IfOk c.fill_by_fold.result (λ condition. condition ≡ f c.args.locals.now)) (sym (filled_is c.args.condition.now))
    c.fill_by_fold.ensures
