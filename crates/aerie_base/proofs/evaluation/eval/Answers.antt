use Rattle.std.proofs.Common.{◌≡◌, ◌∙◌, ap, sym, subst, IsSome, IfOk, Some}
use Rattle.aerie_base.specs.expressions.Arithmetic.{ValueOrFault, value_kind}
use Rattle.aerie_base.specs.expressions.Faults.{MayFault}
use Rattle.aerie_base.specs.expressions.FaultLaws.{faults}
use Rattle.aerie_base.specs.expressions.Soundness.{value_has_kind}
use Rattle.aerie_base.specs.expressions.Evaluation.{Meaning}
use Rattle.aerie_base.specs.expressions.EvaluationLaws.{evaluated_is}
use Rattle.aerie_base.specs.expressions.Typing.{Typing, kind_of, slot_kinds}
use Rattle.aerie_base.specs.expressions.TypingLaws.{kind_is}
use Rattle.aerie_base.proofs.evaluation.eval.Goals as goal

pub eval_by_fold-requires : goal.eval_by_fold-requires
eval_by_fold-requires g c =
    subst (λ (f : Typing). IsSome (f (slot_kinds c.args.locals.now) (g.K.Look.kinds c.args.cells.now))) (kind_is c.args.expr.now)
    c.requires.well_typed

pub returns-clause-outcome : goal.returns-clause-outcome
returns-clause-outcome g c =
    c.eval_by_fold.ensures.outcome
    ∙ ap (λ (f : Meaning). (f c.args.locals.now (g.K.Look.values c.args.cells.now) (g.K.Look.read_flags c.args.cells.now)).0)
    (sym (evaluated_is c.args.expr.now))

pub returns-clause-read_flags : goal.returns-clause-read_flags
returns-clause-read_flags g c =
    c.eval_by_fold.ensures.read_flags
    ∙ ap (λ (f : Meaning). (f c.args.locals.now (g.K.Look.values c.args.cells.now) (g.K.Look.read_flags c.args.cells.now)).1)
    (sym (evaluated_is c.args.expr.now))

pub returns-clause-typed : goal.returns-clause-typed
returns-clause-typed g c =
    subst
    (λ (outcome : ValueOrFault). IfOk outcome (λ value. kind_of c.args.expr.now (slot_kinds c.args.locals.now) (g.K.Look.kinds c.args.cells.now) ≡ Some (value_kind value)))
    (sym (returns-clause-outcome g c))
    (value_has_kind c.args.expr.now c.args.locals.now (g.K.Look.kinds c.args.cells.now) (g.K.Look.values c.args.cells.now) (g.K.Look.read_flags c.args.cells.now)
    (g.met.K.Look.readings c.args.cells.now) c.requires.well_typed)

pub returns-clause-faults : goal.returns-clause-faults
returns-clause-faults g c =
    subst MayFault (sym (returns-clause-outcome g c))
    (faults c.args.expr.now c.args.locals.now (g.K.Look.values c.args.cells.now) (g.K.Look.read_flags c.args.cells.now))
