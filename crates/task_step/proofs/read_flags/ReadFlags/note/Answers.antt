use Rattle.std.proofs.Common.{◌∙◌, ap, arith}
use Rattle.aerie_base.specs.expressions.Readings.{also}
use Rattle.task_step.proofs.FlagWords.{flag_noted, flag_past}
use Rattle.task_step.proofs.read_flags.ReadFlags.note.Goals as goal

pub returns-then-at-self : goal.returns-then-at-self
returns-then-at-self c =
    flag_noted c.self.inside.cells c.self.inside.words c.args.self.now c.from-at.result c.self.invariant c.self.told c.self.view_is c.if-at-self.true
    ∙ ap (λ i. also i c.args.self.now) c.from-at.ensures

pub returns-else-at-self : goal.returns-else-at-self
returns-else-at-self c =
    flag_past c.self.inside.cells c.from-at.result c.self.inside.words c.args.self.now c.self.view_is (omega (arith, c.if-at-self.false))
    ∙ ap (λ i. also i c.args.self.now) c.from-at.ensures
