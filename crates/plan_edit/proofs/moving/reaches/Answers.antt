use Rattle.std.proofs.Common.{Bool, ◌-◌, ◌+◌, ◌||◌, ap, sym, ◌∙◌, length, ne_eqb}
use Rattle.aerie_base.specs.plans.OfModel.{anchor_of}
use Rattle.plan_edit.specs.Editing.{on_next, reaches_within}
use Rattle.plan_edit.proofs.Moves.{one_step}
use Rattle.plan_edit.proofs.moving.reaches.Goals as goal

pub loop-step-preserved : goal.loop-step-preserved
loop-step-preserved c =
    let ds = c.args.directives.now in
    let count = length ds in
    c.loop-step.invariant ∙ one_step ds c.args.id count c.loop-step._step c.loop-step.here c.loop-step-test.true
    ∙ ap (λ (t : Bool). t || on_next (reaches_within ds c.args.id (count - (c.loop-step._step + 1))) (anchor_of ds c.loop-step.here)) (ne_eqb c.loop-step.here c.args.id c.if-here-id.false)
    ∙ ap (on_next (reaches_within ds c.args.id (count - (c.loop-step._step + 1)))) (sym c.in-Some.ensures)
