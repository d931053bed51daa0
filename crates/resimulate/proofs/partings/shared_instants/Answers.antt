use Rattle.std.proofs.Common.{◌≤◌, List, Option, length, subst, arith}
use Rattle.run_data.specs.declared.runs.Instant.{Instant}
use Rattle.resimulate.specs.OldBatches.{AreEarly}
use Rattle.resimulate.specs.Partings.{PartsBy}
use Rattle.resimulate.specs.declared.partings.Parting.{Parting}
use Rattle.resimulate.proofs.SharedInstants.{shares}
use Rattle.resimulate.proofs.partings.shared_instants.Goals as goal

pub returns : goal.returns
returns c =
    let old = c.args.old.now in
    let place = c.in-Some.place in
    shares c.plans_that_differ_late_run_side_by_side.ensures.instants c.plans_that_differ_late_run_side_by_side.ensures.no_less c.args.model.now c.args.plan.now c.args.bound old c.cells.ensures.valid
    c.requires.plan c.requires.old_plan c.requires.may c.requires.fresh (let less = c.if-bound-old.false in omega (arith, less)) place.first place.past place.until
    (c.is_later.ensures c.if-not-is_later.false)
    (subst (λ (found : Option Parting). PartsBy c.args.plan.now old.plan found) c.in-Some.is c.requires.parting) c.earlier_than.result
    (subst (λ (l : List Instant). c.earlier_than.result ≤ length l) c.as_slice.ensures c.earlier_than.ensures.bound)
    (subst (λ (l : List Instant). AreEarly place.until c.earlier_than.result l) c.as_slice.ensures c.earlier_than.ensures.early)
