use Rattle.std.proofs.Common.{◌∙◌, ap, sym, arith}
use Rattle.aerie_base.specs.declared.plans.Directive.{Directive}
use Rattle.parting.specs.IdRanges.{is_id_between}
use Rattle.resimulate.proofs.SharedInstants.{skips_next, skips_all}
use Rattle.resimulate.proofs.partings.next_other.Goals as goal

pub loop-at-preserved : goal.loop-at-preserved
loop-at-preserved c =
    skips_next c.args.first c.args.past c.args.directives.now c.args.from c.loop-at.at c.index-directives-at.result c.loop-at-test.true c.index-directives-at.is (ap (λ (d : Directive). is_id_between c.args.first c.args.past d.id) c.index-directives-at.is ∙ sym c.is_id_between.ensures ∙ c.if-not-is_id_between.false) c.loop-at.invariant

pub returns : goal.returns
returns c =
    skips_all c.args.first c.args.past c.args.directives.now c.args.from c.loop-at.at (let past = c.loop-at-test.false in omega (arith, past)) c.loop-at.invariant
