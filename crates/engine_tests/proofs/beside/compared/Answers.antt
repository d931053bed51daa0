use Rattle.std.proofs.Common.{◌∙◌, sym, ap, subst}
use Rattle.aerie_base.specs.declared.models.model.Parts.{Parts}
use Rattle.aerie_base.specs.plans.OfModel.{IsPlanOf}
use Rattle.run_data.specs.KeptRuns.{KeptRun}
use Rattle.engine_tests.proofs.beside.compared.Goals as goal

-- the model of a run that was kept
pub resimulated-requires : goal.resimulated-requires
resimulated-requires g c = record {
  plan = subst (λ (m : Parts). IsPlanOf m c.args.after.now) (sym (ap (λ (k : KeptRun). k.model) c.get.ensures ∙ c.in_ok-old.ensures)) c.requires.after;
}
