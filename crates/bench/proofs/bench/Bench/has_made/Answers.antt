use Rattle.std.proofs.Common.{refl, ap, subst}
use Rattle.run_data.specs.KeptRuns.{KeptRun}
use Rattle.bench.specs.Benches.{BenchOf, IsFreshRunOf}
use Rattle.bench.proofs.Making.{made_for}
use Rattle.bench.proofs.bench.Bench.has_made.Goals as goal

pub returns : goal.returns
returns c = λ same.
    made_for c.args.self.now c.args.self.now.model c.self.inside.setting.bound c.args.plan.now c.args.kept.now refl (ap (λ (bench : BenchOf). bench.bound) c.self.view_is)
    c.requires (subst (λ (kept : KeptRun). IsFreshRunOf kept c.args.plan.now c.self.inside.setting.bound) c.get.ensures (c.is_run_of.ensures same))
