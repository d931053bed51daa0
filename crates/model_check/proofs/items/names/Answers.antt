use Rattle.std.proofs.Common.{refl}
use Rattle.model_reader.specs.declared.raw.names.RawName.{RawName}
use Rattle.model_check.specs.ModelMeaning.{names_of}
use Rattle.diagnostics.specs.Iterations.{made_iteration}
use Rattle.model_check.proofs.items.names.Goals as goal

pub loop-name-preserved : goal.loop-name-preserved
loop-name-preserved c =
    made_iteration {S = Unit {0}} (λ s x. s) (λ s (x : RawName). x.name) (λ s xs. names_of xs) (λ s x rest. refl)
    c.args.written.now c.loop-name.name-index c.name-item.result c.loop-name-test.true c.name-item.is
    tt tt refl _ _ _ _ c.in_ok-copy.ensures c.in_ok-push.ensures.pushed c.loop-name.invariant
