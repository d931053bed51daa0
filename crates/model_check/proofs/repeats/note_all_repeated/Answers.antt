use Rattle.std.proofs.Common.{not, refl}
use Rattle.aerie_base.specs.models.Names.{is_name_among}
use Rattle.model_reader.specs.declared.raw.names.RawName.{RawName}
use Rattle.model_check.specs.declared.causes.Cause.TheVariants.{Duplicate}
use Rattle.model_check.specs.Diagnostics.{number_of_cause}
use Rattle.diagnostics.specs.Diagnostics.{refused_unless}
use Rattle.model_check.specs.ModelDiagnostics.{repeated_diagnostics}
use Rattle.diagnostics.specs.NameLists.{with_name}
use Rattle.diagnostics.specs.Iterations.{judged_iteration}
use Rattle.model_check.proofs.repeats.note_all_repeated.Goals as goal

pub loop-name-preserved : goal.loop-name-preserved
loop-name-preserved c =
    judged_iteration number_of_cause (λ s (x : RawName). with_name s x.name) (λ s (x : RawName). refused_unless (not (is_name_among x.name s)) Duplicate x.at) repeated_diagnostics (λ s x rest. refl)
    c.args.names.now c.loop-name.name-index c.name-item.result c.loop-name-test.true c.name-item.is
    _ _ c.in_ok-note_repeated.ensures.0 _ _ _ c.in_ok-note_repeated.ensures.1 c.loop-name.invariant
