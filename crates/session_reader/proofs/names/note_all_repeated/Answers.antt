use Rattle.std.proofs.Common.{map, refl, ap, ◌∙◌}
use Rattle.model_reader.specs.declared.raw.names.RawName.{RawName}
use Rattle.diagnostics.specs.NameLists.{with_name}
use Rattle.diagnostics.specs.RepeatedNames.{repeated_at}
use Rattle.diagnostics.specs.Iterations.{judged_iteration}
use Rattle.session_reader.specs.declared.causes.Cause.TheVariants.{Duplicate}
use Rattle.session_reader.specs.Diagnostics.{number_of_cause, noted}
use Rattle.session_reader.specs.RepeatedNames.{repeated_diagnostics}
use Rattle.session_reader.proofs.names.note_all_repeated.Goals as goal

pub loop-part-preserved : goal.loop-part-preserved
loop-part-preserved g c =
    judged_iteration number_of_cause (λ s x. with_name s (g.T.Named.named x).name) (λ s x. repeated_at Duplicate s (g.T.Named.named x).name (g.T.Named.named x).at)
    (λ s xs. repeated_diagnostics s (map g.T.Named.named xs)) (λ s x rest. refl)
    c.args.parts.now c.loop-part.part-index c.part-item.result c.loop-part-test.true c.part-item.is
    c.loop-part.earlier _ (c.in_ok-note_repeated.ensures.0 ∙ ap (λ (name : RawName). with_name c.loop-part.earlier name.name) c.raw_name-name.ensures)
    c.loop-part.found _ _
    (c.in_ok-note_repeated.ensures.1 ∙ ap (λ (name : RawName). noted c.loop-part.found (repeated_at Duplicate c.loop-part.earlier name.name name.at)) c.raw_name-name.ensures)
    c.loop-part.invariant
