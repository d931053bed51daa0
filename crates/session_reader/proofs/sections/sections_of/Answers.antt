use Rattle.std.proofs.Common.{refl}
use Rattle.session_reader.specs.Diagnostics.{number_of_cause}
use Rattle.diagnostics.specs.Iterations.{state_iteration}
use Rattle.session_grammar.specs.declared.raw.sections.RawSection.{RawSection}
use Rattle.session_reader.specs.Sections.{model_of_section, position_of_section, section_diagnostics, with_section, sections_by_model, sections_diagnostics}
use Rattle.diagnostics.specs.Iterations.{judged_iteration}
use Rattle.session_reader.proofs.sections.sections_of.Goals as goal

pub loop-section-preserved : goal.loop-section-preserved
loop-section-preserved c =
    let models = c.args.models.now in (
      state_iteration (with_section models) (sections_by_model models) (λ s x rest. refl)
          c.args.raw.now c.loop-section.section-index c.section-item.result c.loop-section-test.true c.section-item.is
          c.loop-section.sections _ _ c.add_section.ensures.put c.loop-section.invariant.0,
      judged_iteration number_of_cause (with_section models) (λ s (x : RawSection). section_diagnostics s (position_of_section x.at x.of) (model_of_section models x.of)) (sections_diagnostics models) (λ s x rest. refl)
          c.args.raw.now c.loop-section.section-index c.section-item.result c.loop-section-test.true c.section-item.is
          c.loop-section.sections _ c.add_section.ensures.put _ _ _ c.add_section.ensures.noted c.loop-section.invariant.1,
    )
