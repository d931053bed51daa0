use Rattle.std.proofs.Common.{List, map, sym, subst, ap, ◌∙◌}
use Rattle.dataset_in.specs.declared.series.Series.{Series}
use Rattle.dataset_in.specs.Series.{IsSeries}
use Rattle.constraints.specs.declared.types.Reading.TheVariants as read
use Rattle.constraints.specs.Following.{AreTimesEqual}
use Rattle.constraints.specs.Steps.{AreSteps, truth_step}
use Rattle.constraints.proofs.SeriesByRules.{series_equal, truth_steps_are, truth_times_are}
use Rattle.constraints.proofs.readings.series_times.Goals as goal

pub times_equal-requires : goal.times_equal-requires
times_equal-requires c =
    let given = subst IsSeries c.in-Truth.is (series_equal c.args.sources.now.model.now c.args.value.now c.args._name.now c.args.series.now c.requires.typed) in
    let steps = c.as_slice-in-Truth.ensures ∙ c.in_ok-steps-in-Truth.ensures ∙ ap (λ (l : List _). map truth_step l) c.as_slice.ensures in
    record { steps = subst (AreSteps c.args.sources.now.run.now.reach) (sym steps) (truth_steps_are c.args.sources.now.run.now.reach c.in-Truth.entries given) }

pub returns-in_ok-made-in-Truth : goal.returns-in_ok-made-in-Truth
returns-in_ok-made-in-Truth c =
    let given = subst IsSeries c.in-Truth.is (series_equal c.args.sources.now.model.now c.args.value.now c.args._name.now c.args.series.now c.requires.typed) in
    let steps = c.as_slice-in-Truth.ensures ∙ c.in_ok-steps-in-Truth.ensures ∙ ap (λ (l : List _). map truth_step l) c.as_slice.ensures in
    subst (λ (s : Series). AreTimesEqual c.args.sources.now.model.now c.args.sources.now.run.now (read.Series c.args._name.now s) c.args.value.now c.args.equal c.in_ok-made-in-Truth.made) (sym c.in-Truth.is)
    (truth_times_are c.args.sources.now.model.now c.args.sources.now.run.now c.args._name.now c.args.value.now c.args.equal c.in-Truth.entries _ c.in_ok-made-in-Truth.made given steps c.in_ok-made-in-Truth.ensures.reach c.in_ok-made-in-Truth.ensures.times)
