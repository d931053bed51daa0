use Rattle.std.proofs.Common.{List, ◌+◌, drop, refl, sym, ap, subst, ◌∙◌}
use Rattle.dataset_in.specs.Series.{IsSeries}
use Rattle.session_reader.specs.DatasetAnswers.{AreSeries, NamedSeries, dataset_answer, datasets_answer}
use Rattle.session_reader.proofs.Each.{all_behind}
use Rattle.session_reader.proofs.Joined.{joined_on, one_on}
use Rattle.session_reader.proofs.datasets.datasets.Goals as goal

pub loop-number-preserved : goal.loop-number-preserved
loop-number-preserved c =
    let number = c.loop-number.number in
    let one = c.in_ok-dataset.field-0 in
    let pushed = c.in_ok-push.ensures.pushed in (
      c.loop-number.invariant.0
          ∙ (one_on dataset_answer datasets_answer (λ n x rest. refl) c.loop-number.made c.args.raw.now number c.index-raw-number.result one c.loop-number-test.true c.index-raw-number.is c.in_ok-dataset.ensures.made
          ∙ ap (λ (so_far : List NamedSeries). joined_on so_far (datasets_answer (number + 1) (drop (number + 1) c.args.raw.now))) (sym pushed)),
      subst AreSeries (sym pushed) (all_behind (λ (named : NamedSeries). IsSeries named.1) c.loop-number.made one c.loop-number.invariant.1 c.in_ok-dataset.ensures.series),
    )
