-- What is answered is a series, since what is defined is one.
use Rattle.serde_json.specs.View.{view}
use Rattle.dataset_in.specs.Datasets.{kind_and_rows}
use Rattle.dataset_in.proofs.SeriesRead.{series_answered}
use Rattle.dataset_in.proofs.reading.read_dataset.Goals as goal

pub returns-in-Ok-clause-series : goal.returns-in-Ok-clause-series
returns-in-Ok-clause-series c = series_answered (kind_and_rows (view c.in-Ok.dataset)) c.answer_form.result c.answer_form.ensures
