use Rattle.std.proofs.Common.{sym, subst}
use Rattle.session_reader.specs.Answers.{IsRefusal}
use Rattle.session_reader.specs.DatasetAnswers.{dataset_answer}
use Rattle.session_reader.proofs.Refusals.{series_refused}
use Rattle.session_reader.proofs.datasets.dataset.Goals as goal

pub returns-in-Err-clause-made : goal.returns-in-Err-clause-made
returns-in-Err-clause-made c =
    subst (IsRefusal (dataset_answer c.args.number c.args.raw.now)) (sym c.refusal.ensures)
    (series_refused c.args.number c.args.raw.now.name.name _ c.in-Err.fault c.in-Err.ensures.exact)
