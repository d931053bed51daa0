use Rattle.std.proofs.Common.{sym, subst}
use Rattle.session_reader.specs.Answers.{IsRefusal}
use Rattle.session_reader.specs.CheckedModels.{model_answer}
use Rattle.session_reader.proofs.Refusals.{model_refused}
use Rattle.session_reader.proofs.models.model.Goals as goal

pub returns-in-Err-clause-made : goal.returns-in-Err-clause-made
returns-in-Err-clause-made c =
    subst (IsRefusal (model_answer c.args.raw.now)) (sym c.refusal.ensures) (model_refused _ c.in-Err.error c.in-Err.ensures.exact)
