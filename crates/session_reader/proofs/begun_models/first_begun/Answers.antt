use Rattle.session_reader.proofs.BegunModels.{begun_valid}
use Rattle.session_reader.proofs.begun_models.first_begun.Goals as goal

pub model_begun-requires : goal.model_begun-requires
model_begun-requires c =
    record { good = begun_valid c.args.model.now c.args.beginnings.now c.name-valid.ensures.valid c.requires.range c.requires.nothing }
