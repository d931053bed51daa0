-- A kept run beside its model.
use Rattle.aerie_base.specs.declared.models.model.Parts.{Parts}
use Rattle.run_data.specs.declared.runs.Run.{Run}

pub record KeptRun : Type 0 where
  pub model : Parts
  pub run : Run
