-- What a judged session keeps for the clients' work.
use Rattle.session_judge.specs.declared.judged.JudgedSession.{JudgedSession}
use Rattle.session_judge.specs.OfModels.{HasConstraintsOfModels, HasGoalsOfModels, HasSequencesOfModels}
use Rattle.session_reader.specs.FewClients.{HasFewClients}
use Rattle.session_reader.specs.WellFormed.{IsSession}

-- of each sort one entry of rules for each model, which are of that model
pub record HasAllRules (judged : JudgedSession) : Type 0 where
  pub constraints : HasConstraintsOfModels judged
  pub goals : HasGoalsOfModels judged
  pub sequences : HasSequencesOfModels judged

-- a session that can be performed
pub record CanBePerformed (judged : JudgedSession) : Type 0 where
  pub session : IsSession judged.session
  pub few : HasFewClients judged.session
  pub rules : HasAllRules judged
