-- What the beginnings of a plan section come to: the first model of the session is the model as it is written with these
-- beginnings in place, and each other model is as it is written.
use Rattle.std.specs.Prelude.{◌≡◌, List, Ok}
use Rattle.aerie_base.specs.declared.models.model.Parts.{Parts}
use Rattle.session_grammar.specs.declared.raw.sessions.RawSession.{RawSession}
use Rattle.session_reader.specs.declared.session.Session.{Session}
use Rattle.session_reader.specs.Beginnings.{models_begun}
use Rattle.session_reader.specs.CheckedModels.{models_answer}
use Rattle.session_reader.specs.Sessions.{session_answer}
use Rattle.session_reader.specs.WellFormed.{models_in}

pub record BeginsAsPlanned (raw : RawSession) (session : Session) : Type 0 where
  -- the models as they are written
  pub written : List Parts
  pub checked : models_answer raw.models ≡ Ok written
  pub begun : models_in session ≡ models_begun raw.plan.beginnings written

abbrev pub BeginningsArePlaced : Type 0
BeginningsArePlaced = (raw : RawSession) (session : Session) → session_answer raw ≡ Ok session → BeginsAsPlanned raw session
