-- What holds of every session.
use Rattle.std.specs.Prelude.{◌≡◌, ℕ, ◌≤◌, List, [], ◌++◌, Option, Some, None, Ok, length, map}
use Rattle.std.specs.List.{AllByRecursion}
use Rattle.aerie_base.specs.declared.models.model.Parts.{Parts}
use Rattle.aerie_base.specs.declared.plans.Plan.{Plan}
use Rattle.aerie_text.specs.declared.token.Token.{Token}
use Rattle.aerie_text.specs.Tokens.{tokens_of}
use Rattle.session_reader.specs.declared.session.ModelPart.{ModelPart}
use Rattle.session_reader.specs.declared.session.Session.{Session}
use Rattle.commands.specs.SessionModels.{AreModels, IsPlanAmong}
use Rattle.session_reader.specs.DatasetAnswers.{AreSeries}
use Rattle.session_reader.specs.Beginnings.{models_of_plan, plan_diagnostics}
use Rattle.session_reader.specs.CheckedModels.{AreValid, models_answer}
use Rattle.session_reader.specs.Sections.{TokenRange}
use Rattle.session_reader.specs.Sessions.{session_diagnostics}
use Rattle.session_grammar.specs.SessionLimits.{IsLimitedSession}
use Rattle.session_grammar.specs.declared.raw.sessions.RawSession.{RawSession}

abbrev pub models_in : Session → List Parts
models_in session = map (λ part. part.model) session.models

-- a plan of the first model
pub record IsPlanOfFirst (models : List Parts) (plan : Plan) : Type 0 where
  pub among : IsPlanAmong models plan
  pub first : plan.model ≡ 0

-- 1 to 4 models of different names, mappings that fit them, a plan of the first one, and series of the form
pub record IsSession (session : Session) : Type 0 where
  pub among : AreModels (models_in session) session.mappings
  pub plan : IsPlanOfFirst (models_in session) session.plan
  pub datasets : AreSeries session.datasets

-- a session as it is written, within the limits of a text of some length
pub record IsLimited (raw : RawSession) : Type 0 where
  pub count : ℕ
  pub limits : IsLimitedSession count raw

-- nothing is refused of the models as they are written, of the beginnings of the plan, nor of the names of the session
pub record MayBeMade (models : List Parts) (raw : RawSession) : Type 0 where
  pub limits : IsLimited raw
  pub written : List Parts
  pub checked : models_answer raw.models ≡ Ok written
  pub begun : models ≡ models_of_plan raw.plan.beginnings written
  pub valid : AreValid models
  pub nothing : plan_diagnostics raw.plan.beginnings written ++ session_diagnostics models raw ≡ []

-- ---- sections

-- a range of so many tokens
abbrev pub IsRangeWithin : ℕ → Option TokenRange → Type 0
IsRangeWithin count None = Unit {0}
IsRangeWithin count (Some range) = (range.0 ≤ range.1) × (range.1 ≤ count)

-- each section of a model
pub record HasSectionsWithin (count : ℕ) (part : ModelPart) : Type 0 where
  pub constraints : IsRangeWithin count part.constraints
  pub goals : IsRangeWithin count part.goals
  pub sequence : IsRangeWithin count part.sequence

-- in a text that is cut into tokens: a session as it is written, within the limits of so many
abbrev pub IsLimitedIn : List ℕ → RawSession → Type 0
IsLimitedIn text raw = (tokens : List Token) → tokens_of text ≡ Ok tokens → IsLimitedSession (length tokens) raw

-- and sections that stand among these tokens
abbrev pub HasSectionsIn : List ℕ → Session → Type 0
HasSectionsIn text session = (tokens : List Token) → tokens_of text ≡ Ok tokens → AllByRecursion (HasSectionsWithin (length tokens)) session.models

-- the sections stand among the tokens of a text, where those of the session as it is written do
abbrev pub HasRangesOf : RawSession → Session → Type 0
HasRangesOf raw session = (count : ℕ) → IsLimitedSession count raw → AllByRecursion (HasSectionsWithin count) session.models
