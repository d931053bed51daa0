-- Reading a session.
use Rattle.std.specs.Prelude.{ℕ, List, [], ◌∷◌, Option, Some, length}
use Rattle.aerie_text.specs.declared.sorts.Sort.TheVariants as sort
use Rattle.model_reader.specs.declared.raw.models.RawModel.{RawModel}
use Rattle.model_reader.specs.reading.Models.{model_at}
use Rattle.readers.specs.Lists.{one_more_of, row_at}
use Rattle.readers.specs.Marks.{Mark}
use Rattle.readers.specs.Parsed.{Parsed, parsed, failed, ◌>>=◌, is_of, repeated}
use Rattle.readers.specs.declared.limits.Limit.TheVariants.{Clients, Models}
use Rattle.readers.specs.declared.lists.Most.{Most}
use Rattle.session_grammar.specs.declared.raw.clients.RawClient.{RawClient}
use Rattle.session_grammar.specs.declared.raw.sections.RawSections.{RawSections}
use Rattle.session_grammar.specs.declared.raw.sessions.RawSession.{RawSession}
use Rattle.session_grammar.specs.reading.Commands.{client_at}
use Rattle.session_grammar.specs.reading.Mappings.{mappings_at}
use Rattle.session_grammar.specs.reading.Plans.{datasets_at, plan_at}
use Rattle.session_grammar.specs.reading.Sections.{sections_with}

-- the most models of a session
abbrev pub model_limit : ℕ
model_limit = 4

-- the most clients of a session
abbrev pub client_limit : ℕ
client_limit = 16

-- how many models a session may have
abbrev pub most_models : Option Most
most_models = Some (record { count = model_limit; limit = Models })

-- how many clients a session may have
abbrev pub most_clients : Option Most
most_clients = Some (record { count = client_limit; limit = Clients })

-- model { model }
unfoldable pub models_at : List Mark → Parsed (List RawModel)
models_at marks = do
  first ← model_at marks
  repeated (is_of sort.Model) (one_more_of most_models model_at) (first.0 ∷ []) first.1

-- { client }
unfoldable pub clients_at : List Mark → Parsed (List RawClient)
clients_at marks = row_at (sort.Client ∷ []) most_clients client_at marks

-- the sections, in a text of so many tokens
unfoldable pub sections_at : ℕ → List Mark → Parsed RawSections
sections_at count marks = do
  constraints ← sections_with sort.Constraints count marks
  goals ← sections_with sort.Goals count constraints.1
  sequences ← sections_with sort.Sequence count goals.1
  parsed (record { constraints = constraints.0; goals = goals.0; sequences = sequences.0 }) sequences.1

-- a session, in a text of so many tokens
unfoldable pub session_within : ℕ → List Mark → Parsed RawSession
session_within count marks = do
  models ← models_at marks
  mappings ← mappings_at models.1
  plan ← plan_at mappings.1
  datasets ← datasets_at plan.1
  sections ← sections_at count datasets.1
  clients ← clients_at sections.1
  parsed (record { models = models.0; mappings = mappings.0; plan = plan.0; datasets = datasets.0; sections = sections.0; clients = clients.0 }) clients.1

-- session = model { model } { mapping } plan { "load" NAME RAW ";" }
--           { "constraints" [ "of" NAME ] "{" rules "}" } { "goals" [ "of" NAME ] "{" rules "}" }
--           { "sequence" [ "of" NAME ] "{" rules "}" } { client }
-- It is the whole text: the marks are those of all of its tokens.
abbrev pub session_at : List Mark → Parsed RawSession
session_at marks = session_within (length marks) marks

-- the part, where no marks are left; else reading stops before them
abbrev pub whole_of : RawSession → List Mark → Parsed RawSession
whole_of raw [] = parsed raw []
whole_of raw (mark ∷ rest) = failed (mark ∷ rest)

-- a session, behind which nothing stands
abbrev pub whole_session_at : List Mark → Parsed RawSession
whole_session_at marks = session_at marks >>= λ read. whole_of read.0 read.1
