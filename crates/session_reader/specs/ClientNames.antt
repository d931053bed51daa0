-- Clients have different names.
use Rattle.std.specs.Prelude.{ℕ, Bool, List, [], ◌∷◌, ◌++◌, Option, Some, None, Err, if◌then◌else◌}
use Rattle.std.specs.List.{list_any}
use Rattle.aerie_base.specs.declared.places.Place.{Place}
use Rattle.aerie_base.specs.models.Names.{same_name}
use Rattle.session_grammar.specs.declared.raw.clients.RawClient.{RawClient}
use Rattle.session_reader.specs.declared.session_error.SessionError.TheVariants.{Client}
use Rattle.session_reader.specs.Answers.{Answer}

-- whether one of some clients has the name
abbrev pub is_client_name : List RawClient → List ℕ → Bool
is_client_name clients name = list_any (λ client. same_name client.name name) clients

-- the place of the first name that an earlier client has
abbrev pub repeated_client : List RawClient → List RawClient → Option Place
repeated_client earlier [] = None
repeated_client earlier (client ∷ rest) =
    if is_client_name earlier client.name then Some client.at else repeated_client (earlier ++ client ∷ []) rest

abbrev pub unless_repeated : {A : Type 0} → Option Place → Answer A → Answer A
unless_repeated None made = made
unless_repeated (Some place) made = Err (Client place)
