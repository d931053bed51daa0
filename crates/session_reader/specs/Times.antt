-- When directives start: instants are times behind the start of the plan.
use Rattle.std.specs.Prelude.{◌≡◌, ℕ, ℤ, pos, ◌-ℤ◌, List, [], ◌∷◌, Option, Some, None, Ok, Err, refl}
use Rattle.aerie_base.specs.Ranges.{time_limit, time_of_signed}
use Rattle.aerie_base.specs.declared.places.Place.{Place}
use Rattle.aerie_base.specs.declared.plans.When.{When}
use Rattle.epoch_text.specs.Starts.{start_of}
use Rattle.session_grammar.specs.declared.raw.clients.RawClient.{RawClient}
use Rattle.session_grammar.specs.declared.raw.clients.RawCommand.{RawCommand}
use Rattle.session_grammar.specs.declared.raw.clients.RawCommand.TheVariants as command
use Rattle.session_grammar.specs.declared.raw.plans.RawDirective.{RawDirective}
use Rattle.session_grammar.specs.declared.raw.sessions.RawSession.{RawSession}
use Rattle.session_grammar.specs.declared.raw.starts.RawWhen.{RawWhen}
use Rattle.session_grammar.specs.declared.raw.starts.RawWhen.TheVariants.{Planned, Instant}
use Rattle.session_reader.specs.declared.session_error.SessionError.TheVariants.{Start}
use Rattle.session_reader.specs.Answers.{Answer, then_made_of}
use Rattle.session_reader.specs.Quotes.{unquoted}
use Rattle.session_reader.specs.Starts.{start_answer}

-- ---- what is meant

-- where there is no such time, the longest
abbrev pub time_or_longest : Option ℕ → ℕ
time_or_longest None = time_limit
time_or_longest (Some time) = time

-- the time of an instant in a plan with a start: the longest time for one before it or too far behind it, and for no instant
abbrev pub time_from : ℤ → Option ℤ → ℕ
time_from start None = time_limit
time_from start (Some instant) = time_or_longest (time_of_signed (instant -ℤ start))

abbrev pub when_meant : ℤ → RawWhen → When
when_meant start (Planned when) = when
when_meant start (Instant raw) = record { start = time_from start (start_of (unquoted 34 raw.text)); anchor = None }

-- ---- texts that are no instant

abbrev pub place_if_none : Place → Option ℤ → Option Place
place_if_none place None = Some place
place_if_none place (Some instant) = None

abbrev pub misread_when : RawWhen → Option Place
misread_when (Planned when) = None
misread_when (Instant raw) = place_if_none raw.at (start_of (unquoted 34 raw.text))

abbrev pub misread_directive : RawDirective → Option Place
misread_directive directive = misread_when directive.at

abbrev pub misread_command : RawCommand → Option Place
misread_command (command.Add branch at given) = misread_when at
misread_command (command.Move branch id at) = misread_when at
misread_command _ = None

-- the place of one, or else of another
abbrev pub place_or : Option Place → Option Place → Option Place
place_or (Some place) other = Some place
place_or None other = other

-- the first place of one among these
abbrev pub first_misread : {A : Type 0} → (A → Option Place) → List A → Option Place
first_misread bad [] = None
first_misread bad (part ∷ rest) = place_or (bad part) (first_misread bad rest)

abbrev pub misread_client : RawClient → Option Place
misread_client client = first_misread misread_command client.commands

-- of directives and then of commands, as they stand in the text
abbrev pub misread_instant : RawSession → Option Place
misread_instant raw = place_or (first_misread misread_directive raw.plan.directives) (first_misread misread_client raw.clients)

abbrev pub unless_misread : {A : Type 0} → Option Place → A → Answer A
unless_misread None made = Ok made
unless_misread (Some place) made = Err (Start place)

-- the start of the plan, or the first text in the session that is no instant
abbrev pub starts_answer : RawSession → Answer ℤ
starts_answer raw = then_made_of (unless_misread (misread_instant raw)) (start_answer raw.plan.start)

-- ---- worked cases

pub an_hour_later : time_from (pos 5) (Some (pos 3_600_000_005)) ≡ 3_600_000_000
an_hour_later = refl

pub before_the_start : time_from (pos 5) (Some (pos 4)) ≡ time_limit
before_the_start = refl

pub too_far_behind : time_from (pos 0) (Some (pos 1_000_000_000_000_001)) ≡ time_limit
too_far_behind = refl
