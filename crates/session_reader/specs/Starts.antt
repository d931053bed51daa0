-- The start of the plans.
use Rattle.std.specs.Prelude.{ℤ, Option, Some, None, Ok, Err}
use Rattle.aerie_base.specs.declared.places.Place.{Place}
use Rattle.epoch_text.specs.Starts.{start_of}
use Rattle.session_grammar.specs.declared.raw.starts.RawStart.{RawStart}
use Rattle.session_reader.specs.declared.session_error.SessionError.TheVariants.{Start}
use Rattle.session_reader.specs.Answers.{Answer}
use Rattle.session_reader.specs.Quotes.{unquoted}

abbrev pub start_or_place : Place → Option ℤ → Answer ℤ
start_or_place place None = Err (Start place)
start_or_place place (Some micros) = Ok micros

-- the microseconds of the start, or the place of a text that is none
abbrev pub start_answer : RawStart → Answer ℤ
start_answer raw = start_or_place raw.at (start_of (unquoted 34 raw.text))
