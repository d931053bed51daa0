-- What is wrong with the names of a session: why a name is refused, and by which rank the first of several causes at one place is told.
use Rattle.std.specs.Prelude.{ℕ, List, Option}
use Rattle.diagnostics.specs.declared.diagnostic.Diagnostic.{Diagnostic}
use Rattle.diagnostics.specs.Diagnostics.{noted_by, first_by, MakesBy}
use Rattle.session_reader.specs.declared.causes.Cause.{Cause}
use Rattle.session_reader.specs.declared.causes.Cause.TheVariants.{Unknown, Duplicate, WrongType, OutOfRange}

abbrev pub number_of_cause : Cause → ℕ
number_of_cause Unknown = 1
number_of_cause Duplicate = 2
number_of_cause WrongType = 3
number_of_cause OutOfRange = 4

-- the first of what was found so far and more of them
abbrev pub noted : Option (Diagnostic Cause) → List (Diagnostic Cause) → Option (Diagnostic Cause)
noted = noted_by number_of_cause

-- the first of them, where there is one
abbrev pub first_diagnostic : List (Diagnostic Cause) → Option (Diagnostic Cause)
first_diagnostic = first_by number_of_cause

-- what is made, and what was found before and behind it: what is wrong with it is noted
abbrev pub MakesAndNotes : {A : Type 0} → A → List (Diagnostic Cause) → Option (Diagnostic Cause) → Option (Diagnostic Cause) → A → Type 0
MakesAndNotes = MakesBy number_of_cause
