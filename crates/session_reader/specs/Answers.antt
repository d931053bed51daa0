-- What is made of a part of a session, or why nothing is.
use Rattle.std.specs.Prelude.{◌≡◌, List, ◌∷◌, Option, Some, None, Result, Ok, Err}
use Rattle.aerie_base.specs.declared.places.Place.{Place}
use Rattle.model_check.specs.declared.check_error.CheckError.{CheckError}
use Rattle.model_check.specs.declared.check_error.CheckError.TheVariants as check
use Rattle.session_reader.specs.declared.causes.Cause.{Cause}
use Rattle.session_reader.specs.declared.causes.Cause.TheVariants.{Unknown, Duplicate, WrongType, OutOfRange}
use Rattle.diagnostics.specs.declared.diagnostic.Diagnostic.{Diagnostic}
use Rattle.session_reader.specs.declared.session_error.SessionError.{SessionError}
use Rattle.session_reader.specs.declared.session_error.SessionError.TheVariants.{Check, OutOfMemory}

-- a part, or why there is none
abbrev pub Answer : Type 0 → Type 0
Answer A = Result A SessionError

-- what is made of a part, or why there is none
abbrev pub then_made_of : {A B : Type 0} → (A → Answer B) → Answer A → Answer B
then_made_of make (Ok part) = make part
then_made_of make (Err refusal) = Err refusal

-- one in front of others, or why there is none: the first cause
abbrev pub in_front : {A : Type 0} → Answer A → Answer (List A) → Answer (List A)
in_front (Err refusal) rest = Err refusal
in_front (Ok first) (Err refusal) = Err refusal
in_front (Ok first) (Ok rest) = Ok (first ∷ rest)

-- this is why nothing is made: the refusal, or want of memory
abbrev pub IsRefusal : {A : Type 0} → Answer A → SessionError → Type 0
IsRefusal made OutOfMemory = Unit {0}
IsRefusal made refusal = made ≡ Err refusal

-- this is what is made, or why nothing is made
abbrev pub IsMade : {A : Type 0} → Answer A → Answer A → Type 0
IsMade made (Ok part) = made ≡ Ok part
IsMade made (Err refusal) = IsRefusal made refusal

-- ---- refusals of names

-- the error of a cause at its place
abbrev pub check_error : Cause → Place → CheckError
check_error Unknown place = check.Unknown place
check_error Duplicate place = check.Duplicate place
check_error WrongType place = check.WrongType place
check_error OutOfRange place = check.OutOfRange place

-- what is made, unless something was found
abbrev pub unless_found : {A : Type 0} → Option (Diagnostic Cause) → Answer A → Answer A
unless_found None made = made
unless_found (Some found) made = Err (Check (check_error found.cause found.place))
