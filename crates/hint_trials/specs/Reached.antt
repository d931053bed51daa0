-- How far the judging of a session comes: the stage of the first refusal, and its place there.
use Rattle.std.specs.Prelude.{◌≡◌, ℕ, Bool, true, false, IsTrue, ◌&&◌, ◌||◌, List, Option, Some, None, Result, Ok, Err, length, nat_eq, nat_lt, if◌then◌else◌, refl}
use Rattle.std.specs.Str.{is_utf8}
use Rattle.aerie_base.specs.declared.places.Place.{Place}
use Rattle.model_check.specs.declared.check_error.CheckError.{CheckError}
use Rattle.model_check.specs.declared.check_error.CheckError.TheVariants as check
use Rattle.refusal_text.specs.declared.refusals.Refusal.{Refusal}
use Rattle.session_judge.specs.Judging.{Judgement, judged_session}
use Rattle.session_judge.specs.declared.judged.JudgedSession.{JudgedSession}
use Rattle.session_reader.specs.Answers.{Answer}
use Rattle.session_reader.specs.SessionTexts.{byte_limit, not_text, text_answer}
use Rattle.session_reader.specs.declared.session.Session.{Session}
use Rattle.session_reader.specs.declared.session_error.SessionError.{SessionError}
use Rattle.session_reader.specs.declared.session_error.SessionError.TheVariants as session
use Rattle.hint_trials.specs.declared.stages.Reach.{Reach}
use Rattle.hint_trials.specs.declared.stages.Reach.TheVariants.{Size, Bytes, Form, Checks, Start, Directive, Client, Dataset, Rules, Accepted}

-- ---- what is reached

-- where no place is told
abbrev pub no_place : Place
no_place = record { line = 0; column = 0 }

abbrev pub place_or_none : Option Place → Place
place_or_none None = no_place
place_or_none (Some place) = place

-- where a check refuses
abbrev pub place_of_check : CheckError → Place
place_of_check (check.Unknown place) = place
place_of_check (check.Duplicate place) = place
place_of_check (check.WrongType place) = place
place_of_check (check.NotLinear place) = place
place_of_check (check.OutOfRange place) = place
place_of_check (check.TooMany what place) = place
place_of_check check.OutOfMemory = no_place

-- the stage at which a reader of sessions refuses: the form and its limits are one stage, and so are all checks
abbrev pub reached_of_error : SessionError → Reach
reached_of_error session.TooLarge = Size
reached_of_error (session.NotText at) = Bytes at
reached_of_error (session.Syntax place) = Form place
reached_of_error (session.TooMany what place) = Form place
reached_of_error (session.Check error) = Checks (place_of_check error)
reached_of_error (session.Start place) = Start place
reached_of_error (session.Directive number edit) = Directive number
reached_of_error (session.Client place) = Client place
reached_of_error (session.Dataset number fault) = Dataset number
reached_of_error session.OutOfMemory = Size

-- what is reached of a session that is read: all of it, or the first of its rules that is refused
abbrev pub reached_of_rules : Judgement JudgedSession → Reach
reached_of_rules (Ok judged) = Accepted
reached_of_rules (Err refusal) = Rules (place_or_none refusal.place)

abbrev pub reached_of_answer : List ℕ → Answer Session → Reach
reached_of_answer bytes (Ok session) = reached_of_rules (judged_session bytes)
reached_of_answer bytes (Err error) = reached_of_error error

-- what is read of bytes
unfoldable pub read_answer : List ℕ → Answer Session
read_answer bytes =
    if nat_lt byte_limit (length bytes) then Err session.TooLarge
    else if is_utf8 bytes then text_answer bytes
    else Err (not_text bytes)

-- how far the judging of bytes comes
abbrev pub reached : List ℕ → Reach
reached bytes = reached_of_answer bytes (read_answer bytes)

-- ---- further

-- the number of a stage in the order in which sessions are judged
abbrev pub stage_of : Reach → ℕ
stage_of Size = 0
stage_of (Bytes at) = 1
stage_of (Form place) = 2
stage_of (Checks place) = 3
stage_of (Start place) = 4
stage_of (Directive number) = 5
stage_of (Client place) = 6
stage_of (Dataset number) = 7
stage_of (Rules place) = 8
stage_of Accepted = 9

-- a line and a column, or a number and 0
abbrev pub StageSpot : Type 0
StageSpot = ℕ × ℕ

abbrev pub stage_spot_of_place : Place → StageSpot
stage_spot_of_place place = (place.line, place.column)

-- where in its stage something is refused
abbrev pub spot_of : Reach → StageSpot
spot_of Size = (0, 0)
spot_of (Bytes at) = (at, 0)
spot_of (Form place) = stage_spot_of_place place
spot_of (Checks place) = stage_spot_of_place place
spot_of (Start place) = stage_spot_of_place place
spot_of (Directive number) = (number, 0)
spot_of (Client place) = stage_spot_of_place place
spot_of (Dataset number) = (number, 0)
spot_of (Rules place) = stage_spot_of_place place
spot_of Accepted = (0, 0)

abbrev pub comes_before : StageSpot → StageSpot → Bool
comes_before one other = nat_lt one.0 other.0 || (nat_eq one.0 other.0 && nat_lt one.1 other.1)

-- the second lies further than the first: in a later stage, or in the same stage at a later place or number
abbrev pub is_further : Reach → Reach → Bool
is_further one other =
    nat_lt (stage_of one) (stage_of other) || (nat_eq (stage_of one) (stage_of other) && comes_before (spot_of one) (spot_of other))

abbrev pub IsFurther : Reach → Reach → Type 0
IsFurther one other = IsTrue (is_further one other)

-- ---- worked cases

pub a_later_stage : is_further (Form (record { line = 9; column = 2 })) (Checks (record { line = 3; column = 1 })) ≡ true
a_later_stage = refl

pub a_later_line : is_further (Form (record { line = 3; column = 8 })) (Form (record { line = 4; column = 1 })) ≡ true
a_later_line = refl

pub the_same_place : is_further (Checks (record { line = 3; column = 8 })) (Checks (record { line = 3; column = 8 })) ≡ false
the_same_place = refl

pub an_earlier_directive : is_further (Directive 4) (Directive 3) ≡ false
an_earlier_directive = refl

pub accepted : is_further (Rules (record { line = 30; column = 8 })) Accepted ≡ true
accepted = refl
