-- How a refusal is told: its name, and what else there is of it.
use Rattle.std.specs.Prelude.{ℕ, Bool, ◌&&◌, List, [], ◌∷◌, Some, None, codes, nat_eq, if◌then◌else◌}
use Rattle.aerie_base.specs.declared.places.Place.{Place}
use Rattle.aerie_text.specs.Marks.{slice_of}
use Rattle.aerie_text.specs.Places.{place_of}
use Rattle.aerie_text.specs.declared.token.Token.{Token}
use Rattle.dataset_in.specs.declared.dataset_error.DatasetError.{DatasetError}
use Rattle.plan_edit.specs.declared.errors.EditError.{EditError}
use Rattle.model_check.specs.declared.check_error.CheckError.{CheckError}
use Rattle.model_check.specs.declared.check_error.CheckError.TheVariants as check
use Rattle.session_reader.specs.declared.session_error.SessionError.{SessionError}
use Rattle.session_reader.specs.declared.session_error.SessionError.TheVariants as session
use Rattle.rule_check.specs.declared.rule_error.RuleError.{RuleError}
use Rattle.rule_check.specs.declared.rule_error.RuleError.TheVariants as rule
use Rattle.refusal_text.specs.declared.refusals.Refusal.{Refusal}

-- ---- words

abbrev pub are_equal_places : Place → Place → Bool
are_equal_places one other = nat_eq one.line other.line && nat_eq one.column other.column

-- the text of the token that stands at a place, or nothing where none does
abbrev pub word_standing_at : List ℕ → Place → List Token → List ℕ
word_standing_at text place [] = []
word_standing_at text place (token ∷ later) =
    if are_equal_places (place_of text token.from) place then slice_of text token.from token.to else word_standing_at text place later

-- ---- forms

-- a refusal that is told by its name alone
abbrev pub told_name : List ℕ → Refusal
told_name name = record { name = name; place = None; word = None; what = None; at = None; number = None; edit = None; fault = None }

-- by its name and a place
abbrev pub told_place : List ℕ → Place → Refusal
told_place name place = record (told_name name) { place = Some place }

-- by its name, a place and the token there
abbrev pub told_word : List ℕ → Place → List ℕ → Refusal
told_word name place word = record (told_place name place) { word = Some word }

-- by the limit that is passed and a place
abbrev pub told_limit : List ℕ → Place → Refusal
told_limit what place = record (told_place (codes "TooMany") place) { what = Some what }

-- by the offset of a byte
abbrev pub told_offset : ℕ → Refusal
told_offset at = record (told_name (codes "NotText")) { at = Some at }

-- by the number of a directive, and why it is refused
abbrev pub told_directive : ℕ → EditError → Refusal
told_directive number edit = record (told_name (codes "Directive")) { number = Some number; edit = Some edit }

-- by the number of a dataset, and why it is refused
abbrev pub told_dataset : ℕ → DatasetError → Refusal
told_dataset number fault = record (told_name (codes "Dataset")) { number = Some number; fault = Some fault }

-- ---- refusals

-- a refusal of a model or of the names of a session, by the tokens of the text
abbrev pub told_check : List ℕ → List Token → CheckError → Refusal
told_check text tokens (check.Unknown place) = told_word (codes "Unknown") place (word_standing_at text place tokens)
told_check text tokens (check.Duplicate place) = told_word (codes "Duplicate") place (word_standing_at text place tokens)
told_check text tokens (check.WrongType place) = told_word (codes "WrongType") place (word_standing_at text place tokens)
told_check text tokens (check.NotLinear place) = told_word (codes "NotLinear") place (word_standing_at text place tokens)
told_check text tokens (check.OutOfRange place) = told_word (codes "OutOfRange") place (word_standing_at text place tokens)
told_check text tokens (check.TooMany what place) = told_limit what place
told_check text tokens check.OutOfMemory = told_name (codes "OutOfMemory")

-- a refusal of a session
abbrev pub told_session : List ℕ → List Token → SessionError → Refusal
told_session text tokens session.TooLarge = told_name (codes "TooLarge")
told_session text tokens (session.NotText at) = told_offset at
told_session text tokens (session.Syntax place) = told_place (codes "Syntax") place
told_session text tokens (session.TooMany what place) = told_limit what place
told_session text tokens (session.Check error) = told_check text tokens error
told_session text tokens (session.Start place) = told_place (codes "Start") place
told_session text tokens (session.Directive number edit) = told_directive number edit
told_session text tokens (session.Client place) = told_place (codes "Client") place
told_session text tokens (session.Dataset number fault) = told_dataset number fault
told_session text tokens session.OutOfMemory = told_name (codes "OutOfMemory")

-- a refusal of rules
abbrev pub told_rule : List ℕ → List Token → RuleError → Refusal
told_rule text tokens (rule.Syntax place) = told_place (codes "Syntax") place
told_rule text tokens (rule.Unknown place) = told_word (codes "Unknown") place (word_standing_at text place tokens)
told_rule text tokens (rule.Duplicate place) = told_word (codes "Duplicate") place (word_standing_at text place tokens)
told_rule text tokens (rule.WrongType place) = told_word (codes "WrongType") place (word_standing_at text place tokens)
told_rule text tokens (rule.OutOfRange place) = told_word (codes "OutOfRange") place (word_standing_at text place tokens)
told_rule text tokens (rule.TooMany what place) = told_limit what place
told_rule text tokens (rule.Invalid place) = told_word (codes "Invalid") place (word_standing_at text place tokens)
told_rule text tokens rule.OutOfMemory = told_name (codes "OutOfMemory")
