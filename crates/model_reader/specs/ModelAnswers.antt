-- What a reader of a model in a row of tokens answers.
use Rattle.std.specs.Prelude.{◌≡◌, ℕ, ◌-◌, List, Result, Ok, Err, length, take, drop}
use Rattle.aerie_base.specs.declared.places.Place.{Place}
use Rattle.readers.specs.Marks.{Mark}
use Rattle.aerie_text.specs.declared.token.Token.{Token}
use Rattle.readers.specs.Marks.{marks_of}
use Rattle.readers.specs.grammar.Readings.{IsRead}
use Rattle.readers.specs.Parsed.{Parsed, parsed, failed, over_limit}
use Rattle.readers.specs.Places.{place_left, IsFirstRefusedBy, IsReadThroughBy}
use Rattle.readers.specs.Words.{word_of}
use Rattle.readers.specs.declared.refusal.Refusal.{Refusal}
use Rattle.readers.specs.declared.refusal.Refusal.TheVariants as refusal
use Rattle.model_reader.specs.declared.raw.models.RawModel.{RawModel}
use Rattle.model_reader.specs.declared.read_error.ReadError.{ReadError}
use Rattle.model_reader.specs.declared.read_error.ReadError.TheVariants.{Syntax, TooMany, OutOfMemory}
use Rattle.model_reader.specs.Limits.{CountNumbers, IsWithinLimits}
use Rattle.model_reader.specs.grammar.Rules.{model_rule}
use Rattle.model_reader.specs.grammar.Written.{written}
use Rattle.model_reader.specs.reading.Models.{model_at}

-- the marks of the tokens from this one on
abbrev pub marks_from : List ℕ → List Token → ℕ → List Mark
marks_from text tokens from = marks_of text (drop from tokens)

-- the marks of the tokens from one up to another
abbrev pub marks_between : List ℕ → List Token → ℕ → ℕ → List Mark
marks_between text tokens from to = take (to - from) (marks_from text tokens from)

-- The answer of a reader of a text: what is made of a part and of the marks behind it; or the place of the first mark that is
-- left, with the limit that is passed there.
abbrev pub answer_by : {A B : Type 0} → List ℕ → (A → List Mark → B) → Parsed A → Result B ReadError
answer_by text made (parsed part rest) = Ok (made part rest)
answer_by text made (failed rest) = Err (Syntax (place_left text rest))
answer_by text made (over_limit limit rest) = Err (TooMany (word_of limit) (place_left text rest))

-- the answer where so many tokens are counted: a model with the number of the token behind it
abbrev pub answer_of : List ℕ → ℕ → Parsed RawModel → Result (RawModel × ℕ) ReadError
answer_of text count reading = answer_by text (λ model rest. (model, count - length rest)) reading

-- the error of a refusal with these marks left
abbrev pub IsReadErrorOf : List ℕ → List Mark → Refusal → ReadError → Type 0
IsReadErrorOf text rest refusal.Syntax error = error ≡ Syntax (place_left text rest)
IsReadErrorOf text rest (refusal.TooMany limit) error = error ≡ TooMany (word_of limit) (place_left text rest)
IsReadErrorOf text rest refusal.OutOfMemory error = error ≡ OutOfMemory

-- the answer is this one, unless memory ran out
abbrev pub UnlessOutOfMemory : {A : Type 0} → Result A ReadError → Result A ReadError → Type 0
UnlessOutOfMemory answer (Ok part) = answer ≡ Ok part
UnlessOutOfMemory answer (Err (Syntax place)) = answer ≡ Err (Syntax place)
UnlessOutOfMemory answer (Err (TooMany what place)) = answer ≡ Err (TooMany what place)
UnlessOutOfMemory answer (Err OutOfMemory) = Unit {0}

-- the answer of a reader of the model that begins with the token of this number
abbrev pub IsAnswer : List ℕ → List Token → ℕ → Result (RawModel × ℕ) ReadError → Type 0
IsAnswer text tokens from result = UnlessOutOfMemory (answer_of text (length tokens) (model_at (marks_from text tokens from))) result

-- at the place stands the first of the marks that no reading of the grammar as it is written reads, or it is that of the end
abbrev pub IsFirstRefused : List ℕ → List Mark → Place → Type 0
IsFirstRefused text marks place = IsFirstRefusedBy written model_rule text marks place

-- at the place stands a mark up to which, and with it, some reading of the grammar as it is written reads the marks
abbrev pub IsReadThrough : List Mark → Place → Type 0
IsReadThrough marks place = IsReadThroughBy written model_rule marks place

-- what holds of the place where the answer is this place alone
abbrev pub IfSyntax : {A : Type 0} → Result A ReadError → (Place → Type 0) → Type 0
IfSyntax result Holds = (place : Place) → result ≡ Err (Syntax place) → Holds place

-- what holds of the place where the answer is that a limit is passed there
abbrev pub IfTooMany : {A : Type 0} → Result A ReadError → (Place → Type 0) → Type 0
IfTooMany result Holds = (what : List ℕ) (place : Place) → result ≡ Err (TooMany what place) → Holds place

-- the tokens from this one up to another are a model, by the grammar as it is written
abbrev pub AreModel : List ℕ → List Token → ℕ → ℕ → Type 0
AreModel text tokens from to = IsRead written model_rule (marks_between text tokens from to)

-- no tokens from this one on are a model
abbrev pub NoModelBegins : List ℕ → List Token → ℕ → Type 0
NoModelBegins text tokens from = (to : ℕ) → AreModel text tokens from to → ⊥

-- where reading a model fails, no marks in front are one, by the grammar as it is written
abbrev pub FailsWhereNoModelBegins : Type 0
FailsWhereNoModelBegins = (marks rest : List Mark) → model_at marks ≡ failed rest → (count : ℕ) → IsRead written model_rule (take count marks) → ⊥

-- what is read of marks that count numbers is within the limits
abbrev pub ReadsWithinLimits : Type 0
ReadsWithinLimits = (marks rest : List Mark) (raw : RawModel) → CountNumbers marks → model_at marks ≡ parsed raw rest → IsWithinLimits raw
