-- What the answer of the reader of a model says of the readings of the grammar.
use Rattle.std.proofs.Common.{◌≡◌, ℕ, ◌+◌, ◌-◌, ◌≤◌, List, [], ◌∷◌, ◌++◌, length, take, drop, Result, Ok, Err, IfOk, refl, sym, ap, subst, ◌∙◌, arith}
use Rattle.std.proofs.Math.Seq.{take-append_seam}
use Rattle.std.proofs.lemmas.List.{length-append, length-drop, length-map}
use Rattle.aerie_base.specs.declared.places.Place.{Place}
use Rattle.readers.specs.declared.limits.Limit.{Limit}
use Rattle.readers.specs.Marks.{Mark}
use Rattle.aerie_text.specs.declared.token.Token.{Token}
use Rattle.readers.specs.Marks.{mark_of}
use Rattle.readers.specs.grammar.Readings.{IsRead}
use Rattle.readers.specs.Parsed.{Parsed, parsed, failed, over_limit}
use Rattle.readers.specs.Implements.{Refuses}
use Rattle.readers.specs.Places.{place_left, IsFirstRefusedBy, IsReadThroughBy}
use Rattle.readers.specs.Verdicts.{IsReadableThrough, Judges}
use Rattle.readers.specs.declared.refusal.Refusal.{Refusal}
use Rattle.readers.specs.declared.refusal.Refusal.TheVariants as refusal
use Rattle.readers.specs.grammar.Forms.{Grammar}
use Rattle.readers.specs.grammar.Lookahead.{stops}
use Rattle.readers.specs.grammar.Tells.{Tells}
use Rattle.readers.proofs.Places.{first_refused, read_through}
use Rattle.model_reader.specs.declared.raw.models.RawModel.{RawModel}
use Rattle.model_reader.specs.declared.read_error.ReadError.{ReadError}
use Rattle.model_reader.specs.declared.read_error.ReadError.TheVariants.{Syntax, TooMany}
use Rattle.model_reader.specs.grammar.Rules.{model_rule}
use Rattle.model_reader.specs.grammar.Written.{written}
use Rattle.model_reader.specs.ModelAnswers.{answer_by, answer_of, IsReadErrorOf, UnlessOutOfMemory, marks_from, IsFirstRefused, IsReadThrough}

-- as many marks as there are tokens from this one on
pub marks_left : (text : List ℕ) (tokens : List Token) (from : ℕ) → length (marks_from text tokens from) ≡ length tokens - from
marks_left text tokens from = length-map (drop from tokens) (mark_of text) ∙ length-drop from tokens

behind_front : (count from front rest : ℕ) → from ≤ count → front + rest ≡ count - from → count - rest - from ≡ front
behind_front count from front rest l e = omega (arith, l, e)

-- the error of a refusal is what is answered where reading ends so
pub error_answers : {A B : Type 0} (text : List ℕ) (made : A → List Mark → B) (rest : List Mark) (why : Refusal) (error : ReadError) (reading : Parsed A)
    → Refuses rest why reading → IsReadErrorOf text rest why error → UnlessOutOfMemory (answer_by text made reading) (Err error)
error_answers text made rest refusal.Syntax error reading refused is =
    subst (λ (e : ReadError). UnlessOutOfMemory (answer_by text made reading) (Err e)) (sym is) (ap (answer_by text made) refused)
error_answers text made rest (refusal.TooMany limit) error reading refused is =
    subst (λ (e : ReadError). UnlessOutOfMemory (answer_by text made reading) (Err e)) (sym is) (ap (answer_by text made) refused)
error_answers text made rest refusal.OutOfMemory error reading refused is =
    subst (λ (e : ReadError). UnlessOutOfMemory (answer_by text made reading) (Err e)) (sym is) tt

module _ {A B : Type 0} (text : List ℕ) (made : A → List Mark → B) where
  made_of : (part : A) (rest : List Mark) (answer : B) → answer_by text made (parsed part rest) ≡ Ok answer → made part rest ≡ answer
  made_of part rest answer h = cc

  syntax_place : (rest : List Mark) (place : Place) → answer_by text made (failed rest) ≡ Err (Syntax place) → place ≡ place_left text rest
  syntax_place rest place h = cc

  limit_place : (limit : Limit) (rest : List Mark) (what : List ℕ) (place : Place) → answer_by text made (over_limit limit rest) ≡ Err (TooMany what place) → place ≡ place_left text rest
  limit_place limit rest what place h = cc

  -- what holds of what is made of each part that is read holds of what is answered
  pub answered_holds : (reading : Parsed A) (result : Result B ReadError) (P : B → Type 0) → ((rest : List Mark) (part : A) → reading ≡ parsed part rest → P (made part rest))
      → UnlessOutOfMemory (answer_by text made reading) result → IfOk result P
  answered_holds (parsed part rest) (Ok answer) P holds exact = subst P (made_of part rest answer exact) (holds rest part refl)
  answered_holds (failed rest) (Ok answer) P holds exact = cc
  answered_holds (over_limit limit rest) (Ok answer) P holds exact = cc
  answered_holds reading (Err error) P holds exact = tt

  module _ {Rule Kind : Type 0} (g : Grammar Rule Kind Mark) (start : Rule) (marks : List Mark) where
    -- a place is answered alone: the first mark that is refused stands there, or the end is refused
    pub refused_there : (reading : Parsed A) (place : Place) → ((rest : List Mark) → reading ≡ failed rest → Tells g start marks (stops rest))
        → answer_by text made reading ≡ Err (Syntax place) → IsFirstRefusedBy g start text marks place
    refused_there (parsed part rest) place told h = cc
    refused_there (failed rest) place told h = first_refused g start text marks rest place (syntax_place rest place h) (told rest refl)
    refused_there (over_limit limit rest) place told h = cc

    -- a limit is answered: the mark that stands there is read by some reading
    pub passed_there : (reading : Parsed A) (what : List ℕ) (place : Place) → ((limit : Limit) (rest : List Mark) → reading ≡ over_limit limit rest → IsReadableThrough g start marks rest)
        → answer_by text made reading ≡ Err (TooMany what place) → IsReadThroughBy g start marks place
    passed_there (parsed part rest) what place readable h = cc
    passed_there (failed rest) what place readable h = cc
    passed_there (over_limit limit rest) what place readable h = read_through g start text marks rest place (limit_place limit rest what place h) (readable limit rest refl)

-- ---- models

pair_of : (text : List ℕ) (count : ℕ) (model : RawModel) (rest : List Mark) (answer : RawModel × ℕ) → answer_of text count (parsed model rest) ≡ Ok answer → answer ≡ (model, count - length rest)
pair_of text count model rest answer h = cc

-- a model is answered: the marks of the tokens before the one that is answered are a model
pub answered_read : (text : List ℕ) (count from : ℕ) (marks : List Mark) (reading : Parsed RawModel) (answer : RawModel × ℕ) → from ≤ count → length marks ≡ count - from → Judges written model_rule marks reading
    → answer_of text count reading ≡ Ok answer → IsRead written model_rule (take (answer.1 - from) marks)
answered_read text count from marks (parsed model rest) answer l e judged h =
    let front = judged.front in
    let number = behind_front count from (length front) (length rest) l (sym (length-append front rest) ∙ ap length (sym judged.is) ∙ e) in
    let here = ap (λ (n : ℕ). take n marks) (ap (λ (n : ℕ). n - from) (ap (λ (a : RawModel × ℕ). a.1) (pair_of text count model rest answer h)) ∙ number) ∙ ap (take (length front)) judged.is ∙ take-append_seam front rest in
    subst (IsRead written model_rule) (sym here) judged.read
answered_read text count from marks (failed rest) answer l e judged h = cc
answered_read text count from marks (over_limit limit rest) answer l e judged h = cc

-- what holds of each model that is read holds of the one that is answered
pub answer_holds : (text : List ℕ) (count : ℕ) (reading : Parsed RawModel) (result : Result (RawModel × ℕ) ReadError) (P : RawModel → Type 0) → ((rest : List Mark) (raw : RawModel) → reading ≡ parsed raw rest → P raw)
    → UnlessOutOfMemory (answer_of text count reading) result → IfOk result (λ answer. P answer.0)
answer_holds text count reading result P holds exact = answered_holds text _ reading result (λ answer. P answer.0) holds exact

-- a place is answered alone: the first mark that is refused stands there, or the end is refused
pub answered_refused : (text : List ℕ) (count : ℕ) (marks : List Mark) (reading : Parsed RawModel) (place : Place) → Judges written model_rule marks reading
    → answer_of text count reading ≡ Err (Syntax place) → IsFirstRefused text marks place
answered_refused text count marks reading place judged h = refused_there text _ written model_rule marks reading place (λ rest is. subst (Judges written model_rule marks) is judged) h

-- a limit is answered: the mark that stands there is read by some reading
pub answered_through : (text : List ℕ) (count : ℕ) (marks : List Mark) (reading : Parsed RawModel) (what : List ℕ) (place : Place) → Judges written model_rule marks reading
    → answer_of text count reading ≡ Err (TooMany what place) → IsReadThrough marks place
answered_through text count marks reading what place judged h = passed_there text _ written model_rule marks reading what place (λ limit rest is. subst (Judges written model_rule marks) is judged) h

-- a place is answered alone where reading stopped
pub answered_stopped : (text : List ℕ) (count : ℕ) (reading : Parsed RawModel) (place : Place) → answer_of text count reading ≡ Err (Syntax place) → (rest : List Mark) × (reading ≡ failed rest)
answered_stopped text count (parsed model rest) place h = cc
answered_stopped text count (failed rest) place h = (rest, refl)
answered_stopped text count (over_limit limit rest) place h = cc
