-- What a reader of rules in a row of tokens answers.
use Rattle.std.specs.Prelude.{◌≡◌, ℕ, List, [], ◌∷◌, Result, Ok, Err}
use Rattle.aerie_base.specs.declared.places.Place.{Place}
use Rattle.aerie_text.specs.Places.{place_of}
use Rattle.aerie_text.specs.declared.token.Token.{Token}
use Rattle.readers.specs.Marks.{Mark, marks_of}
use Rattle.readers.specs.Parsed.{Parsed, parsed, failed, over_limit}
use Rattle.readers.specs.declared.refusal.Refusal.{Refusal}
use Rattle.readers.specs.declared.refusal.Refusal.TheVariants as refusal
use Rattle.rule_grammar.specs.declared.rule_form_error.RuleFormError.{RuleFormError}
use Rattle.rule_grammar.specs.declared.rule_form_error.RuleFormError.TheVariants.{Syntax, TooMany, OutOfMemory}
use Rattle.rule_grammar.specs.reading.ToTheEnd.{to_the_end}

-- where the last of the tokens ends; 0 where there is none
abbrev pub end_of : List Token → ℕ
end_of [] = 0
end_of (token ∷ []) = token.to
end_of (token ∷ (next ∷ later)) = end_of (next ∷ later)

-- the place of the first of the marks that are left; where none is, that directly behind the last token
abbrev pub place_left : List ℕ → List Token → List Mark → Place
place_left text tokens [] = place_of text (end_of tokens)
place_left text tokens (mark ∷ rest) = mark.at

-- what reading comes to: the rules, or the place of the first mark that is left, with the limit that is passed there
abbrev pub answer_of : {A : Type 0} → List ℕ → List Token → Parsed A → Result A RuleFormError
answer_of text tokens (parsed rules rest) = Ok rules
answer_of text tokens (failed rest) = Err (Syntax (place_left text tokens rest))
answer_of text tokens (over_limit limit rest) = Err (TooMany limit (place_left text tokens rest))

-- the error of a refusal
abbrev pub IsErrorOf : List ℕ → List Token → List Mark → Refusal → RuleFormError → Type 0
IsErrorOf text tokens rest refusal.Syntax error = error ≡ Syntax (place_left text tokens rest)
IsErrorOf text tokens rest (refusal.TooMany limit) error = error ≡ TooMany limit (place_left text tokens rest)
IsErrorOf text tokens rest refusal.OutOfMemory error = error ≡ OutOfMemory

-- the answer is this one, unless memory ran out
abbrev pub UnlessOutOfMemory : {A : Type 0} → Result A RuleFormError → Result A RuleFormError → Type 0
UnlessOutOfMemory answer (Ok rules) = answer ≡ Ok rules
UnlessOutOfMemory answer (Err (Syntax place)) = answer ≡ Err (Syntax place)
UnlessOutOfMemory answer (Err (TooMany limit place)) = answer ≡ Err (TooMany limit place)
UnlessOutOfMemory answer (Err OutOfMemory) = Unit {0}

-- the answer of a reader of all these tokens
abbrev pub IsAnswerOf : {A : Type 0} → (List Mark → Parsed A) → List ℕ → List Token → Result A RuleFormError → Type 0
IsAnswerOf rules_at text tokens result = UnlessOutOfMemory (answer_of text tokens (to_the_end (rules_at (marks_of text tokens)))) result
