-- Which error tells why rules are refused, and what a reader of rules answers: the first refusal, or the rules that are meant.
use Rattle.std.specs.Prelude.{◌≡◌, List, Option, Some, None, Result, Ok, Err}
use Rattle.aerie_base.specs.declared.places.Place.{Place}
use Rattle.readers.specs.Words.{word_of}
use Rattle.rule_grammar.specs.declared.rule_form_error.RuleFormError.{RuleFormError}
use Rattle.rule_grammar.specs.declared.rule_form_error.RuleFormError.TheVariants as form
use Rattle.diagnostics.specs.declared.diagnostic.Diagnostic.{Diagnostic}
use Rattle.rule_check.specs.declared.causes.WrongRule.{WrongRule}
use Rattle.rule_check.specs.declared.causes.WrongRule.TheVariants as wrong
use Rattle.rule_check.specs.declared.rule_error.RuleError.{RuleError}
use Rattle.rule_check.specs.declared.rule_error.RuleError.TheVariants as error
use Rattle.rule_check.specs.Refusals.{first_diagnostic}

-- the error that tells what is wrong at a place
abbrev pub rule_error_at : WrongRule → Place → RuleError
rule_error_at wrong.Unknown place = error.Unknown place
rule_error_at wrong.Duplicate place = error.Duplicate place
rule_error_at wrong.WrongType place = error.WrongType place
rule_error_at wrong.OutOfRange place = error.OutOfRange place
rule_error_at (wrong.TooMany limit) place = error.TooMany (word_of limit) place
rule_error_at wrong.Invalid place = error.Invalid place

-- what is refused, or else these rules
abbrev pub rules_or_refusal : {A : Type 0} → Option (Diagnostic WrongRule) → A → Result A RuleError
rules_or_refusal None rules = Ok rules
rules_or_refusal (Some refusal) rules = Err (rule_error_at refusal.cause refusal.place)

-- the error of tokens that are not read as rules
abbrev pub error_of_form : RuleFormError → RuleError
error_of_form (form.Syntax place) = error.Syntax place
error_of_form (form.TooMany limit place) = error.TooMany (word_of limit) place
error_of_form form.OutOfMemory = error.OutOfMemory

-- rules that are read, judged by these refusals and with this meaning; or why they are not read
abbrev pub judged_rules : {A B : Type 0} → (A → List (Diagnostic WrongRule)) → (A → B) → Result A RuleFormError → Result B RuleError
judged_rules refusals meaning (Ok raw) = rules_or_refusal (first_diagnostic (refusals raw)) (meaning raw)
judged_rules refusals meaning (Err cause) = Err (error_of_form cause)

-- the error is this one, unless memory ran out
abbrev pub IsThisError : RuleError → RuleError → Type 0
IsThisError wanted (error.Syntax place) = wanted ≡ error.Syntax place
IsThisError wanted (error.Unknown place) = wanted ≡ error.Unknown place
IsThisError wanted (error.Duplicate place) = wanted ≡ error.Duplicate place
IsThisError wanted (error.WrongType place) = wanted ≡ error.WrongType place
IsThisError wanted (error.OutOfRange place) = wanted ≡ error.OutOfRange place
IsThisError wanted (error.TooMany what place) = wanted ≡ error.TooMany what place
IsThisError wanted (error.Invalid place) = wanted ≡ error.Invalid place
IsThisError wanted error.OutOfMemory = Unit {0}

-- the answer is this one, unless memory ran out
abbrev pub RuledUnlessOutOfMemory : {A : Type 0} → Result A RuleError → Result A RuleError → Type 0
RuledUnlessOutOfMemory (Ok meant) (Ok rules) = rules ≡ meant
RuledUnlessOutOfMemory (Ok meant) (Err given) = given ≡ error.OutOfMemory
RuledUnlessOutOfMemory (Err wanted) (Ok rules) = ⊥
RuledUnlessOutOfMemory (Err wanted) (Err given) = IsThisError wanted given
