-- What is read, or how it is told that it is refused.
use Rattle.std.proofs.Common.{◌≡◌, ℕ, List, Result, Ok, Err, refl, sym, ap, ◌∙◌}
use Rattle.aerie_text.specs.declared.token.Token.{Token}
use Rattle.rule_check.specs.declared.rule_error.RuleError.{RuleError}
use Rattle.rule_check.specs.declared.rule_error.RuleError.TheVariants as rule
use Rattle.rule_check.specs.RuleErrors.{IsThisError, RuledUnlessOutOfMemory}
use Rattle.refusal_text.specs.declared.refusals.Refusal.{Refusal}
use Rattle.session_judge.specs.Rules.{told_rules}
use Rattle.session_judge.specs.Telling.{told_rule}

-- rules that are read are those that are meant
pub rules_read : {A : Type 0} (text : List ℕ) (tokens : List Token) (answer : Result A RuleError) (rules : A) → RuledUnlessOutOfMemory answer (Ok rules) → Ok rules ≡ told_rules text tokens answer
rules_read text tokens (Ok meant) rules is = ap Ok is
rules_read text tokens (Err wanted) rules is = absurd is

this_error : (wanted given : RuleError) → IsThisError wanted given → ¬ (given ≡ rule.OutOfMemory) → wanted ≡ given
this_error wanted (rule.Syntax place) is some = is
this_error wanted (rule.Unknown place) is some = is
this_error wanted (rule.Duplicate place) is some = is
this_error wanted (rule.WrongType place) is some = is
this_error wanted (rule.OutOfRange place) is some = is
this_error wanted (rule.TooMany what place) is some = is
this_error wanted (rule.Invalid place) is some = is
this_error wanted rule.OutOfMemory is some = absurd (some refl)

-- and an error is told as it is
pub rules_refused : {A : Type 0} (text : List ℕ) (tokens : List Token) (answer : Result A RuleError) (given : RuleError) (refusal : Refusal) → RuledUnlessOutOfMemory answer (Err given)
    → ¬ (given ≡ rule.OutOfMemory) → refusal ≡ told_rule text tokens given → Err refusal ≡ told_rules text tokens answer
rules_refused text tokens (Ok meant) given refusal is some told = absurd (some is)
rules_refused text tokens (Err wanted) given refusal is some told =
    ap Err (told ∙ ap (told_rule text tokens) (sym (this_error wanted given is some)))
