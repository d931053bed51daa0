-- What is read of sums conforms to the grammar of rules.
use Rattle.std.proofs.Common.{◌≡◌, ℕ, ◌==◌, Bool, true, false, List, [], ◌∷◌, refl}
use Rattle.aerie_text.specs.declared.sorts.Sort.{Sort}
use Rattle.aerie_text.specs.declared.sorts.Sort.TheVariants as sort
use Rattle.readers.specs.Marks.{Mark}
use Rattle.readers.specs.Parsed.{Parsed, is_of}
use Rattle.readers.specs.grammar.Forms.{Form, token, rule, both, either, option}
use Rattle.readers.specs.grammar.Lookahead.{next_in_first}
use Rattle.readers.proofs.Conforming.{Begins, begins_both, begins_here, and_then, then_value, value, either_conforms, option_conforms, repeated_conforms, rule_conforms, limited_conforms}
use Rattle.rule_grammar.specs.declared.reading.leveled.LeveledSum.{LeveledSum}
use Rattle.rule_grammar.specs.grammar.Factored.{look, more_terms_form, unnamed_term_form, unnamed_sum_form}
use Rattle.rule_grammar.specs.grammar.Rules.{Rule, wsum_rule, wterm_rule}
use Rattle.rule_grammar.specs.grammar.Written.{scaled_form, signed_term_form}
use Rattle.rule_grammar.specs.reading.Levels.{opening}
use Rattle.rule_grammar.specs.reading.Sums.{factor_at, optional_factor_at, scaled_at, duration_term_at, resource_term_at, term_at, is_sum_sign, sum_sign_at, signed_term_at, next_term_at, more_terms_at, sum_at, negative_term_at, unnamed_term_at, unnamed_sum_at}
use Rattle.rule_grammar.proofs.Following.Names.{Along, begins_with, begins_with_one_of, taken, had, raw_name_conforms, one_standing_for_conforms}
use Rattle.rule_grammar.proofs.Grammar.Predictive.{predictive}

-- a part that opens a level with the mark that it begins with
pub opening_conforms : {A : Type 0} (room : ℕ) (a : Form Rule Sort) (part : List Mark → Parsed A) (marks : List Mark) → next_in_first look a marks ≡ true
    → ((room == 0) ≡ false → Along a marks (part marks)) → Along a marks (opening room part marks)
opening_conforms room a part marks begun law = limited_conforms _ _ _ predictive (λ past. begun) law

factor_begins : Begins look (is_of sort.Star) (both (token sort.Star) (token sort.Name))
factor_begins = begins_both (begins_with sort.Star) refl

factor_conforms : (marks : List Mark) → Along (both (token sort.Star) (token sort.Name)) marks (factor_at marks)
unfolding factor_at
factor_conforms marks = and_then _ (taken sort.Star _) (λ star rest. then_value _ (raw_name_conforms rest) (λ name behind. value))

optional_factor_conforms : (room : ℕ) (marks : List Mark) → Along (option (both (token sort.Star) (token sort.Name))) marks (optional_factor_at room marks)
unfolding optional_factor_at
optional_factor_conforms room marks =
    option_conforms _ _ factor_begins (λ next. opening_conforms room _ factor_at marks (begins_here marks factor_begins next) (λ free. factor_conforms marks)) value

scaled_conforms : (room : ℕ) (negative : Bool) (marks : List Mark) → Along scaled_form marks (scaled_at room negative marks)
unfolding scaled_at
scaled_conforms room negative marks = and_then _ (taken sort.Number _) (λ number rest. then_value _ (optional_factor_conforms room rest) (λ factor behind. value))

duration_term_conforms : (negative : Bool) (marks : List Mark) → Along (token sort.Time) marks (duration_term_at negative marks)
unfolding duration_term_at
duration_term_conforms negative marks = then_value _ (taken sort.Time _) (λ time rest. value)

resource_term_conforms : (negative : Bool) (marks : List Mark) → Along (token sort.Name) marks (resource_term_at negative marks)
unfolding resource_term_at
resource_term_conforms negative marks = then_value _ (raw_name_conforms marks) (λ name rest. value)

scaled_begins : Begins look (is_of sort.Number) scaled_form
scaled_begins = begins_both (begins_with sort.Number) refl

term_conforms : (room : ℕ) (negative : Bool) (marks : List Mark) → Along (rule wterm_rule) marks (term_at room negative marks)
unfolding term_at
term_conforms room negative marks =
    rule_conforms predictive (either_conforms _ _ scaled_begins refl (λ next. scaled_conforms room negative marks)
    (λ next. either_conforms _ _ (begins_with sort.Time) refl (λ next. duration_term_conforms negative marks) (λ next. resource_term_conforms negative marks)))

pub sum_sign_conforms : (marks : List Mark) → Along (either (token sort.Plus) (token sort.Minus)) marks (sum_sign_at marks)
unfolding sum_sign_at
sum_sign_conforms marks = one_standing_for_conforms (sort.Plus, false) ((sort.Minus, true) ∷ []) marks

signed_term_conforms : (room : ℕ) (marks : List Mark) → Along signed_term_form marks (signed_term_at room marks)
unfolding signed_term_at
signed_term_conforms room marks = and_then _ (sum_sign_conforms marks) (λ negative rest. term_conforms room negative rest)

pub signed_term_begins : Begins look is_sum_sign signed_term_form
signed_term_begins = begins_both (begins_with_one_of sort.Plus (sort.Minus ∷ [])) refl

pub next_term_conforms : (room : ℕ) (so_far : LeveledSum) (marks : List Mark) → Along signed_term_form marks (next_term_at room so_far marks)
unfolding next_term_at
next_term_conforms room so_far marks = then_value _ (signed_term_conforms room marks) (λ term rest. value)

pub more_terms_conform : (room : ℕ) (so_far : LeveledSum) (marks : List Mark) → Along more_terms_form marks (more_terms_at room so_far marks)
unfolding more_terms_at
more_terms_conform room so_far marks = repeated_conforms _ signed_term_begins refl (λ now here next. next_term_conforms room now here)

pub sum_conforms : (room : ℕ) (marks : List Mark) → Along (rule wsum_rule) marks (sum_at room marks)
unfolding sum_at
sum_conforms room marks =
    rule_conforms predictive (and_then _ (had sort.Minus) (λ negative rest. and_then _ (term_conforms room negative rest) (λ first behind. more_terms_conform room _ behind)))

negative_term_conforms : (room : ℕ) (marks : List Mark) → Along (both (token sort.Minus) (rule wterm_rule)) marks (negative_term_at room marks)
unfolding negative_term_at
negative_term_conforms room marks = and_then _ (taken sort.Minus _) (λ minus rest. term_conforms room true rest)

unnamed_term_conforms : (room : ℕ) (marks : List Mark) → Along unnamed_term_form marks (unnamed_term_at room marks)
unfolding unnamed_term_at
unnamed_term_conforms room marks =
    either_conforms _ _ (begins_both (begins_with sort.Minus) refl) refl (λ next. negative_term_conforms room marks)
    (λ next. either_conforms _ _ scaled_begins refl (λ next. scaled_conforms room false marks) (λ next. duration_term_conforms false marks))

pub unnamed_sum_conforms : (room : ℕ) (marks : List Mark) → Along unnamed_sum_form marks (unnamed_sum_at room marks)
unfolding unnamed_sum_at
unnamed_sum_conforms room marks = and_then _ (unnamed_term_conforms room marks) (λ first rest. more_terms_conform room _ rest)
