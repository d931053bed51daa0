-- Small models, read by the factored grammar, by computation.
use Rattle.std.specs.Prelude.{◌≡◌, ℕ, List, [], ◌∷◌, codes, drop, refl}
use Rattle.std.specs.Str.{chars}
use Rattle.readers.specs.Marks.{Mark, marks_in}
use Rattle.aerie_text.specs.Numerals.{digits_at}
use Rattle.aerie_text.specs.Sorts.{word_sort, symbol_sort}
use Rattle.aerie_text.specs.Symbols.{symbol_len}
use Rattle.aerie_text.specs.TokenAt.{token_at}
use Rattle.aerie_text.specs.Tokens.{tokens_of, tokens_from}
use Rattle.readers.specs.grammar.Forms.{rule}
use Rattle.readers.specs.grammar.Lookahead.{Answer, answer, whole, stops}
use Rattle.model_reader.specs.grammar.Factored.{look}
use Rattle.model_reader.specs.grammar.Rules.{model_rule}

-- what a reader answers over the text of a model
abbrev pub verdict : List ℕ → Answer Mark
verdict text = answer look (rule model_rule ∷ []) (marks_in text)

-- each kind of item
pub items : verdict (codes "model m { enum E { A, B } counter n = -1; register r: E = E.A; accumulator a = 0 rate -2; discrete d = a.rate; linear l = 2 * a.volume; daemon { } }") ≡ whole
unfolding chars word_sort symbol_sort tokens_of tokens_from token_at digits_at symbol_len
items = refl

-- an activity with a default, a result, a condition and a choice
pub an_activity : verdict (codes "model m { activity Bump(by: int = 3) -> truth { require by > 0; if by < 5 { n += by * 2; } else { a.rate += -by; } return true; } }") ≡ whole
unfolding chars word_sort symbol_sort tokens_of tokens_from token_at digits_at symbol_len
an_activity = refl

-- the other statements
pub statements : verdict (codes "model m { daemon { let x = call T(a = 1, b = E.A); x = (x + 1) % 7; r := !p && q.conflicted; while x >= 0 { delay 5min; } wait until n == 3; spawn T(); return; } }") ≡ whole
unfolding chars word_sort symbol_sort tokens_of tokens_from token_at digits_at symbol_len
statements = refl

-- a value is missing at the semicolon
pub no_value : verdict (codes "model m { counter n = ; }") ≡ stops (drop 6 (marks_in (codes "model m { counter n = ; }")))
unfolding chars word_sort symbol_sort tokens_of tokens_from token_at digits_at symbol_len
no_value = refl

-- a comparison is not compared
pub two_comparisons : verdict (codes "model m { linear l = a < b < c; }") ≡ stops (drop 9 (marks_in (codes "model m { linear l = a < b < c; }")))
unfolding chars word_sort symbol_sort tokens_of tokens_from token_at digits_at symbol_len
two_comparisons = refl

-- a name has one part alone
pub a_stray_part : verdict (codes "model m { discrete d = a.rate.rate; }") ≡ stops (drop 9 (marks_in (codes "model m { discrete d = a.rate.rate; }")))
unfolding chars word_sort symbol_sort tokens_of tokens_from token_at digits_at symbol_len
a_stray_part = refl

-- conditions come before statements
pub late_requirement : verdict (codes "model m { activity T() { return; require true; } }") ≡ stops (drop 10 (marks_in (codes "model m { activity T() { return; require true; } }")))
unfolding chars word_sort symbol_sort tokens_of tokens_from token_at digits_at symbol_len
late_requirement = refl

-- the text ends inside an activity
pub early_end : verdict (codes "model m { counter n = 0; activity T() { n +=") ≡ stops []
unfolding chars word_sort symbol_sort tokens_of tokens_from token_at digits_at symbol_len
early_end = refl

-- the model ends with its brace
pub more_behind : verdict (codes "model m { } plan") ≡ stops (drop 4 (marks_in (codes "model m { } plan")))
unfolding chars word_sort symbol_sort tokens_of tokens_from token_at digits_at symbol_len
more_behind = refl
