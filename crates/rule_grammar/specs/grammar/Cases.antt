-- Small rules, read by the factored grammar, by computation.
use Rattle.std.specs.Prelude.{◌≡◌, ℕ, List, [], ◌∷◌, codes, drop, refl}
use Rattle.std.specs.Str.{chars}
use Rattle.aerie_text.specs.Numerals.{digits_at}
use Rattle.aerie_text.specs.Sorts.{word_sort, symbol_sort}
use Rattle.aerie_text.specs.Symbols.{symbol_len}
use Rattle.aerie_text.specs.TokenAt.{token_at}
use Rattle.aerie_text.specs.Tokens.{tokens_of, tokens_from}
use Rattle.readers.specs.Marks.{Mark, marks_in}
use Rattle.readers.specs.grammar.Forms.{rule}
use Rattle.readers.specs.grammar.Lookahead.{Answer, answer, whole, stops}
use Rattle.rule_grammar.specs.grammar.Factored.{look}
use Rattle.rule_grammar.specs.grammar.Rules.{Rule, constraints_rule, goals_rule, sequence_rule}

-- what a reader answers over the text of rules
abbrev pub verdict : Rule → List ℕ → Answer Mark
verdict start text = answer look (rule start ∷ []) (marks_in text)

pub constraints : verdict constraints_rule (codes "a: forbid A, B; b: for x in A: not during(x) or n + 2 * m >= -1h and (p == true or q != E.V); c: longer(shift(s, -1s, 2ms), 5min) or n == m;") ≡ whole
unfolding chars word_sort symbol_sort tokens_of tokens_from token_at digits_at symbol_len
constraints = refl

pub goals : verdict goals_rule (codes "g: recurrence A(x = 1) every 6h in [0us, 7d) rollback; h: coexistence A() for end of B from -1s to 2h keeping c, d; i: cardinality A() count 10 in [0us, 7d); j: coexistence A() for window(n > 1) from 0s to 1s;") ≡ whole
unfolding chars word_sort symbol_sort tokens_of tokens_from token_at digits_at symbol_len
goals = refl

pub a_sequence : verdict sequence_rule (codes "for A: start S(1, x, E.V, return), end - 5s T() if x == true; longer(S, 10s);") ≡ whole
unfolding chars word_sort symbol_sort tokens_of tokens_from token_at digits_at symbol_len
a_sequence = refl

-- no rules are good
pub no_rules : verdict constraints_rule [] ≡ whole
unfolding tokens_of tokens_from
no_rules = refl

-- a sum of more than a name is compared with no truth
pub a_sum_is_no_truth : verdict constraints_rule (codes "a: n + 1 == true;") ≡ stops (drop 6 (marks_in (codes "a: n + 1 == true;")))
unfolding chars word_sort symbol_sort tokens_of tokens_from token_at digits_at symbol_len
a_sum_is_no_truth = refl

-- the tokens end inside a window
pub early_end : verdict constraints_rule (codes "a: not (n") ≡ stops []
unfolding chars word_sort symbol_sort tokens_of tokens_from token_at digits_at symbol_len
early_end = refl

-- a name alone is a truth, so nothing multiplies it
pub the_number_stands_first : verdict constraints_rule (codes "a: n * 2 > 1;") ≡ stops (drop 3 (marks_in (codes "a: n * 2 > 1;")))
unfolding chars word_sort symbol_sort tokens_of tokens_from token_at digits_at symbol_len
the_number_stands_first = refl
