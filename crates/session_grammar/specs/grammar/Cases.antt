-- Small sessions, read by the factored grammar, by computation.
use Rattle.std.specs.Prelude.{◌≡◌, ℕ, List, [], ◌∷◌, ◌++◌, codes, drop, refl}
use Rattle.std.specs.Str.{chars}
use Rattle.aerie_text.specs.Numerals.{digits_at}
use Rattle.aerie_text.specs.Sorts.{word_sort, symbol_sort}
use Rattle.aerie_text.specs.Symbols.{symbol_len}
use Rattle.aerie_text.specs.TokenAt.{token_at}
use Rattle.aerie_text.specs.Tokens.{tokens_of, tokens_from}
use Rattle.readers.specs.Marks.{Mark, marks_in}
use Rattle.readers.specs.grammar.Forms.{rule}
use Rattle.readers.specs.grammar.Lookahead.{Answer, answer, whole, stops}
use Rattle.session_grammar.specs.grammar.Factored.{look}
use Rattle.session_grammar.specs.grammar.Rules.{session_rule}

-- what a reader answers over the text of a session
abbrev pub verdict : List ℕ → Answer Mark
verdict text = answer look (rule session_rule ∷ []) (marks_in text)

-- a model, a plan of no directives
abbrev pub head : List ℕ
head = codes "model m { } plan p { start \"s\"; duration 1d; "

-- a session with each kind of section
pub sections : verdict (codes "model m { counter n = 0; } model k { } from m to k { A to B(x = y, z = -1, w = E.V); } plan p { start \"s\"; duration 1d; at 5us A(); at end of 1 + 0s B(x = true); } load d `{}`; constraints { c: n >= 0; } goals of k { } sequence { for A: start S(1); } client c { }") ≡ whole
unfolding chars word_sort symbol_sort tokens_of tokens_from token_at digits_at symbol_len
sections = refl

-- beginnings of cells
pub beginnings : verdict (head ++ codes "n = 5; battery = -2s rate -150; pointing = E.V; on = true; at 5us A(); at \"s\" A(); }") ≡ whole
unfolding chars word_sort symbol_sort tokens_of tokens_from token_at digits_at symbol_len
beginnings = refl

-- none stands behind a directive
pub a_late_beginning : verdict (head ++ codes "at 5us A(); n = 5; }") ≡ stops (drop 19 (marks_in (head ++ codes "at 5us A(); n = 5; }")))
unfolding chars word_sort symbol_sort tokens_of tokens_from token_at digits_at symbol_len
a_late_beginning = refl

-- each command
pub commands : verdict (head ++ codes "} client c { new b; fork b from a; drop b; add b at 1s A(x = 1); add b at \"s\" A(); remove b 2; move b 2 to \"s\"; move b 2 to start of 1 + 0us; set b 2 x = E.V; load b `x`; show b; simulate b; schedule b; move b to m; merge b from c of d; expand b; }") ≡ whole
unfolding chars word_sort symbol_sort tokens_of tokens_from token_at digits_at symbol_len
commands = refl

-- a plan lasts some time
pub no_duration : verdict (codes "model m { } plan p { start \"s\"; duration 0d; }") ≡ stops (drop 11 (marks_in (codes "model m { } plan p { start \"s\"; duration 0d; }")))
unfolding chars word_sort symbol_sort tokens_of tokens_from token_at digits_at symbol_len
no_duration = refl

-- 4,294,967,296 is no id; as a literal it is good
pub no_id : verdict (head ++ codes "at end of 4294967296 + 1s A(); }") ≡ stops (drop 16 (marks_in (head ++ codes "at end of 4294967296 + 1s A(); }")))
unfolding chars word_sort symbol_sort tokens_of tokens_from token_at digits_at symbol_len
no_id = refl

pub a_great_literal : verdict (head ++ codes "at end of 4294967295 + 1s A(x = 4294967296); }") ≡ whole
unfolding chars word_sort symbol_sort tokens_of tokens_from token_at digits_at symbol_len
a_great_literal = refl

-- a reserved word is no name
pub merge_is_no_name : verdict (head ++ codes "} client merge { }") ≡ stops (drop 15 (marks_in (head ++ codes "} client merge { }")))
unfolding chars word_sort symbol_sort tokens_of tokens_from token_at digits_at symbol_len
merge_is_no_name = refl

-- rules have no braces
pub a_brace_in_rules : verdict (head ++ codes "} goals { a { } }") ≡ stops (drop 17 (marks_in (head ++ codes "} goals { a { } }")))
unfolding chars word_sort symbol_sort tokens_of tokens_from token_at digits_at symbol_len
a_brace_in_rules = refl

-- the text ends inside a command
pub early_end : verdict (head ++ codes "} client c { move b") ≡ stops []
unfolding chars word_sort symbol_sort tokens_of tokens_from token_at digits_at symbol_len
early_end = refl
