-- Worked cases of what is read of the text of rules: terms with their signs, and how deep windows are.
use Rattle.std.specs.Prelude.{◌≡◌, ℕ, ℤ, pos, negsuc, List, [], ◌∷◌, Option, Some, None, codes, refl}
use Rattle.std.specs.Str.{chars}
use Rattle.aerie_base.specs.declared.places.Place.{Place}
use Rattle.aerie_text.specs.Numerals.{digits_at}
use Rattle.aerie_text.specs.Sorts.{word_sort, symbol_sort}
use Rattle.aerie_text.specs.Symbols.{symbol_len}
use Rattle.aerie_text.specs.TokenAt.{token_at}
use Rattle.aerie_text.specs.Tokens.{tokens_of, tokens_from}
use Rattle.readers.specs.Marks.{Mark, marks_in}
use Rattle.readers.specs.Parsed.{Parsed, parsed, failed, over_limit}
use Rattle.model_reader.specs.declared.raw.names.RawName.{RawName}
use Rattle.model_reader.specs.reading.Names.{raw_name_at, one_standing_for}
use Rattle.rule_grammar.specs.declared.raw.sums.RawTerm.{RawTerm}
use Rattle.rule_grammar.specs.declared.reading.leveled.LeveledSum.{LeveledSum}
use Rattle.rule_grammar.specs.declared.reading.leveled.LeveledWindow.{LeveledWindow}
use Rattle.rule_grammar.specs.reading.Levels.{parenthesis_opening}
use Rattle.rule_grammar.specs.reading.Sums.{factor_at, optional_factor_at, scaled_at, duration_term_at, resource_term_at, term_at, sum_sign_at, signed_term_at, next_term_at, more_terms_at, sum_at, negative_term_at, unnamed_term_at, unnamed_sum_at}
use Rattle.rule_grammar.specs.reading.Tested.{compare_sign_at, right_side_at, comparison_at, unnamed_atom_at, named_atom_at}
use Rattle.rule_grammar.specs.reading.Windows.{truth_at, during_span_at, during_at, signed_duration_at, bounds_at, shifted_at, shift_at, least_at, lasting_at, longer_at, simple_atom_at, atom_at, operand_at, operated_at, operation_at, conjunction_at, disjunction_at, whole_at}

abbrev pub at : ℕ → Place
at column = record { line = 1; column = column }

abbrev pub named : ℕ → List ℕ → RawName
named column name = record { at = at column; name = name }

abbrev pub term : ℕ → ℤ → Option RawName → RawTerm
term column number resource = record { at = at column; number = number; resource = resource }

-- ---- sums

-- the sum that a text is, where it is read whole
abbrev pub sum_read : Parsed LeveledSum → Option LeveledSum
sum_read (parsed sum []) = Some sum
sum_read (parsed sum (mark ∷ rest)) = None
sum_read (failed rest) = None
sum_read (over_limit limit rest) = None

-- a sign is no part of its term, and it is the number's; a name alone counts once
pub signs : sum_read (sum_at 1 (marks_in (codes "- 2 * x + 3s - y"))) ≡ Some (record { terms = term 3 (negsuc 1) (Some (named 7 (codes "x"))) ∷ term 11 (pos 3_000_000) None ∷ term 16 (negsuc 0) (Some (named 16 (codes "y"))) ∷ []; height = 1 })
unfolding raw_name_at one_standing_for factor_at optional_factor_at scaled_at duration_term_at resource_term_at term_at sum_sign_at signed_term_at next_term_at more_terms_at sum_at tokens_of tokens_from token_at digits_at symbol_len chars word_sort symbol_sort
signs = refl

-- ---- levels

-- how many levels a text has, or which is passed at which column, where so many may be opened
pub data Levels : Type 0 where
  levels : ℕ → Levels
  past : ℕ → Levels
  no_window : Levels

abbrev pub first_column : List Mark → ℕ
first_column [] = 0
first_column (mark ∷ rest) = mark.at.column

abbrev pub levels_of : Parsed LeveledWindow → Levels
levels_of (parsed window rest) = levels window.height
levels_of (failed rest) = no_window
levels_of (over_limit limit rest) = past (first_column rest)

abbrev pub levels_in : ℕ → List ℕ → Levels
levels_in room text = levels_of (whole_at room (marks_in text))

-- the second operator of a chain opens the second level, and so does the one inside the other's operand
pub a_chain : levels_in 64 (codes "a and b and c") ≡ levels 2
unfolding raw_name_at one_standing_for parenthesis_opening truth_at named_atom_at simple_atom_at atom_at operand_at operated_at operation_at conjunction_at disjunction_at tokens_of tokens_from token_at digits_at symbol_len chars word_sort symbol_sort
a_chain = refl

pub a_chain_too_deep : levels_in 1 (codes "a and b and c") ≡ past 9
unfolding raw_name_at one_standing_for parenthesis_opening truth_at named_atom_at simple_atom_at atom_at operand_at operated_at operation_at conjunction_at disjunction_at tokens_of tokens_from token_at digits_at symbol_len chars word_sort symbol_sort
a_chain_too_deep = refl

-- the sign of a comparison opens one level more than there is on its left side, and one on its right side opens the next
pub products : levels_in 64 (codes "2 * x + y > 3 * z") ≡ levels 2
unfolding raw_name_at one_standing_for factor_at optional_factor_at scaled_at duration_term_at resource_term_at term_at sum_sign_at signed_term_at next_term_at more_terms_at sum_at negative_term_at unnamed_term_at unnamed_sum_at compare_sign_at right_side_at comparison_at unnamed_atom_at parenthesis_opening truth_at named_atom_at simple_atom_at atom_at operand_at operated_at operation_at conjunction_at disjunction_at tokens_of tokens_from token_at digits_at symbol_len chars word_sort symbol_sort
products = refl

pub a_comparison_too_deep : levels_in 1 (codes "2 * x + y > 3") ≡ past 11
unfolding raw_name_at one_standing_for factor_at optional_factor_at scaled_at duration_term_at resource_term_at term_at sum_sign_at signed_term_at next_term_at more_terms_at sum_at negative_term_at unnamed_term_at unnamed_sum_at compare_sign_at right_side_at comparison_at unnamed_atom_at parenthesis_opening truth_at named_atom_at simple_atom_at atom_at operand_at operated_at operation_at conjunction_at disjunction_at tokens_of tokens_from token_at digits_at symbol_len chars word_sort symbol_sort
a_comparison_too_deep = refl

-- the parentheses of `during`, `shift` and `longer` open a level each
pub parentheses : levels_in 64 (codes "longer(shift(during(A), 1s, -1s), 5s)") ≡ levels 3
unfolding raw_name_at one_standing_for parenthesis_opening truth_at during_span_at during_at signed_duration_at bounds_at shifted_at shift_at least_at lasting_at longer_at named_atom_at simple_atom_at atom_at operand_at operated_at operation_at conjunction_at disjunction_at tokens_of tokens_from token_at digits_at symbol_len chars word_sort symbol_sort
parentheses = refl
