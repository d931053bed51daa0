-- Worked cases of what is read of a session's parts.
use Rattle.std.specs.Prelude.{◌≡◌, ℕ, pos, negsuc, List, [], ◌∷◌, Some, None, codes, refl}
use Rattle.std.specs.Str.{chars}
use Rattle.aerie_base.specs.declared.places.Place.{Place}
use Rattle.aerie_text.specs.Numerals.{digits_at}
use Rattle.aerie_text.specs.Sorts.{symbol_sort, word_sort}
use Rattle.aerie_text.specs.Symbols.{symbol_len}
use Rattle.aerie_text.specs.TokenAt.{token_at}
use Rattle.aerie_text.specs.Tokens.{tokens_of, tokens_from}
use Rattle.aerie_text.specs.declared.sorts.Sort.TheVariants as sort
use Rattle.model_reader.specs.declared.raw.literals.RawLiteralKind.TheVariants as kind
use Rattle.model_reader.specs.declared.raw.names.RawName.{RawName}
use Rattle.model_reader.specs.reading.Literals.{amount_at, amount_literal_at, literal_at, minus_at, sign_at, truth_literal_at, variant_literal_at}
use Rattle.model_reader.specs.reading.Names.{raw_name_at}
use Rattle.readers.specs.Marks.{Mark, marks_in}
use Rattle.readers.specs.Parsed.{Parsed, parsed, failed, over_limit}
use Rattle.session_grammar.specs.declared.raw.mappings.RawFeedValue.TheVariants as fed
use Rattle.session_grammar.specs.declared.raw.starts.RawWhen.TheVariants as at
use Rattle.session_grammar.specs.reading.Directives.{duration_at, anchored_at, instant_text_at, unanchored_at, when_at}
use Rattle.session_grammar.specs.reading.Mappings.{raw_named_at, fed_amount_at, fed_truth_at, fed_variant_at, fed_behind_name_at, fed_name_at, fed_value_at, feed_at, feeds_at}
use Rattle.session_grammar.specs.reading.Plans.{beginning_at, optional_rate_at, some_rate_at, some_time_at}
use Rattle.session_grammar.specs.reading.Sections.{rules_at, some_model_at, of_model_at, section_at, sections_with}

-- what is read, and nothing behind it; or the columns of the marks that are left
pub data Read (A : Type 0) : Type 0 where
  gives : A → Read A
  stops : List ℕ → Read A

abbrev columns : List Mark → List ℕ
columns [] = []
columns (mark ∷ rest) = mark.at.column ∷ columns rest

abbrev read_of : {A : Type 0} → Parsed A → Read A
read_of (parsed part []) = gives part
read_of (parsed part (mark ∷ rest)) = stops (columns (mark ∷ rest))
read_of (failed rest) = stops (columns rest)
read_of (over_limit limit rest) = stops (columns rest)

abbrev place : ℕ → Place
place column = record { line = 1; column = column }

abbrev name_of : ℕ → List ℕ → RawName
name_of column name = record { at = place column; name = name }

-- what the parameters of a new type get
pub three_feeds : read_of (feeds_at (marks_in (codes "(x = y, z = -5s, w = E.V);")))
    ≡ gives (record { parameter = name_of 2 (codes "x"); value = fed.Parameter (name_of 6 (codes "y")) }
    ∷ record { parameter = name_of 9 (codes "z"); value = fed.Literal (record { at = place 13; what = kind.Number (negsuc 4_999_999) }) }
    ∷ record { parameter = name_of 18 (codes "w"); value = fed.Literal (record { at = place 22; what = kind.Variant (name_of 22 (codes "E")) (name_of 24 (codes "V")) }) } ∷ [])
unfolding minus_at sign_at raw_name_at raw_named_at amount_at fed_amount_at fed_truth_at fed_variant_at fed_behind_name_at fed_name_at fed_value_at feed_at feeds_at chars word_sort symbol_sort tokens_of tokens_from token_at digits_at symbol_len
three_feeds = refl

-- a parameter has no sign
pub no_sign : read_of (feeds_at (marks_in (codes "(x = -y);"))) ≡ stops (7 ∷ 8 ∷ 9 ∷ [])
unfolding minus_at sign_at raw_name_at raw_named_at amount_at fed_amount_at fed_truth_at fed_variant_at fed_behind_name_at fed_name_at fed_value_at feed_at feeds_at chars word_sort symbol_sort tokens_of tokens_from token_at digits_at symbol_len
no_sign = refl

-- where the rules of a section stand: of 9 tokens the numbers 4 to 7, with the one behind them
pub a_section : read_of (sections_with sort.Goals 9 (marks_in (codes "goals of m { a , b ; }")))
    ≡ gives (record { at = place 1; of = Some (name_of 10 (codes "m")); from = 4; to = 8 } ∷ [])
unfolding raw_name_at raw_named_at some_model_at of_model_at rules_at section_at sections_with chars word_sort symbol_sort tokens_of tokens_from token_at digits_at symbol_len
a_section = refl

-- sections without rules, behind 20 other tokens
pub two_sections : read_of (sections_with sort.Goals 26 (marks_in (codes "goals { } goals { }")))
    ≡ gives (record { at = place 1; of = None; from = 22; to = 22 } ∷ record { at = place 11; of = None; from = 25; to = 25 } ∷ [])
unfolding raw_name_at raw_named_at some_model_at of_model_at rules_at section_at sections_with chars word_sort symbol_sort tokens_of tokens_from token_at digits_at symbol_len
two_sections = refl

-- rules have no braces
pub a_brace : read_of (sections_with sort.Goals 6 (marks_in (codes "goals { a { } }"))) ≡ stops (11 ∷ 13 ∷ 15 ∷ [])
unfolding raw_name_at raw_named_at some_model_at of_model_at rules_at section_at sections_with chars word_sort symbol_sort tokens_of tokens_from token_at digits_at symbol_len
a_brace = refl

-- a plan lasts some time
pub a_microsecond : read_of (some_time_at (marks_in (codes "1us"))) ≡ gives 1
unfolding some_time_at duration_at chars word_sort symbol_sort tokens_of tokens_from token_at digits_at symbol_len
a_microsecond = refl

pub no_time : read_of (some_time_at (marks_in (codes "0d"))) ≡ stops (1 ∷ [])
unfolding some_time_at duration_at chars word_sort symbol_sort tokens_of tokens_from token_at digits_at symbol_len
no_time = refl

-- an instant is read with its quotation marks
pub an_instant : read_of (when_at (marks_in (codes "\"2031\""))) ≡ gives (at.Instant (record { at = place 1; text = codes "\"2031\"" }))
unfolding when_at anchored_at instant_text_at unanchored_at duration_at chars word_sort symbol_sort tokens_of tokens_from token_at digits_at symbol_len
an_instant = refl

pub a_planned_time : read_of (when_at (marks_in (codes "1h30min"))) ≡ gives (at.Planned (record { start = 5_400_000_000; anchor = None }))
unfolding when_at anchored_at instant_text_at unanchored_at duration_at chars word_sort symbol_sort tokens_of tokens_from token_at digits_at symbol_len
a_planned_time = refl

-- what an accumulator begins with: the rate stands where its sign does
pub a_beginning : read_of (beginning_at (marks_in (codes "b = 5 rate -150;")))
    ≡ gives (record {
      cell = name_of 1 (codes "b");
      value = record { at = place 5; what = kind.Number (pos 5) };
      rate = Some (record { at = place 7; rate = record { at = place 12; what = kind.Number (negsuc 149) } });
    })
unfolding beginning_at optional_rate_at some_rate_at literal_at amount_literal_at truth_literal_at variant_literal_at minus_at sign_at raw_name_at amount_at chars word_sort symbol_sort tokens_of tokens_from token_at digits_at symbol_len
a_beginning = refl

-- a rate is a whole number
pub no_rate : read_of (beginning_at (marks_in (codes "b = 5 rate 3s;"))) ≡ stops (12 ∷ 14 ∷ [])
unfolding beginning_at optional_rate_at some_rate_at literal_at amount_literal_at truth_literal_at variant_literal_at minus_at sign_at raw_name_at amount_at chars word_sort symbol_sort tokens_of tokens_from token_at digits_at symbol_len
no_rate = refl
