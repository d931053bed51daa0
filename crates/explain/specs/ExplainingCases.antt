-- Explanations of short texts, written out.
use Rattle.std.specs.Prelude.{◌≡◌, ℕ, List, [], ◌++◌, codes, Some, None, refl}
use Rattle.std.specs.Fmt.{digits}
use Rattle.aerie_text.specs.Numerals.{digits_at}
use Rattle.aerie_text.specs.Sorts.{symbol_sort, word_sort}
use Rattle.aerie_text.specs.Symbols.{symbol_len}
use Rattle.aerie_text.specs.TokenAt.{token_at}
use Rattle.aerie_text.specs.Tokens.{tokens_from, tokens_of}
use Rattle.plan_edit.specs.declared.errors.EditError.TheVariants as edit
use Rattle.refusal_text.specs.declared.refusals.Refusal.{Refusal}
use Rattle.explain.specs.Causes.{template}
use Rattle.explain.specs.Explaining.{explained}
use Rattle.explain.specs.WordsOfTokens.{sorted_cut}

-- a refusal at a place
abbrev refused_at : List ℕ → ℕ → ℕ → Refusal
refused_at name line column =
    record { name = name; place = Some (record { line = line; column = column }); word = None; what = None; at = None; number = None; edit = None; fault = None }

-- what is told of a text that is cut into tokens
abbrev told_of : List ℕ → Refusal → List ℕ
told_of bytes refusal = explained bytes (sorted_cut bytes (tokens_of bytes)) refusal []

pub a_reserved_word : told_of (codes "model m {\n  counter load = 0;\n}") (refused_at (codes "Syntax") 2 11)
    ≡ codes "refused: Syntax at line 2, column 11\n"
    ++ codes "  2 |   counter load = 0;\n"
    ++ codes "    |           ^^^^\n"
    ++ codes "  `load` is a reserved word; a name is expected here\n"
unfolding tokens_of tokens_from token_at digits_at symbol_len word_sort symbol_sort digits template
a_reserved_word = refl

pub no_unit : told_of (codes "delay 12m;") (refused_at (codes "Syntax") 1 7)
    ≡ codes "refused: Syntax at line 1, column 7\n"
    ++ codes "  1 | delay 12m;\n"
    ++ codes "    |       ^^^\n"
    ++ codes "  `12m` is no duration: the units are d, h, min, s, ms and us, the greater first\n"
unfolding tokens_of tokens_from token_at digits_at symbol_len word_sort symbol_sort digits template
no_unit = refl

pub a_unit_and_more : told_of (codes "delay 1hr;") (refused_at (codes "Syntax") 1 9)
    ≡ codes "refused: Syntax at line 1, column 9\n"
    ++ codes "  1 | delay 1hr;\n"
    ++ codes "    |         ^\n"
    ++ codes "  `1hr` is no duration: the units are d, h, min, s, ms and us, the greater first\n"
unfolding tokens_of tokens_from token_at digits_at symbol_len word_sort symbol_sort digits template
a_unit_and_more = refl

pub a_fraction : told_of (codes "rate -180.5;") (refused_at (codes "Syntax") 1 10)
    ≡ codes "refused: Syntax at line 1, column 10\n"
    ++ codes "  1 | rate -180.5;\n"
    ++ codes "    |          ^\n"
    ++ codes "  `180.5` has a fraction, and numbers are whole: count in a smaller unit\n"
unfolding tokens_of tokens_from token_at digits_at symbol_len word_sort symbol_sort digits template
a_fraction = refl

pub a_start_without_quotes : told_of (codes "plan p { start 2030-01-01T00:00:00Z; }") (refused_at (codes "Syntax") 1 16)
    ≡ codes "refused: Syntax at line 1, column 16\n"
    ++ codes "  1 | plan p { start 2030-01-01T00:00:00Z; }\n"
    ++ codes "    |                ^^^^\n"
    ++ codes "  a start stands in quotation marks, as `start \"2030-01-01T00:00:00Z\";`\n"
unfolding tokens_of tokens_from token_at digits_at symbol_len word_sort symbol_sort digits template
a_start_without_quotes = refl

pub a_brace_is_missing : told_of (codes "model m {\n  daemon { delay 1s; }\n") (refused_at (codes "Syntax") 3 1)
    ≡ codes "refused: Syntax at line 3, column 1\n"
    ++ codes "  3 | \n"
    ++ codes "    | ^\n"
    ++ codes "  a `}` is missing: the `{` of line 1 is not closed\n"
unfolding tokens_of tokens_from token_at digits_at symbol_len word_sort symbol_sort digits template
a_brace_is_missing = refl

pub a_register_is_set : told_of (codes "register r: int = 0; activity A() { r = 1; }") (refused_at (codes "WrongType") 1 37)
    ≡ codes "refused: WrongType at line 1, column 37\n"
    ++ codes "  1 | register r: int = 0; activity A() { r = 1; }\n"
    ++ codes "    |                                     ^\n"
    ++ codes "  `r` is a register: it is set by `r := ..`\n"
unfolding tokens_of tokens_from token_at digits_at symbol_len word_sort symbol_sort digits template
a_register_is_set = refl

pub an_argument_is_missing : told_of (codes "activity Slew(angle: int) { } daemon { call Slew(); }") (refused_at (codes "WrongType") 1 45)
    ≡ codes "refused: WrongType at line 1, column 45\n"
    ++ codes "  1 | activity Slew(angle: int) { } daemon { call Slew(); }\n"
    ++ codes "    |                                             ^^^^\n"
    ++ codes "  the argument `angle` is missing: its parameter has no default\n"
unfolding tokens_of tokens_from token_at digits_at symbol_len word_sort symbol_sort digits template
an_argument_is_missing = refl

pub a_cell_in_rules : told_of (codes "counter n = 0; plan p { } constraints { c: n > 0; }") (refused_at (codes "Unknown") 1 44)
    ≡ codes "refused: Unknown at line 1, column 44\n"
    ++ codes "  1 | counter n = 0; plan p { } constraints { c: n > 0; }\n"
    ++ codes "    |                                            ^\n"
    ++ codes "  `n` is a cell, and a resource is wanted here: declare one, as `discrete n = n;` or `linear n = n.volume;`\n"
unfolding tokens_of tokens_from token_at digits_at symbol_len word_sort symbol_sort digits template
a_cell_in_rules = refl

-- the type of a parameter with a default
pub a_type_of_another_language : told_of (codes "activity A(on: bool = false) { }") (refused_at (codes "Unknown") 1 16)
    ≡ codes "refused: Unknown at line 1, column 16\n"
    ++ codes "  1 | activity A(on: bool = false) { }\n"
    ++ codes "    |                ^^^^\n"
    ++ codes "  `bool` names no type: these are int, duration, truth and the enumerations of the model\n"
unfolding tokens_of tokens_from token_at digits_at symbol_len word_sort symbol_sort digits template
a_type_of_another_language = refl

pub a_name_twice : told_of (codes "counter n = 0;\ncounter n = 1;") (refused_at (codes "Duplicate") 2 9)
    ≡ codes "refused: Duplicate at line 2, column 9\n"
    ++ codes "  2 | counter n = 1;\n"
    ++ codes "    |         ^\n"
    ++ codes "  `n` stands here a second time: the first is on line 1\n"
unfolding tokens_of tokens_from token_at digits_at symbol_len word_sort symbol_sort digits template
a_name_twice = refl

-- the second directive, which is counted from 0 in the refusal, and from 1 in the text
pub the_second_directive : told_of (codes "plan p {\n  at 1s A();\n  at 2s B();\n}")
    (record (refused_at (codes "Directive") 0 0) { place = None; number = Some 1; edit = Some edit.UnknownType })
    ≡ codes "refused: Directive at line 3, column 3\n"
    ++ codes "  3 |   at 2s B();\n"
    ++ codes "    |   ^^\n"
    ++ codes "  directive 2 of the plan cannot be added:\n"
    ++ codes "  `B` names no activity type\n"
unfolding tokens_of tokens_from token_at digits_at symbol_len word_sort symbol_sort digits template
the_second_directive = refl
