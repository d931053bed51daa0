-- The grammars of constraints, of goals and of sequences as they are written: one grammar with three first rules. NAME, NUMBER
-- and DURATION of the comments are tokens of the sorts Name, Number and Time.
use Rattle.readers.specs.Marks.{Mark}
use Rattle.aerie_text.specs.declared.sorts.Sort.{Sort}
use Rattle.aerie_text.specs.declared.sorts.Sort.TheVariants as sort
use Rattle.readers.specs.grammar.Forms.{Form, token, rule, many, option, separated, Grammar}
use Rattle.readers.specs.grammar.MarkTables.{grammar_of}
use Rattle.readers.specs.grammar.Notation.{◌then◌, ◌or◌}
use Rattle.rule_grammar.specs.grammar.Rules.{Rule, constraints_rule, window_rule, conj_rule, atom_rule, wsum_rule, wterm_rule, sdur_rule, goals_rule, kind_rule, anchor_rule, range_rule, given_rule, sequence_rule, step_rule, word_rule, literal_rule}

-- ---- constraints

-- "forbid" NAME "," NAME
abbrev pub forbid_form : Form Rule Sort
forbid_form = token sort.Forbid then token sort.Name then token sort.Comma then token sort.Name

-- "for" NAME "in" NAME ":"
abbrev pub each_form : Form Rule Sort
each_form = token sort.For then token sort.Name then token sort.In then token sort.Name then token sort.Colon

-- NAME ":" ( "forbid" NAME "," NAME | [ "for" NAME "in" NAME ":" ] window ) ";"
abbrev pub constraint_form : Form Rule Sort
constraint_form = token sort.Name then token sort.Colon then (forbid_form or option each_form then rule window_rule) then token sort.Semicolon

-- constraints = { NAME ":" ( "forbid" NAME "," NAME | [ "for" NAME "in" NAME ":" ] window ) ";" }
abbrev pub constraints_form : Form Rule Sort
constraints_form = many constraint_form

-- ---- windows

-- window = conj { "or" conj }
abbrev pub window_form : Form Rule Sort
window_form = rule conj_rule then many (token sort.Or then rule conj_rule)

-- conj = atom { "and" atom }
abbrev pub conj_form : Form Rule Sort
conj_form = rule atom_rule then many (token sort.And then rule atom_rule)

-- "not" atom
abbrev pub not_form : Form Rule Sort
not_form = token sort.Not then rule atom_rule

-- "(" window ")"
abbrev pub parenthesis_form : Form Rule Sort
parenthesis_form = token sort.OpenParenthesis then rule window_rule then token sort.CloseParenthesis

-- "during" "(" NAME ")"
abbrev pub during_form : Form Rule Sort
during_form = token sort.During then token sort.OpenParenthesis then token sort.Name then token sort.CloseParenthesis

-- "shift" "(" window "," sdur "," sdur ")"
abbrev pub shift_form : Form Rule Sort
shift_form =
    token sort.Shift then token sort.OpenParenthesis then rule window_rule
    then token sort.Comma then rule sdur_rule then token sort.Comma then rule sdur_rule then token sort.CloseParenthesis

-- "longer" "(" window "," DURATION ")"
abbrev pub longer_form : Form Rule Sort
longer_form =
    token sort.Longer then token sort.OpenParenthesis then rule window_rule then token sort.Comma then token sort.Time then token sort.CloseParenthesis

-- NAME "." NAME
abbrev pub variant_form : Form Rule Sort
variant_form = token sort.Name then token sort.Dot then token sort.Name

-- "==" | "!="
abbrev pub same_sign_form : Form Rule Sort
same_sign_form = token sort.DoubleEqual or token sort.NotEqual

-- NAME [ ( "==" | "!=" ) ( "true" | "false" | NAME "." NAME ) ]
abbrev pub tested_form : Form Rule Sort
tested_form = token sort.Name then option (same_sign_form then (token sort.True or token sort.False or variant_form))

-- "==" | "!=" | "<" | "<=" | ">" | ">="
abbrev pub compare_sign_form : Form Rule Sort
compare_sign_form = token sort.DoubleEqual or token sort.NotEqual or token sort.Less or token sort.LessEqual or token sort.Greater or token sort.GreaterEqual

-- wsum ( "==" | "!=" | "<" | "<=" | ">" | ">=" ) wsum
abbrev pub comparison_form : Form Rule Sort
comparison_form = rule wsum_rule then compare_sign_form then rule wsum_rule

-- an atom that begins with a word or a sign of its own, or that is one of the others
abbrev pub atom_form_with : Form Rule Sort → Form Rule Sort
atom_form_with others = not_form or parenthesis_form or token sort.True or token sort.False or during_form or shift_form or longer_form or others

-- atom is one of these
abbrev pub atom_form : Form Rule Sort
atom_form = atom_form_with (tested_form or comparison_form)

-- ( "+" | "-" ) wterm
abbrev pub signed_term_form : Form Rule Sort
signed_term_form = (token sort.Plus or token sort.Minus) then rule wterm_rule

-- wsum = [ "-" ] wterm { ( "+" | "-" ) wterm }
abbrev pub wsum_form : Form Rule Sort
wsum_form = option (token sort.Minus) then rule wterm_rule then many signed_term_form

-- NUMBER [ "*" NAME ]
abbrev pub scaled_form : Form Rule Sort
scaled_form = token sort.Number then option (token sort.Star then token sort.Name)

-- wterm = NUMBER [ "*" NAME ] | DURATION | NAME
abbrev pub wterm_form : Form Rule Sort
wterm_form = scaled_form or token sort.Time or token sort.Name

-- sdur = [ "-" ] DURATION
abbrev pub sdur_form : Form Rule Sort
sdur_form = option (token sort.Minus) then token sort.Time

-- ---- goals

-- "keeping" NAME { "," NAME }
abbrev pub keeping_form : Form Rule Sort
keeping_form = token sort.Keeping then separated (token sort.Comma) (token sort.Name)

-- NAME ":" kind [ "keeping" NAME { "," NAME } ] [ "rollback" ] ";"
abbrev pub goal_form : Form Rule Sort
goal_form = token sort.Name then token sort.Colon then rule kind_rule then option keeping_form then option (token sort.Rollback) then token sort.Semicolon

-- goals = { NAME ":" kind [ "keeping" NAME { "," NAME } ] [ "rollback" ] ";" }
abbrev pub goals_form : Form Rule Sort
goals_form = many goal_form

-- "recurrence" given "every" DURATION "in" range
abbrev pub recurrence_form : Form Rule Sort
recurrence_form = token sort.Recurrence then rule given_rule then token sort.Every then token sort.Time then token sort.In then rule range_rule

-- "coexistence" given "for" anchor "from" sdur "to" sdur
abbrev pub coexistence_form : Form Rule Sort
coexistence_form =
    token sort.Coexistence then rule given_rule then token sort.For then rule anchor_rule
    then token sort.From then rule sdur_rule then token sort.To then rule sdur_rule

-- "cardinality" given "count" NUMBER "in" range
abbrev pub cardinality_form : Form Rule Sort
cardinality_form = token sort.Cardinality then rule given_rule then token sort.Count then token sort.Number then token sort.In then rule range_rule

-- kind is one of these three
abbrev pub kind_form : Form Rule Sort
kind_form = recurrence_form or coexistence_form or cardinality_form

-- anchor = ( "start" | "end" ) "of" NAME | "window" "(" window ")"
abbrev pub anchor_form : Form Rule Sort
anchor_form =
    (token sort.Start or token sort.End) then token sort.Of then token sort.Name
    or token sort.Window then token sort.OpenParenthesis then rule window_rule then token sort.CloseParenthesis

-- range = "[" DURATION "," DURATION ")"
abbrev pub range_form : Form Rule Sort
range_form = token sort.OpenBracket then token sort.Time then token sort.Comma then token sort.Time then token sort.CloseParenthesis

-- NAME "=" literal
abbrev pub argument_form : Form Rule Sort
argument_form = token sort.Name then token sort.Assign then rule literal_rule

-- given = NAME "(" [ NAME "=" literal { "," NAME "=" literal } ] ")"
abbrev pub given_form : Form Rule Sort
given_form = token sort.Name then token sort.OpenParenthesis then option (separated (token sort.Comma) argument_form) then token sort.CloseParenthesis

-- ---- sequences

-- "for" NAME ":" step { "," step } ";"
abbrev pub span_rule_form : Form Rule Sort
span_rule_form = token sort.For then token sort.Name then token sort.Colon then separated (token sort.Comma) (rule step_rule) then token sort.Semicolon

-- "longer" "(" NAME "," DURATION ")" ";"
abbrev pub spacing_form : Form Rule Sort
spacing_form =
    token sort.Longer then token sort.OpenParenthesis then token sort.Name then token sort.Comma then token sort.Time then token sort.CloseParenthesis
    then token sort.Semicolon

-- sequence = { "for" NAME ":" step { "," step } ";" | "longer" "(" NAME "," DURATION ")" ";" }
abbrev pub sequence_form : Form Rule Sort
sequence_form = many (span_rule_form or spacing_form)

-- ( "start" | "end" ) [ ( "+" | "-" ) DURATION ]
abbrev pub time_of_step_form : Form Rule Sort
time_of_step_form = (token sort.Start or token sort.End) then option ((token sort.Plus or token sort.Minus) then token sort.Time)

-- "if" NAME ( "==" | "!=" | "<" | "<=" | ">" | ">=" ) literal
abbrev pub condition_form : Form Rule Sort
condition_form = token sort.If then token sort.Name then compare_sign_form then rule literal_rule

-- step = ( "start" | "end" ) [ ( "+" | "-" ) DURATION ] NAME "(" [ word { "," word } ] ")"
--        [ "if" NAME ( "==" | "!=" | "<" | "<=" | ">" | ">=" ) literal ]
abbrev pub step_form : Form Rule Sort
step_form =
    time_of_step_form then token sort.Name
    then token sort.OpenParenthesis then option (separated (token sort.Comma) (rule word_rule)) then token sort.CloseParenthesis
    then option condition_form

-- word = literal | NAME | "return"
abbrev pub word_form : Form Rule Sort
word_form = rule literal_rule or token sort.Name or token sort.Return

-- literal = [ "-" ] NUMBER | [ "-" ] DURATION | "true" | "false" | NAME "." NAME
abbrev pub literal_form : Form Rule Sort
literal_form =
    option (token sort.Minus) then token sort.Number
    or option (token sort.Minus) then token sort.Time
    or token sort.True
    or token sort.False
    or variant_form

-- ---- the grammar

abbrev pub form_of : Rule → Form Rule Sort
form_of constraints_rule = constraints_form
form_of window_rule = window_form
form_of conj_rule = conj_form
form_of atom_rule = atom_form
form_of wsum_rule = wsum_form
form_of wterm_rule = wterm_form
form_of sdur_rule = sdur_form
form_of goals_rule = goals_form
form_of kind_rule = kind_form
form_of anchor_rule = anchor_form
form_of range_rule = range_form
form_of given_rule = given_form
form_of sequence_rule = sequence_form
form_of step_rule = step_form
form_of word_rule = word_form
form_of literal_rule = literal_form

abbrev pub written : Grammar Rule Sort Mark
written = grammar_of form_of
