-- The grammar of models in which the next token decides each choice. It reads what the grammar as it is written reads. A form
-- with a name of its own is what one part of the reader reads.
use Rattle.std.specs.Prelude.{false, List, [], ◌∷◌}
use Rattle.readers.specs.Marks.{Mark}
use Rattle.aerie_text.specs.declared.sorts.Sort.{Sort}
use Rattle.aerie_text.specs.declared.sorts.Sort.TheVariants as sort
use Rattle.readers.specs.grammar.Forms.{Form, token, rule, many, option, separated, Grammar}
use Rattle.readers.specs.grammar.Lookahead.{Lookahead}
use Rattle.readers.specs.grammar.MarkTables.{look_of}
use Rattle.readers.specs.grammar.Tables.{Tables}
use Rattle.readers.specs.grammar.Notation.{◌then◌, ◌or◌}
use Rattle.model_reader.specs.grammar.Written.{enum_form, counter_form, register_form, accumulator_form, discrete_form, linear_form, daemon_form, delay_form, wait_form, start_form, if_form, while_form, return_form, form_of as written_form}
use Rattle.model_reader.specs.grammar.Rules.{Rule, model_rule, item_rule, param_rule, type_rule, int_rule, literal_rule, read_rule, stmt_rule, block_rule, invoke_rule, expr_rule, and_rule, compare_rule, sum_rule, product_rule, unary_rule, primary_rule}

-- ---- names, numbers and literals

-- [ "-" ]
abbrev pub sign_form : Form Rule Sort
sign_form = option (token sort.Minus)

-- NUMBER | DURATION
abbrev pub amount_form : Form Rule Sort
amount_form = token sort.Number or token sort.Time

-- NAME "." NAME
abbrev pub variant_form : Form Rule Sort
variant_form = token sort.Name then token sort.Dot then token sort.Name

-- [ "-" ] ( NUMBER | DURATION )
abbrev pub signed_amount_form : Form Rule Sort
signed_amount_form = sign_form then amount_form

-- literal = [ "-" ] ( NUMBER | DURATION ) | "true" | "false" | NAME "." NAME
abbrev pub literal_form : Form Rule Sort
literal_form = signed_amount_form or token sort.True or token sort.False or variant_form

-- "volume" | "rate" | "conflicted"
abbrev pub part_form : Form Rule Sort
part_form = token sort.Volume or token sort.Rate or token sort.Conflicted

-- "." ( "volume" | "rate" | "conflicted" )
abbrev pub dotted_part_form : Form Rule Sort
dotted_part_form = token sort.Dot then part_form

-- what follows the NAME of a read: [ "." ( "volume" | "rate" | "conflicted" ) ]
abbrev pub read_part_form : Form Rule Sort
read_part_form = option dotted_part_form

-- ---- items

-- "{" NAME { "," NAME } "}"
abbrev pub variants_form : Form Rule Sort
variants_form = token sort.OpenBrace then separated (token sort.Comma) (token sort.Name) then token sort.CloseBrace

-- "=" literal
abbrev pub given_default_form : Form Rule Sort
given_default_form = token sort.Assign then rule literal_rule

-- [ "=" literal ]
abbrev pub default_form : Form Rule Sort
default_form = option given_default_form

-- param { "," param }
abbrev pub parameter_list_form : Form Rule Sort
parameter_list_form = separated (token sort.Comma) (rule param_rule)

-- "(" [ param { "," param } ] ")"
abbrev pub parameters_form : Form Rule Sort
parameters_form = token sort.OpenParenthesis then option parameter_list_form then token sort.CloseParenthesis

-- "->" type
abbrev pub given_result_form : Form Rule Sort
given_result_form = token sort.Arrow then rule type_rule

-- [ "->" type ]
abbrev pub result_form : Form Rule Sort
result_form = option given_result_form

-- "require" expr ";"
abbrev pub require_form : Form Rule Sort
require_form = token sort.Require then rule expr_rule then token sort.Semicolon

-- "{" { "require" expr ";" } { stmt } "}"
abbrev pub activity_body_form : Form Rule Sort
activity_body_form = token sort.OpenBrace then many require_form then many (rule stmt_rule) then token sort.CloseBrace

-- "activity" NAME "(" [ param { "," param } ] ")" [ "->" type ] "{" { "require" expr ";" } { stmt } "}"
abbrev pub activity_form : Form Rule Sort
activity_form = token sort.Activity then token sort.Name then parameters_form then result_form then activity_body_form

-- counter | register | accumulator
abbrev pub cell_form : Form Rule Sort
cell_form = counter_form or register_form or accumulator_form

-- discrete | linear
abbrev pub resource_form : Form Rule Sort
resource_form = discrete_form or linear_form

-- item is one of these five
abbrev pub item_form : Form Rule Sort
item_form = enum_form or cell_form or resource_form or activity_form or daemon_form

-- ---- statements

-- "call" invoke
abbrev pub let_call_form : Form Rule Sort
let_call_form = token sort.Call then rule invoke_rule

-- "call" invoke | expr
abbrev pub let_value_form : Form Rule Sort
let_value_form = let_call_form or rule expr_rule

-- "let" NAME "=" ( "call" invoke | expr ) ";"
abbrev pub let_form : Form Rule Sort
let_form = token sort.Let then token sort.Name then token sort.Assign then let_value_form then token sort.Semicolon

-- "volume" | "rate"
abbrev pub changed_part_form : Form Rule Sort
changed_part_form = token sort.Volume or token sort.Rate

-- "." ( "volume" | "rate" ) "+="
abbrev pub part_change_form : Form Rule Sort
part_change_form = token sort.Dot then changed_part_form then token sort.PlusAssign

-- what a statement does to the NAME that it begins with: "=" | "+=" | ":=" | "." ( "volume" | "rate" ) "+="
abbrev pub change_sign_form : Form Rule Sort
change_sign_form = (token sort.Assign or token sort.PlusAssign or token sort.ColonAssign) or part_change_form

-- NAME ( "=" | "+=" | ":=" | "." ( "volume" | "rate" ) "+=" ) expr ";"
abbrev pub change_form : Form Rule Sort
change_form = token sort.Name then change_sign_form then rule expr_rule then token sort.Semicolon

-- "spawn" | "call"
abbrev pub start_word_form : Form Rule Sort
start_word_form = token sort.Spawn or token sort.Call

-- "else" block
abbrev pub given_else_form : Form Rule Sort
given_else_form = token sort.Else then rule block_rule

-- [ "else" block ]
abbrev pub else_form : Form Rule Sort
else_form = option given_else_form

-- a statement without blocks
abbrev pub simple_form : Form Rule Sort
simple_form = let_form or change_form or delay_form or wait_form or start_form or return_form

-- stmt, of which there are eight
abbrev pub stmt_form : Form Rule Sort
stmt_form = if_form or while_form or simple_form

-- NAME "=" expr
abbrev pub argument_form : Form Rule Sort
argument_form = token sort.Name then token sort.Assign then rule expr_rule

-- ---- expressions

-- "==" | "!=" | "<" | "<=" | ">" | ">="
abbrev pub compare_sign_form : Form Rule Sort
compare_sign_form = token sort.DoubleEqual or token sort.NotEqual or token sort.Less or token sort.LessEqual or token sort.Greater or token sort.GreaterEqual

-- "+" | "-"
abbrev pub sum_sign_form : Form Rule Sort
sum_sign_form = token sort.Plus or token sort.Minus

-- "*" | "/" | "%"
abbrev pub product_sign_form : Form Rule Sort
product_sign_form = token sort.Star or token sort.Slash or token sort.Percent

-- "-" | "!"
abbrev pub unary_sign_form : Form Rule Sort
unary_sign_form = token sort.Minus or token sort.Exclamation

-- ( "-" | "!" ) unary
abbrev pub signed_form : Form Rule Sort
signed_form = unary_sign_form then rule unary_rule

-- "." ( NAME | "volume" | "rate" | "conflicted" )
abbrev pub dotted_member_form : Form Rule Sort
dotted_member_form = token sort.Dot then (token sort.Name or part_form)

-- what follows the NAME of a primary: [ "." ( NAME | "volume" | "rate" | "conflicted" ) ]
abbrev pub member_form : Form Rule Sort
member_form = option dotted_member_form

-- NAME [ "." ( NAME | "volume" | "rate" | "conflicted" ) ]
abbrev pub named_form : Form Rule Sort
named_form = token sort.Name then member_form

-- "(" expr ")"
abbrev pub parenthesis_form : Form Rule Sort
parenthesis_form = token sort.OpenParenthesis then rule expr_rule then token sort.CloseParenthesis

-- primary = NUMBER | DURATION | "true" | "false" | NAME [ "." ( NAME | "volume" | "rate" | "conflicted" ) ] | "(" expr ")"
abbrev pub primary_form : Form Rule Sort
primary_form = amount_form or token sort.True or token sort.False or named_form or parenthesis_form

-- ---- the grammar

-- the form of a rule: that of the grammar as it is written where the next token decides there too
abbrev pub form_of : Rule → Form Rule Sort
form_of item_rule = item_form
form_of literal_rule = literal_form
form_of stmt_rule = stmt_form
form_of primary_rule = primary_form
form_of r = written_form r

-- ---- with which sorts of tokens a rule begins

abbrev pub item_first : List Sort
item_first = sort.Enum ∷ sort.Counter ∷ sort.Register ∷ sort.Accumulator ∷ sort.Discrete ∷ sort.Linear ∷ sort.Activity ∷ sort.Daemon ∷ []

abbrev pub stmt_first : List Sort
stmt_first = sort.Let ∷ sort.Name ∷ sort.Delay ∷ sort.Wait ∷ sort.Spawn ∷ sort.Call ∷ sort.If ∷ sort.While ∷ sort.Return ∷ []

abbrev pub primary_first : List Sort
primary_first = sort.Number ∷ sort.Time ∷ sort.True ∷ sort.False ∷ sort.Name ∷ sort.OpenParenthesis ∷ []

abbrev pub expr_first : List Sort
expr_first = sort.Minus ∷ sort.Exclamation ∷ primary_first

abbrev pub rule_first : Rule → List Sort
rule_first model_rule = sort.Model ∷ []
rule_first item_rule = item_first
rule_first param_rule = sort.Name ∷ []
rule_first type_rule = sort.Int ∷ sort.Duration ∷ sort.Truth ∷ sort.Name ∷ []
rule_first int_rule = sort.Minus ∷ sort.Number ∷ []
rule_first literal_rule = sort.Minus ∷ sort.Number ∷ sort.Time ∷ sort.True ∷ sort.False ∷ sort.Name ∷ []
rule_first read_rule = sort.Name ∷ []
rule_first stmt_rule = stmt_first
rule_first block_rule = sort.OpenBrace ∷ []
rule_first invoke_rule = sort.Name ∷ []
rule_first expr_rule = expr_first
rule_first and_rule = expr_first
rule_first compare_rule = expr_first
rule_first sum_rule = expr_first
rule_first product_rule = expr_first
rule_first unary_rule = expr_first
rule_first primary_rule = primary_first

-- ---- which sorts of tokens may follow a rule inside a model

abbrev pub expr_follow : List Sort
expr_follow = sort.Semicolon ∷ sort.Comma ∷ sort.CloseParenthesis ∷ sort.OpenBrace ∷ []

abbrev pub and_follow : List Sort
and_follow = sort.DoubleBar ∷ expr_follow

abbrev pub compare_follow : List Sort
compare_follow = sort.DoubleAmpersand ∷ and_follow

abbrev pub sum_follow : List Sort
sum_follow = sort.DoubleEqual ∷ sort.NotEqual ∷ sort.Less ∷ sort.LessEqual ∷ sort.Greater ∷ sort.GreaterEqual ∷ compare_follow

abbrev pub product_follow : List Sort
product_follow = sort.Plus ∷ sort.Minus ∷ sum_follow

abbrev pub unary_follow : List Sort
unary_follow = sort.Star ∷ sort.Slash ∷ sort.Percent ∷ product_follow

abbrev pub rule_follow : Rule → List Sort
rule_follow model_rule = []
rule_follow item_rule = sort.CloseBrace ∷ item_first
rule_follow param_rule = sort.Comma ∷ sort.CloseParenthesis ∷ []
rule_follow type_rule = sort.Assign ∷ sort.Comma ∷ sort.CloseParenthesis ∷ sort.OpenBrace ∷ []
rule_follow int_rule = sort.Rate ∷ sort.Semicolon ∷ []
rule_follow literal_rule = sort.Comma ∷ sort.CloseParenthesis ∷ sort.Semicolon ∷ []
rule_follow read_rule = sort.Semicolon ∷ []
rule_follow stmt_rule = sort.CloseBrace ∷ stmt_first
rule_follow block_rule = sort.Else ∷ sort.CloseBrace ∷ stmt_first
rule_follow invoke_rule = sort.Semicolon ∷ []
rule_follow expr_rule = expr_follow
rule_follow and_rule = and_follow
rule_follow compare_rule = compare_follow
rule_follow sum_rule = sum_follow
rule_follow product_rule = product_follow
rule_follow unary_rule = unary_follow
rule_follow primary_rule = unary_follow

-- ---- the reader that looks one token ahead

abbrev pub tables : Tables Rule Sort
tables = record { form = form_of; nullable = λ r. false; first = rule_first; follow = rule_follow; openings = 7 }

abbrev pub look : Lookahead Rule Sort Mark
look = look_of tables

abbrev pub factored : Grammar Rule Sort Mark
factored = look.grammar
