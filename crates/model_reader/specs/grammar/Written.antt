-- The grammar of models as it is written. INT, NAME, NUMBER and DURATION of the comments are a whole number, and tokens of
-- the sorts Name, Number and Time.
use Rattle.readers.specs.Marks.{Mark}
use Rattle.aerie_text.specs.declared.sorts.Sort.{Sort}
use Rattle.aerie_text.specs.declared.sorts.Sort.TheVariants as sort
use Rattle.readers.specs.grammar.Forms.{Form, token, rule, many, option, separated, Grammar}
use Rattle.readers.specs.grammar.MarkTables.{grammar_of}
use Rattle.readers.specs.grammar.Notation.{◌then◌, ◌or◌}
use Rattle.model_reader.specs.grammar.Rules.{Rule, model_rule, item_rule, param_rule, type_rule, int_rule, literal_rule, read_rule, stmt_rule, block_rule, invoke_rule, expr_rule, and_rule, compare_rule, sum_rule, product_rule, unary_rule, primary_rule}

-- model = "model" NAME "{" { item } "}"
abbrev pub model_form : Form Rule Sort
model_form = token sort.Model then token sort.Name then token sort.OpenBrace then many (rule item_rule) then token sort.CloseBrace

-- ---- items

-- "enum" NAME "{" NAME { "," NAME } "}"
abbrev pub enum_form : Form Rule Sort
enum_form = token sort.Enum then token sort.Name then token sort.OpenBrace then separated (token sort.Comma) (token sort.Name) then token sort.CloseBrace

-- "counter" NAME "=" INT ";"
abbrev pub counter_form : Form Rule Sort
counter_form = token sort.Counter then token sort.Name then token sort.Assign then rule int_rule then token sort.Semicolon

-- "register" NAME ":" type "=" literal ";"
abbrev pub register_form : Form Rule Sort
register_form = token sort.Register then token sort.Name then token sort.Colon then rule type_rule then token sort.Assign then rule literal_rule then token sort.Semicolon

-- "accumulator" NAME "=" INT "rate" INT ";"
abbrev pub accumulator_form : Form Rule Sort
accumulator_form = token sort.Accumulator then token sort.Name then token sort.Assign then rule int_rule then token sort.Rate then rule int_rule then token sort.Semicolon

-- "discrete" NAME "=" read ";"
abbrev pub discrete_form : Form Rule Sort
discrete_form = token sort.Discrete then token sort.Name then token sort.Assign then rule read_rule then token sort.Semicolon

-- "linear" NAME "=" expr ";"
abbrev pub linear_form : Form Rule Sort
linear_form = token sort.Linear then token sort.Name then token sort.Assign then rule expr_rule then token sort.Semicolon

-- "activity" NAME "(" [ param { "," param } ] ")" [ "->" type ] "{" { "require" expr ";" } { stmt } "}"
abbrev pub activity_form : Form Rule Sort
activity_form =
    token sort.Activity then token sort.Name
    then token sort.OpenParenthesis then option (separated (token sort.Comma) (rule param_rule)) then token sort.CloseParenthesis
    then option (token sort.Arrow then rule type_rule)
    then token sort.OpenBrace then many (token sort.Require then rule expr_rule then token sort.Semicolon) then many (rule stmt_rule) then token sort.CloseBrace

-- "daemon" "{" { stmt } "}"
abbrev pub daemon_form : Form Rule Sort
daemon_form = token sort.Daemon then token sort.OpenBrace then many (rule stmt_rule) then token sort.CloseBrace

-- item is one of these eight
abbrev pub item_form : Form Rule Sort
item_form = enum_form or counter_form or register_form or accumulator_form or discrete_form or linear_form or activity_form or daemon_form

-- ---- parts of items

-- param = NAME ":" type [ "=" literal ]
abbrev pub param_form : Form Rule Sort
param_form = token sort.Name then token sort.Colon then rule type_rule then option (token sort.Assign then rule literal_rule)

-- type = "int" | "duration" | "truth" | NAME
abbrev pub type_form : Form Rule Sort
type_form = token sort.Int or token sort.Duration or token sort.Truth or token sort.Name

-- INT = [ "-" ] NUMBER
abbrev pub int_form : Form Rule Sort
int_form = option (token sort.Minus) then token sort.Number

-- literal = [ "-" ] NUMBER | [ "-" ] DURATION | "true" | "false" | NAME "." NAME
abbrev pub literal_form : Form Rule Sort
literal_form =
    option (token sort.Minus) then token sort.Number
    or option (token sort.Minus) then token sort.Time
    or token sort.True
    or token sort.False
    or token sort.Name then token sort.Dot then token sort.Name

-- read = NAME [ "." ( "volume" | "rate" | "conflicted" ) ]
abbrev pub read_form : Form Rule Sort
read_form = token sort.Name then option (token sort.Dot then (token sort.Volume or token sort.Rate or token sort.Conflicted))

-- ---- statements

-- "let" NAME "=" ( expr | "call" invoke ) ";"
abbrev pub let_form : Form Rule Sort
let_form = token sort.Let then token sort.Name then token sort.Assign then (rule expr_rule or token sort.Call then rule invoke_rule) then token sort.Semicolon

-- NAME ( "=" | "+=" | ":=" ) expr ";"
abbrev pub assignment_form : Form Rule Sort
assignment_form = token sort.Name then (token sort.Assign or token sort.PlusAssign or token sort.ColonAssign) then rule expr_rule then token sort.Semicolon

-- NAME "." ( "volume" | "rate" ) "+=" expr ";"
abbrev pub addition_form : Form Rule Sort
addition_form = token sort.Name then token sort.Dot then (token sort.Volume or token sort.Rate) then token sort.PlusAssign then rule expr_rule then token sort.Semicolon

-- "delay" expr ";"
abbrev pub delay_form : Form Rule Sort
delay_form = token sort.Delay then rule expr_rule then token sort.Semicolon

-- "wait" "until" expr ";"
abbrev pub wait_form : Form Rule Sort
wait_form = token sort.Wait then token sort.Until then rule expr_rule then token sort.Semicolon

-- ( "spawn" | "call" ) invoke ";"
abbrev pub start_form : Form Rule Sort
start_form = (token sort.Spawn or token sort.Call) then rule invoke_rule then token sort.Semicolon

-- "if" expr block [ "else" block ]
abbrev pub if_form : Form Rule Sort
if_form = token sort.If then rule expr_rule then rule block_rule then option (token sort.Else then rule block_rule)

-- "while" expr block
abbrev pub while_form : Form Rule Sort
while_form = token sort.While then rule expr_rule then rule block_rule

-- "return" [ expr ] ";"
abbrev pub return_form : Form Rule Sort
return_form = token sort.Return then option (rule expr_rule) then token sort.Semicolon

-- stmt is one of these nine
abbrev pub stmt_form : Form Rule Sort
stmt_form = let_form or assignment_form or addition_form or delay_form or wait_form or start_form or if_form or while_form or return_form

-- block = "{" { stmt } "}"
abbrev pub block_form : Form Rule Sort
block_form = token sort.OpenBrace then many (rule stmt_rule) then token sort.CloseBrace

-- invoke = NAME "(" [ NAME "=" expr { "," NAME "=" expr } ] ")"
abbrev pub invoke_form : Form Rule Sort
invoke_form = token sort.Name then token sort.OpenParenthesis then option (separated (token sort.Comma) (token sort.Name then token sort.Assign then rule expr_rule)) then token sort.CloseParenthesis

-- ---- expressions

-- expr = and { "||" and }
abbrev pub expr_form : Form Rule Sort
expr_form = rule and_rule then many (token sort.DoubleBar then rule and_rule)

-- and = compare { "&&" compare }
abbrev pub and_form : Form Rule Sort
and_form = rule compare_rule then many (token sort.DoubleAmpersand then rule compare_rule)

-- compare = sum [ ( "==" | "!=" | "<" | "<=" | ">" | ">=" ) sum ]
abbrev pub compare_form : Form Rule Sort
compare_form = rule sum_rule then option ((token sort.DoubleEqual or token sort.NotEqual or token sort.Less or token sort.LessEqual or token sort.Greater or token sort.GreaterEqual) then rule sum_rule)

-- sum = product { ( "+" | "-" ) product }
abbrev pub sum_form : Form Rule Sort
sum_form = rule product_rule then many ((token sort.Plus or token sort.Minus) then rule product_rule)

-- product = unary { ( "*" | "/" | "%" ) unary }
abbrev pub product_form : Form Rule Sort
product_form = rule unary_rule then many ((token sort.Star or token sort.Slash or token sort.Percent) then rule unary_rule)

-- unary = ( "-" | "!" ) unary | primary
abbrev pub unary_form : Form Rule Sort
unary_form = (token sort.Minus or token sort.Exclamation) then rule unary_rule or rule primary_rule

-- primary = NUMBER | DURATION | "true" | "false" | NAME "." NAME | read | "(" expr ")"
abbrev pub primary_form : Form Rule Sort
primary_form =
    token sort.Number
    or token sort.Time
    or token sort.True
    or token sort.False
    or token sort.Name then token sort.Dot then token sort.Name
    or rule read_rule
    or token sort.OpenParenthesis then rule expr_rule then token sort.CloseParenthesis

-- ---- the grammar

abbrev pub form_of : Rule → Form Rule Sort
form_of model_rule = model_form
form_of item_rule = item_form
form_of param_rule = param_form
form_of type_rule = type_form
form_of int_rule = int_form
form_of literal_rule = literal_form
form_of read_rule = read_form
form_of stmt_rule = stmt_form
form_of block_rule = block_form
form_of invoke_rule = invoke_form
form_of expr_rule = expr_form
form_of and_rule = and_form
form_of compare_rule = compare_form
form_of sum_rule = sum_form
form_of product_rule = product_form
form_of unary_rule = unary_form
form_of primary_rule = primary_form

abbrev pub written : Grammar Rule Sort Mark
written = grammar_of form_of
