-- The grammar of sessions in which the next token decides each choice. It reads what the grammar as it is written reads. A form
-- with a name of its own is what one part of the reader reads.
use Rattle.std.specs.Prelude.{Bool, true, false, List, [], ◌∷◌}
use Rattle.aerie_text.specs.declared.sorts.Sort.{Sort}
use Rattle.aerie_text.specs.declared.sorts.Sort.TheVariants as sort
use Rattle.model_reader.specs.grammar.Factored.{form_of as model_form_of, rule_first as model_first, rule_follow as model_follow}
use Rattle.model_reader.specs.grammar.Rules.{Rule as ModelRule, literal_rule, model_rule}
use Rattle.readers.specs.Marks.{Mark}
use Rattle.readers.specs.grammar.Classes.{look_by_class}
use Rattle.readers.specs.grammar.Forms.{Form, token, rule, many, option, Grammar}
use Rattle.readers.specs.grammar.Lookahead.{Lookahead}
use Rattle.readers.specs.grammar.Notation.{◌then◌, ◌or◌}
use Rattle.readers.specs.grammar.Tables.{Tables, look_by_number}
use Rattle.session_grammar.specs.grammar.Embedding.{in_session, of_sort, terminals_of_all}
use Rattle.session_grammar.specs.grammar.Rules.{Rule, session_rule, rules_rule, mapping_rule, feed_rule, plan_rule, when_rule, given_rule, client_rule, command_rule, of_model}
use Rattle.session_grammar.specs.grammar.Terminals.{Terminal, class_of, number_of_terminal, plain, some_time}
use Rattle.session_grammar.specs.grammar.Written.{rule_terminals, mapped_type_form, dataset_form, section_form, beginning_form, directive_form, argument_form, id_form, duration_form, form_of as written_form}

-- WORD NAME, for a word or a symbol
abbrev pub named_form : Sort → Form Rule Terminal
named_form word = of_sort word then of_sort sort.Name

-- ---- sessions

-- model { model }
abbrev pub models_form : Form Rule Terminal
models_form = rule (of_model model_rule) then many (rule (of_model model_rule))

-- { "constraints" .. } { "goals" .. } { "sequence" .. }
abbrev pub sections_form : Form Rule Terminal
sections_form = many (section_form sort.Constraints) then many (section_form sort.Goals) then many (section_form sort.Sequence)

-- session = model { model } { mapping } plan { "load" NAME RAW ";" } { "constraints" .. } { "goals" .. } { "sequence" .. } { client }
abbrev pub session_form : Form Rule Terminal
session_form = models_form then many (rule mapping_rule) then rule plan_rule then many dataset_form then sections_form then many (rule client_rule)

-- ---- mappings

-- "." NAME
abbrev pub variant_part_form : Form Rule Terminal
variant_part_form = named_form sort.Dot

-- NAME [ "." NAME ]
abbrev pub name_or_variant_form : Form Rule Terminal
name_or_variant_form = of_sort sort.Name then option variant_part_form

-- [ "-" ] ( NUMBER | DURATION )
abbrev pub signed_amount_form : Form Rule Terminal
signed_amount_form = option (of_sort sort.Minus) then (of_sort sort.Number or of_sort sort.Time)

-- NAME | literal
abbrev pub fed_value_form : Form Rule Terminal
fed_value_form = signed_amount_form or of_sort sort.True or of_sort sort.False or name_or_variant_form

-- feed = NAME "=" ( NAME | literal )
abbrev pub feed_form : Form Rule Terminal
feed_form = of_sort sort.Name then of_sort sort.Assign then fed_value_form

-- mapping = "from" NAME "to" NAME "{" { NAME "to" NAME "(" [ feed { "," feed } ] ")" ";" } "}"
abbrev pub mapping_form : Form Rule Terminal
mapping_form = named_form sort.From then named_form sort.To then of_sort sort.OpenBrace then many mapped_type_form then of_sort sort.CloseBrace

-- ---- the plan

-- "plan" NAME "{"
abbrev pub plan_name_form : Form Rule Terminal
plan_name_form = named_form sort.Plan then of_sort sort.OpenBrace

-- "start" STRING ";"
abbrev pub start_form : Form Rule Terminal
start_form = of_sort sort.Start then of_sort sort.Quoted then of_sort sort.Semicolon

-- "duration" DURATION ";", the DURATION not 0
abbrev pub plan_duration_form : Form Rule Terminal
plan_duration_form = of_sort sort.Duration then token some_time then of_sort sort.Semicolon

-- plan = "plan" NAME "{" "start" STRING ";" "duration" DURATION ";" { beginning } { "at" when given ";" } "}", the DURATION
-- not 0
abbrev pub plan_form : Form Rule Terminal
plan_form = plan_name_form then start_form then plan_duration_form then many beginning_form then many directive_form then of_sort sort.CloseBrace

-- ---- times of directives

-- "start" | "end"
abbrev pub edge_form : Form Rule Terminal
edge_form = of_sort sort.Start or of_sort sort.End

-- ( "start" | "end" ) "of" ID "+" DURATION
abbrev pub anchored_form : Form Rule Terminal
anchored_form = edge_form then of_sort sort.Of then id_form then of_sort sort.Plus then duration_form

-- when = ( "start" | "end" ) "of" ID "+" DURATION | STRING | DURATION
abbrev pub when_form : Form Rule Terminal
when_form = anchored_form or of_sort sort.Quoted or duration_form

-- ---- commands

-- "fork" NAME "from" NAME
abbrev pub fork_form : Form Rule Terminal
fork_form = named_form sort.Fork then named_form sort.From

-- "merge" NAME "from" NAME "of" NAME
abbrev pub merge_form : Form Rule Terminal
merge_form = named_form sort.Merge then named_form sort.From then named_form sort.Of

-- "add" NAME "at" when given
abbrev pub add_form : Form Rule Terminal
add_form = named_form sort.Add then of_sort sort.At then rule when_rule then rule given_rule

-- "remove" NAME ID
abbrev pub remove_form : Form Rule Terminal
remove_form = named_form sort.Remove then id_form

-- ID "to" when
abbrev pub directive_move_form : Form Rule Terminal
directive_move_form = id_form then of_sort sort.To then rule when_rule

-- "move" NAME ( "to" NAME | ID "to" when )
abbrev pub move_form : Form Rule Terminal
move_form = named_form sort.Move then (named_form sort.To or directive_move_form)

-- "set" NAME ID NAME "=" literal
abbrev pub set_form : Form Rule Terminal
set_form = named_form sort.Set then id_form then argument_form

-- "load" NAME RAW
abbrev pub load_form : Form Rule Terminal
load_form = named_form sort.Load then of_sort sort.Raw

-- a command that opens branches, ends them or brings them together
abbrev pub branches_form : Form Rule Terminal
branches_form = named_form sort.New or fork_form or named_form sort.Drop or merge_form

-- a command that edits a branch
abbrev pub edit_form : Form Rule Terminal
edit_form = add_form or remove_form or move_form or set_form or load_form

-- a command that shows a branch, or what comes of it
abbrev pub view_form : Form Rule Terminal
view_form = named_form sort.Show or named_form sort.Simulate or named_form sort.Schedule or named_form sort.Expand

-- command is one of these
abbrev pub command_form : Form Rule Terminal
command_form = branches_form or edit_form or view_form

-- ---- the grammar

-- the form of a rule: that of the grammar as it is written where the next token decides there too
abbrev pub form_of : Rule → Form Rule Terminal
form_of session_rule = session_form
form_of mapping_rule = mapping_form
form_of feed_rule = feed_form
form_of plan_rule = plan_form
form_of when_rule = when_form
form_of command_rule = command_form
form_of (of_model r) = in_session (model_form_of r)
form_of r = written_form r

-- ---- with which terminals a rule begins

abbrev pub command_first : List Sort
command_first =
    sort.New ∷ sort.Fork ∷ sort.Drop ∷ sort.Merge ∷ sort.Add ∷ sort.Remove ∷ sort.Move ∷ sort.Set ∷ sort.Load
    ∷ sort.Show ∷ sort.Simulate ∷ sort.Schedule ∷ sort.Expand ∷ []

abbrev pub rule_first : Rule → List Terminal
rule_first session_rule = plain sort.Model ∷ []
rule_first rules_rule = rule_terminals
rule_first mapping_rule = plain sort.From ∷ []
rule_first feed_rule = plain sort.Name ∷ []
rule_first plan_rule = plain sort.Plan ∷ []
rule_first when_rule = terminals_of_all (sort.Time ∷ sort.Quoted ∷ sort.Start ∷ sort.End ∷ [])
rule_first given_rule = plain sort.Name ∷ []
rule_first client_rule = plain sort.Client ∷ []
rule_first command_rule = terminals_of_all command_first
rule_first (of_model r) = terminals_of_all (model_first r)

-- ---- which terminals may follow a rule inside a session

-- which may follow a rule of models
abbrev pub inner_follow : ModelRule → List Sort
inner_follow model_rule = sort.Model ∷ sort.From ∷ sort.Plan ∷ []
inner_follow literal_rule = sort.Rate ∷ model_follow literal_rule
inner_follow r = model_follow r

abbrev pub rule_follow : Rule → List Terminal
rule_follow session_rule = []
rule_follow rules_rule = plain sort.CloseBrace ∷ []
rule_follow mapping_rule = plain sort.From ∷ plain sort.Plan ∷ []
rule_follow feed_rule = plain sort.Comma ∷ plain sort.CloseParenthesis ∷ []
rule_follow plan_rule = terminals_of_all (sort.Load ∷ sort.Constraints ∷ sort.Goals ∷ sort.Sequence ∷ sort.Client ∷ [])
rule_follow when_rule = plain sort.Name ∷ plain sort.Semicolon ∷ []
rule_follow given_rule = plain sort.Semicolon ∷ []
rule_follow client_rule = plain sort.Client ∷ []
rule_follow command_rule = plain sort.Semicolon ∷ []
rule_follow (of_model r) = terminals_of_all (inner_follow r)

-- whether a rule may read nothing: rules alone
abbrev pub rule_nullable : Rule → Bool
rule_nullable rules_rule = true
rule_nullable r = false

-- ---- the reader that looks one token ahead

abbrev pub tables : Tables Rule Terminal
tables = record { form = form_of; nullable = rule_nullable; first = rule_first; follow = rule_follow; openings = 7 }

abbrev pub look : Lookahead Rule Terminal Mark
look = look_by_class class_of (look_by_number number_of_terminal tables)

abbrev pub factored : Grammar Rule Terminal Mark
factored = look.grammar
