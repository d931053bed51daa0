-- The grammar of sessions as it is written. NAME, STRING and RAW of the comments are tokens of the sorts Name, Quoted and Raw.
-- ID is a NUMBER up to 4,294,967,295. The rules of models are those of the grammar of models.
use Rattle.std.specs.Prelude.{Bool, not, ◌||◌, List, [], ◌∷◌, ◌++◌, map, filter}
use Rattle.aerie_text.specs.Sorts.{reserved_words, same_sort, symbols}
use Rattle.aerie_text.specs.declared.sorts.Sort.{Sort}
use Rattle.aerie_text.specs.declared.sorts.Sort.TheVariants as sort
use Rattle.model_reader.specs.grammar.Rules.{model_rule, literal_rule}
use Rattle.model_reader.specs.grammar.Written.{form_of as model_form_of}
use Rattle.readers.specs.Marks.{Mark}
use Rattle.readers.specs.grammar.Forms.{Form, token, rule, many, option, separated, Grammar}
use Rattle.readers.specs.grammar.Notation.{◌then◌, ◌or◌}
use Rattle.session_grammar.specs.grammar.Embedding.{in_session, of_sort, one_of_all}
use Rattle.session_grammar.specs.grammar.Rules.{Rule, session_rule, rules_rule, mapping_rule, feed_rule, plan_rule, when_rule, given_rule, client_rule, command_rule, of_model}
use Rattle.session_grammar.specs.grammar.Terminals.{Terminal, fits, plain, id_number, great_number, no_time, some_time}

-- ID
abbrev pub id_form : Form Rule Terminal
id_form = token id_number

-- DURATION
abbrev pub duration_form : Form Rule Terminal
duration_form = of_sort sort.Time

-- ---- the session

-- "load" NAME RAW ";"
abbrev pub dataset_form : Form Rule Terminal
dataset_form = of_sort sort.Load then of_sort sort.Name then of_sort sort.Raw then of_sort sort.Semicolon

-- WORD [ "of" NAME ] "{" rules "}", for a word of the section
abbrev pub section_form : Sort → Form Rule Terminal
section_form word = of_sort word then option (of_sort sort.Of then of_sort sort.Name) then of_sort sort.OpenBrace then rule rules_rule then of_sort sort.CloseBrace

-- session = model { model } { mapping } plan { "load" NAME RAW ";" }
--           { "constraints" [ "of" NAME ] "{" rules "}" } { "goals" [ "of" NAME ] "{" rules "}" }
--           { "sequence" [ "of" NAME ] "{" rules "}" } { client }
abbrev pub session_form : Form Rule Terminal
session_form =
    rule (of_model model_rule) then many (rule (of_model model_rule)) then many (rule mapping_rule)
    then rule plan_rule then many dataset_form
    then many (section_form sort.Constraints) then many (section_form sort.Goals) then many (section_form sort.Sequence)
    then many (rule client_rule)

-- whether the sort is a brace
abbrev pub is_brace : Sort → Bool
is_brace s = same_sort sort.OpenBrace s || same_sort sort.CloseBrace s

-- all terminals but the braces
abbrev pub rule_terminals : List Terminal
rule_terminals =
    map (λ entry. plain entry.1) (reserved_words ++ filter (λ entry. not (is_brace entry.1)) symbols)
    ++ plain sort.Name ∷ plain sort.Quoted ∷ plain sort.Raw ∷ id_number ∷ great_number ∷ no_time ∷ some_time ∷ []

-- rules = any tokens but "{" and "}"
abbrev pub rules_form : Form Rule Terminal
rules_form = many (one_of_all rule_terminals)

-- ---- mappings

-- feed = NAME "=" ( NAME | literal )
abbrev pub feed_form : Form Rule Terminal
feed_form = of_sort sort.Name then of_sort sort.Assign then (of_sort sort.Name or rule (of_model literal_rule))

-- NAME "to" NAME "(" [ feed { "," feed } ] ")" ";"
abbrev pub mapped_type_form : Form Rule Terminal
mapped_type_form =
    of_sort sort.Name then of_sort sort.To then of_sort sort.Name
    then of_sort sort.OpenParenthesis then option (separated (of_sort sort.Comma) (rule feed_rule)) then of_sort sort.CloseParenthesis
    then of_sort sort.Semicolon

-- mapping = "from" NAME "to" NAME "{" { NAME "to" NAME "(" [ feed { "," feed } ] ")" ";" } "}"
abbrev pub mapping_form : Form Rule Terminal
mapping_form = of_sort sort.From then of_sort sort.Name then of_sort sort.To then of_sort sort.Name then of_sort sort.OpenBrace then many mapped_type_form then of_sort sort.CloseBrace

-- ---- the plan

-- beginning = NAME "=" literal [ "rate" INT ] ";"
abbrev pub beginning_form : Form Rule Terminal
beginning_form =
    of_sort sort.Name then of_sort sort.Assign then rule (of_model literal_rule)
    then option (of_sort sort.Rate then option (of_sort sort.Minus) then of_sort sort.Number) then of_sort sort.Semicolon

-- "at" when given ";"
abbrev pub directive_form : Form Rule Terminal
directive_form = of_sort sort.At then rule when_rule then rule given_rule then of_sort sort.Semicolon

-- plan = "plan" NAME "{" "start" STRING ";" "duration" DURATION ";" { beginning } { "at" when given ";" } "}", the DURATION
-- not 0
abbrev pub plan_form : Form Rule Terminal
plan_form =
    of_sort sort.Plan then of_sort sort.Name then of_sort sort.OpenBrace
    then of_sort sort.Start then of_sort sort.Quoted then of_sort sort.Semicolon
    then of_sort sort.Duration then token some_time then of_sort sort.Semicolon
    then many beginning_form then many directive_form then of_sort sort.CloseBrace

-- when = DURATION | STRING | ( "start" | "end" ) "of" ID "+" DURATION
abbrev pub when_form : Form Rule Terminal
when_form = duration_form or of_sort sort.Quoted or (of_sort sort.Start or of_sort sort.End) then of_sort sort.Of then id_form then of_sort sort.Plus then duration_form

-- NAME "=" literal
abbrev pub argument_form : Form Rule Terminal
argument_form = of_sort sort.Name then of_sort sort.Assign then rule (of_model literal_rule)

-- given = NAME "(" [ NAME "=" literal { "," NAME "=" literal } ] ")"
abbrev pub given_form : Form Rule Terminal
given_form = of_sort sort.Name then of_sort sort.OpenParenthesis then option (separated (of_sort sort.Comma) argument_form) then of_sort sort.CloseParenthesis

-- ---- clients

-- command ";"
abbrev pub ended_command_form : Form Rule Terminal
ended_command_form = rule command_rule then of_sort sort.Semicolon

-- client = "client" NAME "{" { command ";" } "}"
abbrev pub client_form : Form Rule Terminal
client_form = of_sort sort.Client then of_sort sort.Name then of_sort sort.OpenBrace then many ended_command_form then of_sort sort.CloseBrace

-- WORD NAME, for a word of the command
abbrev pub of_branch : Sort → Form Rule Terminal
of_branch word = of_sort word then of_sort sort.Name

-- command = "new" NAME | "fork" NAME "from" NAME | "drop" NAME
--         | "add" NAME "at" when given
--         | "remove" NAME ID | "move" NAME ID "to" when
--         | "set" NAME ID NAME "=" literal
--         | "load" NAME RAW | "show" NAME | "simulate" NAME | "schedule" NAME
--         | "move" NAME "to" NAME
--         | "merge" NAME "from" NAME "of" NAME | "expand" NAME
abbrev pub command_form : Form Rule Terminal
command_form =
    of_branch sort.New
    or of_branch sort.Fork then of_sort sort.From then of_sort sort.Name
    or of_branch sort.Drop
    or of_branch sort.Add then of_sort sort.At then rule when_rule then rule given_rule
    or of_branch sort.Remove then id_form
    or of_branch sort.Move then id_form then of_sort sort.To then rule when_rule
    or of_branch sort.Set then id_form then of_sort sort.Name then of_sort sort.Assign then rule (of_model literal_rule)
    or of_branch sort.Load then of_sort sort.Raw
    or of_branch sort.Show
    or of_branch sort.Simulate
    or of_branch sort.Schedule
    or of_branch sort.Move then of_sort sort.To then of_sort sort.Name
    or of_branch sort.Merge then of_sort sort.From then of_sort sort.Name then of_sort sort.Of then of_sort sort.Name
    or of_branch sort.Expand

-- ---- the grammar

abbrev pub form_of : Rule → Form Rule Terminal
form_of session_rule = session_form
form_of rules_rule = rules_form
form_of mapping_rule = mapping_form
form_of feed_rule = feed_form
form_of plan_rule = plan_form
form_of when_rule = when_form
form_of given_rule = given_form
form_of client_rule = client_form
form_of command_rule = command_form
form_of (of_model r) = in_session (model_form_of r)

abbrev pub written : Grammar Rule Terminal Mark
written = record { fits = fits; form = form_of }
