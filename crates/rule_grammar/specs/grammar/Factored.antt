-- The grammar of constraints, goals and sequences in which the next token decides each choice. It reads what the grammar as it
-- is written reads. A form with a name of its own is what one part of the reader reads. Atoms, words and literals alone have
-- other forms than they are written in: the others leave no choice open that one token does not decide.
use Rattle.std.specs.Prelude.{Bool, true, false, List, [], ◌∷◌}
use Rattle.readers.specs.Marks.{Mark}
use Rattle.aerie_text.specs.declared.sorts.Sort.{Sort}
use Rattle.aerie_text.specs.declared.sorts.Sort.TheVariants as sort
use Rattle.readers.specs.grammar.Forms.{Form, token, rule, many, option, Grammar}
use Rattle.readers.specs.grammar.Lookahead.{Lookahead}
use Rattle.readers.specs.grammar.MarkTables.{look_of}
use Rattle.readers.specs.grammar.Tables.{Tables}
use Rattle.readers.specs.grammar.Notation.{◌then◌, ◌or◌}
use Rattle.rule_grammar.specs.grammar.Rules.{Rule, constraints_rule, window_rule, conj_rule, atom_rule, wsum_rule, wterm_rule, sdur_rule, goals_rule, kind_rule, anchor_rule, range_rule, given_rule, sequence_rule, step_rule, word_rule, literal_rule}
use Rattle.rule_grammar.specs.grammar.Written.{form_of as written_form, atom_form_with, variant_form, same_sign_form, compare_sign_form, signed_term_form, scaled_form}

-- ---- sums

-- { ( "+" | "-" ) wterm }
abbrev pub more_terms_form : Form Rule Sort
more_terms_form = many signed_term_form

-- what a sum that begins with no NAME begins with: "-" wterm | NUMBER [ "*" NAME ] | DURATION
abbrev pub unnamed_term_form : Form Rule Sort
unnamed_term_form = token sort.Minus then rule wterm_rule or scaled_form or token sort.Time

-- a sum that begins with no NAME
abbrev pub unnamed_sum_form : Form Rule Sort
unnamed_sum_form = unnamed_term_form then more_terms_form

-- ---- atoms

-- what follows the left side of a comparison: ( "==" | "!=" | "<" | "<=" | ">" | ">=" ) wsum
abbrev pub right_side_form : Form Rule Sort
right_side_form = compare_sign_form then rule wsum_rule

-- an atom that is a comparison and begins with no NAME
abbrev pub unnamed_atom_form : Form Rule Sort
unnamed_atom_form = unnamed_sum_form then right_side_form

-- "." NAME
abbrev pub variant_part_form : Form Rule Sort
variant_part_form = token sort.Dot then token sort.Name

-- NAME "." NAME, or a sum that begins with a NAME
abbrev pub named_operand_form : Form Rule Sort
named_operand_form = token sort.Name then (variant_part_form or more_terms_form)

-- what follows NAME and "==" or "!=": a truth, a variant or a sum
abbrev pub same_operand_form : Form Rule Sort
same_operand_form = token sort.True or token sort.False or named_operand_form or unnamed_sum_form

-- ( "==" | "!=" ) ( "true" | "false" | NAME "." NAME | wsum )
abbrev pub same_form : Form Rule Sort
same_form = same_sign_form then same_operand_form

-- "<" | "<=" | ">" | ">="
abbrev pub order_sign_form : Form Rule Sort
order_sign_form = token sort.Less or token sort.LessEqual or token sort.Greater or token sort.GreaterEqual

-- ( "<" | "<=" | ">" | ">=" ) wsum
abbrev pub order_form : Form Rule Sort
order_form = order_sign_form then rule wsum_rule

-- further terms of a sum on the left side, and the right side
abbrev pub longer_left_form : Form Rule Sort
longer_left_form = signed_term_form then more_terms_form then right_side_form

-- what may follow the NAME with which an atom begins
abbrev pub named_tail_form : Form Rule Sort
named_tail_form = same_form or order_form or longer_left_form

-- an atom that begins with a NAME
abbrev pub named_atom_form : Form Rule Sort
named_atom_form = token sort.Name then option named_tail_form

-- atom is one of these
abbrev pub atom_form : Form Rule Sort
atom_form = atom_form_with (named_atom_form or unnamed_atom_form)

-- ---- literals

-- NUMBER | DURATION
abbrev pub amount_form : Form Rule Sort
amount_form = token sort.Number or token sort.Time

-- [ "-" ] ( NUMBER | DURATION )
abbrev pub signed_amount_form : Form Rule Sort
signed_amount_form = option (token sort.Minus) then amount_form

-- literal = [ "-" ] ( NUMBER | DURATION ) | "true" | "false" | NAME "." NAME
abbrev pub literal_form : Form Rule Sort
literal_form = signed_amount_form or token sort.True or token sort.False or variant_form

-- NAME [ "." NAME ]
abbrev pub named_word_form : Form Rule Sort
named_word_form = token sort.Name then option variant_part_form

-- word = [ "-" ] ( NUMBER | DURATION ) | "true" | "false" | NAME [ "." NAME ] | "return"
abbrev pub word_form : Form Rule Sort
word_form = signed_amount_form or token sort.True or token sort.False or named_word_form or token sort.Return

-- ---- the grammar

abbrev pub form_of : Rule → Form Rule Sort
form_of atom_rule = atom_form
form_of word_rule = word_form
form_of literal_rule = literal_form
form_of r = written_form r

-- whether a rule may read nothing: the first rules alone
abbrev pub rule_nullable : Rule → Bool
rule_nullable constraints_rule = true
rule_nullable goals_rule = true
rule_nullable sequence_rule = true
rule_nullable r = false

-- ---- with which sorts of tokens a rule begins

abbrev pub wterm_first : List Sort
wterm_first = sort.Number ∷ sort.Time ∷ sort.Name ∷ []

abbrev pub wsum_first : List Sort
wsum_first = sort.Minus ∷ wterm_first

abbrev pub window_first : List Sort
window_first = sort.Not ∷ sort.OpenParenthesis ∷ sort.True ∷ sort.False ∷ sort.During ∷ sort.Shift ∷ sort.Longer ∷ wsum_first

abbrev pub literal_first : List Sort
literal_first = sort.Minus ∷ sort.Number ∷ sort.Time ∷ sort.True ∷ sort.False ∷ sort.Name ∷ []

abbrev pub rule_first : Rule → List Sort
rule_first constraints_rule = sort.Name ∷ []
rule_first window_rule = window_first
rule_first conj_rule = window_first
rule_first atom_rule = window_first
rule_first wsum_rule = wsum_first
rule_first wterm_rule = wterm_first
rule_first sdur_rule = sort.Minus ∷ sort.Time ∷ []
rule_first goals_rule = sort.Name ∷ []
rule_first kind_rule = sort.Recurrence ∷ sort.Coexistence ∷ sort.Cardinality ∷ []
rule_first anchor_rule = sort.Start ∷ sort.End ∷ sort.Window ∷ []
rule_first range_rule = sort.OpenBracket ∷ []
rule_first given_rule = sort.Name ∷ []
rule_first sequence_rule = sort.For ∷ sort.Longer ∷ []
rule_first step_rule = sort.Start ∷ sort.End ∷ []
rule_first word_rule = sort.Return ∷ literal_first
rule_first literal_rule = literal_first

-- ---- which sorts of tokens may follow a rule

abbrev pub window_follow : List Sort
window_follow = sort.Semicolon ∷ sort.CloseParenthesis ∷ sort.Comma ∷ []

abbrev pub conj_follow : List Sort
conj_follow = sort.Or ∷ window_follow

abbrev pub atom_follow : List Sort
atom_follow = sort.And ∷ conj_follow

abbrev pub wsum_follow : List Sort
wsum_follow = sort.DoubleEqual ∷ sort.NotEqual ∷ sort.Less ∷ sort.LessEqual ∷ sort.Greater ∷ sort.GreaterEqual ∷ atom_follow

abbrev pub wterm_follow : List Sort
wterm_follow = sort.Plus ∷ sort.Minus ∷ wsum_follow

-- what may follow the kind of a goal
abbrev pub kind_follow : List Sort
kind_follow = sort.Keeping ∷ sort.Rollback ∷ sort.Semicolon ∷ []

abbrev pub rule_follow : Rule → List Sort
rule_follow constraints_rule = []
rule_follow window_rule = window_follow
rule_follow conj_rule = conj_follow
rule_follow atom_rule = atom_follow
rule_follow wsum_rule = wsum_follow
rule_follow wterm_rule = wterm_follow
rule_follow sdur_rule = sort.Comma ∷ sort.CloseParenthesis ∷ sort.To ∷ kind_follow
rule_follow goals_rule = []
rule_follow kind_rule = kind_follow
rule_follow anchor_rule = sort.From ∷ []
rule_follow range_rule = kind_follow
rule_follow given_rule = sort.Every ∷ sort.For ∷ sort.Count ∷ []
rule_follow sequence_rule = []
rule_follow step_rule = sort.Comma ∷ sort.Semicolon ∷ []
rule_follow word_rule = sort.Comma ∷ sort.CloseParenthesis ∷ []
rule_follow literal_rule = sort.Comma ∷ sort.CloseParenthesis ∷ sort.Semicolon ∷ []

-- ---- the reader that looks one token ahead

abbrev pub tables : Tables Rule Sort
tables = record { form = form_of; nullable = rule_nullable; first = rule_first; follow = rule_follow; openings = 7 }

abbrev pub look : Lookahead Rule Sort Mark
look = look_of tables

abbrev pub factored : Grammar Rule Sort Mark
factored = look.grammar
