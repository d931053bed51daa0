-- A small language that has each kind of reading: lists of entries in brackets, which may be nested. There are at most two
-- entries in all, and at most two terms in each sum.
use Rattle.std.specs.Prelude.{ℕ, zero, suc, Bool, true, false, List, [], ◌∷◌, ◌++◌, Option, Some, None, length, nat_le}
use Rattle.aerie_text.specs.declared.sorts.Sort.{Sort}
use Rattle.aerie_text.specs.declared.sorts.Sort.TheVariants.{Name, Number, Plus, Minus, Assign, Comma, OpenBracket, CloseBracket}
use Rattle.readers.specs.Marks.{Mark}
use Rattle.readers.specs.Parsed.{Parsed, parsed, failed, ◌>>=◌, is_one_of, next_is, next_is_one_of, chosen, take_at, number_at, has_at, name_at, limited, repeated, separated_at}
use Rattle.readers.specs.declared.example.Entry.{Entry}
use Rattle.readers.specs.declared.example.Term.{Term}
use Rattle.readers.specs.declared.limits.Limit.TheVariants.{Words, Depth, Terms}
use Rattle.readers.specs.grammar.Forms.{Form, token, rule, many, option, separated, Grammar}
use Rattle.readers.specs.grammar.Lookahead.{Lookahead}
use Rattle.readers.specs.grammar.MarkTables.{grammar_of, look_of}
use Rattle.readers.specs.grammar.Notation.{◌then◌, ◌or◌}
use Rattle.readers.specs.grammar.Tables.{Tables}

-- ---- the grammar as it is written

pub data Rule : Type 0 where
  list_rule item_rule : Rule

-- term = [ "-" ] NUMBER
abbrev pub term_form : Form Rule Sort
term_form = option (token Minus) then token Number

-- sign = "+" | "-"
abbrev pub sign_form : Form Rule Sort
sign_form = token Plus or token Minus

-- sum = term { sign NUMBER }
abbrev pub sum_form : Form Rule Sort
sum_form = term_form then many (sign_form then token Number)

-- given = "=" sum
abbrev pub given_form : Form Rule Sort
given_form = token Assign then sum_form

-- items = [ item { "," item } ]
abbrev pub items_form : Form Rule Sort
items_form = option (separated (token Comma) (rule item_rule))

-- list = "[" items "]"
abbrev pub list_form : Form Rule Sort
list_form = token OpenBracket then items_form then token CloseBracket

-- list = "[" items "]"; item = NAME | NAME given | list
abbrev pub written_form : Rule → Form Rule Sort
written_form list_rule = list_form
written_form item_rule = token Name or (token Name then given_form) or rule list_rule

abbrev pub written : Grammar Rule Sort Mark
written = grammar_of written_form

-- ---- the grammar in which the next mark decides: the two forms of an item that begin with a name are factored

-- entry = NAME [ given ]
abbrev pub entry_form : Form Rule Sort
entry_form = token Name then option given_form

-- list = "[" items "]"; item = entry | list
abbrev pub rule_form : Rule → Form Rule Sort
rule_form list_rule = list_form
rule_form item_rule = entry_form or rule list_rule

-- with which sorts of marks a rule begins
abbrev pub rule_first : Rule → List Sort
rule_first list_rule = OpenBracket ∷ []
rule_first item_rule = Name ∷ OpenBracket ∷ []

-- which sorts of marks may follow a rule inside a list
abbrev pub rule_follow : Rule → List Sort
rule_follow r = Comma ∷ CloseBracket ∷ []

abbrev pub tables : Tables Rule Sort
tables = record { form = rule_form; nullable = λ r. false; first = rule_first; follow = rule_follow; openings = 2 }

abbrev pub look : Lookahead Rule Sort Mark
look = look_of tables

-- ---- what is read

-- [ "-" ] NUMBER
unfoldable pub term_at : List Mark → Parsed Term
term_at marks = do
  minus ← has_at Minus marks
  number ← number_at Number minus.1
  parsed (record { negative = minus.0; size = number.0.1 }) number.1

-- "+" | "-": whether it is a minus
unfoldable pub sign_at : List Mark → Parsed Bool
sign_at marks = chosen (next_is Plus marks) (λ here. take_at Plus here >>= λ plus. parsed false plus.1) (λ here. take_at Minus here >>= λ minus. parsed true minus.1) marks

-- sign NUMBER, behind the terms so far
unfoldable pub signed_at : List Term → List Mark → Parsed (List Term)
signed_at terms marks = do
  minus ← sign_at marks
  number ← number_at Number minus.1
  parsed (terms ++ record { negative = minus.0; size = number.0.1 } ∷ []) number.1

-- a further term, of which there are two at most in all
unfoldable pub more_at : List Term → List Mark → Parsed (List Term)
more_at terms marks = limited (nat_le 2 (length terms)) Terms (signed_at terms) marks

-- the mark is a sign
abbrev pub is_sign : Mark → Bool
is_sign = is_one_of (Plus ∷ Minus ∷ [])

-- term { sign NUMBER }
unfoldable pub sum_at : List Mark → Parsed (List Term)
sum_at marks = do
  first ← term_at marks
  repeated is_sign more_at (first.0 ∷ []) first.1

-- "=" sum
unfoldable pub given_at : List Mark → Parsed (Option (List Term))
given_at marks = do
  sign ← take_at Assign marks
  sum ← sum_at sign.1
  parsed (Some sum.0) sum.1

-- [ given ]
unfoldable pub meaning_at : List Mark → Parsed (Option (List Term))
meaning_at marks = chosen (next_is Assign marks) given_at (parsed None) marks

-- NAME [ given ], behind the entries so far
unfoldable pub entry_at : List Entry → List Mark → Parsed (List Entry)
entry_at so_far marks = do
  name ← name_at marks
  meaning ← meaning_at name.1
  parsed (so_far ++ record { name = name.0.1; sum = meaning.0 } ∷ []) meaning.1

-- the same, where there may be one entry more: there are two at most
unfoldable pub one_more_at : List Entry → List Mark → Parsed (List Entry)
one_more_at so_far marks = limited (nat_le 2 (length so_far)) Words (entry_at so_far) marks

-- reads items behind those so far
abbrev pub Items : Type 0
Items = List Entry → List Mark → Parsed (List Entry)

-- an entry, or a list inside the list
unfoldable pub item_at : Items → Items
item_at inner so_far marks = chosen (next_is Name marks) (one_more_at so_far) (inner so_far) marks

-- item { "," item }
unfoldable pub some_items_at : Items → Items
some_items_at inner so_far marks = separated_at Comma (item_at inner) so_far marks

-- [ item { "," item } ]
unfoldable pub items_at : Items → Items
items_at inner so_far marks = chosen (next_is_one_of (Name ∷ OpenBracket ∷ []) marks) (some_items_at inner so_far) (parsed so_far) marks

-- "[" items "]"
unfoldable pub list_by : Items → Items
list_by inner so_far marks = do
  front ← take_at OpenBracket marks
  items ← items_at inner so_far front.1
  end ← take_at CloseBracket items.1
  parsed items.0 end.1

-- a list inside a list, where there is no room for one
unfoldable pub too_deep : Items
too_deep so_far marks = limited (next_is OpenBracket marks) Depth failed marks

-- a list inside a list, with room for so many lists inside one another
abbrev pub inner_at : ℕ → Items
inner_at zero = too_deep
inner_at (suc room) = list_by (inner_at room)

-- a list, with room for so many lists inside one another in it
abbrev pub list_at : ℕ → Items
list_at room = list_by (inner_at room)
