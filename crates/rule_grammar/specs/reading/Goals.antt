-- Reading goals.
use Rattle.std.specs.Prelude.{ℤ, Bool, List, [], ◌∷◌, None}
use Rattle.aerie_text.specs.declared.sorts.Sort.{Sort}
use Rattle.aerie_text.specs.declared.sorts.Sort.TheVariants as sort
use Rattle.readers.specs.Lists.{listed_at, row_at}
use Rattle.readers.specs.Marks.{Mark}
use Rattle.readers.specs.Parsed.{Parsed, parsed, ◌>>=◌, next_is, next_fits, chosen, take_at, has_at, number_at}
use Rattle.model_reader.specs.declared.raw.names.RawName.{RawName}
use Rattle.model_reader.specs.reading.Names.{raw_name_at}
use Rattle.aerie_base.specs.declared.plans.Edge.{Edge}
use Rattle.aerie_base.specs.declared.plans.Edge.TheVariants as edge
use Rattle.rule_grammar.specs.declared.raw.goals.RawAnchor.{RawAnchor}
use Rattle.rule_grammar.specs.declared.raw.goals.RawAnchor.TheVariants as anchor
use Rattle.rule_grammar.specs.declared.raw.goals.RawGoal.{RawGoal}
use Rattle.rule_grammar.specs.declared.raw.goals.RawGoalKind.{RawGoalKind}
use Rattle.rule_grammar.specs.declared.raw.goals.RawGoalKind.TheVariants as kind
use Rattle.rule_grammar.specs.declared.raw.goals.RawNumber.{RawNumber}
use Rattle.rule_grammar.specs.declared.raw.goals.RawRange.{RawRange}
use Rattle.rule_grammar.specs.declared.raw.goals.RawTemplate.{RawTemplate}
use Rattle.rule_grammar.specs.reading.Edges.{is_edge, edge_at}
use Rattle.rule_grammar.specs.reading.Templates.{raw_number_at, placed_duration_at, template_at}
use Rattle.rule_grammar.specs.reading.Windows.{signed_duration_at, window_at}

-- range = "[" DURATION "," DURATION ")"
unfoldable pub range_at : List Mark → Parsed RawRange
range_at marks = do
  front ← take_at sort.OpenBracket marks
  from ← number_at sort.Time front.1
  comma ← take_at sort.Comma from.1
  to ← raw_number_at sort.Time comma.1
  close ← take_at sort.CloseParenthesis to.1
  parsed (record { from = from.0.1; to = to.0 }) close.1

-- ---- anchors

-- the starts, or the ends, of the spans of an activity type
abbrev pub anchor_at_edges : Edge → RawName → RawAnchor
anchor_at_edges edge.Start name = anchor.Starts name
anchor_at_edges edge.End name = anchor.Ends name

-- ( "start" | "end" ) "of" NAME
unfoldable pub edges_at : List Mark → Parsed RawAnchor
edges_at marks = do
  edge ← edge_at marks
  of_word ← take_at sort.Of edge.1
  name ← raw_name_at of_word.1
  parsed (anchor_at_edges edge.0 name.0) name.1

-- "window" "(" window ")"
unfoldable pub window_anchor_at : List Mark → Parsed RawAnchor
window_anchor_at marks = do
  word ← take_at sort.Window marks
  front ← take_at sort.OpenParenthesis word.1
  window ← window_at front.1
  close ← take_at sort.CloseParenthesis window.1
  parsed (anchor.Windows window.0) close.1

-- ---- kinds

-- WORD number "in" range, for a word and a sort of numbers
unfoldable pub counted_at : Sort → Sort → List Mark → Parsed (RawNumber × RawRange)
counted_at word number marks = do
  front ← take_at word marks
  count ← raw_number_at number front.1
  in_word ← take_at sort.In count.1
  range ← range_at in_word.1
  parsed (count.0, range.0) range.1

-- "recurrence" given "every" DURATION "in" range
unfoldable pub recurrence_at : List Mark → Parsed (RawTemplate × RawGoalKind)
recurrence_at marks = do
  word ← take_at sort.Recurrence marks
  template ← template_at word.1
  every ← counted_at sort.Every sort.Time template.1
  parsed (template.0, kind.Recurrence every.0.0 every.0.1) every.1

-- "cardinality" given "count" NUMBER "in" range
unfoldable pub cardinality_at : List Mark → Parsed (RawTemplate × RawGoalKind)
cardinality_at marks = do
  word ← take_at sort.Cardinality marks
  template ← template_at word.1
  count ← counted_at sort.Count sort.Number template.1
  parsed (template.0, kind.Cardinality count.0.0 count.0.1) count.1

-- "from" sdur "to" sdur
unfoldable pub distance_at : List Mark → Parsed (ℤ × RawNumber)
distance_at marks = do
  from_word ← take_at sort.From marks
  from ← signed_duration_at from_word.1
  to_word ← take_at sort.To from.1
  to ← placed_duration_at to_word.1
  parsed (from.0, to.0) to.1

-- the same behind an anchor
unfoldable pub beside_at : RawAnchor → List Mark → Parsed RawGoalKind
beside_at anchor marks = do
  distance ← distance_at marks
  parsed (kind.Coexistence anchor distance.0.0 distance.0.1) distance.1

-- anchor = ( "start" | "end" ) "of" NAME | "window" "(" window ")"
unfoldable pub anchor_at : List Mark → Parsed RawAnchor
anchor_at marks = chosen (next_fits is_edge marks) edges_at window_anchor_at marks

-- "for" anchor "from" sdur "to" sdur
unfoldable pub coexisting_at : List Mark → Parsed RawGoalKind
coexisting_at marks = do
  for_word ← take_at sort.For marks
  anchor ← anchor_at for_word.1
  beside_at anchor.0 anchor.1

-- "coexistence" given "for" anchor "from" sdur "to" sdur
unfoldable pub coexistence_at : List Mark → Parsed (RawTemplate × RawGoalKind)
coexistence_at marks = do
  word ← take_at sort.Coexistence marks
  template ← template_at word.1
  kind ← coexisting_at template.1
  parsed (template.0, kind.0) kind.1

-- kind is one of these three
unfoldable pub kind_at : List Mark → Parsed (RawTemplate × RawGoalKind)
kind_at marks =
    chosen (next_is sort.Recurrence marks) recurrence_at
    (chosen (next_is sort.Coexistence marks) coexistence_at cardinality_at) marks

-- ---- goals

-- "keeping" NAME { "," NAME }
unfoldable pub kept_at : List Mark → Parsed (List RawName)
kept_at marks = do
  word ← take_at sort.Keeping marks
  listed_at sort.Name None raw_name_at word.1

-- [ "keeping" NAME { "," NAME } ]
unfoldable pub keeping_at : List Mark → Parsed (List RawName)
keeping_at marks = chosen (next_is sort.Keeping marks) kept_at (parsed []) marks

-- [ "keeping" NAME { "," NAME } ] [ "rollback" ] ";"
unfoldable pub terms_at : List Mark → Parsed (List RawName × Bool)
terms_at marks = do
  keeping ← keeping_at marks
  rollback ← has_at sort.Rollback keeping.1
  end ← take_at sort.Semicolon rollback.1
  parsed (keeping.0, rollback.0) end.1

-- the same behind the name and the kind of a goal
unfoldable pub ended_goal_at : RawName → RawTemplate × RawGoalKind → List Mark → Parsed RawGoal
ended_goal_at name kind marks = do
  terms ← terms_at marks
  parsed (record { name = name; template = kind.0; kind = kind.1; keeping = terms.0.0; rollback = terms.0.1 }) terms.1

-- NAME ":" kind [ "keeping" NAME { "," NAME } ] [ "rollback" ] ";"
unfoldable pub goal_at : List Mark → Parsed RawGoal
goal_at marks = do
  name ← raw_name_at marks
  colon ← take_at sort.Colon name.1
  kind ← kind_at colon.1
  ended_goal_at name.0 kind.0 kind.1

-- goals = { NAME ":" kind [ "keeping" NAME { "," NAME } ] [ "rollback" ] ";" }
unfoldable pub goals_at : List Mark → Parsed (List RawGoal)
goals_at marks = row_at (sort.Name ∷ []) None goal_at marks
