-- Reading constraints.
use Rattle.std.specs.Prelude.{List, [], ◌∷◌, Option, Some, None}
use Rattle.aerie_text.specs.declared.sorts.Sort.TheVariants as sort
use Rattle.readers.specs.Lists.{row_at}
use Rattle.readers.specs.Marks.{Mark}
use Rattle.readers.specs.Parsed.{Parsed, parsed, ◌>>=◌, next_is, chosen, take_at}
use Rattle.model_reader.specs.declared.raw.names.RawName.{RawName}
use Rattle.model_reader.specs.reading.Names.{raw_name_at}
use Rattle.rule_grammar.specs.declared.raw.constraints.RawConstraint.{RawConstraint}
use Rattle.rule_grammar.specs.declared.raw.constraints.RawRule.{RawRule}
use Rattle.rule_grammar.specs.declared.raw.constraints.RawRule.TheVariants as raw_rule
use Rattle.rule_grammar.specs.declared.raw.windows.RawWindow.{RawWindow}
use Rattle.rule_grammar.specs.reading.Windows.{window_at}

-- "forbid" NAME "," NAME
unfoldable pub forbid_at : List Mark → Parsed RawRule
forbid_at marks = do
  word ← take_at sort.Forbid marks
  first ← raw_name_at word.1
  comma ← take_at sort.Comma first.1
  second ← raw_name_at comma.1
  parsed (raw_rule.Forbid first.0 second.0) second.1

-- "for" NAME "in" NAME ":": the name that is bound, and the activity type
unfoldable pub each_at : List Mark → Parsed (Option (RawName × RawName))
each_at marks = do
  word ← take_at sort.For marks
  bound ← raw_name_at word.1
  in_word ← take_at sort.In bound.1
  kind ← raw_name_at in_word.1
  colon ← take_at sort.Colon kind.1
  parsed (Some (bound.0, kind.0)) colon.1

-- [ "for" NAME "in" NAME ":" ]
unfoldable pub optional_each_at : List Mark → Parsed (Option (RawName × RawName))
optional_each_at marks = chosen (next_is sort.For marks) each_at (parsed None) marks

abbrev pub window_rule_of : Option (RawName × RawName) → RawWindow → RawRule
window_rule_of None window = raw_rule.Plain window
window_rule_of (Some each) window = raw_rule.Each each.0 each.1 window

-- [ "for" NAME "in" NAME ":" ] window
unfoldable pub window_rule_at : List Mark → Parsed RawRule
window_rule_at marks = do
  each ← optional_each_at marks
  window ← window_at each.1
  parsed (window_rule_of each.0 window.0) window.1

-- "forbid" NAME "," NAME | [ "for" NAME "in" NAME ":" ] window
unfoldable pub rule_at : List Mark → Parsed RawRule
rule_at marks = chosen (next_is sort.Forbid marks) forbid_at window_rule_at marks

-- NAME ":" ( "forbid" NAME "," NAME | [ "for" NAME "in" NAME ":" ] window ) ";"
unfoldable pub constraint_at : List Mark → Parsed RawConstraint
constraint_at marks = do
  name ← raw_name_at marks
  colon ← take_at sort.Colon name.1
  rule ← rule_at colon.1
  end ← take_at sort.Semicolon rule.1
  parsed (record { name = name.0; rule = rule.0 }) end.1

-- constraints = { NAME ":" ( "forbid" NAME "," NAME | [ "for" NAME "in" NAME ":" ] window ) ";" }
unfoldable pub constraints_at : List Mark → Parsed (List RawConstraint)
constraints_at marks = row_at (sort.Name ∷ []) None constraint_at marks
