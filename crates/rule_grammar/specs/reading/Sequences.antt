-- Reading sequences.
use Rattle.std.specs.Prelude.{ℤ, pos, Bool, true, false, List, [], ◌∷◌, Option, Some, None}
use Rattle.aerie_base.specs.declared.places.Place.{Place}
use Rattle.aerie_base.specs.declared.plans.Edge.{Edge}
use Rattle.aerie_text.specs.declared.sorts.Sort.{Sort}
use Rattle.aerie_text.specs.declared.sorts.Sort.TheVariants as sort
use Rattle.readers.specs.Lists.{row_at, separated_parts_at}
use Rattle.readers.specs.Marks.{Mark}
use Rattle.readers.specs.Parsed.{Parsed, parsed, ◌>>=◌, is_one_of, next_is, next_fits, chosen, take_at, number_at}
use Rattle.model_reader.specs.declared.raw.literals.RawLiteral.{RawLiteral}
use Rattle.model_reader.specs.declared.raw.literals.RawLiteralKind.TheVariants as literal
use Rattle.model_reader.specs.declared.raw.names.RawName.{RawName}
use Rattle.model_reader.specs.reading.Literals.{begins_amount, amount_literal_at, truth_literal_at, literal_at}
use Rattle.model_reader.specs.reading.Names.{raw_name_at}
use Rattle.rule_grammar.specs.declared.raw.sequences.RawSendTest.{RawSendTest}
use Rattle.rule_grammar.specs.declared.raw.sequences.RawSequenceItem.{RawSequenceItem}
use Rattle.rule_grammar.specs.declared.raw.sequences.RawSequenceRule.TheVariants as sequence_rule
use Rattle.rule_grammar.specs.declared.raw.sequences.RawStep.{RawStep}
use Rattle.rule_grammar.specs.declared.raw.sequences.RawWord.{RawWord}
use Rattle.rule_grammar.specs.declared.raw.sequences.RawWordKind.TheVariants as word
use Rattle.rule_grammar.specs.reading.Edges.{placed_edge_at}
use Rattle.rule_grammar.specs.reading.Sums.{behind_sign, is_sum_sign, sum_sign_at}
use Rattle.rule_grammar.specs.reading.Tested.{compare_sign_at}

-- ---- words

-- a literal as a word
abbrev pub literal_word : RawLiteral → RawWord
literal_word value = record { at = value.at; what = word.Literal value.what }

-- [ "-" ] ( NUMBER | DURATION )
unfoldable pub amount_word_at : List Mark → Parsed RawWord
amount_word_at marks = do
  value ← amount_literal_at marks
  parsed (literal_word value.0) value.1

-- "true", or "false"
unfoldable pub truth_word_at : Sort → Bool → List Mark → Parsed RawWord
truth_word_at sort truth marks = do
  value ← truth_literal_at sort truth marks
  parsed (literal_word value.0) value.1

-- "." NAME, behind the NAME of an enumeration
unfoldable pub variant_word_at : RawName → List Mark → Parsed RawWord
variant_word_at kind marks = do
  dot ← take_at sort.Dot marks
  variant ← raw_name_at dot.1
  parsed (record { at = kind.at; what = word.Literal (literal.Variant kind variant.0) }) variant.1

-- a parameter as a word
abbrev pub parameter_word : RawName → RawWord
parameter_word name = record { at = name.at; what = word.Parameter name }

-- NAME [ "." NAME ]
unfoldable pub named_word_at : List Mark → Parsed RawWord
named_word_at marks = do
  name ← raw_name_at marks
  chosen (next_is sort.Dot name.1) (variant_word_at name.0) (parsed (parameter_word name.0)) name.1

-- "return"
unfoldable pub result_word_at : List Mark → Parsed RawWord
result_word_at marks = do
  return_word ← take_at sort.Return marks
  parsed (record { at = return_word.0; what = word.SpanResult }) return_word.1

-- word = [ "-" ] ( NUMBER | DURATION ) | "true" | "false" | NAME [ "." NAME ] | "return"
unfoldable pub sent_word_at : List Mark → Parsed RawWord
sent_word_at marks =
    chosen (next_fits begins_amount marks) amount_word_at
    (chosen (next_is sort.True marks) (truth_word_at sort.True true)
    (chosen (next_is sort.False marks) (truth_word_at sort.False false)
    (chosen (next_is sort.Name marks) named_word_at result_word_at))) marks

-- the mark begins a word
abbrev pub begins_word : Mark → Bool
begins_word = is_one_of (sort.Return ∷ sort.Minus ∷ sort.Number ∷ sort.Time ∷ sort.True ∷ sort.False ∷ sort.Name ∷ [])

-- [ word { "," word } ]
unfoldable pub words_at : List Mark → Parsed (List RawWord)
words_at marks = chosen (next_fits begins_word marks) (separated_parts_at sent_word_at) (parsed []) marks

-- ---- steps

-- ( "+" | "-" ) DURATION
unfoldable pub signed_shift_at : List Mark → Parsed ℤ
signed_shift_at marks = do
  negative ← sum_sign_at marks
  time ← number_at sort.Time negative.1
  parsed (behind_sign negative.0 time.0.1) time.1

-- [ ( "+" | "-" ) DURATION ]
unfoldable pub optional_shift_at : List Mark → Parsed ℤ
optional_shift_at marks = chosen (next_fits is_sum_sign marks) signed_shift_at (parsed (pos 0)) marks

-- ( "start" | "end" ) [ ( "+" | "-" ) DURATION ]: the edge with its place, and how long after it
unfoldable pub time_of_step_at : List Mark → Parsed ((Place × Edge) × ℤ)
time_of_step_at marks = do
  edge ← placed_edge_at marks
  shift ← optional_shift_at edge.1
  parsed (edge.0, shift.0) shift.1

-- "if" NAME ( "==" | "!=" | "<" | "<=" | ">" | ">=" ) literal
unfoldable pub send_test_at : List Mark → Parsed (Option RawSendTest)
send_test_at marks = do
  if_word ← take_at sort.If marks
  parameter ← raw_name_at if_word.1
  how ← compare_sign_at parameter.1
  value ← literal_at how.1
  parsed (Some (record { parameter = parameter.0; how = how.0; with = value.0 })) value.1

-- the same, or nothing
unfoldable pub optional_test_at : List Mark → Parsed (Option RawSendTest)
optional_test_at marks = chosen (next_is sort.If marks) send_test_at (parsed None) marks

-- "(" [ word { "," word } ] ")" and a test, where there is one
unfoldable pub sent_at : List Mark → Parsed (List RawWord × Option RawSendTest)
sent_at marks = do
  front ← take_at sort.OpenParenthesis marks
  words ← words_at front.1
  close ← take_at sort.CloseParenthesis words.1
  test ← optional_test_at close.1
  parsed (words.0, test.0) test.1

-- a step of its parts
abbrev pub step_of_parts : (Place × Edge) × ℤ → RawName → List RawWord × Option RawSendTest → RawStep
step_of_parts time name sent = record { at = time.0.0; edge = time.0.1; shift = time.1; name = name; words = sent.0; test = sent.1 }

-- step
unfoldable pub step_at : List Mark → Parsed RawStep
step_at marks = do
  time ← time_of_step_at marks
  name ← raw_name_at time.1
  sent ← sent_at name.1
  parsed (step_of_parts time.0 name.0 sent.0) sent.1

-- ---- rules

-- "for" NAME ":" step { "," step } ";"
unfoldable pub span_rule_at : List Mark → Parsed RawSequenceItem
span_rule_at marks = do
  for_word ← take_at sort.For marks
  kind ← raw_name_at for_word.1
  colon ← take_at sort.Colon kind.1
  steps ← separated_parts_at step_at colon.1
  end ← take_at sort.Semicolon steps.1
  parsed (record { at = for_word.0; rule = sequence_rule.Span kind.0 steps.0 }) end.1

-- "," DURATION ")" ";"
unfoldable pub spacing_least_at : List Mark → Parsed ℤ
spacing_least_at marks = do
  comma ← take_at sort.Comma marks
  time ← number_at sort.Time comma.1
  close ← take_at sort.CloseParenthesis time.1
  end ← take_at sort.Semicolon close.1
  parsed time.0.1 end.1

-- "longer" "(" NAME "," DURATION ")" ";"
unfoldable pub spacing_at : List Mark → Parsed RawSequenceItem
spacing_at marks = do
  longer_word ← take_at sort.Longer marks
  front ← take_at sort.OpenParenthesis longer_word.1
  name ← raw_name_at front.1
  least ← spacing_least_at name.1
  parsed (record { at = longer_word.0; rule = sequence_rule.Spacing name.0 least.0 }) least.1

-- a rule of a sequence is one of both
unfoldable pub sequence_item_at : List Mark → Parsed RawSequenceItem
sequence_item_at marks = chosen (next_is sort.For marks) span_rule_at spacing_at marks

-- sequence = { "for" NAME ":" step { "," step } ";" | "longer" "(" NAME "," DURATION ")" ";" }
unfoldable pub sequence_at : List Mark → Parsed (List RawSequenceItem)
sequence_at marks = row_at (sort.For ∷ sort.Longer ∷ []) None sequence_item_at marks
