-- Reading mappings: how plans of one model become plans of another.
use Rattle.std.specs.Prelude.{ℕ, Bool, true, false, List, [], ◌∷◌, Option, Some, None}
use Rattle.aerie_text.specs.declared.sorts.Sort.{Sort}
use Rattle.aerie_text.specs.declared.sorts.Sort.TheVariants as sort
use Rattle.model_reader.specs.declared.raw.literals.RawLiteralKind.TheVariants as kind
use Rattle.model_reader.specs.declared.raw.names.RawName.{RawName}
use Rattle.model_reader.specs.reading.Literals.{amount_at, begins_amount, sign_at, with_minus}
use Rattle.model_reader.specs.reading.Names.{raw_name_at}
use Rattle.readers.specs.Lists.{optional_list_at, row_at}
use Rattle.readers.specs.Marks.{Mark}
use Rattle.readers.specs.Parsed.{Parsed, parsed, ◌>>=◌, next_fits, next_is, chosen, take_at}
use Rattle.readers.specs.declared.limits.Limit.TheVariants.{Mappings}
use Rattle.readers.specs.declared.lists.Most.{Most}
use Rattle.session_grammar.specs.declared.raw.mappings.RawFeed.{RawFeed}
use Rattle.session_grammar.specs.declared.raw.mappings.RawFeedValue.{RawFeedValue}
use Rattle.session_grammar.specs.declared.raw.mappings.RawFeedValue.TheVariants as fed
use Rattle.session_grammar.specs.declared.raw.mappings.RawMapping.{RawMapping}
use Rattle.session_grammar.specs.declared.raw.mappings.RawTypeRule.{RawTypeRule}

-- the most mappings of a session
abbrev pub mapping_limit : ℕ
mapping_limit = 16

-- WORD NAME, the name with its place
unfoldable pub raw_named_at : Sort → List Mark → Parsed RawName
raw_named_at sort marks = do
  word ← take_at sort marks
  raw_name_at word.1

-- ---- feeds

-- [ "-" ] ( NUMBER | DURATION )
unfoldable pub fed_amount_at : List Mark → Parsed RawFeedValue
fed_amount_at marks = do
  sign ← sign_at marks
  amount ← amount_at sign.1
  let number = with_minus sign.0 amount.0 in parsed (fed.Literal (record { at = number.0; what = kind.Number number.1 })) amount.1

-- "true", or "false"
unfoldable pub fed_truth_at : Sort → Bool → List Mark → Parsed RawFeedValue
fed_truth_at sort truth marks = do
  word ← take_at sort marks
  parsed (fed.Literal (record { at = word.0; what = kind.Truth truth })) word.1

-- "." NAME, behind the name of an enumeration
unfoldable pub fed_variant_at : RawName → List Mark → Parsed RawFeedValue
fed_variant_at name marks = do
  variant ← raw_named_at sort.Dot marks
  parsed (fed.Literal (record { at = name.at; what = kind.Variant name variant.0 })) variant.1

-- [ "." NAME ], behind a name
unfoldable pub fed_behind_name_at : RawName → List Mark → Parsed RawFeedValue
fed_behind_name_at name marks = chosen (next_is sort.Dot marks) (fed_variant_at name) (parsed (fed.Parameter name)) marks

-- NAME [ "." NAME ]
unfoldable pub fed_name_at : List Mark → Parsed RawFeedValue
fed_name_at marks = do
  name ← raw_name_at marks
  fed_behind_name_at name.0 name.1

-- NAME | literal
unfoldable pub fed_value_at : List Mark → Parsed RawFeedValue
fed_value_at marks =
    chosen (next_fits begins_amount marks) fed_amount_at
    (chosen (next_is sort.True marks) (fed_truth_at sort.True true)
    (chosen (next_is sort.False marks) (fed_truth_at sort.False false) fed_name_at)) marks

-- feed = NAME "=" ( NAME | literal )
unfoldable pub feed_at : List Mark → Parsed RawFeed
feed_at marks = do
  parameter ← raw_name_at marks
  sign ← take_at sort.Assign parameter.1
  value ← fed_value_at sign.1
  parsed (record { parameter = parameter.0; value = value.0 }) value.1

-- ---- mappings

-- "(" [ feed { "," feed } ] ")" ";"
unfoldable pub feeds_at : List Mark → Parsed (List RawFeed)
feeds_at marks = do
  front ← take_at sort.OpenParenthesis marks
  feeds ← optional_list_at sort.Name None feed_at front.1
  close ← take_at sort.CloseParenthesis feeds.1
  end ← take_at sort.Semicolon close.1
  parsed feeds.0 end.1

-- NAME "to" NAME "(" [ feed { "," feed } ] ")" ";"
unfoldable pub type_rule_at : List Mark → Parsed RawTypeRule
type_rule_at marks = do
  old ← raw_name_at marks
  word ← take_at sort.To old.1
  new ← raw_name_at word.1
  feeds ← feeds_at new.1
  parsed (record { old = old.0; new = new.0; feeds = feeds.0 }) feeds.1

-- mapping = "from" NAME "to" NAME "{" { NAME "to" NAME "(" [ feed { "," feed } ] ")" ";" } "}"
unfoldable pub mapping_at : List Mark → Parsed RawMapping
mapping_at marks = do
  from ← raw_named_at sort.From marks
  to ← raw_named_at sort.To from.1
  front ← take_at sort.OpenBrace to.1
  rules ← row_at (sort.Name ∷ []) None type_rule_at front.1
  end ← take_at sort.CloseBrace rules.1
  parsed (record { from = from.0; to = to.0; rules = rules.0 }) end.1

-- how many mappings a session may have
abbrev pub most_mappings : Option Most
most_mappings = Some (record { count = mapping_limit; limit = Mappings })

-- { mapping }
unfoldable pub mappings_at : List Mark → Parsed (List RawMapping)
mappings_at marks = row_at (sort.From ∷ []) most_mappings mapping_at marks
