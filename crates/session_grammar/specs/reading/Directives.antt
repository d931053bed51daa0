-- Reading the parts of directives: when they start, and what they give.
use Rattle.std.specs.Prelude.{ℕ, ℤ, neg_ℤ, nat_abs, nat_le, if◌then◌else◌, Bool, true, false, List, [], ◌∷◌, ◌++◌, Some, None, codes}
use Rattle.aerie_base.specs.Ranges.{time_limit}
use Rattle.aerie_base.specs.declared.arguments.RawArgument.{RawArgument}
use Rattle.aerie_base.specs.declared.arguments.RawValue.{RawValue}
use Rattle.aerie_base.specs.declared.arguments.RawValue.TheVariants as value
use Rattle.aerie_base.specs.declared.places.Place.{Place}
use Rattle.aerie_base.specs.declared.plans.Edge.{Edge}
use Rattle.aerie_base.specs.declared.plans.Edge.TheVariants as edge
use Rattle.aerie_text.specs.declared.sorts.Sort.{Sort}
use Rattle.aerie_text.specs.declared.sorts.Sort.TheVariants as sort
use Rattle.model_reader.specs.reading.Literals.{amount_at, begins_amount}
use Rattle.readers.specs.Lists.{parenthesized_at}
use Rattle.readers.specs.Marks.{Mark}
use Rattle.readers.specs.Parsed.{Parsed, parsed, ◌>>=◌, is_one_of, next_fits, next_is, next_is_one_of, chosen, take_at, has_at, number_at, name_at, word_at}
use Rattle.readers.specs.Within.{number_within_at}
use Rattle.session_grammar.specs.declared.raw.clients.RawGiven.{RawGiven}
use Rattle.session_grammar.specs.declared.raw.starts.RawWhen.{RawWhen}
use Rattle.session_grammar.specs.declared.raw.starts.RawWhen.TheVariants.{Planned, Instant}
use Rattle.session_grammar.specs.grammar.Terminals.{id_limit}

-- ---- when a directive starts

-- ID
unfoldable pub id_at : List Mark → Parsed ℕ
id_at marks = do
  id ← number_within_at sort.Number 0 id_limit marks
  parsed id.0.1 id.1

-- a length of time in microseconds: what is counted, which is at most the longest time
abbrev pub length_of_time : ℤ → ℕ
length_of_time count = if nat_le (nat_abs count) time_limit then nat_abs count else time_limit

-- DURATION
unfoldable pub duration_at : List Mark → Parsed ℕ
duration_at marks = do
  time ← number_at sort.Time marks
  parsed (length_of_time time.0.1) time.1

-- a word that stands for an edge
unfoldable pub edge_word_at : Sort → Edge → List Mark → Parsed Edge
edge_word_at sort edge marks = do
  word ← take_at sort marks
  parsed edge word.1

-- "start" | "end"
unfoldable pub edge_at : List Mark → Parsed Edge
edge_at marks = chosen (next_is sort.Start marks) (edge_word_at sort.Start edge.Start) (edge_word_at sort.End edge.End) marks

-- ( "start" | "end" ) "of" ID "+" DURATION
unfoldable pub anchored_at : List Mark → Parsed RawWhen
anchored_at marks = do
  edge ← edge_at marks
  word ← take_at sort.Of edge.1
  id ← id_at word.1
  plus ← take_at sort.Plus id.1
  time ← duration_at plus.1
  parsed (Planned (record { start = time.0; anchor = Some (record { to = id.0; edge = edge.0 }) })) time.1

-- DURATION
unfoldable pub unanchored_at : List Mark → Parsed RawWhen
unanchored_at marks = do
  time ← duration_at marks
  parsed (Planned (record { start = time.0; anchor = None })) time.1

-- STRING
unfoldable pub instant_text_at : List Mark → Parsed RawWhen
instant_text_at marks = do
  text ← word_at sort.Quoted marks
  parsed (Instant (record { at = text.0.0; text = text.0.1 })) text.1

-- when = ( "start" | "end" ) "of" ID "+" DURATION | STRING | DURATION
unfoldable pub when_at : List Mark → Parsed RawWhen
when_at marks =
    chosen (next_is_one_of (sort.Start ∷ sort.End ∷ []) marks) anchored_at
    (chosen (next_is sort.Quoted marks) instant_text_at unanchored_at) marks

-- ---- what a directive gives

-- a number with its sign
abbrev pub with_sign : Bool → ℤ → ℤ
with_sign true number = neg_ℤ number
with_sign false number = number

-- [ "-" ] ( NUMBER | DURATION )
unfoldable pub signed_amount_at : List Mark → Parsed RawValue
signed_amount_at marks = do
  minus ← has_at sort.Minus marks
  amount ← amount_at minus.1
  parsed (value.Int (with_sign minus.0 amount.0.1)) amount.1

-- "true", or "false"
unfoldable pub truth_at : Sort → Bool → List Mark → Parsed RawValue
truth_at sort truth marks = do
  word ← take_at sort marks
  parsed (value.Truth truth) word.1

-- a variant as it is written: the names of its enumeration and of itself, with a dot between them
abbrev pub variant_word : List ℕ → List ℕ → List ℕ
variant_word kind variant = kind ++ codes "." ++ variant

-- NAME "." NAME
unfoldable pub variant_at : List Mark → Parsed RawValue
variant_at marks = do
  kind ← name_at marks
  dot ← take_at sort.Dot kind.1
  variant ← name_at dot.1
  parsed (value.Word (variant_word kind.0.1 variant.0.1)) variant.1

-- literal = [ "-" ] ( NUMBER | DURATION ) | "true" | "false" | NAME "." NAME
unfoldable pub value_at : List Mark → Parsed RawValue
value_at marks =
    chosen (next_fits begins_amount marks) signed_amount_at
    (chosen (next_is sort.True marks) (truth_at sort.True true)
    (chosen (next_is sort.False marks) (truth_at sort.False false) variant_at)) marks

-- NAME "=" literal
unfoldable pub argument_at : List Mark → Parsed RawArgument
argument_at marks = do
  name ← name_at marks
  sign ← take_at sort.Assign name.1
  value ← value_at sign.1
  parsed (record { name = name.0.1; value = value.0 }) value.1

-- given = NAME "(" [ NAME "=" literal { "," NAME "=" literal } ] ")"
unfoldable pub given_at : List Mark → Parsed RawGiven
given_at marks = do
  kind ← name_at marks
  arguments ← parenthesized_at sort.Name None argument_at kind.1
  parsed (record { kind = kind.0.1; arguments = arguments.0 }) arguments.1
