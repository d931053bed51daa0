-- Reading the plan section and the datasets behind it.
use Rattle.std.specs.Prelude.{ℕ, List, [], ◌∷◌, Option, Some, None}
use Rattle.aerie_text.specs.declared.sorts.Sort.TheVariants as sort
use Rattle.model_reader.specs.declared.raw.literals.RawLiteralKind.TheVariants as kind
use Rattle.model_reader.specs.declared.raw.names.RawName.{RawName}
use Rattle.model_reader.specs.reading.Literals.{literal_at, sign_at, with_minus}
use Rattle.model_reader.specs.reading.Names.{raw_name_at}
use Rattle.readers.specs.Endings.{ended_by}
use Rattle.readers.specs.Lists.{row_at}
use Rattle.readers.specs.Marks.{Mark}
use Rattle.readers.specs.Parsed.{Parsed, parsed, failed, ◌>>=◌, next_fits, next_is, chosen, number_at, take_at, word_at}
use Rattle.readers.specs.Within.{counts_within}
use Rattle.readers.specs.declared.limits.Limit.TheVariants.{Datasets}
use Rattle.readers.specs.declared.lists.Most.{Most}
use Rattle.session_grammar.specs.declared.raw.plans.RawBeginning.{RawBeginning}
use Rattle.session_grammar.specs.declared.raw.plans.RawDataset.{RawDataset}
use Rattle.session_grammar.specs.declared.raw.plans.RawDirective.{RawDirective}
use Rattle.session_grammar.specs.declared.raw.plans.RawPlan.{RawPlan}
use Rattle.session_grammar.specs.declared.raw.plans.RawRate.{RawRate}
use Rattle.session_grammar.specs.declared.raw.starts.RawStart.{RawStart}
use Rattle.session_grammar.specs.reading.Directives.{duration_at, given_at, when_at}
use Rattle.session_grammar.specs.reading.Mappings.{raw_named_at}

-- the most datasets of a session
abbrev pub dataset_limit : ℕ
dataset_limit = 64

-- "start" STRING ";"
unfoldable pub start_at : List Mark → Parsed RawStart
start_at marks = do
  word ← take_at sort.Start marks
  text ← word_at sort.Quoted word.1
  end ← take_at sort.Semicolon text.1
  parsed (record { at = text.0.0; text = text.0.1 }) end.1

-- DURATION, which is not 0
unfoldable pub some_time_at : List Mark → Parsed ℕ
some_time_at marks = chosen (next_fits (counts_within sort.Time 0 0) marks) failed duration_at marks

-- "duration" DURATION ";", the DURATION not 0
unfoldable pub plan_duration_at : List Mark → Parsed ℕ
plan_duration_at marks = do
  word ← take_at sort.Duration marks
  time ← some_time_at word.1
  end ← take_at sort.Semicolon time.1
  parsed time.0 end.1

-- ---- beginnings

-- "rate" INT, the INT with the place of its sign
unfoldable pub some_rate_at : List Mark → Parsed (Option RawRate)
some_rate_at marks = do
  word ← take_at sort.Rate marks
  sign ← sign_at word.1
  number ← number_at sort.Number sign.1
  let rate = with_minus sign.0 number.0 in
      parsed (Some (record { at = word.0; rate = record { at = rate.0; what = kind.Number rate.1 } })) number.1

-- [ "rate" INT ]
unfoldable pub optional_rate_at : List Mark → Parsed (Option RawRate)
optional_rate_at marks = chosen (next_is sort.Rate marks) some_rate_at (parsed None) marks

-- beginning = NAME "=" literal [ "rate" INT ] ";"
unfoldable pub beginning_at : List Mark → Parsed RawBeginning
beginning_at marks = do
  cell ← raw_name_at marks
  equals ← take_at sort.Assign cell.1
  value ← literal_at equals.1
  rate ← optional_rate_at value.1
  end ← take_at sort.Semicolon rate.1
  parsed (record { cell = cell.0; value = value.0; rate = rate.0 }) end.1

-- ---- the plan

-- "at" when given ";"
unfoldable pub directive_at : List Mark → Parsed RawDirective
directive_at marks = do
  word ← take_at sort.At marks
  when ← when_at word.1
  given ← given_at when.1
  end ← take_at sort.Semicolon given.1
  parsed (record { at = when.0; given = given.0 }) end.1

-- "plan" NAME "{"
unfoldable pub plan_name_at : List Mark → Parsed RawName
plan_name_at marks = do
  name ← raw_named_at sort.Plan marks
  ended_by sort.OpenBrace name.0 name.1

-- plan = "plan" NAME "{" "start" STRING ";" "duration" DURATION ";" { beginning } { "at" when given ";" } "}", the DURATION
-- not 0
unfoldable pub plan_at : List Mark → Parsed RawPlan
plan_at marks = do
  branch ← plan_name_at marks
  start ← start_at branch.1
  duration ← plan_duration_at start.1
  beginnings ← row_at (sort.Name ∷ []) None beginning_at duration.1
  directives ← row_at (sort.At ∷ []) None directive_at beginnings.1
  end ← take_at sort.CloseBrace directives.1
  parsed (record { branch = branch.0; start = start.0; duration = duration.0; beginnings = beginnings.0; directives = directives.0 }) end.1

-- "load" NAME RAW ";"
unfoldable pub dataset_at : List Mark → Parsed RawDataset
dataset_at marks = do
  word ← take_at sort.Load marks
  name ← raw_name_at word.1
  text ← word_at sort.Raw name.1
  end ← take_at sort.Semicolon text.1
  parsed (record { name = name.0; text = text.0.1 }) end.1

-- how many datasets a session may have
abbrev pub most_datasets : Option Most
most_datasets = Some (record { count = dataset_limit; limit = Datasets })

-- { "load" NAME RAW ";" }
unfoldable pub datasets_at : List Mark → Parsed (List RawDataset)
datasets_at marks = row_at (sort.Load ∷ []) most_datasets dataset_at marks
