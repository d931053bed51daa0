-- What the text of a dataset says: `{"kind":K,"segments":[..]}`, where K tells what each segment has behind its start.
use Rattle.std.specs.Prelude.{ℕ, ◌+◌, ℤ, Bool, true, false, List, [], ◌∷◌, codes, length, nat_eq, nat_lt, if◌then◌else◌, Option, Some, None, option_map, option_and_then, Result, Ok, Err}
use Rattle.std.specs.List.{list_all}
use Rattle.std.specs.Cmp.Lexicographic.{pointwise}
use Rattle.serde_json.specs.Data.{Data, Items, no_items, item, Members, no_members, member}
use Rattle.serde_json.specs.Find.{get, at, as_array, as_bool, as_i64, as_number, as_object, as_str}
use Rattle.serde_json.specs.Read.{read}
use Rattle.aerie_base.specs.Ranges.{is_rate, checked_number, time_of_signed}
use Rattle.windows.specs.declared.segments.Segment.{Segment}
use Rattle.dataset_in.specs.declared.dataset_error.DatasetError.{DatasetError}
use Rattle.dataset_in.specs.declared.dataset_error.DatasetError.TheVariants.{NotADataset, TooMany, BadSegment, OutOfMemory}
use Rattle.dataset_in.specs.declared.series.Series.{Series}
use Rattle.dataset_in.specs.declared.series.Series.TheVariants.{Truth, Whole, Linear}
use Rattle.dataset_in.specs.declared.forms.SeriesKind.{SeriesKind}
use Rattle.dataset_in.specs.declared.forms.SeriesKind.TheVariants as kind

-- the most segments that a dataset may have
abbrev pub most_segments : ℕ
most_segments = 10_000

-- ---- the form

abbrev pub rows_of : Items → List Data
rows_of no_items = []
rows_of (item row rest) = row ∷ rows_of rest

abbrev pub member_count : Members → ℕ
member_count no_members = 0
member_count (member key value rest) = member_count rest + 1

-- the kind of a series, by its word
abbrev pub series_kind_of : List ℕ → Option SeriesKind
series_kind_of word =
    if pointwise nat_eq word (codes "truth") then Some kind.Truth
    else if pointwise nat_eq word (codes "whole") then Some kind.Whole
    else if pointwise nat_eq word (codes "linear") then Some kind.Linear
    else None

-- how many parts a segment of a kind has: where it begins, the value, and with a linear one the rate
abbrev pub width : SeriesKind → ℕ
width kind.Truth = 2
width kind.Whole = 2
width kind.Linear = 3

-- a list of so many parts
abbrev pub has_width : ℕ → Option Items → Bool
has_width count None = false
has_width count (Some items) = nat_eq (length (rows_of items)) count

abbrev pub is_row : ℕ → Data → Bool
is_row count row = has_width count (as_array row)

-- an object of two members
abbrev pub has_two : Option Members → Bool
has_two None = false
has_two (Some members) = nat_eq (member_count members) 2

abbrev pub kind_member : Data → Option SeriesKind
kind_member whole = option_and_then series_kind_of (option_and_then as_str (get (codes "kind") whole))

abbrev pub segments_member : Data → Option (List Data)
segments_member whole = option_map rows_of (option_and_then as_array (get (codes "segments") whole))

-- the kind and the segments, each a list of as many parts as the kind has
abbrev pub with_rows : SeriesKind → List Data → Option (SeriesKind × List Data)
with_rows kind rows = if list_all (is_row (width kind)) rows then Some (kind, rows) else None

-- of an object with these two members alone
abbrev pub kind_and_rows : Data → Option (SeriesKind × List Data)
kind_and_rows whole =
    if has_two (as_object whole) then option_and_then (λ kind. option_and_then (with_rows kind) (segments_member whole)) (kind_member whole)
    else None

-- ---- one segment

-- a part that is a whole number, one that is a time, a number of a model, a rate, a truth
abbrev pub whole_part : ℕ → Data → Option ℤ
whole_part position row = option_and_then as_i64 (option_and_then as_number (at position row))

abbrev pub time_part : ℕ → Data → Option ℕ
time_part position row = option_and_then time_of_signed (whole_part position row)

abbrev pub number_part : ℕ → Data → Option ℤ
number_part position row = option_and_then checked_number (whole_part position row)

abbrev pub rate_part : ℕ → Data → Option ℤ
rate_part position row = option_and_then (λ rate. if is_rate rate then Some rate else None) (whole_part position row)

abbrev pub truth_part : ℕ → Data → Option Bool
truth_part position row = option_and_then as_bool (at position row)

abbrev pub truth_entry : Data → Option (ℕ × Bool)
truth_entry row = option_and_then (λ from. option_map (λ truth. (from, truth)) (truth_part 1 row)) (time_part 0 row)

abbrev pub whole_entry : Data → Option (ℕ × ℤ)
whole_entry row = option_and_then (λ from. option_map (λ value. (from, value)) (number_part 1 row)) (time_part 0 row)

abbrev pub linear_entry : Data → Option Segment
linear_entry row =
    option_and_then (λ from. option_and_then (λ value. option_map (λ rate. record { from = from; value = value; rate = rate }) (rate_part 2 row)) (number_part 1 row))
    (time_part 0 row)

-- ---- all of them

-- a segment may stand behind one that begins there: the first begins at 0, the others after the one before
abbrev pub follows : Option ℕ → ℕ → Bool
follows None from = nat_eq from 0
follows (Some last) from = nat_lt last from

abbrev pub put_first : {A : Type 0} → A → Result (List A) DatasetError → Result (List A) DatasetError
put_first next (Ok rest) = Ok (next ∷ rest)
put_first next (Err refusal) = Err refusal

-- what the segment with this number makes of those behind it; where there is none, it is bad
abbrev pub then_entry : {A : Type 0} → ℕ → (A → Result (List A) DatasetError) → Option A → Result (List A) DatasetError
then_entry number rest None = Err (BadSegment number)
then_entry number rest (Some next) = put_first next (rest next)

module _ {A : Type 0} (entry : Data → Option A) (from : A → ℕ) where
  -- the segment of a row, where it may stand there
  abbrev pub next_entry : Option ℕ → Data → Option A
  next_entry last row = option_and_then (λ next. if follows last (from next) then Some next else None) (entry row)

  -- the segments of the rows behind one that begins there, or the first row that gives none
  abbrev pub entries_behind : Option ℕ → ℕ → List Data → Result (List A) DatasetError
  entries_behind last number [] = Ok []
  entries_behind last number (row ∷ rest) =
      then_entry number (λ next. entries_behind (Some (from next)) (number + 1) rest) (next_entry last row)

  -- a series has one segment at least: where there is none, the first one is missing
  abbrev pub entries_of : List Data → Result (List A) DatasetError
  entries_of [] = Err (BadSegment 0)
  entries_of (row ∷ rest) = entries_behind None 0 (row ∷ rest)

-- ---- the answer

abbrev pub series_answer : {A : Type 0} → (List A → Series) → Result (List A) DatasetError → Result Series DatasetError
series_answer series (Ok entries) = Ok (series entries)
series_answer series (Err refusal) = Err refusal

abbrev pub series_of : SeriesKind → List Data → Result Series DatasetError
series_of kind.Truth rows = series_answer Truth (entries_of truth_entry (λ entry. entry.0) rows)
series_of kind.Whole rows = series_answer Whole (entries_of whole_entry (λ entry. entry.0) rows)
series_of kind.Linear rows = series_answer Linear (entries_of linear_entry (λ segment. segment.from) rows)

abbrev pub form_answer : Option (SeriesKind × List Data) → Result Series DatasetError
form_answer None = Err NotADataset
form_answer (Some form) = if nat_lt most_segments (length form.1) then Err TooMany else series_of form.0 form.1

-- the series of a text, or why it is none: of several causes the first in this order
abbrev pub dataset_of : List ℕ → Result Series DatasetError
dataset_of text = form_answer (option_and_then kind_and_rows (read text))

-- whether an error says that memory ran out
abbrev pub ran_out : DatasetError → Bool
ran_out OutOfMemory = true
ran_out error = false
