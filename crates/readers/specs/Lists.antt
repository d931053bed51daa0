-- Lists: parts in a row, or with commas between them, so many at most where the list is limited. A part is read by a
-- definition of its own.
use Rattle.std.specs.Prelude.{ℕ, List, [], ◌∷◌, ◌++◌, Option, Some, None, length, nat_le, if◌then◌else◌}
use Rattle.aerie_text.specs.declared.sorts.Sort.{Sort}
use Rattle.aerie_text.specs.declared.sorts.Sort.TheVariants.{Comma, OpenParenthesis, CloseParenthesis}
use Rattle.readers.specs.Marks.{Mark}
use Rattle.readers.specs.Parsed.{Parsed, parsed, failed, over_limit, ◌>>=◌, next_is, is_one_of, chosen, take_at, separated_at, repeated}
use Rattle.readers.specs.declared.limits.Limit.{Limit}
use Rattle.readers.specs.declared.lists.Most.{Most}

-- the limit that is passed with one part more than so many
abbrev pub limit_passed : Option Most → ℕ → Option Limit
limit_passed None count = None
limit_passed (Some most) count = if nat_le most.count count then Some most.limit else None

module _ {A : Type 0} (part_at : List Mark → Parsed A) where
  -- a part, behind those so far
  abbrev pub pushed_at : List A → List Mark → Parsed (List A)
  pushed_at so_far marks = part_at marks >>= λ last. parsed (so_far ++ last.0 ∷ []) last.1

  -- the same, where no limit is passed
  abbrev pub unless_passed : Option Limit → List A → List Mark → Parsed (List A)
  unless_passed None so_far marks = pushed_at so_far marks
  unless_passed (Some limit) so_far marks = over_limit limit marks

-- a part, behind those so far, where there may be one more
abbrev pub one_more_of : {A : Type 0} → Option Most → (List Mark → Parsed A) → List A → List Mark → Parsed (List A)
one_more_of most part_at so_far marks = unless_passed part_at (limit_passed most (length so_far)) so_far marks

-- the same, where the next mark begins one
abbrev pub one_more_at : {A : Type 0} → Sort → Option Most → (List Mark → Parsed A) → List A → List Mark → Parsed (List A)
one_more_at first most part_at so_far marks = chosen (next_is first marks) (one_more_of most part_at so_far) failed marks

-- part { "," part }, whatever a part begins with
abbrev pub separated_parts_at : {A : Type 0} → (List Mark → Parsed A) → List Mark → Parsed (List A)
separated_parts_at part_at marks = separated_at Comma (pushed_at part_at) [] marks

-- the same of parts that begin with a token of this sort
abbrev pub listed_at : {A : Type 0} → Sort → Option Most → (List Mark → Parsed A) → List Mark → Parsed (List A)
listed_at first most part_at marks = separated_at Comma (one_more_at first most part_at) [] marks

-- [ part { "," part } ]
abbrev pub optional_list_at : {A : Type 0} → Sort → Option Most → (List Mark → Parsed A) → List Mark → Parsed (List A)
optional_list_at first most part_at marks = chosen (next_is first marks) (listed_at first most part_at) (parsed []) marks

-- "(" [ part { "," part } ] ")"
abbrev pub parenthesized_at : {A : Type 0} → Sort → Option Most → (List Mark → Parsed A) → List Mark → Parsed (List A)
parenthesized_at first most part_at marks = do
  open_mark ← take_at OpenParenthesis marks
  parts ← optional_list_at first most part_at open_mark.1
  close ← take_at CloseParenthesis parts.1
  parsed parts.0 close.1

-- { part }
abbrev pub row_at : {A : Type 0} → List Sort → Option Most → (List Mark → Parsed A) → List Mark → Parsed (List A)
row_at begin most part_at marks = repeated (is_one_of begin) (one_more_of most part_at) [] marks
