-- Reading windows, the limit of their depth with them.
use Rattle.std.specs.Prelude.{ℕ, ℤ, zero, suc, ◌+◌, Bool, true, false, List, nat_le, if◌then◌else◌}
use Rattle.aerie_base.specs.models.Limits.{depth_limit}
use Rattle.aerie_text.specs.declared.sorts.Sort.{Sort}
use Rattle.aerie_text.specs.declared.sorts.Sort.TheVariants as sort
use Rattle.readers.specs.Marks.{Mark}
use Rattle.readers.specs.Parsed.{Parsed, parsed, failed, ◌>>=◌, is_of, next_is, chosen, limited, repeated, take_at, has_at, number_at}
use Rattle.readers.specs.declared.limits.Limit.TheVariants.{Depth}
use Rattle.model_reader.specs.reading.Names.{raw_name_at}
use Rattle.rule_grammar.specs.declared.raw.windows.RawWindow.{RawWindow}
use Rattle.rule_grammar.specs.declared.raw.windows.RawWindow.TheVariants as window
use Rattle.rule_grammar.specs.declared.reading.leveled.Joining.{Joining}
use Rattle.rule_grammar.specs.declared.reading.leveled.Joining.TheVariants.{And, Or}
use Rattle.rule_grammar.specs.declared.reading.leveled.LeveledWindow.{LeveledWindow}
use Rattle.rule_grammar.specs.declared.reading.leveled.WindowPart.{WindowPart}
use Rattle.rule_grammar.specs.declared.reading.leveled.WindowPart.TheVariants.{Window, Conjunction, Atom}
use Rattle.rule_grammar.specs.reading.Levels.{higher, opening, parenthesis_opening}
use Rattle.rule_grammar.specs.reading.Sums.{behind_sign}
use Rattle.rule_grammar.specs.reading.Tested.{named_atom_at, unnamed_atom_at}

-- The readers of the parts of a window, where so many levels may still be opened.
abbrev pub Readers : Type 0
Readers = WindowPart → List Mark → Parsed LeveledWindow

-- ---- atoms without operators

-- "true", or "false"
unfoldable pub truth_at : Bool → List Mark → Parsed LeveledWindow
truth_at truth marks = do
  word ← take_at (if truth then sort.True else sort.False) marks
  parsed (record { window = window.Literal truth; height = 0 }) word.1

-- "(" NAME ")", behind "during"
unfoldable pub during_span_at : List Mark → Parsed LeveledWindow
during_span_at marks = do
  front ← take_at sort.OpenParenthesis marks
  name ← raw_name_at front.1
  close ← take_at sort.CloseParenthesis name.1
  parsed (record { window = window.During name.0; height = 1 }) close.1

-- "during" "(" NAME ")"; the parenthesis opens a level
unfoldable pub during_at : ℕ → List Mark → Parsed LeveledWindow
during_at room marks = do
  word ← take_at sort.During marks
  parenthesis_opening room during_span_at word.1

-- sdur = [ "-" ] DURATION
unfoldable pub signed_duration_at : List Mark → Parsed ℤ
signed_duration_at marks = do
  negative ← has_at sort.Minus marks
  time ← number_at sort.Time negative.1
  parsed (behind_sign negative.0 time.0.1) time.1

-- ---- atoms with a window in them

-- a window in parentheses
abbrev pub in_parentheses : LeveledWindow → LeveledWindow
in_parentheses inner = record { window = inner.window; height = inner.height + 1 }

-- the times outside a window
abbrev pub outside : LeveledWindow → LeveledWindow
outside inner = record { window = window.Not inner.window; height = inner.height + 1 }

-- a window with its starts and ends moved
abbrev pub shifted : LeveledWindow → ℤ × ℤ → LeveledWindow
shifted inner by = record { window = window.Shift inner.window by.0 by.1; height = inner.height + 1 }

-- the intervals of a window that are long enough
abbrev pub lasting : LeveledWindow → ℤ → LeveledWindow
lasting inner least = record { window = window.Longer inner.window least; height = inner.height + 1 }

-- "(" window ")"
unfoldable pub parentheses_at : Readers → List Mark → Parsed LeveledWindow
parentheses_at inner marks = do
  front ← take_at sort.OpenParenthesis marks
  whole ← inner Window front.1
  close ← take_at sort.CloseParenthesis whole.1
  parsed (in_parentheses whole.0) close.1

-- "not" atom
unfoldable pub not_at : Readers → List Mark → Parsed LeveledWindow
not_at inner marks = do
  word ← take_at sort.Not marks
  operand ← inner Atom word.1
  parsed (outside operand.0) operand.1

-- "," sdur "," sdur ")"
unfoldable pub bounds_at : List Mark → Parsed (ℤ × ℤ)
bounds_at marks = do
  comma ← take_at sort.Comma marks
  start ← signed_duration_at comma.1
  next_comma ← take_at sort.Comma start.1
  end ← signed_duration_at next_comma.1
  close ← take_at sort.CloseParenthesis end.1
  parsed (start.0, end.0) close.1

-- "(" window "," sdur "," sdur ")", behind "shift"
unfoldable pub shifted_at : Readers → List Mark → Parsed LeveledWindow
shifted_at inner marks = do
  front ← take_at sort.OpenParenthesis marks
  whole ← inner Window front.1
  by ← bounds_at whole.1
  parsed (shifted whole.0 by.0) by.1

-- "shift" "(" window "," sdur "," sdur ")"; the parenthesis opens a level
unfoldable pub shift_at : ℕ → Readers → List Mark → Parsed LeveledWindow
shift_at room inner marks = do
  word ← take_at sort.Shift marks
  parenthesis_opening room (shifted_at inner) word.1

-- "," DURATION ")"
unfoldable pub least_at : List Mark → Parsed ℤ
least_at marks = do
  comma ← take_at sort.Comma marks
  time ← number_at sort.Time comma.1
  close ← take_at sort.CloseParenthesis time.1
  parsed time.0.1 close.1

-- "(" window "," DURATION ")", behind "longer"
unfoldable pub lasting_at : Readers → List Mark → Parsed LeveledWindow
lasting_at inner marks = do
  front ← take_at sort.OpenParenthesis marks
  whole ← inner Window front.1
  least ← least_at whole.1
  parsed (lasting whole.0 least.0) least.1

-- "longer" "(" window "," DURATION ")"; the parenthesis opens a level
unfoldable pub longer_at : ℕ → Readers → List Mark → Parsed LeveledWindow
longer_at room inner marks = do
  word ← take_at sort.Longer marks
  parenthesis_opening room (lasting_at inner) word.1

-- an atom that begins with neither "not" nor a parenthesis
unfoldable pub simple_atom_at : ℕ → Readers → List Mark → Parsed LeveledWindow
simple_atom_at room inner marks =
    chosen (next_is sort.True marks) (truth_at true)
    (chosen (next_is sort.False marks) (truth_at false)
    (chosen (next_is sort.During marks) (during_at room)
    (chosen (next_is sort.Shift marks) (shift_at room inner)
    (chosen (next_is sort.Longer marks) (longer_at room inner)
    (chosen (next_is sort.Name marks) (named_atom_at room) (unnamed_atom_at room)))))) marks

-- atom
unfoldable pub atom_at : ℕ → Readers → List Mark → Parsed LeveledWindow
atom_at room inner marks =
    chosen (next_is sort.Not marks) (opening room (not_at inner))
    (chosen (next_is sort.OpenParenthesis marks) (opening room (parentheses_at inner)) (simple_atom_at room inner)) marks

-- ---- operators between windows

-- the word of the operator
abbrev pub word_of_joining : Joining → Sort
word_of_joining And = sort.And
word_of_joining Or = sort.Or

-- what stands on its right side
abbrev pub operand_of_joining : Joining → WindowPart
operand_of_joining And = Atom
operand_of_joining Or = Conjunction

abbrev pub joined_windows : Joining → RawWindow → RawWindow → RawWindow
joined_windows And left right = window.And left right
joined_windows Or left right = window.Or left right

-- an operator between two windows
abbrev pub joined_levels : Joining → LeveledWindow → LeveledWindow → LeveledWindow
joined_levels joining left right =
    record { window = joined_windows joining left.window right.window; height = higher left.height right.height + 1 }

-- an operator and its right side
unfoldable pub operand_at : Joining → Readers → List Mark → Parsed LeveledWindow
operand_at joining inner marks = do
  word ← take_at (word_of_joining joining) marks
  inner (operand_of_joining joining) word.1

-- the same behind the left side
unfoldable pub operated_at : Joining → Readers → LeveledWindow → List Mark → Parsed LeveledWindow
operated_at joining inner left marks = do
  right ← operand_at joining inner marks
  parsed (joined_levels joining left right.0) right.1

-- the same; the operator opens one level more than there are on its left side
unfoldable pub operation_at : ℕ → Joining → Readers → LeveledWindow → List Mark → Parsed LeveledWindow
operation_at room joining inner left marks = limited (nat_le room left.height) Depth (operated_at joining inner left) marks

-- conj = atom { "and" atom }
unfoldable pub conjunction_at : ℕ → Readers → List Mark → Parsed LeveledWindow
conjunction_at room inner marks = do
  left ← atom_at room inner marks
  repeated (is_of sort.And) (operation_at room And inner) left.0 left.1

-- window = conj { "or" conj }
unfoldable pub disjunction_at : ℕ → Readers → List Mark → Parsed LeveledWindow
disjunction_at room inner marks = do
  left ← conjunction_at room inner marks
  repeated (is_of sort.Or) (operation_at room Or inner) left.0 left.1

-- ---- windows

-- the readers where so many levels may be opened, by those behind one more that is open
abbrev pub readers_by : ℕ → Readers → Readers
readers_by room inner Window = disjunction_at room inner
readers_by room inner Conjunction = conjunction_at room inner
readers_by room inner Atom = atom_at room inner

-- where no level may be opened nothing is read in one
abbrev pub no_readers : Readers
no_readers part = failed

-- the readers within a level, where it and those in it may be so many
abbrev pub inner_readers : ℕ → Readers
inner_readers zero = no_readers
inner_readers (suc room) = readers_by room (inner_readers room)

-- a window with its levels, where so many may be opened
abbrev pub whole_at : ℕ → List Mark → Parsed LeveledWindow
whole_at room marks = disjunction_at room (inner_readers room) marks

-- window, at whose beginning no level is open
unfoldable pub window_at : List Mark → Parsed RawWindow
window_at marks = do
  whole ← whole_at depth_limit marks
  parsed whole.0.window whole.1
