-- Reading atoms that test resources: a truth, `==` and `!=` with a value, and comparisons of sums.
use Rattle.std.specs.Prelude.{ℕ, ◌+◌, ◌-◌, Bool, true, false, List, [], ◌∷◌, nat_le, if◌then◌else◌}
use Rattle.aerie_base.specs.declared.expressions.Comparison.{Comparison}
use Rattle.aerie_base.specs.declared.expressions.Comparison.TheVariants as comparison
use Rattle.aerie_text.specs.declared.sorts.Sort.TheVariants as sort
use Rattle.readers.specs.Marks.{Mark}
use Rattle.readers.specs.Parsed.{Parsed, parsed, failed, ◌>>=◌, is_one_of, next_is, next_fits, chosen, limited, take_at}
use Rattle.readers.specs.declared.limits.Limit.TheVariants.{Depth}
use Rattle.model_reader.specs.declared.raw.names.RawName.{RawName}
use Rattle.model_reader.specs.reading.Names.{raw_name_at, one_standing_for}
use Rattle.rule_grammar.specs.declared.raw.windows.RawTested.{RawTested}
use Rattle.rule_grammar.specs.declared.raw.windows.RawTested.TheVariants as tested
use Rattle.rule_grammar.specs.declared.raw.windows.RawWindow.TheVariants as window
use Rattle.rule_grammar.specs.declared.reading.leveled.LeveledSum.{LeveledSum}
use Rattle.rule_grammar.specs.declared.reading.leveled.LeveledWindow.{LeveledWindow}
use Rattle.rule_grammar.specs.reading.Levels.{higher, opening}
use Rattle.rule_grammar.specs.reading.Sums.{sum_of_resource, next_term_at, more_terms_at, sum_at, unnamed_sum_at}

-- ---- comparisons of sums

-- a comparison of two sums
abbrev pub comparison_of : LeveledSum → Comparison → LeveledSum → LeveledWindow
comparison_of left how right = record { window = window.Compare left.terms how right.terms; height = higher left.height right.height + 1 }

abbrev pub is_order_sign : Mark → Bool
is_order_sign = is_one_of (sort.Less ∷ sort.LessEqual ∷ sort.Greater ∷ sort.GreaterEqual ∷ [])

-- "<" | "<=" | ">" | ">="
unfoldable pub order_sign_at : List Mark → Parsed Comparison
order_sign_at marks =
    one_standing_for
    ((sort.Less, comparison.Less) ∷ (sort.LessEqual, comparison.AtMost) ∷ (sort.Greater, comparison.More) ∷ (sort.GreaterEqual, comparison.AtLeast) ∷ [])
    marks

abbrev pub is_compare_sign : Mark → Bool
is_compare_sign = is_one_of (sort.DoubleEqual ∷ sort.NotEqual ∷ sort.Less ∷ sort.LessEqual ∷ sort.Greater ∷ sort.GreaterEqual ∷ [])

-- "==" | "!=" | "<" | "<=" | ">" | ">="
unfoldable pub compare_sign_at : List Mark → Parsed Comparison
compare_sign_at marks =
    one_standing_for
    ((sort.DoubleEqual, comparison.Equal) ∷ (sort.NotEqual, comparison.Unequal)
    ∷ (sort.Less, comparison.Less) ∷ (sort.LessEqual, comparison.AtMost) ∷ (sort.Greater, comparison.More) ∷ (sort.GreaterEqual, comparison.AtLeast) ∷ [])
    marks

-- the sign and the right side, in a level that was opened where so many could be
unfoldable pub right_side_at : ℕ → LeveledSum → List Mark → Parsed LeveledWindow
right_side_at room left marks = do
  how ← compare_sign_at marks
  right ← sum_at (room - 1) how.1
  parsed (comparison_of left how.0 right.0) right.1

-- The same; the sign opens one level more than there are on the left side.
unfoldable pub comparison_at : ℕ → LeveledSum → List Mark → Parsed LeveledWindow
comparison_at room left marks = chosen (next_fits is_compare_sign marks) (limited (nat_le room left.height) Depth (right_side_at room left)) failed marks

-- an atom that begins with no NAME
unfoldable pub unnamed_atom_at : ℕ → List Mark → Parsed LeveledWindow
unnamed_atom_at room marks = do
  left ← unnamed_sum_at room marks
  comparison_at room left.0 left.1

-- ---- behind a NAME

-- further terms of the left side, and the right side
unfoldable pub longer_left_at : ℕ → RawName → List Mark → Parsed LeveledWindow
longer_left_at room name marks = do
  two ← next_term_at room (sum_of_resource name) marks
  left ← more_terms_at room two.0 two.1
  comparison_at room left.0 left.1

-- ( "<" | "<=" | ">" | ">=" ) wsum, in a level that was opened where so many could be
unfoldable pub ordered_at : ℕ → RawName → List Mark → Parsed LeveledWindow
ordered_at room name marks = do
  how ← order_sign_at marks
  right ← sum_at (room - 1) how.1
  parsed (comparison_of (sum_of_resource name) how.0 right.0) right.1

abbrev pub is_same_sign : Mark → Bool
is_same_sign = is_one_of (sort.DoubleEqual ∷ sort.NotEqual ∷ [])

-- "==" | "!=": whether it is "=="
unfoldable pub same_sign_at : List Mark → Parsed Bool
same_sign_at marks = one_standing_for ((sort.DoubleEqual, true) ∷ (sort.NotEqual, false) ∷ []) marks

abbrev pub equality : Bool → Comparison
equality equal = if equal then comparison.Equal else comparison.Unequal

-- a resource that has a value, or that does not have it
abbrev pub same_window : RawName → Bool → RawTested → LeveledWindow
same_window name equal value = record { window = window.Same name value equal; height = 1 }

-- a resource that equals a sum, or that does not
abbrev pub equal_window : RawName → Bool → LeveledSum → LeveledWindow
equal_window name equal right = comparison_of (sum_of_resource name) (equality equal) right

-- "true", or "false"
unfoldable pub same_truth_at : Bool → RawName → Bool → List Mark → Parsed LeveledWindow
same_truth_at truth name equal marks = do
  word ← take_at (if truth then sort.True else sort.False) marks
  parsed (same_window name equal (tested.Truth truth)) word.1

-- "." NAME, behind the NAME of an enumeration
unfoldable pub same_variant_at : RawName → Bool → RawName → List Mark → Parsed LeveledWindow
same_variant_at name equal kind marks = do
  dot ← take_at sort.Dot marks
  variant ← raw_name_at dot.1
  parsed (same_window name equal (tested.Variant kind variant.0)) variant.1

-- { ( "+" | "-" ) wterm }, behind the NAME with which the right side begins
unfoldable pub equal_named_at : ℕ → RawName → Bool → RawName → List Mark → Parsed LeveledWindow
equal_named_at room name equal first marks = do
  right ← more_terms_at room (sum_of_resource first) marks
  parsed (equal_window name equal right.0) right.1

-- NAME "." NAME, or a sum that begins with a NAME
unfoldable pub named_operand_at : ℕ → RawName → Bool → List Mark → Parsed LeveledWindow
named_operand_at room name equal marks = do
  first ← raw_name_at marks
  chosen (next_is sort.Dot first.1) (same_variant_at name equal first.0) (equal_named_at room name equal first.0) first.1

-- a sum that begins with no NAME
unfoldable pub unnamed_operand_at : ℕ → RawName → Bool → List Mark → Parsed LeveledWindow
unnamed_operand_at room name equal marks = do
  right ← unnamed_sum_at room marks
  parsed (equal_window name equal right.0) right.1

-- "true" | "false" | NAME "." NAME | wsum
unfoldable pub same_operand_at : ℕ → RawName → Bool → List Mark → Parsed LeveledWindow
same_operand_at room name equal marks =
    chosen (next_is sort.True marks) (same_truth_at true name equal)
    (chosen (next_is sort.False marks) (same_truth_at false name equal)
    (chosen (next_is sort.Name marks) (named_operand_at room name equal) (unnamed_operand_at room name equal))) marks

-- ( "==" | "!=" ) and its operand, in a level that was opened where so many could be
unfoldable pub same_at : ℕ → RawName → List Mark → Parsed LeveledWindow
same_at room name marks = do
  equal ← same_sign_at marks
  same_operand_at (room - 1) name equal.0 equal.1

-- what may follow the NAME with which an atom begins
unfoldable pub named_tail_at : ℕ → RawName → List Mark → Parsed LeveledWindow
named_tail_at room name marks =
    chosen (next_fits is_same_sign marks) (opening room (same_at room name))
    (chosen (next_fits is_order_sign marks) (opening room (ordered_at room name)) (longer_left_at room name)) marks

-- the mark goes on behind the NAME with which an atom begins
abbrev pub begins_named_tail : Mark → Bool
begins_named_tail =
    is_one_of
    (sort.DoubleEqual ∷ sort.NotEqual ∷ sort.Less ∷ sort.LessEqual ∷ sort.Greater ∷ sort.GreaterEqual ∷ sort.Plus ∷ sort.Minus ∷ [])

-- a truth resource
abbrev pub truth_window : RawName → LeveledWindow
truth_window name = record { window = window.Truth name; height = 0 }

-- an atom that begins with a NAME
unfoldable pub named_atom_at : ℕ → List Mark → Parsed LeveledWindow
named_atom_at room marks = do
  name ← raw_name_at marks
  chosen (next_fits begins_named_tail name.1) (named_tail_at room name.0) (parsed (truth_window name.0)) name.1
