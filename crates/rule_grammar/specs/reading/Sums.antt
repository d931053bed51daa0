-- Reading sums of numbers and of resources, each with its levels.
use Rattle.std.specs.Prelude.{ℕ, ℤ, pos, neg_ℤ, Bool, true, false, List, [], ◌∷◌, ◌++◌, Option, Some, None}
use Rattle.aerie_base.specs.declared.places.Place.{Place}
use Rattle.aerie_text.specs.declared.sorts.Sort.TheVariants as sort
use Rattle.readers.specs.Marks.{Mark}
use Rattle.readers.specs.Parsed.{Parsed, parsed, ◌>>=◌, is_one_of, next_is, chosen, repeated, take_at, has_at, number_at}
use Rattle.model_reader.specs.declared.raw.names.RawName.{RawName}
use Rattle.model_reader.specs.reading.Names.{raw_name_at, one_standing_for}
use Rattle.rule_grammar.specs.declared.raw.sums.RawTerm.{RawTerm}
use Rattle.rule_grammar.specs.declared.reading.leveled.LeveledSum.{LeveledSum}
use Rattle.rule_grammar.specs.reading.Levels.{higher, opening}

-- the number behind its sign
abbrev pub behind_sign : Bool → ℤ → ℤ
behind_sign true number = neg_ℤ number
behind_sign false number = number

-- ---- terms, each with its levels

abbrev pub LeveledTerm : Type 0
LeveledTerm = RawTerm × ℕ

-- "*" NAME: what a number is multiplied by
unfoldable pub factor_at : List Mark → Parsed (Option RawName)
factor_at marks = do
  star ← take_at sort.Star marks
  name ← raw_name_at star.1
  parsed (Some name.0) name.1

-- [ "*" NAME ]; the "*" opens a level
unfoldable pub optional_factor_at : ℕ → List Mark → Parsed (Option RawName)
optional_factor_at room marks = chosen (next_is sort.Star marks) (opening room factor_at) (parsed None) marks

abbrev pub factor_height : Option RawName → ℕ
factor_height (Some name) = 1
factor_height None = 0

-- a number, or a number times a resource
abbrev pub scaled_term : Bool → Place × ℤ → Option RawName → LeveledTerm
scaled_term negative number factor = (record { at = number.0; number = behind_sign negative number.1; resource = factor }, factor_height factor)

-- NUMBER [ "*" NAME ]
unfoldable pub scaled_at : ℕ → Bool → List Mark → Parsed LeveledTerm
scaled_at room negative marks = do
  number ← number_at sort.Number marks
  factor ← optional_factor_at room number.1
  parsed (scaled_term negative number.0 factor.0) factor.1

-- DURATION
unfoldable pub duration_term_at : Bool → List Mark → Parsed LeveledTerm
duration_term_at negative marks = do
  time ← number_at sort.Time marks
  parsed (scaled_term negative time.0 None) time.1

-- a resource alone
abbrev pub resource_term : Bool → RawName → LeveledTerm
resource_term negative name = (record { at = name.at; number = behind_sign negative (pos 1); resource = Some name }, 0)

-- NAME
unfoldable pub resource_term_at : Bool → List Mark → Parsed LeveledTerm
resource_term_at negative marks = do
  name ← raw_name_at marks
  parsed (resource_term negative name.0) name.1

-- wterm = NUMBER [ "*" NAME ] | DURATION | NAME
unfoldable pub term_at : ℕ → Bool → List Mark → Parsed LeveledTerm
term_at room negative marks =
    chosen (next_is sort.Number marks) (scaled_at room negative)
    (chosen (next_is sort.Time marks) (duration_term_at negative) (resource_term_at negative)) marks

-- ---- sums

-- the sum of one term
abbrev pub sum_of_term : LeveledTerm → LeveledSum
sum_of_term term = record { terms = term.0 ∷ []; height = term.1 }

-- the sum of a resource alone
abbrev pub sum_of_resource : RawName → LeveledSum
sum_of_resource name = sum_of_term (resource_term false name)

-- the sum with one term more
abbrev pub with_term : LeveledSum → LeveledTerm → LeveledSum
with_term sum term = record { terms = sum.terms ++ term.0 ∷ []; height = higher sum.height term.1 }

abbrev pub is_sum_sign : Mark → Bool
is_sum_sign = is_one_of (sort.Plus ∷ sort.Minus ∷ [])

-- "+" | "-": whether it is a minus
unfoldable pub sum_sign_at : List Mark → Parsed Bool
sum_sign_at marks = one_standing_for ((sort.Plus, false) ∷ (sort.Minus, true) ∷ []) marks

-- ( "+" | "-" ) wterm
unfoldable pub signed_term_at : ℕ → List Mark → Parsed LeveledTerm
signed_term_at room marks = do
  negative ← sum_sign_at marks
  term_at room negative.0 negative.1

-- the same, behind the terms so far
unfoldable pub next_term_at : ℕ → LeveledSum → List Mark → Parsed LeveledSum
next_term_at room so_far marks = do
  term ← signed_term_at room marks
  parsed (with_term so_far term.0) term.1

-- { ( "+" | "-" ) wterm }, behind the terms so far
unfoldable pub more_terms_at : ℕ → LeveledSum → List Mark → Parsed LeveledSum
more_terms_at room so_far marks = repeated is_sum_sign (next_term_at room) so_far marks

-- wsum = [ "-" ] wterm { ( "+" | "-" ) wterm }
unfoldable pub sum_at : ℕ → List Mark → Parsed LeveledSum
sum_at room marks = do
  negative ← has_at sort.Minus marks
  first ← term_at room negative.0 negative.1
  more_terms_at room (sum_of_term first.0) first.1

-- ---- sums that begin with no NAME

-- "-" wterm
unfoldable pub negative_term_at : ℕ → List Mark → Parsed LeveledTerm
negative_term_at room marks = do
  minus ← take_at sort.Minus marks
  term_at room true minus.1

-- "-" wterm | NUMBER [ "*" NAME ] | DURATION
unfoldable pub unnamed_term_at : ℕ → List Mark → Parsed LeveledTerm
unnamed_term_at room marks =
    chosen (next_is sort.Minus marks) (negative_term_at room)
    (chosen (next_is sort.Number marks) (scaled_at room false) (duration_term_at false)) marks

-- such a term { ( "+" | "-" ) wterm }
unfoldable pub unnamed_sum_at : ℕ → List Mark → Parsed LeveledSum
unnamed_sum_at room marks = do
  first ← unnamed_term_at room marks
  more_terms_at room (sum_of_term first.0) first.1
