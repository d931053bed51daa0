-- Why a name is refused: what it names, where it stands, and what was declared before.
use Rattle.std.specs.Prelude.{ℕ, ◌-◌, ◌==◌, ◌&&◌, ◌||◌, Bool, not, List, [], ◌∷◌, take, Option, Some, None, if◌then◌else◌}
use Rattle.std.specs.List.{list_any}
use Rattle.std.specs.Str.{bytes_eq}
use Rattle.aerie_text.specs.Sorts.{same_sort}
use Rattle.aerie_text.specs.declared.sorts.Sort.{Sort}
use Rattle.aerie_text.specs.declared.sorts.Sort.TheVariants as sort
use Rattle.explain.specs.Becauses.{about, about_line, is_among_sorts, spot_line, token_behind}
use Rattle.explain.specs.WordsOfTokens.{or_none, token_at_number, token_before, word_of_token}
use Rattle.explain.specs.declared.causes.Because.{Because}
use Rattle.explain.specs.declared.causes.Cause.{Cause}
use Rattle.explain.specs.declared.causes.Cause.TheVariants as cause
use Rattle.explain.specs.declared.sorted.SortedToken.{SortedToken}

-- ---- what is declared

abbrev pub cell_words : List Sort
cell_words = sort.Counter ∷ sort.Register ∷ sort.Accumulator ∷ []

abbrev pub resource_words : List Sort
resource_words = sort.Discrete ∷ sort.Linear ∷ []

-- by which of these words the name is declared first, behind such a token; or an arrow where by none
abbrev pub declaring_word : List Sort → List ℕ → List ℕ → Sort → List SortedToken → Sort
declaring_word words bytes name before [] = sort.Arrow
declaring_word words bytes name before (token ∷ later) =
    if is_among_sorts words before && bytes_eq (word_of_token bytes token) name then before
    else declaring_word words bytes name token.sort later

-- a token of the sort is among them
abbrev pub has_sort : Sort → List SortedToken → Bool
has_sort one tokens = list_any (λ token. same_sort one token.sort) tokens

-- ---- statements

-- a statement changes what is named between the two
abbrev pub is_changed : SortedToken → SortedToken → Bool
is_changed before behind =
    is_among_sorts (sort.Semicolon ∷ sort.OpenBrace ∷ sort.CloseBrace ∷ []) before.sort
    && is_among_sorts (sort.Assign ∷ sort.PlusAssign ∷ sort.ColonAssign ∷ sort.Dot ∷ []) behind.sort

-- a cell that this word declares is not changed so
abbrev pub change_because : SortedToken → Sort → Because
change_because here word =
    if same_sort sort.Counter word then about here cause.CounterChange
    else if same_sort sort.Register word then about here cause.RegisterChange
    else if same_sort sort.Accumulator word then about here cause.AccumulatorChange
    else about here cause.LocalChange

-- ---- names that name nothing

-- by what a name is declared as, and whether it stands in rules, behind the plan
abbrev pub declared_because : SortedToken → Bool → Bool → Bool → Because
declared_because here in_rules is_cell is_resource =
    if in_rules && is_cell then about here cause.CellForResource
    else if is_resource then about here cause.ResourceForCell
    else about here cause.UnknownName

-- what a type of activity stands behind
abbrev pub type_openers : List Sort
type_openers = sort.Spawn ∷ sort.Call ∷ sort.Forbid ∷ sort.Cardinality ∷ sort.Recurrence ∷ sort.Coexistence ∷ sort.In ∷ []

-- what is changed is no local, and is declared by this word or is no cell
abbrev pub changed_because : SortedToken → Sort → Because
changed_because here word = if is_among_sorts cell_words word then change_because here word else about here cause.UnknownCell

-- by what stands before the name
abbrev pub unknown_behind : List ℕ → List SortedToken → ℕ → SortedToken → SortedToken → Because
unknown_behind bytes tokens at before here =
    if is_among_sorts (sort.From ∷ sort.To ∷ []) before.sort then about here cause.UnknownModel
    else if same_sort sort.Of before.sort && is_among_sorts (sort.Start ∷ sort.End ∷ []) (token_before tokens (at - 1)).sort then about here cause.UnknownType
    else if same_sort sort.Of before.sort then about here cause.UnknownModel
    else if same_sort sort.Keeping before.sort then about here cause.UnknownConstraint
    else if is_among_sorts (sort.Colon ∷ sort.Arrow ∷ []) before.sort && not (has_sort sort.Plan (take at tokens)) then about here cause.UnknownKind
    else declared_because here (has_sort sort.Plan (take at tokens))
    (is_among_sorts cell_words (declaring_word cell_words bytes (word_of_token bytes here) sort.Arrow tokens))
    (is_among_sorts resource_words (declaring_word resource_words bytes (word_of_token bytes here) sort.Arrow tokens))

-- by the tokens beside the name
abbrev pub unknown_beside : List ℕ → List SortedToken → ℕ → SortedToken → SortedToken → SortedToken → Because
unknown_beside bytes tokens at before here behind =
    if same_sort sort.Dot before.sort then about here cause.UnknownVariant
    else if is_changed before behind then changed_because here (declaring_word cell_words bytes (word_of_token bytes here) sort.Arrow tokens)
    else if same_sort sort.Assign behind.sort && not (same_sort sort.Colon before.sort) then about here cause.UnknownParameter
    else if is_among_sorts type_openers before.sort || same_sort sort.OpenParenthesis behind.sort then about here cause.UnknownType
    else unknown_behind bytes tokens at before here

abbrev pub unknown_because : List ℕ → List SortedToken → ℕ → Because
unknown_because bytes tokens at =
    unknown_beside bytes tokens at (token_before tokens at) (token_at_number tokens at) (token_behind tokens at)

-- ---- names that are taken

-- what sort of name stands between two such tokens: names of one class have to differ
abbrev pub class_of_name : Sort → Sort → ℕ
class_of_name before behind =
    if is_among_sorts (sort.Enum ∷ sort.Counter ∷ sort.Register ∷ sort.Accumulator ∷ sort.Activity ∷ []) before then 1
    else if is_among_sorts (sort.Discrete ∷ sort.Linear ∷ sort.Load ∷ []) before then 2
    else if same_sort sort.Let before then 3
    else if is_among_sorts (sort.OpenParenthesis ∷ sort.Comma ∷ []) before && same_sort sort.Colon behind then 3
    else if is_among_sorts (sort.OpenParenthesis ∷ sort.Comma ∷ []) before && same_sort sort.Assign behind then 4
    else if is_among_sorts (sort.OpenBrace ∷ sort.Comma ∷ []) before && is_among_sorts (sort.Comma ∷ sort.CloseBrace ∷ []) behind then 5
    else if same_sort sort.Colon behind then 6
    else if same_sort sort.Model before then 7
    else if same_sort sort.Client before then 8
    else 9

-- a local or a parameter has the name of none before it, and of no cell, enumeration or activity
abbrev pub may_differ : ℕ → ℕ → Bool
may_differ later earlier = (later == earlier) || ((later == 3) && (earlier == 1))

-- the last of the tokens that has the name and such a class; the first of them stands behind this one, before which stands this sort
abbrev pub last_named : List ℕ → List ℕ → ℕ → Option SortedToken → Sort → SortedToken → List SortedToken → Option SortedToken
last_named bytes name class found before last [] = found
last_named bytes name class found before last (token ∷ later) =
    last_named bytes name class
    (if may_differ class (class_of_name before token.sort) && bytes_eq (word_of_token bytes last) name then Some last else found)
    last.sort token later

-- by the first of the two
abbrev pub twice_because : List ℕ → Cause → SortedToken → Option SortedToken → Because
twice_because bytes why here None = about here cause.NameTaken
twice_because bytes why here (Some first) = about_line here why (spot_line bytes first.from)

abbrev pub duplicate_because : List ℕ → Cause → List SortedToken → ℕ → Because
duplicate_because bytes why tokens at =
    twice_because bytes why (token_at_number tokens at)
    (last_named bytes (word_of_token bytes (token_at_number tokens at))
    (class_of_name (token_before tokens at).sort (token_behind tokens at).sort) None sort.Arrow (or_none None) (take at tokens))
