-- Why a value, a name or a statement is of another type or kind than its place wants, and why a number is out of its range.
use Rattle.std.specs.Prelude.{ℕ, ◌&&◌, Bool, true, false, List, [], ◌∷◌, drop, Option, Some, None, if◌then◌else◌}
use Rattle.std.specs.Str.{bytes_eq}
use Rattle.aerie_text.specs.Sorts.{same_sort}
use Rattle.aerie_text.specs.declared.sorts.Sort.{Sort}
use Rattle.aerie_text.specs.declared.sorts.Sort.TheVariants as sort
use Rattle.explain.specs.Becauses.{about, is_among_sorts, plain, token_behind}
use Rattle.explain.specs.NameCauses.{cell_words, change_because, declaring_word, is_changed}
use Rattle.explain.specs.WordsOfTokens.{or_none, token_at_number, token_before, word_of_token}
use Rattle.explain.specs.declared.causes.Because.{Because}
use Rattle.explain.specs.declared.causes.Cause.TheVariants as cause
use Rattle.explain.specs.declared.sorted.SortedToken.{SortedToken}

-- ---- arguments

-- among the tokens, up to a semicolon, the name stands before a `=`; the first of the tokens follows this one
abbrev pub is_argument_given : List ℕ → List ℕ → SortedToken → List SortedToken → Bool
is_argument_given bytes name last [] = false
is_argument_given bytes name last (token ∷ later) =
    if same_sort sort.Semicolon token.sort then false
    else if same_sort sort.Assign token.sort && bytes_eq (word_of_token bytes last) name then true
    else is_argument_given bytes name token later

-- the parameter, where it is not given
abbrev pub lacking : List ℕ → List SortedToken → Option SortedToken → Option SortedToken
lacking bytes call None = None
lacking bytes call (Some parameter) = if is_argument_given bytes (word_of_token bytes parameter) (or_none None) call then None else Some parameter

abbrev pub parameter_or : Option SortedToken → Option SortedToken → Option SortedToken
parameter_or (Some token) other = Some token
parameter_or None other = other

-- the first parameter that is neither given nor has a default, in a list of parameters of which such tokens are left: behind a
-- parameter without a default so far, and behind this token
abbrev pub missing_parameter : List ℕ → List SortedToken → Option SortedToken → SortedToken → List SortedToken → Option SortedToken
missing_parameter bytes call pending last [] = None
missing_parameter bytes call pending last (token ∷ later) =
    if same_sort sort.Colon token.sort then missing_parameter bytes call (Some last) token later
    else if same_sort sort.Assign token.sort then missing_parameter bytes call None token later
    else if same_sort sort.Comma token.sort then parameter_or (lacking bytes call pending) (missing_parameter bytes call None token later)
    else if same_sort sort.CloseParenthesis token.sort then lacking bytes call pending
    else missing_parameter bytes call pending token later

-- what stands behind the name of the activity type where it is declared
abbrev pub behind_declared : List ℕ → List ℕ → Sort → List SortedToken → List SortedToken
behind_declared bytes name before [] = []
behind_declared bytes name before (token ∷ later) =
    if same_sort sort.Activity before && bytes_eq (word_of_token bytes token) name then later
    else behind_declared bytes name token.sort later

abbrev pub missing_because : SortedToken → Option SortedToken → Because
missing_because here None = about here cause.OtherType
missing_because here (Some parameter) = about parameter cause.MissingArgument

-- ---- values

-- what a truth stands behind, and what a whole number
abbrev pub truth_openers : List Sort
truth_openers =
    sort.If ∷ sort.While ∷ sort.Until ∷ sort.Require ∷ sort.DoubleAmpersand ∷ sort.DoubleBar ∷ sort.Exclamation ∷ sort.Not ∷ sort.And ∷ sort.Or ∷ []

abbrev pub number_openers : List Sort
number_openers =
    sort.Plus ∷ sort.Minus ∷ sort.Star ∷ sort.Slash ∷ sort.Percent ∷ sort.Less ∷ sort.LessEqual ∷ sort.Greater ∷ sort.GreaterEqual ∷
    sort.Delay ∷ sort.PlusAssign ∷ []

abbrev pub typed_because : SortedToken → SortedToken → Because
typed_because before here =
    if is_among_sorts truth_openers before.sort then about here cause.TruthWanted
    else if is_among_sorts number_openers before.sort then about here cause.NumberWanted
    else if is_among_sorts (sort.True ∷ sort.False ∷ []) here.sort then about here cause.TruthGiven
    else if is_among_sorts (sort.Number ∷ sort.Time ∷ sort.Minus ∷ []) here.sort then about here cause.NumberGiven
    else about here cause.OtherType

-- ---- the causes

-- by the tokens beside the first one
abbrev pub wrong_beside : List ℕ → List SortedToken → ℕ → SortedToken → SortedToken → SortedToken → Because
wrong_beside bytes tokens at before here behind =
    if same_sort sort.Return here.sort then plain cause.WrongReturn
    else if same_sort sort.Activity before.sort then about here cause.NoReturn
    else if is_changed before behind
    then change_because here (declaring_word cell_words bytes (word_of_token bytes here) sort.Arrow tokens)
    else if same_sort sort.Assign behind.sort then about here cause.ArgumentType
    else if same_sort sort.OpenParenthesis behind.sort
    then missing_because here
    (missing_parameter bytes (drop at tokens) None (or_none None) (behind_declared bytes (word_of_token bytes here) sort.Arrow tokens))
    else typed_because before here

abbrev pub wrong_because : List ℕ → List SortedToken → ℕ → Because
wrong_because bytes tokens at =
    wrong_beside bytes tokens at (token_before tokens at) (token_at_number tokens at) (token_behind tokens at)

-- by what the number stands behind
abbrev pub range_because : SortedToken → Because
range_because before =
    if same_sort sort.Every before.sort then plain cause.EveryRange
    else if same_sort sort.Count before.sort then plain cause.CountRange
    else if same_sort sort.Rate before.sort then plain cause.RateRange
    else if same_sort sort.Comma before.sort then plain cause.RangeEnd
    else if same_sort sort.To before.sort then plain cause.ToRange
    else plain cause.CoefficientRange
