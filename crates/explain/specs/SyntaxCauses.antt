-- Why no session goes on with the token at a spot, as far as the tokens beside it tell.
use Rattle.std.specs.Prelude.{ℕ, zero, suc, ◌+◌, ◌-◌, ◌==◌, ◌&&◌, ◌||◌, Bool, not, nat_lt, List, [], ◌∷◌, drop, length, take, Option, Some, None, codes, if◌then◌else◌}
use Rattle.std.specs.Char.{is_ascii_digit}
use Rattle.std.specs.List.{prefix_len}
use Rattle.std.specs.Str.{bytes_eq}
use Rattle.aerie_text.specs.Bytes.{is_letter, is_white, is_word_byte}
use Rattle.aerie_text.specs.Sorts.{same_sort}
use Rattle.aerie_text.specs.declared.sorts.Sort.{Sort}
use Rattle.aerie_text.specs.declared.sorts.Sort.TheVariants as sort
use Rattle.explain.specs.Becauses.{about, about_line, across, is_letter_word, is_among_sorts, spot_line, of_line, plain, token_behind}
use Rattle.explain.specs.WordsOfTokens.{token_at_number, token_before, word_of_token}
use Rattle.explain.specs.NameCauses.{has_sort}
use Rattle.explain.specs.declared.causes.Because.{Because}
use Rattle.explain.specs.declared.causes.Cause.{Cause}
use Rattle.explain.specs.declared.causes.Cause.TheVariants as cause
use Rattle.explain.specs.declared.sorted.SortedToken.{SortedToken}
use Rattle.explain.specs.declared.syntax.Beside.{Beside}

-- ---- numbers

-- a number with a point and digits behind it
abbrev pub is_fraction : SortedToken → SortedToken → SortedToken → Bool
is_fraction before here behind =
    is_among_sorts (sort.Number ∷ sort.Time ∷ []) before.sort && same_sort sort.Dot here.sort && is_among_sorts (sort.Number ∷ sort.Time ∷ []) behind.sort

-- a duration with letters or digits directly behind it
abbrev pub is_glued : List ℕ → SortedToken → SortedToken → Bool
is_glued bytes before here =
    same_sort sort.Time before.sort && (before.to == here.from)
    && (is_letter_word bytes here || is_among_sorts (sort.Number ∷ sort.Time ∷ []) here.sort)

-- a comma with digits on both sides
abbrev pub is_grouped : SortedToken → SortedToken → SortedToken → Bool
is_grouped before here behind =
    same_sort sort.Number before.sort && same_sort sort.Comma here.sort && same_sort sort.Number behind.sort
    && (before.to == here.from) && (here.to == behind.from)

-- ---- reserved words

abbrev pub is_reserved_word : List ℕ → SortedToken → Bool
is_reserved_word bytes token = is_letter_word bytes token && not (same_sort sort.Name token.sort)

-- what a name stands behind
abbrev pub name_openers : List Sort
name_openers =
    sort.Enum ∷ sort.Counter ∷ sort.Register ∷ sort.Accumulator ∷ sort.Discrete ∷ sort.Linear ∷ sort.Activity ∷ sort.Model ∷ sort.Plan ∷
    sort.Client ∷ sort.Let ∷ sort.Spawn ∷ sort.Call ∷ sort.For ∷ sort.Forbid ∷ sort.Of ∷ sort.New ∷ sort.Fork ∷ sort.Drop ∷ sort.Add ∷
    sort.Remove ∷ sort.Set ∷ sort.Show ∷ sort.Simulate ∷ sort.Schedule ∷ sort.Expand ∷ sort.Merge ∷ sort.Load ∷ sort.Keeping ∷ sort.Dot ∷ []

-- what stands before the first name of a part, and what stands behind it
abbrev pub part_openers : List Sort
part_openers = sort.OpenBrace ∷ sort.CloseBrace ∷ sort.OpenParenthesis ∷ sort.Comma ∷ sort.Semicolon ∷ []

abbrev pub name_closers : List Sort
name_closers = sort.Colon ∷ sort.Assign ∷ sort.PlusAssign ∷ sort.ColonAssign ∷ []

-- a name stands between two such tokens
abbrev pub wants_name : SortedToken → SortedToken → Bool
wants_name before behind =
    is_among_sorts name_openers before.sort
    || (is_among_sorts part_openers before.sort && is_among_sorts name_closers behind.sort)
    || (is_among_sorts (sort.OpenBrace ∷ sort.Comma ∷ []) before.sort && is_among_sorts (sort.Comma ∷ sort.CloseBrace ∷ []) behind.sort)

-- what a value stands behind
abbrev pub value_openers : List Sort
value_openers =
    sort.Assign ∷ sort.PlusAssign ∷ sort.ColonAssign ∷ sort.Plus ∷ sort.Minus ∷ sort.Star ∷ sort.Slash ∷ sort.Percent ∷ sort.DoubleEqual ∷
    sort.NotEqual ∷ sort.Less ∷ sort.LessEqual ∷ sort.Greater ∷ sort.GreaterEqual ∷ sort.DoubleAmpersand ∷ sort.DoubleBar ∷ sort.Exclamation ∷
    sort.OpenParenthesis ∷ sort.If ∷ sort.While ∷ sort.Until ∷ sort.Delay ∷ sort.Require ∷ sort.And ∷ sort.Or ∷ sort.Not ∷ []

-- ---- braces

-- the token before those that are read, from the last of them back, where so many braces are closed
abbrev pub open_turn : SortedToken → ℕ → (ℕ → Option SortedToken) → Option SortedToken
open_turn token depth before =
    if same_sort sort.CloseBrace token.sort then before (depth + 1)
    else if same_sort sort.OpenBrace token.sort then (if depth == 0 then Some token else before (depth - 1))
    else before depth

-- the last brace of the first so many tokens that none of them closes, nor the braces that are closed behind them
abbrev pub open_brace : List SortedToken → ℕ → ℕ → Option SortedToken
open_brace tokens depth zero = None
open_brace tokens depth (suc count) = open_turn (token_at_number tokens count) depth (λ deeper. open_brace tokens deeper count)

-- the words that begin a section, or a part of a model
abbrev pub section_words : List Sort
section_words =
    sort.Model ∷ sort.Plan ∷ sort.Client ∷ sort.Constraints ∷ sort.Goals ∷ sort.From ∷ sort.Activity ∷ sort.Daemon ∷ sort.Enum ∷
    sort.Counter ∷ sort.Register ∷ sort.Accumulator ∷ sort.Discrete ∷ sort.Linear ∷ []

-- what ends a part before them
abbrev pub part_ends : List Sort
part_ends = sort.Semicolon ∷ sort.OpenBrace ∷ sort.CloseBrace ∷ []

-- a section begins here, in a word or, where the rules before it took the word, in its brace
abbrev pub begins_section : Beside → Bool
begins_section it =
    (is_among_sorts section_words it.here.sort && is_among_sorts part_ends it.before.sort)
    || (same_sort sort.OpenBrace it.here.sort
    && (is_among_sorts (sort.Constraints ∷ sort.Goals ∷ sort.Sequence ∷ []) it.before.sort || same_sort sort.Client it.second))

-- ---- what stands beside a token

-- the tokens around the one of this number
abbrev pub tokens_around : List SortedToken → ℕ → Beside
tokens_around tokens at = record {
  fourth = (token_before tokens (at - 3)).sort;
  third = (token_before tokens (at - 2)).sort;
  second = (token_before tokens (at - 1)).sort;
  before = token_before tokens at;
  here = token_at_number tokens at;
  behind = token_behind tokens at;
}

-- ---- the causes, the more special first

-- what a statement may end with, before its semicolon
abbrev pub statement_ends : List Sort
statement_ends =
    sort.Name ∷ sort.Number ∷ sort.Time ∷ sort.True ∷ sort.False ∷ sort.Quoted ∷ sort.Raw ∷ sort.CloseParenthesis ∷ sort.CloseBracket ∷
    sort.Volume ∷ sort.Rate ∷ sort.Conflicted ∷ sort.Rollback ∷ sort.Return ∷ []

-- a token that nothing more is known of
abbrev pub unexpected_because : List ℕ → Beside → Because
unexpected_because bytes it =
    if is_among_sorts name_openers it.before.sort then about it.here cause.NameWanted
    else if is_among_sorts value_openers it.before.sort then about it.here cause.ValueWanted
    else if is_among_sorts statement_ends it.before.sort && nat_lt (spot_line bytes it.before.to) (spot_line bytes it.here.from)
    then about_line it.here cause.MissingSemicolon (spot_line bytes it.before.to)
    else about it.here cause.Unexpected

-- a name at the beginning of a part: of a command, a directive, or a part of a model
abbrev pub part_because : List SortedToken → ℕ → Beside → Because
part_because tokens at it =
    if has_sort sort.Client (take at tokens) then about it.here cause.NoCommand
    else if has_sort sort.Plan (take at tokens) then plain cause.DirectiveAt
    else about it.here cause.NoPart

-- the words that begin a section
abbrev pub section_heads : List Sort
section_heads =
    sort.Model ∷ sort.From ∷ sort.Plan ∷ sort.Load ∷ sort.Constraints ∷ sort.Goals ∷ sort.Sequence ∷ sort.Client ∷ []

-- outside all braces
abbrev pub outside_because : List ℕ → Beside → Because
outside_because bytes it =
    if same_sort sort.CloseBrace it.here.sort then plain cause.ClosesNothing
    else if is_among_sorts section_heads it.here.sort then about it.here cause.SectionOrder
    else if same_sort sort.Name it.here.sort && is_among_sorts (sort.CloseBrace ∷ sort.Semicolon ∷ sort.Arrow ∷ []) it.before.sort
    then about it.here cause.NoSection
    else unexpected_because bytes it

-- by the brace that is open there
abbrev pub brace_because : List ℕ → List SortedToken → ℕ → Beside → Option SortedToken → Because
brace_because bytes tokens at it None = outside_because bytes it
brace_because bytes tokens at it (Some brace) =
    if begins_section it then of_line cause.OpenBrace (spot_line bytes brace.from)
    else if same_sort sort.Name it.here.sort && is_among_sorts part_ends it.before.sort then part_because tokens at it
    else unexpected_because bytes it

-- a token that is a reserved word or not
abbrev pub reserved_because : List ℕ → List SortedToken → ℕ → Beside → Because
reserved_because bytes tokens at it =
    if is_reserved_word bytes it.here && wants_name it.before it.behind then about it.here cause.ReservedName
    else if is_reserved_word bytes it.here && is_among_sorts value_openers it.before.sort then about it.here cause.ReservedValue
    else brace_because bytes tokens at it (open_brace tokens 0 at)

-- what a literal begins with
abbrev pub literal_sorts : List Sort
literal_sorts = sort.Number ∷ sort.Time ∷ sort.True ∷ sort.False ∷ sort.Minus ∷ sort.Quoted ∷ []

-- an argument is given without its name
abbrev pub is_unnamed : Beside → Bool
is_unnamed it =
    (same_sort sort.OpenParenthesis it.before.sort && same_sort sort.Name it.second && is_among_sorts literal_sorts it.here.sort)
    || (is_among_sorts (sort.Comma ∷ sort.CloseParenthesis ∷ []) it.here.sort && same_sort sort.Name it.before.sort
    && same_sort sort.OpenParenthesis it.second && same_sort sort.Name it.third)
    || (same_sort sort.Colon it.here.sort && same_sort sort.Name it.before.sort
    && is_among_sorts (sort.OpenParenthesis ∷ sort.Comma ∷ []) it.second)

-- an activity is named where a statement or a directive begins
abbrev pub is_bare_call : Beside → Bool
is_bare_call it =
    same_sort sort.OpenParenthesis it.here.sort && same_sort sort.Name it.before.sort && is_among_sorts part_ends it.second

-- an activity is named with nothing behind it
abbrev pub is_without_arguments : Beside → Bool
is_without_arguments it =
    same_sort sort.Semicolon it.here.sort && same_sort sort.Name it.before.sort
    && is_among_sorts (sort.Spawn ∷ sort.Call ∷ sort.Time ∷ sort.Quoted ∷ []) it.second

-- parts that lack something
abbrev pub lacking_because : List ℕ → List SortedToken → ℕ → Beside → Because
lacking_because bytes tokens at it =
    if same_sort sort.Assign it.here.sort && same_sort sort.Register it.second then about it.before cause.RegisterType
    else if same_sort sort.Semicolon it.here.sort && same_sort sort.Accumulator it.fourth then plain cause.AccumulatorRate
    else if is_without_arguments it then about it.before cause.MissingParentheses
    else if is_bare_call it && has_sort sort.Plan (take at tokens) then plain cause.DirectiveAt
    else if is_bare_call it then about it.before cause.CallWord
    else if is_unnamed it && same_sort sort.Activity it.fourth then about it.before cause.ParameterType
    else if is_unnamed it then plain cause.NamedArgument
    else reserved_because bytes tokens at it

-- a plan that begins otherwise
abbrev pub is_plan_head : Beside → Bool
is_plan_head it =
    (same_sort sort.OpenBrace it.before.sort && same_sort sort.Plan it.third)
    || (same_sort sort.Semicolon it.before.sort && same_sort sort.Quoted it.second && same_sort sort.Start it.third)

-- what a truth stands behind in a statement
abbrev pub test_openers : List Sort
test_openers = sort.If ∷ sort.While ∷ sort.Until ∷ sort.Require ∷ sort.DoubleAmpersand ∷ sort.DoubleBar ∷ sort.Exclamation ∷ []

-- what a name is declared behind
abbrev pub value_words : List Sort
value_words = sort.Counter ∷ sort.Accumulator ∷ sort.Discrete ∷ sort.Linear ∷ sort.Let ∷ []

-- signs and words that stand in place of others
abbrev pub sign_because : List ℕ → List SortedToken → ℕ → Beside → Because
sign_because bytes tokens at it =
    if is_among_sorts (sort.And ∷ sort.Or ∷ sort.Not ∷ []) it.here.sort && not (has_sort sort.Plan (take at tokens))
    && not (is_among_sorts name_openers it.before.sort)
    then about it.here cause.WordOperator
    else if is_among_sorts (sort.DoubleAmpersand ∷ sort.DoubleBar ∷ sort.Exclamation ∷ []) it.here.sort && has_sort sort.Plan (take at tokens)
    then about it.here cause.SignOperator
    else if same_sort sort.Else it.before.sort && same_sort sort.If it.here.sort then plain cause.ElseIf
    else if same_sort sort.Wait it.before.sort then plain cause.WaitUntil
    else if same_sort sort.Assign it.here.sort && is_among_sorts test_openers it.second then plain cause.CompareWanted
    else if is_among_sorts (sort.ColonAssign ∷ sort.DoubleEqual ∷ []) it.here.sort && is_among_sorts value_words it.second then about it.here cause.DeclaredByEqual
    else lacking_because bytes tokens at it

-- the units of time
abbrev pub is_unit : List ℕ → Bool
is_unit word =
    bytes_eq word (codes "d") || bytes_eq word (codes "h") || bytes_eq word (codes "min") || bytes_eq word (codes "s")
    || bytes_eq word (codes "ms") || bytes_eq word (codes "us")

-- numbers and times
abbrev pub token_because : List ℕ → List SortedToken → ℕ → Beside → Because
token_because bytes tokens at it =
    if is_fraction it.before it.here it.behind then across it.before it.behind cause.Fraction
    else if is_glued bytes it.before it.here then across it.before it.here cause.BadUnit
    else if is_grouped it.before it.here it.behind then plain cause.GroupedDigits
    else if same_sort sort.Number it.before.sort && is_unit (word_of_token bytes it.here) then across it.before it.here cause.SpacedUnit
    else if same_sort sort.Number it.here.sort && is_among_sorts (sort.At ∷ sort.Duration ∷ sort.Every ∷ []) it.before.sort then about it.here cause.NoUnit
    else if same_sort sort.Number it.before.sort && same_sort sort.Of it.second then plain cause.AnchorTime
    else if same_sort sort.Start it.before.sort && same_sort sort.OpenBrace it.second then plain cause.StartText
    else if is_plan_head it then plain cause.PlanBegins
    else sign_because bytes tokens at it

-- where the text ends, by the brace that is open
abbrev pub ended_because : List ℕ → Option SortedToken → Because
ended_because bytes None = plain cause.EndsTooEarly
ended_because bytes (Some brace) = of_line cause.OpenBrace (spot_line bytes brace.from)

-- bytes of a text from one place on
abbrev pub bytes_because : ℕ → ℕ → Cause → Because
bytes_because from count cause = record { cause = cause; from = from; to = from + count; number = 0 }

-- four digits in front of a dash begin an instant
abbrev pub is_year : List ℕ → Bool
is_year rest = (prefix_len is_ascii_digit rest == 4) && bytes_eq (take 1 (drop 4 rest)) (codes "-")

-- where digits begin no number
abbrev pub digits_because : ℕ → List ℕ → Because
digits_because offset rest =
    if is_year rest then plain cause.StartText
    else if prefix_len is_word_byte rest == prefix_len is_ascii_digit rest
    then bytes_because offset (prefix_len is_word_byte rest) cause.LongNumber
    else bytes_because offset (prefix_len is_word_byte rest) cause.BadUnit

-- where no token begins, by what stands there
abbrev pub uncut_because : ℕ → ℕ → List ℕ → Because
uncut_because offset first rest =
    if is_white first then plain cause.MoreExpected
    else if is_ascii_digit first then digits_because offset rest
    else if is_letter first then plain cause.LongWord
    else if first == 34 then plain cause.OpenQuote
    else if first == 96 then plain cause.OpenBackquote
    else if (offset == 0) && (first == 239) then plain cause.ByteOrderMark
    else bytes_because offset 1 cause.NoToken

abbrev pub rest_because : List ℕ → List SortedToken → ℕ → List ℕ → Because
rest_because bytes tokens offset [] = ended_because bytes (open_brace tokens 0 (length tokens))
rest_because bytes tokens offset (first ∷ rest) = uncut_because offset first (first ∷ rest)

-- the token of this number begins at the byte
abbrev pub stands_at : List SortedToken → ℕ → ℕ → Bool
stands_at tokens at offset = nat_lt at (length tokens) && ((token_at_number tokens at).from == offset)

-- why no session goes on at a byte, before which so many tokens stand
abbrev pub syntax_because : List ℕ → List SortedToken → ℕ → ℕ → Because
syntax_because bytes tokens offset at =
    if stands_at tokens at offset
    then token_because bytes tokens at (tokens_around tokens at)
    else rest_because bytes tokens offset (drop offset bytes)
