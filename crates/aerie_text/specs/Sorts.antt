-- The sorts of tokens: reserved words, names, numbers, texts and symbols.
use Rattle.std.specs.Prelude.{◌≡◌, ℕ, ◌==◌, filter, Bool, false, List, [], ◌∷◌, nat_eq, codes, if◌then◌else◌, refl}
use Rattle.std.specs.Str.{bytes_eq}
use Rattle.aerie_text.specs.Bytes.{begins_with}
use Rattle.aerie_text.specs.declared.token.TokenKind.{TokenKind}
use Rattle.aerie_text.specs.declared.token.TokenKind.TheVariants as kind
use Rattle.aerie_text.specs.declared.sorts.Sort.{Sort}
use Rattle.aerie_text.specs.declared.sorts.Sort.TheVariants as sort

-- the number of a sort: the sorts are numbered in the order in which they are declared
abbrev pub number_of : Sort → ℕ
number_of sort.Accumulator = 0
number_of sort.Activity = 1
number_of sort.Add = 2
number_of sort.And = 3
number_of sort.At = 4
number_of sort.Call = 5
number_of sort.Cardinality = 6
number_of sort.Client = 7
number_of sort.Coexistence = 8
number_of sort.Conflicted = 9
number_of sort.Constraints = 10
number_of sort.Count = 11
number_of sort.Counter = 12
number_of sort.Daemon = 13
number_of sort.Delay = 14
number_of sort.Discrete = 15
number_of sort.Drop = 16
number_of sort.Duration = 17
number_of sort.During = 18
number_of sort.Else = 19
number_of sort.End = 20
number_of sort.Enum = 21
number_of sort.Every = 22
number_of sort.Expand = 23
number_of sort.False = 24
number_of sort.For = 25
number_of sort.Forbid = 26
number_of sort.Fork = 27
number_of sort.From = 28
number_of sort.Goals = 29
number_of sort.If = 30
number_of sort.In = 31
number_of sort.Int = 32
number_of sort.Keeping = 33
number_of sort.Let = 34
number_of sort.Linear = 35
number_of sort.Load = 36
number_of sort.Longer = 37
number_of sort.Merge = 38
number_of sort.Model = 39
number_of sort.Move = 40
number_of sort.New = 41
number_of sort.Not = 42
number_of sort.Of = 43
number_of sort.Or = 44
number_of sort.Plan = 45
number_of sort.Rate = 46
number_of sort.Recurrence = 47
number_of sort.Register = 48
number_of sort.Remove = 49
number_of sort.Require = 50
number_of sort.Return = 51
number_of sort.Rollback = 52
number_of sort.Schedule = 53
number_of sort.Sequence = 54
number_of sort.Set = 55
number_of sort.Shift = 56
number_of sort.Show = 57
number_of sort.Simulate = 58
number_of sort.Spawn = 59
number_of sort.Start = 60
number_of sort.To = 61
number_of sort.True = 62
number_of sort.Truth = 63
number_of sort.Until = 64
number_of sort.Volume = 65
number_of sort.Wait = 66
number_of sort.While = 67
number_of sort.Window = 68
number_of sort.Name = 69
number_of sort.Number = 70
number_of sort.Time = 71
number_of sort.Quoted = 72
number_of sort.Raw = 73
number_of sort.OpenBrace = 74
number_of sort.CloseBrace = 75
number_of sort.OpenParenthesis = 76
number_of sort.CloseParenthesis = 77
number_of sort.OpenBracket = 78
number_of sort.CloseBracket = 79
number_of sort.Comma = 80
number_of sort.Semicolon = 81
number_of sort.Colon = 82
number_of sort.Dot = 83
number_of sort.Assign = 84
number_of sort.Plus = 85
number_of sort.Minus = 86
number_of sort.Star = 87
number_of sort.Slash = 88
number_of sort.Percent = 89
number_of sort.Exclamation = 90
number_of sort.Less = 91
number_of sort.Greater = 92
number_of sort.ColonAssign = 93
number_of sort.PlusAssign = 94
number_of sort.DoubleEqual = 95
number_of sort.NotEqual = 96
number_of sort.LessEqual = 97
number_of sort.GreaterEqual = 98
number_of sort.DoubleAmpersand = 99
number_of sort.DoubleBar = 100
number_of sort.Arrow = 101

-- whether two are one sort
abbrev pub same_sort : Sort → Sort → Bool
same_sort a b = nat_eq (number_of a) (number_of b)

-- the reserved words, each with its sort
abbrev pub reserved_words : List (List ℕ × Sort)
reserved_words =
    (codes "accumulator", sort.Accumulator) ∷ (codes "activity", sort.Activity) ∷ (codes "add", sort.Add) ∷
    (codes "and", sort.And) ∷ (codes "at", sort.At) ∷ (codes "call", sort.Call) ∷
    (codes "cardinality", sort.Cardinality) ∷ (codes "client", sort.Client) ∷ (codes "coexistence", sort.Coexistence) ∷
    (codes "conflicted", sort.Conflicted) ∷ (codes "constraints", sort.Constraints) ∷ (codes "count", sort.Count) ∷
    (codes "counter", sort.Counter) ∷ (codes "daemon", sort.Daemon) ∷ (codes "delay", sort.Delay) ∷
    (codes "discrete", sort.Discrete) ∷ (codes "drop", sort.Drop) ∷ (codes "duration", sort.Duration) ∷
    (codes "during", sort.During) ∷ (codes "else", sort.Else) ∷ (codes "end", sort.End) ∷ (codes "enum", sort.Enum) ∷
    (codes "every", sort.Every) ∷ (codes "expand", sort.Expand) ∷ (codes "false", sort.False) ∷
    (codes "for", sort.For) ∷ (codes "forbid", sort.Forbid) ∷ (codes "fork", sort.Fork) ∷ (codes "from", sort.From) ∷
    (codes "goals", sort.Goals) ∷ (codes "if", sort.If) ∷ (codes "in", sort.In) ∷ (codes "int", sort.Int) ∷
    (codes "keeping", sort.Keeping) ∷ (codes "let", sort.Let) ∷ (codes "linear", sort.Linear) ∷
    (codes "load", sort.Load) ∷ (codes "longer", sort.Longer) ∷ (codes "merge", sort.Merge) ∷
    (codes "model", sort.Model) ∷ (codes "move", sort.Move) ∷ (codes "new", sort.New) ∷ (codes "not", sort.Not) ∷
    (codes "of", sort.Of) ∷ (codes "or", sort.Or) ∷ (codes "plan", sort.Plan) ∷ (codes "rate", sort.Rate) ∷
    (codes "recurrence", sort.Recurrence) ∷ (codes "register", sort.Register) ∷ (codes "remove", sort.Remove) ∷
    (codes "require", sort.Require) ∷ (codes "return", sort.Return) ∷ (codes "rollback", sort.Rollback) ∷
    (codes "schedule", sort.Schedule) ∷ (codes "sequence", sort.Sequence) ∷ (codes "set", sort.Set) ∷
    (codes "shift", sort.Shift) ∷ (codes "show", sort.Show) ∷ (codes "simulate", sort.Simulate) ∷
    (codes "spawn", sort.Spawn) ∷ (codes "start", sort.Start) ∷ (codes "to", sort.To) ∷ (codes "true", sort.True) ∷
    (codes "truth", sort.Truth) ∷ (codes "until", sort.Until) ∷ (codes "volume", sort.Volume) ∷
    (codes "wait", sort.Wait) ∷ (codes "while", sort.While) ∷ (codes "window", sort.Window) ∷ []

-- the reserved words that begin with this letter, each with its sort
abbrev pub reserved_from : ℕ → List (List ℕ × Sort)
reserved_from letter = filter (λ entry. begins_with (λ first. first == letter) entry.0) reserved_words

-- the symbols, each with its sort; the order tells no more than how soon one is found
abbrev pub symbols : List (List ℕ × Sort)
symbols =
    (codes ";", sort.Semicolon) ∷ (codes "(", sort.OpenParenthesis) ∷ (codes ")", sort.CloseParenthesis) ∷
    (codes "=", sort.Assign) ∷ (codes ",", sort.Comma) ∷ (codes ".", sort.Dot) ∷ (codes "{", sort.OpenBrace) ∷
    (codes "}", sort.CloseBrace) ∷ (codes "[", sort.OpenBracket) ∷ (codes "]", sort.CloseBracket) ∷
    (codes ":", sort.Colon) ∷ (codes "+", sort.Plus) ∷ (codes "-", sort.Minus) ∷ (codes "*", sort.Star) ∷
    (codes "/", sort.Slash) ∷ (codes "%", sort.Percent) ∷ (codes "!", sort.Exclamation) ∷ (codes "<", sort.Less) ∷
    (codes ">", sort.Greater) ∷ (codes ":=", sort.ColonAssign) ∷ (codes "+=", sort.PlusAssign) ∷
    (codes "==", sort.DoubleEqual) ∷ (codes "!=", sort.NotEqual) ∷ (codes "<=", sort.LessEqual) ∷
    (codes ">=", sort.GreaterEqual) ∷ (codes "&&", sort.DoubleAmpersand) ∷ (codes "||", sort.DoubleBar) ∷
    (codes "->", sort.Arrow) ∷ []

-- the sort that a table gives a text, or else this one
abbrev pub sort_in : List (List ℕ × Sort) → Sort → List ℕ → Sort
sort_in [] otherwise text = otherwise
sort_in (entry ∷ later) otherwise text = if bytes_eq entry.0 text then entry.1 else sort_in later otherwise text

-- the sort of a word: a word that is not reserved is a name
unfoldable pub word_sort : List ℕ → Sort
word_sort text = sort_in reserved_words sort.Name text

-- the sort of a symbol
unfoldable pub symbol_sort : List ℕ → Sort
symbol_sort text = sort_in symbols sort.Arrow text

-- the sort of a token of this kind and this text
abbrev pub sort_of_kind : TokenKind → List ℕ → Sort
sort_of_kind kind.Word text = word_sort text
sort_of_kind kind.Number text = sort.Number
sort_of_kind kind.Duration text = sort.Time
sort_of_kind kind.Quoted text = sort.Quoted
sort_of_kind kind.Raw text = sort.Raw
sort_of_kind kind.Symbol text = symbol_sort text

-- ---- worked cases

pub a_reserved_word : word_sort (codes "while") ≡ sort.While
unfolding word_sort
a_reserved_word = refl

pub a_name : word_sort (codes "whiles") ≡ sort.Name
unfolding word_sort
a_name = refl

pub an_arrow : symbol_sort (codes "->") ≡ sort.Arrow
unfolding symbol_sort
an_arrow = refl

pub two_equals : symbol_sort (codes "==") ≡ sort.DoubleEqual
unfolding symbol_sort
two_equals = refl

pub the_word_duration : same_sort (word_sort (codes "duration")) sort.Time ≡ false
unfolding word_sort
the_word_duration = refl
