-- Symbols: marks of one or two characters.
use Rattle.std.specs.Prelude.{◌≡◌, ℕ, Bool, List, [], ◌∷◌, Option, Some, None, nat_eq, codes, if◌then◌else◌, refl}
use Rattle.std.specs.List.{list_any, starts_with}
use Rattle.aerie_text.specs.Bytes.{begins_with}

-- the symbols of one character
abbrev pub single_symbols : List ℕ
single_symbols = codes "{}()[],;:.=+-*/%!<>"

-- the symbols of two characters
abbrev pub double_symbols : List (List ℕ)
double_symbols =
    codes ":=" ∷ codes "+=" ∷ codes "==" ∷ codes "!=" ∷ codes "<=" ∷ codes ">=" ∷ codes "&&" ∷ codes "||" ∷ codes "->" ∷ []

abbrev pub is_single_symbol : ℕ → Bool
is_single_symbol byte = list_any (λ symbol. nat_eq byte symbol) single_symbols

abbrev pub begins_double_symbol : List ℕ → Bool
begins_double_symbol text = list_any (λ symbol. starts_with nat_eq text symbol) double_symbols

-- how long the symbol in front is, where there is one: as long as can be
unfoldable pub symbol_len : List ℕ → Option ℕ
symbol_len text =
    if begins_double_symbol text then Some 2
    else if begins_with is_single_symbol text then Some 1
    else None

-- ---- worked cases

pub minus : symbol_len (codes "-") ≡ Some 1
unfolding symbol_len
minus = refl

pub arrow : symbol_len (codes "->") ≡ Some 2
unfolding symbol_len
arrow = refl

pub less_and_minus : symbol_len (codes "<-") ≡ Some 1
unfolding symbol_len
less_and_minus = refl

pub doubled_equals : symbol_len (codes "===") ≡ Some 2
unfolding symbol_len
doubled_equals = refl

pub one_ampersand : symbol_len (codes "& &") ≡ None
unfolding symbol_len
one_ampersand = refl
