-- A reader that looks one token ahead.
use Rattle.std.specs.Prelude.{ℕ, zero, suc, Bool, true, false, ◌&&◌, ◌||◌, List, [], ◌∷◌}
use Rattle.readers.specs.grammar.Forms.{Form, token, rule, nothing, both, either, many, Grammar}

-- A grammar and what one token of lookahead asks of its rules: whether a rule may read nothing, with which tokens it may
-- begin, and which tokens may follow it. `openings` bounds how many rules are opened, one inside another, before a token is read.
pub record Lookahead (Rule Sort Token : Type 0) : Type 0 where
  pub grammar : Grammar Rule Sort Token
  pub nullable : Rule → Bool
  pub first : Rule → Token → Bool
  pub follow : Rule → Token → Bool
  pub openings : ℕ

-- What is left to be read after one token: the token is refused, the reader would open too many rules before it, or
-- these forms remain.
pub data Ahead (Rule Sort : Type 0) : Type 0 where
  refused : Ahead Rule Sort
  unfinished : Ahead Rule Sort
  remains : List (Form Rule Sort) → Ahead Rule Sort

-- What a reader answers: all tokens are read and nothing is left, or it stops before these tokens.
pub data Answer (Token : Type 0) : Type 0 where
  whole : Answer Token
  stops : List Token → Answer Token

-- the first where the test holds, else the second; not both are computed
abbrev pub when : {Rule Sort : Type 0} → Bool → Ahead Rule Sort → Ahead Rule Sort → Ahead Rule Sort
when true a b = a
when false a b = b

-- goes on with what remains, or stops
abbrev pub go_on : {Rule Sort Token : Type 0} → Ahead Rule Sort → (List (Form Rule Sort) → Answer Token) → Answer Token → Answer Token
go_on (remains ys) f s = f ys
go_on refused f s = s
go_on unfinished f s = s

-- at the end of the tokens
abbrev pub at_end : {Token : Type 0} → Bool → Answer Token
at_end true = whole
at_end false = stops []

module _ {Rule Sort Token : Type 0} (look : Lookahead Rule Sort Token) where
  -- a form may read nothing
  abbrev pub nullable : Form Rule Sort → Bool
  nullable (token t) = false
  nullable (rule r) = look.nullable r
  nullable nothing = true
  nullable (both a b) = nullable a && nullable b
  nullable (either a b) = nullable a || nullable b
  nullable (many a) = true

  -- a form may begin with a token
  abbrev pub in_first : Form Rule Sort → Token → Bool
  in_first (token t) k = look.grammar.fits t k
  in_first (rule r) k = look.first r k
  in_first nothing k = false
  in_first (both a b) k = in_first a k || (nullable a && in_first b k)
  in_first (either a b) k = in_first a k || in_first b k
  in_first (many a) k = in_first a k

  -- a form may begin with the next token; at the end there is none
  abbrev pub next_in_first : Form Rule Sort → List Token → Bool
  next_in_first a [] = false
  next_in_first a (k ∷ ts) = in_first a k

  -- what is left to be read may begin with a token
  abbrev pub list_in_first : List (Form Rule Sort) → Token → Bool
  list_in_first [] k = false
  list_in_first (x ∷ xs) k = in_first x k || (nullable x && list_in_first xs k)

  -- what is left to be read may be nothing
  abbrev pub all_nullable : List (Form Rule Sort) → Bool
  all_nullable [] = true
  all_nullable (x ∷ xs) = nullable x && all_nullable xs

  -- one token, read by a form that begins with it; the function reads it by a rule
  abbrev pub inside : (Rule → List (Form Rule Sort) → Token → Ahead Rule Sort) → Form Rule Sort → List (Form Rule Sort) → Token → Ahead Rule Sort
  inside f (token t) xs k = remains xs
  inside f (rule r) xs k = f r xs k
  inside f nothing xs k = refused
  inside f (both a b) xs k = when (in_first a k) (inside f a (b ∷ xs) k) (inside f b xs k)
  inside f (either a b) xs k = when (in_first a k) (inside f a xs k) (inside f b xs k)
  inside f (many a) xs k = inside f a (many a ∷ xs) k

  -- the same, where at most so many rules are opened inside one another
  abbrev pub into : ℕ → Form Rule Sort → List (Form Rule Sort) → Token → Ahead Rule Sort
  into zero a xs k = inside (λ r ys j. unfinished) a xs k
  into (suc d) a xs k = inside (λ r ys j. into d (look.grammar.form r) ys j) a xs k

  -- what remains after one token
  abbrev pub next : ℕ → List (Form Rule Sort) → Token → Ahead Rule Sort
  next d [] k = refused
  next d (x ∷ xs) k = when (in_first x k) (into d x xs k) (when (nullable x) (next d xs k) refused)

  -- where the reader stops
  abbrev pub answer : List (Form Rule Sort) → List Token → Answer Token
  answer xs [] = at_end (all_nullable xs)
  answer xs (k ∷ ks) = go_on (next look.openings xs k) (λ ys. answer ys ks) (stops (k ∷ ks))
