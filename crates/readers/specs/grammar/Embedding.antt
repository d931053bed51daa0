-- A grammar inside another one, whose rules are some of the other's. A token of a sort may be one of several there.
use Rattle.std.specs.Prelude.{◌≡◌, ◌≤◌, false, List, [], ◌∷◌, IsTrue}
use Rattle.readers.specs.grammar.Forms.{Form, token, rule, nothing, both, either, many}
use Rattle.readers.specs.grammar.LazyReadings.{LazyReading}
use Rattle.readers.specs.grammar.Lookahead.{Lookahead, Ahead, remains, nullable, in_first, inside}

module _ {Rule Other Sort Kind : Type 0} (rule_there : Rule → Other) (token_there : Sort → Form Other Kind) where
  -- a form of the grammar, as a form of the other one
  abbrev pub there : Form Rule Sort → Form Other Kind
  there (token s) = token_there s
  there (rule r) = rule (rule_there r)
  there nothing = nothing
  there (both a b) = both (there a) (there b)
  there (either a b) = either (there a) (there b)
  there (many a) = many (there a)

  -- The grammar stands inside the other one: each of its rules has the same form there, begins with the same tokens, and may
  -- be empty where it may be; and what stands for a token of a sort reads exactly the tokens of the sort.
  pub record IsInside {Token : Type 0} (look : Lookahead Rule Sort Token) (other : Lookahead Other Kind Token) : Type 0 where
    pub form : (r : Rule) → other.grammar.form (rule_there r) ≡ there (look.grammar.form r)
    pub empty : (r : Rule) → other.nullable (rule_there r) ≡ look.nullable r
    pub first : (r : Rule) (k : Token) → other.first (rule_there r) k ≡ look.first r k
    pub openings : look.openings ≤ other.openings
    pub token_some : (s : Sort) → nullable other (token_there s) ≡ false
    pub token_first : (s : Sort) (k : Token) → in_first other (token_there s) k ≡ look.grammar.fits s k
    pub token_over : (s : Sort) (k : Token) (f : Other → List (Form Other Kind) → Token → Ahead Other Kind) (xs : List (Form Other Kind)) → inside other f (token_there s) xs k ≡ remains xs
    pub token_read : (s : Sort) (k : Token) → IsTrue (look.grammar.fits s k) → (xs : List (Form Other Kind)) → LazyReading other.grammar (token_there s ∷ xs) (k ∷ []) xs
