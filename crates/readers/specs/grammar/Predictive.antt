-- The conditions under which one token of lookahead decides each choice. For a grammar at hand each is decided by computation.
use Rattle.std.specs.Prelude.{ℕ, zero, suc, Bool, true, false, not, ◌&&◌, ◌||◌, List, [], ◌∷◌, IsTrue}
use Rattle.readers.specs.grammar.Forms.{Form, token, rule, nothing, both, either, many}
use Rattle.readers.specs.grammar.Lookahead.{Lookahead, nullable, in_first, list_in_first}

module _ {Rule Sort Token : Type 0} (look : Lookahead Rule Sort Token) where
  -- Of two forms at most one fits a token: not both may be empty, not both may begin with the token, and neither begins
  -- with a token that may follow where the other is empty.
  abbrev pub apart : Form Rule Sort → Form Rule Sort → (Token → Bool) → Token → Bool
  apart a b follow k =
      not (nullable look a && nullable look b) && not (in_first look a k && in_first look b k) && not (in_first look a k && (nullable look b && follow k)) && not (in_first look b k && (nullable look a && follow k))

  -- one token decides each choice in the form, where these tokens may follow it
  abbrev pub IsDecided : Form Rule Sort → (Token → Bool) → Type 0
  IsDecided (token t) follow = Unit {0}
  IsDecided (rule r) follow = (k : Token) → IsTrue (follow k) → IsTrue (look.follow r k)
  IsDecided nothing follow = Unit {0}
  IsDecided (both a b) follow = IsDecided a (λ k. in_first look b k || (nullable look b && follow k)) × IsDecided b follow
  IsDecided (either a b) follow = IsDecided a follow × IsDecided b follow × ((k : Token) → IsTrue (apart a b follow k))
  IsDecided (many a) follow = IsDecided a (λ k. in_first look a k || follow k) × IsTrue (not (nullable look a)) × ((k : Token) → IsTrue (not (in_first look a k && follow k)))

  -- one token decides each choice in what is left to be read
  abbrev pub AreDecided : List (Form Rule Sort) → Type 0
  AreDecided [] = Unit {0}
  AreDecided (x ∷ xs) = IsDecided x (list_in_first look xs) × AreDecided xs

  -- a form comes to a token; the function says it of a rule
  abbrev pub shallow_inside : (Rule → Bool) → Form Rule Sort → Bool
  shallow_inside f (token t) = true
  shallow_inside f (rule r) = f r
  shallow_inside f nothing = true
  shallow_inside f (both a b) = shallow_inside f a && (not (nullable look a) || shallow_inside f b)
  shallow_inside f (either a b) = shallow_inside f a && shallow_inside f b
  shallow_inside f (many a) = shallow_inside f a

  -- a form comes to a token, or to its end, within so many openings of rules inside one another
  abbrev pub shallow : ℕ → Form Rule Sort → Bool
  shallow zero a = shallow_inside (λ r. false) a
  shallow (suc d) a = shallow_inside (λ r. shallow d (look.grammar.form r)) a

  -- The grammar is predictive: what the lookahead asks of a rule is answered as the rule's form answers it, one token
  -- decides each choice in each form, and each rule comes to a token within the number of openings.
  pub record IsPredictive : Type 0 where
    pub nullable_rule : (r : Rule) → IsTrue (nullable look (look.grammar.form r)) → IsTrue (look.nullable r)
    pub rule_nullable : (r : Rule) → IsTrue (look.nullable r) → IsTrue (nullable look (look.grammar.form r))
    pub first_rule : (r : Rule) (k : Token) → IsTrue (in_first look (look.grammar.form r) k) → IsTrue (look.first r k)
    pub rule_first : (r : Rule) (k : Token) → IsTrue (look.first r k) → IsTrue (in_first look (look.grammar.form r) k)
    pub decided : (r : Rule) → IsDecided (look.grammar.form r) (look.follow r)
    pub shallow_rule : (r : Rule) → IsTrue (shallow look.openings (rule r))
