-- Readings of a grammar, and the first token that is refused.
use Rattle.std.specs.Prelude.{ℕ, ◌+◌, ◌<◌, List, [], ◌∷◌, ◌++◌, IsTrue, take, length}
use Rattle.readers.specs.grammar.Forms.{Grammar}
use Rattle.readers.specs.grammar.Expansions.{Symbol, terminal, nonterminal, IsExpansion}

module _ {Rule Sort Token : Type 0} (g : Grammar Rule Sort Token) where
  -- A reading keeps a list of the symbols still to be read, here the first list; it reads the tokens, and leaves the second list.
  -- Where a token of some sort stands first, it reads the next token, if that is of the sort; where a rule stands first, it
  -- replaces the rule by one expansion of the rule's form.
  pub data Reading : List (Symbol Rule Sort) → List Token → List (Symbol Rule Sort) → Type 0 where
    over : {left : List (Symbol Rule Sort)} → Reading left [] left
    takes : {t : Sort} {k : Token} {us left : List (Symbol Rule Sort)} {tokens : List Token} → IsTrue (g.fits t k) → Reading us tokens left → Reading (terminal t ∷ us) (k ∷ tokens) left
    replaces : {r : Rule} {expansion us left : List (Symbol Rule Sort)} {tokens : List Token} → IsExpansion (g.form r) expansion → Reading (expansion ++ us) tokens left → Reading (nonterminal r ∷ us) tokens left

  -- some reading that begins with the rule alone reads the tokens; what it leaves is not asked to be completed
  pub record IsReadable (start : Rule) (tokens : List Token) : Type 0 where
    pub left : List (Symbol Rule Sort)
    pub reading : Reading (nonterminal start ∷ []) tokens left

  -- some reading that begins with the rule alone reads the tokens and leaves nothing to be read
  pub record IsRead (start : Rule) (tokens : List Token) : Type 0 where
    pub reading : Reading (nonterminal start ∷ []) tokens []

  -- The token at this place is the first that is refused: the first for which no reading reads the tokens up to and
  -- including it.
  pub record IsRefusedAt (start : Rule) (tokens : List Token) (place : ℕ) : Type 0 where
    pub within : place < length tokens
    pub before : IsReadable start (take place tokens)
    pub here : IsReadable start (take (place + 1) tokens) → ⊥

  -- The end is refused: there is no such token, and no reading reads all tokens and leaves nothing.
  pub record IsRefusedAtEnd (start : Rule) (tokens : List Token) : Type 0 where
    pub before : IsReadable start tokens
    pub here : IsRead start tokens → ⊥
