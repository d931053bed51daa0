-- What the answer of a reader says of the readings of a grammar.
use Rattle.std.specs.Prelude.{◌≡◌, List, [], ◌∷◌, ◌++◌, length}
use Rattle.readers.specs.grammar.Forms.{Grammar, rule}
use Rattle.readers.specs.grammar.Readings.{IsRead, IsRefusedAt, IsRefusedAtEnd}
use Rattle.readers.specs.grammar.Lookahead.{Lookahead, Answer, whole, stops, answer}

module _ {Rule Sort Token : Type 0} (g : Grammar Rule Sort Token) where
  -- The token before which reading stops is the first that is refused.
  pub record IsRefusedBefore (start : Rule) (tokens rest : List Token) : Type 0 where
    pub front : List Token
    pub is : tokens ≡ front ++ rest
    pub refused : IsRefusedAt g start tokens (length front)

  -- Whole: some reading reads all tokens and leaves nothing. Stopped before a token: it is the first that is refused.
  -- Stopped at the end: the end is refused.
  abbrev pub Tells : Rule → List Token → Answer Token → Type 0
  Tells start tokens whole = IsRead g start tokens
  Tells start tokens (stops []) = IsRefusedAtEnd g start tokens
  Tells start tokens (stops (k ∷ rest)) = IsRefusedBefore start tokens (k ∷ rest)

-- The reader that looks one token ahead by a grammar is right by another one: its answer says of any tokens what the readings
-- of that grammar say.
abbrev pub AnswersAreRight : {Rule Other Sort Kind Token : Type 0} → Lookahead Rule Sort Token → Rule → Grammar Other Kind Token → Other → Type 0
AnswersAreRight {Token = Token} look start g first = (tokens : List Token) → Tells g first tokens (answer look (rule start ∷ []) tokens)
