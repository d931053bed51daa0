-- What a reader of one form does, whatever is still to be read behind it.
use Rattle.std.specs.Prelude.{◌≡◌, List, ◌∷◌, ◌++◌, Result, MatchResult}
use denote.Bor.{Bor}
use Rattle.readers.specs.grammar.Forms.{Form, many}
use Rattle.readers.specs.grammar.Lookahead.{Lookahead, answer, stops}

module _ {Rule Sort Token : Type 0} (look : Lookahead Rule Sort Token) where
  -- the form is read: reading goes on with the rest of the tokens
  pub record Reads (a : Form Rule Sort) (tokens rest : List Token) : Type 0 where
    pub onward : (xs : List (Form Rule Sort)) → answer look (a ∷ xs) tokens ≡ answer look xs rest

  -- the form is not read: reading stops before the rest of the tokens
  pub record Stops (a : Form Rule Sort) (tokens rest : List Token) : Type 0 where
    pub here : (xs : List (Form Rule Sort)) → answer look (a ∷ xs) tokens ≡ stops rest

  -- some iterations of the form are read, and reading goes on with the rest of the tokens and the further iterations
  pub record Iterations (a : Form Rule Sort) (tokens rest : List Token) : Type 0 where
    pub onward : (xs : List (Form Rule Sort)) → answer look (many a ∷ xs) tokens ≡ answer look (many a ∷ xs) rest

  -- what a reader of one form answers over a slice: what is left after the form, or where reading stops
  abbrev pub Parses : Form Rule Sort → List Token → Result (Bor (List Token)) (Bor (List Token)) → Type 0
  Parses a tokens result = MatchResult result (λ rest. Reads a tokens rest.now) (λ rest. Stops a tokens rest.now)

  -- part of the form is read: reading goes on with the rest of the tokens, and these forms of it are still to be read
  pub record Comes (a : Form Rule Sort) (tokens rest : List Token) (left : List (Form Rule Sort)) : Type 0 where
    pub onward : (xs : List (Form Rule Sort)) → answer look (a ∷ xs) tokens ≡ answer look (left ++ xs) rest
