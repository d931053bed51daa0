-- A text as a reader sees it: tokens in order, and between them white space and comments.
use Rattle.std.specs.Prelude.{◌≡◌, ℕ, ◌+◌, ◌-◌, ◌<◌, ◌≤◌, List, [], ◌∷◌, length, drop, Some, None}
use Rattle.std.specs.Str.{IsCharBoundary}
use Rattle.aerie_text.specs.Gaps.{gap_len}
use Rattle.aerie_text.specs.TokenAt.{token_at}
use Rattle.aerie_text.specs.TokenTexts.{BeginsNone, IsLongest}
use Rattle.aerie_text.specs.declared.text_error.TextError.{TextError}
use Rattle.aerie_text.specs.declared.text_error.TextError.TheVariants.{BadToken, OutOfMemory}
use Rattle.aerie_text.specs.declared.token.Token.{Token}

-- from one place to another there is nothing but white space and comments
pub data IsBlank (text : List ℕ) : ℕ → ℕ → Type 0 where
  nothing : (at : ℕ) → IsBlank text at at
  gap : (at to : ℕ) → 0 < gap_len (drop at text) → IsBlank text (at + gap_len (drop at text)) to → IsBlank text at to

-- the token is the longest that matches where it stands: its text is the slice from there to where it ends
pub record IsTokenOf (text : List ℕ) (token : Token) : Type 0 where
  pub rises : token.from < token.to
  pub within : token.to ≤ length text
  pub read : token_at (drop token.from text) ≡ Some (token.kind, token.to - token.from)
  pub longest : IsLongest (drop token.from text) token.kind (token.to - token.from)

-- from one place to another there are these tokens in order, and between them, before the first and behind the last
-- nothing but white space and comments
pub data AreTokens (text : List ℕ) : ℕ → List Token → ℕ → Type 0 where
  no_more : (at to : ℕ) → IsBlank text at to → AreTokens text at [] to
  one_more : (at to : ℕ) (token : Token) (later : List Token) → IsBlank text at token.from → IsTokenOf text token
      → AreTokens text token.to later to → AreTokens text at (token ∷ later) to

-- neither white space nor a comment stands at the place, and no token begins there
pub record IsBad (text : List ℕ) (at : ℕ) : Type 0 where
  pub within : at < length text
  pub no_gap : gap_len (drop at text) ≡ 0
  pub not_read : token_at (drop at text) ≡ None
  pub no_token : BeginsNone (drop at text)

-- it is the first such place behind the tokens before it
pub record IsFirstBad (text : List ℕ) (at : ℕ) : Type 0 where
  pub before : List Token
  pub read : AreTokens text 0 before at
  pub bad : IsBad text at

-- the token begins and ends at the edges of characters
abbrev pub IsAtEdges : List ℕ → Token → Type 0
IsAtEdges text token = IsCharBoundary text token.from × IsCharBoundary text token.to

-- where no token begins, a character begins, or the text ends
abbrev pub IsBadAtEdge : List ℕ → TextError → Type 0
IsBadAtEdge text (BadToken at) = IsCharBoundary text at
IsBadAtEdge text OutOfMemory = Unit {0}
