-- What tokens count, and tokens in a row.
use Rattle.std.specs.Prelude.{◌≡◌, ℕ, ◌++◌, ◌-◌, List, take, drop, Option, Some, None, Ok, codes, refl}
use Rattle.std.specs.Str.Parse.{digits_value}
use Rattle.aerie_base.specs.Durations.{duration_of}
use Rattle.aerie_text.specs.Sorts.{sort_of_kind}
use Rattle.aerie_text.specs.Tokens.{tokens_of}
use Rattle.aerie_text.specs.declared.sorts.Sort.{Sort}
use Rattle.aerie_text.specs.declared.token.Token.{Token}
use Rattle.aerie_text.specs.declared.token.TokenKind.{TokenKind}
use Rattle.aerie_text.specs.declared.token.TokenKind.TheVariants as kind

-- the part of a text from one place up to another
abbrev pub slice_of : List ℕ → ℕ → ℕ → List ℕ
slice_of text from to = take (to - from) (drop from text)

-- the sort of a token of a text
abbrev pub sort_of : List ℕ → Token → Sort
sort_of text token = sort_of_kind token.kind (slice_of text token.from token.to)

-- so many, or 0 where there is none
abbrev pub or_nothing : Option ℕ → ℕ
or_nothing (Some count) = count
or_nothing None = 0

-- what a token of this kind and this text counts: a number its value, a duration its microseconds, other tokens 0
abbrev pub count_of : TokenKind → List ℕ → ℕ
count_of kind.Word text = 0
count_of kind.Number text = digits_value 10 text
count_of kind.Duration text = or_nothing (duration_of text)
count_of kind.Quoted text = 0
count_of kind.Raw text = 0
count_of kind.Symbol text = 0

-- the tokens stand in a row among the tokens of the text
pub record AreTokensWithin (text : List ℕ) (tokens : List Token) : Type 0 where
  pub before : List Token
  pub behind : List Token
  pub are : tokens_of text ≡ Ok (before ++ tokens ++ behind)

-- ---- worked cases

pub duration : count_of kind.Duration (codes "2min") ≡ 120_000_000
duration = refl

pub parts : count_of kind.Duration (codes "7h30min") ≡ 27_000_000_000
parts = refl

pub number : count_of kind.Number (codes "20") ≡ 20
number = refl
