-- What the marks of a text's tokens count are numbers.
use Rattle.std.proofs.Common.{◌≡◌, ℕ, ◌≤◌, ◌&&◌, Bool, true, false, List, [], ◌∷◌, length, drop, Some, None, if◌then◌else◌, nat_eq, nat_le, nat_lt, refl, arith}
use Rattle.std.proofs.lemmas.Bool.{leb-true}
use Rattle.aerie_base.specs.Durations.{duration_len, duration_of, parts_micros, units}
use Rattle.aerie_base.specs.Ranges.{number_limit, time_limit, time_of}
use Rattle.aerie_text.specs.Cut.{IsTokenOf}
use Rattle.aerie_text.specs.Marks.{AreTokensWithin, count_of, or_nothing, slice_of}
use Rattle.aerie_text.specs.TokenTexts.{IsTextOf, number}
use Rattle.aerie_text.specs.declared.token.Token.{Token}
use Rattle.aerie_text.specs.declared.token.TokenKind.{TokenKind}
use Rattle.aerie_text.specs.declared.token.TokenKind.TheVariants as kind
use Rattle.aerie_text.proofs.Marking.{Goes, goes_first, goes_next}
use Rattle.readers.specs.Marks.{marks_of}
use Rattle.readers.proofs.Standing.{tokens_behind}
use Rattle.model_reader.specs.Limits.{CountNumbers}
use Rattle.model_reader.specs.ModelAnswers.{marks_from}

-- ---- durations

time_within : (micros : ℕ) → or_nothing (time_of micros) ≤ time_limit
time_within micros = go (nat_le micros time_limit) refl
  where
    go : (b : Bool) → nat_le micros time_limit ≡ b → or_nothing (if b then Some micros else None) ≤ time_limit
    go true e = leb-true micros time_limit e
    go false e = omega arith

duration_within : (text : List ℕ) → or_nothing (duration_of text) ≤ time_limit
duration_within text = go (nat_lt 0 (length text) && nat_eq (duration_len text) (length text)) (parts_micros units text)
  where
    go : (b : Bool) (micros : ℕ) → or_nothing (if b then time_of micros else None) ≤ time_limit
    go true micros = time_within micros
    go false micros = omega arith

-- ---- tokens

count_within : (k : TokenKind) (text : List ℕ) → IsTextOf k text → count_of k text ≤ number_limit
count_within kind.Word text is = omega arith
count_within kind.Number text (number all some short digits value) = value
count_within kind.Duration text is = let le = duration_within text in omega (arith, le)
count_within kind.Quoted text is = omega arith
count_within kind.Raw text is = omega arith
count_within kind.Symbol text is = omega arith

token_within : (text : List ℕ) (token : Token) → IsTokenOf text token → count_of token.kind (slice_of text token.from token.to) ≤ number_limit
token_within text token is = let longest = is.longest in let matches = longest.matches in count_within token.kind (slice_of text token.from token.to) matches.is_token

all_within : (text : List ℕ) (at : ℕ) (tokens : List Token) → Goes text at tokens → CountNumbers (marks_of text tokens)
all_within text at [] goes = tt
all_within text at (token ∷ later) goes =
    let next = goes_next text at token later goes in
    (token_within text token next.is, all_within text token.from later next.goes)

pub marks_count_numbers : (text : List ℕ) (tokens : List Token) (from : ℕ) → AreTokensWithin text tokens → CountNumbers (marks_from text tokens from)
marks_count_numbers text tokens from within = all_within text 0 (drop from tokens) (goes_first text (drop from tokens) (tokens_behind text tokens from within))
