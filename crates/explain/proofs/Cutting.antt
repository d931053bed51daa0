-- What the tokens of a text are.
use Rattle.std.proofs.Common.{ℕ, List, All}
use Rattle.std.proofs.lemmas.List.Elements.{All-nil, All-cons}
use Rattle.aerie_text.specs.Cut.{AreTokens, no_more, one_more, IsTokenOf}
use Rattle.aerie_text.specs.declared.token.Token.{Token}

-- each of the tokens that a text is cut into is one of it
pub all_are_tokens : (text : List ℕ) (at to : ℕ) (tokens : List Token) → AreTokens text at tokens to → All (IsTokenOf text) tokens
all_are_tokens text at to tokens (no_more here there blank) = All-nil (IsTokenOf text)
all_are_tokens text at to tokens (one_more here there token later blank is rest) =
    All-cons (IsTokenOf text) token later is (all_are_tokens text token.to to later rest)
