-- The last of some tokens in a row.
use Rattle.std.proofs.Common.{◌≡◌, ℕ, List, [], ◌∷◌, ◌++◌, length, drop, IsUtf8, refl, sym, ap, subst, ◌∙◌}
use Rattle.std.specs.Str.{IsCharBoundary}
use Rattle.std.proofs.lemmas.Str.{IsCharBoundary-start}
use Rattle.aerie_text.specs.Marks.{AreTokensWithin}
use Rattle.aerie_text.specs.declared.token.Token.{Token}
use Rattle.readers.proofs.Standing.{tokens_behind, is_at_edges}
use Rattle.rule_grammar.specs.RuleAnswers.{end_of}

-- the tokens end where the last one ends
pub end_is : (front : List Token) (token : Token) → end_of (front ++ token ∷ []) ≡ token.to
end_is [] token = refl
end_is (one ∷ []) token = refl
end_is (one ∷ (next ∷ front)) token = end_is (next ∷ front) token

behind_front : (front : List Token) (token : Token) → drop (length front) (front ++ token ∷ []) ≡ token ∷ []
behind_front [] token = refl
behind_front (one ∷ front) token = behind_front front token

-- a character ends there
pub end_edge : (text : List ℕ) (tokens front : List Token) (token : Token) → tokens ≡ front ++ token ∷ [] → AreTokensWithin text tokens → IsUtf8 text → IsCharBoundary text token.to
end_edge text tokens front token e within utf8 =
    let alone = subst (AreTokensWithin text) (ap (drop (length front)) e ∙ behind_front front token) (tokens_behind text tokens (length front) within) in
    (is_at_edges text (token ∷ []) token [] refl alone utf8).1

-- a text begins at the edge of a character
pub start_edge : (text : List ℕ) → IsUtf8 text → IsCharBoundary text 0
start_edge text utf8 = IsCharBoundary-start text utf8

pub end_is_last : (tokens front : List Token) (token : Token) → tokens ≡ front ++ token ∷ [] → token.to ≡ end_of tokens
end_is_last tokens front token e = sym (ap end_of e ∙ end_is front token)
