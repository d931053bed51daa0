-- Tokens of a section.
use Rattle.std.proofs.Common.{◌≡◌, ℕ, List, ◌++◌, [], ◌∷◌, take, drop, All, Ok, refl, sym, ap, ◌∙◌, append_assoc}
use Rattle.std.proofs.lemmas.List.{take-append-drop}
use Rattle.std.proofs.lemmas.List.Elements.{All-nil, All-cons}
use Rattle.aerie_text.specs.Cut.{IsTokenOf}
use Rattle.aerie_text.specs.Marks.{AreTokensWithin}
use Rattle.aerie_text.specs.declared.token.Token.{Token}
use Rattle.readers.proofs.Standing.{is_token, later_within}

-- some of a row of tokens stand in a row
pub part_within : (text : List ℕ) (tokens : List Token) (from count : ℕ) → AreTokensWithin text tokens → AreTokensWithin text (take count (drop from tokens))
part_within text tokens from count within =
    let rest = drop from tokens in
    let split : tokens ≡ take from tokens ++ (take count rest ++ drop count rest) =
    sym (take-append-drop from tokens) ∙ ap (λ (row : List Token). take from tokens ++ row) (sym (take-append-drop count rest)) in
    record {
      before = within.before ++ take from tokens;
      behind = drop count rest ++ within.behind;
      are =
          within.are
          ∙ ap (λ (row : List Token). Ok (within.before ++ row ++ within.behind)) split
          ∙ ap (λ (row : List Token). Ok (row ++ within.behind)) (sym (append_assoc within.before (take from tokens) (take count rest ++ drop count rest)))
          ∙ ap (λ (row : List Token). Ok (row ++ within.behind)) (sym (append_assoc (within.before ++ take from tokens) (take count rest) (drop count rest)))
          ∙ ap (λ (row : List Token). Ok row) (append_assoc (within.before ++ take from tokens ++ take count rest) (drop count rest) within.behind);
    }

-- tokens in a row are tokens of the text
pub all_tokens : (text : List ℕ) (tokens : List Token) → AreTokensWithin text tokens → All (IsTokenOf text) tokens
all_tokens text [] within = All-nil (IsTokenOf text)
all_tokens text (token ∷ later) within =
    All-cons (IsTokenOf text) token later (is_token text (token ∷ later) token later refl within) (all_tokens text later (later_within text (token ∷ later) token later refl within))
