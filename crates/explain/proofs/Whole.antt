-- Bytes that are text, and bytes that are none.
use Rattle.std.proofs.Common.{◌≡◌, ℕ, Bool, true, false, List, [], IsUtf8, refl}
use Rattle.std.specs.Str.{is_utf8}
use Rattle.std.proofs.lemmas.Str.{IsUtf8-from_is_utf8, is_utf8-from_IsUtf8}
use Rattle.aerie_text.specs.Tokens.{tokens_of}
use Rattle.explain.specs.WordsOfTokens.{sorted_cut, sorted_tokens}

not_utf8 : (t : Bool) (bytes : List ℕ) → is_utf8 bytes ≡ t → ¬ (IsUtf8 bytes) → t ≡ false
not_utf8 true bytes is not = absurd (not (IsUtf8-from_is_utf8 bytes is))
not_utf8 false bytes is not = refl

pub tokens_of_text : (bytes : List ℕ) → IsUtf8 bytes → sorted_tokens bytes ≡ sorted_cut bytes (tokens_of bytes)
unfolding sorted_tokens
tokens_of_text bytes utf8 = rw (is_utf8-from_IsUtf8 bytes utf8) refl

pub tokens_of_no_text : (bytes : List ℕ) → ¬ (IsUtf8 bytes) → sorted_tokens bytes ≡ []
unfolding sorted_tokens
tokens_of_no_text bytes not = rw (not_utf8 (is_utf8 bytes) bytes refl not) refl
