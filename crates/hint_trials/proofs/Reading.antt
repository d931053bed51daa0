-- What is read of bytes: it depends on their number, on whether they are text, and then on the text.
use Rattle.std.proofs.Common.{◌≡◌, ℕ, ◌<◌, ◌≤◌, Bool, true, false, ltb, List, length, Err, IsUtf8, refl, sym, subst}
use Rattle.std.specs.Str.{is_utf8}
use Rattle.std.proofs.lemmas.Bool.{ltb-false, ltb-true}
use Rattle.std.proofs.lemmas.Str.{IsUtf8-from_is_utf8, is_utf8-from_IsUtf8}
use Rattle.session_reader.specs.Answers.{Answer, IsMade}
use Rattle.session_reader.specs.SessionTexts.{byte_limit, not_text, text_answer}
use Rattle.session_reader.specs.declared.session.Session.{Session}
use Rattle.session_reader.specs.declared.session_error.SessionError.TheVariants.{TooLarge}
use Rattle.hint_trials.specs.Reached.{read_answer}

no_utf8 : (bytes : List ℕ) → is_utf8 bytes ≡ false → ¬ (IsUtf8 bytes)
no_utf8 bytes is utf8 = let e = is_utf8-from_IsUtf8 bytes utf8 in cc

module _ (bytes : List ℕ) (result : Answer Session)
    (large : byte_limit < length bytes → result ≡ Err TooLarge)
    (not : length bytes ≤ byte_limit → ¬ (IsUtf8 bytes) → result ≡ Err (not_text bytes))
    (exact : length bytes ≤ byte_limit → IsUtf8 bytes → IsMade (text_answer bytes) result) where
  by_cases : (big utf8 : Bool) → ltb byte_limit (length bytes) ≡ big → is_utf8 bytes ≡ utf8 → IsMade (read_answer bytes) result
  unfolding read_answer
  by_cases true utf8 is also = rw is (subst (IsMade (Err TooLarge)) (sym (large (ltb-true byte_limit (length bytes) is))) refl)
  by_cases false true is also = rw (is, also) (exact (ltb-false byte_limit (length bytes) is) (IsUtf8-from_is_utf8 bytes also))
  by_cases false false is also =
      rw (is, also) (subst (IsMade (Err (not_text bytes))) (sym (not (ltb-false byte_limit (length bytes) is) (no_utf8 bytes also))) refl)

  pub read_is : IsMade (read_answer bytes) result
  read_is = by_cases (ltb byte_limit (length bytes)) (is_utf8 bytes) refl refl
