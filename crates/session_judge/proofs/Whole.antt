-- What bytes are judged by: their number, whether they are text, and then the text.
use Rattle.std.proofs.Common.{◌≡◌, ℕ, ◌<◌, ◌≤◌, Bool, true, false, ltb, List, [], length, Err, IsUtf8, refl, arith}
use Rattle.std.specs.Str.{is_utf8}
use Rattle.std.specs.Str.Lossy.{utf8_valid_len}
use Rattle.std.proofs.lemmas.Bool.{lt-ltb, ltb-true}
use Rattle.std.proofs.lemmas.Str.{IsUtf8-from_is_utf8, is_utf8-from_IsUtf8}
use Rattle.session_reader.specs.declared.session_error.SessionError.TheVariants.{TooLarge, NotText}
use Rattle.session_judge.specs.Judging.{judged_session, judged_text}
use Rattle.session_judge.specs.Telling.{told_session}

pub too_large : (bytes : List ℕ) → 16_777_216 < length bytes → judged_session bytes ≡ Err (told_session bytes [] TooLarge)
unfolding judged_session
too_large bytes large = rw (lt-ltb 16_777_216 (length bytes) large) refl

not_below : (t : Bool) (m n : ℕ) → ltb m n ≡ t → n ≤ m → t ≡ false
not_below true m n is most = absurd (omega (arith, ltb-true m n is, most))
not_below false m n is most = refl

not_utf8 : (t : Bool) (bytes : List ℕ) → is_utf8 bytes ≡ t → ¬ (IsUtf8 bytes) → t ≡ false
not_utf8 true bytes is not = absurd (not (IsUtf8-from_is_utf8 bytes is))
not_utf8 false bytes is not = refl

pub by_text : (bytes : List ℕ) → length bytes ≤ 16_777_216 → IsUtf8 bytes → judged_session bytes ≡ judged_text bytes
unfolding judged_session
by_text bytes small utf8 = rw (not_below (ltb 16_777_216 (length bytes)) 16_777_216 (length bytes) refl small, is_utf8-from_IsUtf8 bytes utf8) refl

pub no_text : (bytes : List ℕ) → length bytes ≤ 16_777_216 → ¬ (IsUtf8 bytes) → judged_session bytes ≡ Err (told_session bytes [] (NotText (utf8_valid_len bytes)))
unfolding judged_session
no_text bytes small not = rw (not_below (ltb 16_777_216 (length bytes)) 16_777_216 (length bytes) refl small, not_utf8 (is_utf8 bytes) bytes refl not) refl
