-- The digits of a text's places, one by one, and its bytes as a text.
use Rattle.std.proofs.Common.{◌≡◌, ℕ, zero, suc, ◌+◌, ◌-◌, ◌/◌, ◌%◌, ◌^◌, ◌<◌, ◌≤◌, List, [], ◌∷◌, ◌++◌, length, replicate, decimal, Bool, true, false, nat_lt, refl, sym, ap, ◌∙◌, arith, append_assoc}
use Rattle.std.specs.Str.{IsAscii, IsUtf8}
use Rattle.std.proofs.lemmas.Bool.Decides.{nat_tests}
use Rattle.std.proofs.lemmas.List.{length-append}
use Rattle.std.proofs.lemmas.Fmt.{decimal_digit, decimal_step, IsAscii-from_digits}
use Rattle.std.proofs.lemmas.Str.{IsAscii-append, IsUtf8-from_ascii}
use Rattle.std.proofs.lemmas.Str.Ascii.{IsAscii-cons, IsAscii-nil}
use Rattle.epoch_text.proofs.Digits.{all_digits}
use Rattle.epoch_text.proofs.ReadBack.{written_digits}
use Rattle.epoch_text.specs.DayTexts.{HaveFewDigits, stamp}
use Rattle.epoch_text.specs.Forms.{digits_in}

-- zeros, and one more behind them
one_zero_more : (n : ℕ) → replicate {A = ℕ} (suc n) 48 ≡ replicate {A = ℕ} n 48 ++ 48 ∷ []
one_zero_more zero = refl
one_zero_more (suc n) = ap (λ (zeros : List ℕ). 48 ∷ zeros) (one_zero_more n)

digits_of_zero : (width : ℕ) → digits_in (suc width) 0 ≡ replicate {A = ℕ} (suc width) 48
digits_of_zero width =
    let zero_itself : decimal 0 ≡ 48 ∷ [] = decimal_digit 0 (omega arith) in
    let left : suc width - length (decimal 0) ≡ width = omega (arith, ap (length {A = ℕ}) zero_itself) in
    ap (λ (zeros : ℕ). replicate {A = ℕ} zeros 48 ++ decimal 0) left
    ∙ ap (λ (digits : List ℕ). replicate {A = ℕ} width 48 ++ digits) zero_itself
    ∙ sym (one_zero_more width)

one_digit : (number : ℕ) → number < 10 → digits_in 1 number ≡ (48 + number) ∷ []
one_digit number h = rw (decimal_digit number h) refl

-- the last digit stands behind those of a tenth
digits_behind : (width number : ℕ) → number < 2 ^ 64 →
    digits_in (suc (suc width)) number ≡ digits_in (suc width) (number / 10) ++ (48 + number % 10) ∷ []
digits_behind width number small = go (nat_lt number 10) refl
  where
    go : (v : Bool) → nat_lt number 10 ≡ v → digits_in (suc (suc width)) number ≡ digits_in (suc width) (number / 10) ++ (48 + number % 10) ∷ []
    go true e =
        let few : number < 10 = grind (arith, nat_tests) in
        let tenth : number / 10 ≡ 0 = omega (arith, few) in
        let last : number % 10 ≡ number = omega (arith, few) in
        let itself = decimal_digit number few in
        let left : suc (suc width) - length (decimal number) ≡ suc width = omega (arith, ap (length {A = ℕ}) itself) in
        let front : digits_in (suc width) (number / 10) ≡ replicate {A = ℕ} (suc width) 48 = ap (digits_in (suc width)) tenth ∙ digits_of_zero width in
        ap (λ (zeros : ℕ). replicate {A = ℕ} zeros 48 ++ decimal number) left
        ∙ ap (λ (digits : List ℕ). replicate {A = ℕ} (suc width) 48 ++ digits) itself
        ∙ rw (front, last) refl
    go false e =
        let many : 10 ≤ number = grind (arith, nat_tests) in
        let step = decimal_step number many small in
        let lengths : length (decimal number) ≡ length (decimal (number / 10)) + 1 =
        ap (length {A = ℕ}) step ∙ length-append (decimal (number / 10)) ((48 + number % 10) ∷ []) in
        let left : suc (suc width) - length (decimal number) ≡ suc width - length (decimal (number / 10)) = omega (arith, lengths) in
        ap (λ (zeros : ℕ). replicate {A = ℕ} zeros 48 ++ decimal number) left
        ∙ ap (λ (digits : List ℕ). replicate {A = ℕ} (suc width - length (decimal (number / 10))) 48 ++ digits) step
        ∙ sym (append_assoc (replicate {A = ℕ} (suc width - length (decimal (number / 10))) 48) (decimal (number / 10)) ((48 + number % 10) ∷ []))

pub two_digits : (number : ℕ) → number < 100 → digits_in 2 number ≡ (48 + number / 10 % 10) ∷ (48 + number % 10) ∷ []
two_digits number h =
    digits_behind 0 number (omega arith)
    ∙ ap (λ (front : List ℕ). front ++ (48 + number % 10) ∷ []) (one_digit (number / 10) (omega arith) ∙ ap (λ (digit : ℕ). (48 + digit) ∷ []) (omega arith))

pub three_digits : (number : ℕ) → number < 1_000 →
    digits_in 3 number ≡ (48 + number / 100 % 10) ∷ (48 + number / 10 % 10) ∷ (48 + number % 10) ∷ []
three_digits number h =
    let tens : number / 10 / 10 % 10 ≡ number / 100 % 10 = omega arith in
    digits_behind 1 number (omega arith)
    ∙ ap (λ (front : List ℕ). front ++ (48 + number % 10) ∷ []) (two_digits (number / 10) (omega arith))
    ∙ ap (λ (digit : ℕ). (48 + digit) ∷ (48 + number / 10 % 10) ∷ (48 + number % 10) ∷ []) tens

pub four_digits : (number : ℕ) → number < 10_000 →
    digits_in 4 number ≡ (48 + number / 1_000 % 10) ∷ (48 + number / 100 % 10) ∷ (48 + number / 10 % 10) ∷ (48 + number % 10) ∷ []
four_digits number h =
    let thousands : number / 10 / 100 % 10 ≡ number / 1_000 % 10 = omega arith in
    let hundreds : number / 10 / 10 % 10 ≡ number / 100 % 10 = omega arith in
    digits_behind 2 number (omega arith)
    ∙ ap (λ (front : List ℕ). front ++ (48 + number % 10) ∷ []) (three_digits (number / 10) (omega arith))
    ∙ ap (λ (digit : ℕ). (48 + digit) ∷ (48 + number / 10 / 10 % 10) ∷ (48 + number / 10 % 10) ∷ (48 + number % 10) ∷ []) thousands
    ∙ ap (λ (digit : ℕ). (48 + number / 1_000 % 10) ∷ (48 + digit) ∷ (48 + number / 10 % 10) ∷ (48 + number % 10) ∷ []) hundreds

pub six_digits : (number : ℕ) → number < 1_000_000 →
    digits_in 6 number ≡ (48 + number / 100_000 % 10) ∷ (48 + number / 10_000 % 10) ∷ (48 + number / 1_000 % 10) ∷ (48 + number / 100 % 10) ∷ (48 + number / 10 % 10) ∷ (48 + number % 10) ∷ []
six_digits number h =
    let first : number / 100 / 1_000 % 10 ≡ number / 100_000 % 10 = omega arith in
    let second : number / 100 / 100 % 10 ≡ number / 10_000 % 10 = omega arith in
    let third : number / 100 / 10 % 10 ≡ number / 1_000 % 10 = omega arith in
    let tenths : number / 10 / 10 ≡ number / 100 = omega arith in
    digits_behind 4 number (omega arith)
    ∙ ap (λ (front : List ℕ). front ++ (48 + number % 10) ∷ []) (digits_behind 3 (number / 10) (omega arith))
    ∙ rw (tenths, four_digits (number / 100) (omega arith), first, second, third) refl

digits_ascii : (width number : ℕ) → number < 2 ^ 64 → IsAscii (digits_in width number)
digits_ascii width number small = IsAscii-from_digits (digits_in width number) (all_digits (digits_in width number) (written_digits width number small))

-- a sign and a number's digits behind a text
signed_ascii : (front : List ℕ) (sign width number : ℕ) → IsAscii front → sign < 128 → number < 2 ^ 64 → IsAscii (front ++ sign ∷ [] ++ digits_in width number)
signed_ascii front sign width number f s small =
    IsAscii-append (front ++ sign ∷ []) (digits_in width number) (IsAscii-append front (sign ∷ []) f (IsAscii-cons sign [] s IsAscii-nil)) (digits_ascii width number small)

-- the bytes are a text
pub stamp_text : (year year_day hour minute second micros : ℕ) → HaveFewDigits year year_day hour minute second micros → IsUtf8 (stamp year year_day hour minute second micros)
stamp_text year year_day hour minute second micros (ky, kd, kh, km, ks, kf) =
    let date = signed_ascii _ 45 3 year_day (digits_ascii 4 year (omega arith)) (omega arith) (omega arith) in
    let hours = signed_ascii _ 84 2 hour date (omega arith) (omega arith) in
    let minutes = signed_ascii _ 58 2 minute hours (omega arith) (omega arith) in
    let seconds = signed_ascii _ 58 2 second minutes (omega arith) (omega arith) in
    IsUtf8-from_ascii _ (signed_ascii _ 46 6 micros seconds (omega arith) (omega arith))
