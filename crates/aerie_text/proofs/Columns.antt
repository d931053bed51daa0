-- Characters of a text, counted from its last line feed on.
use Rattle.std.proofs.Common.{◌≡◌, ℕ, ◌+◌, ◌-◌, ◌<◌, ◌≤◌, ◌∙◌, true, false, List, length, take, get_or, IsUtf8, refl, ap, sym, arith}
use Rattle.std.specs.List.{suffix_len}
use Rattle.std.specs.Str.{chars}
use Rattle.std.proofs.lemmas.List.Sums.{suffix_len-take_yes, suffix_len-take_no, suffix_len-le-length}
use Rattle.std.proofs.lemmas.List.{length-take-le}
use Rattle.std.proofs.lemmas.Str.{length-le-encodes, encodes-chars}
use Rattle.std.proofs.lemmas.Bool.Decides.{nat_tests}
use Rattle.aerie_text.specs.Gaps.{is_in_line}
use Rattle.aerie_text.specs.Places.{column_of}

-- a text has no more characters than bytes
pub chars_within : (text : List ℕ) → IsUtf8 text → length (chars text) ≤ length text
chars_within text utf8 = omega (arith, length-le-encodes (chars text), ap length (encodes-chars text utf8))

-- this character stands at the place
abbrev pub Stands : List ℕ → ℕ → ℕ → Type 0
Stands cs n c = (n < length cs) × (c ≡ get_or cs n c)

pub column_on : (cs : List ℕ) (n c : ℕ) → Stands cs n c → (c ≡ 10 → ⊥) → column_of (take (n + 1) cs) ≡ column_of (take n cs) + 1
column_on cs n c at other =
    let less : n + 1 - 1 ≡ n = omega arith in
    let passes : is_in_line (get_or cs (n + 1 - 1) c) ≡ true = rw (less, sym at.1) (differs c other) in
    let one : suffix_len is_in_line (take (n + 1) cs) ≡ 1 + suffix_len is_in_line (take n cs) =
    suffix_len-take_yes is_in_line cs (n + 1) c (omega arith) (omega (arith, at.0)) passes ∙ ap (λ (m : ℕ). 1 + suffix_len is_in_line (take m cs)) less in
    omega (arith, one)
  where
    differs : (c : ℕ) → (c ≡ 10 → ⊥) → is_in_line c ≡ true
    differs c other = grind (arith, nat_tests)

pub column_again : (cs : List ℕ) (n c : ℕ) → Stands cs n c → c ≡ 10 → column_of (take (n + 1) cs) ≡ 1
column_again cs n c at feed =
    let less : n + 1 - 1 ≡ n = omega arith in
    let stops : is_in_line (get_or cs (n + 1 - 1) c) ≡ false = rw (less, sym at.1, feed) refl in
    let none : suffix_len is_in_line (take (n + 1) cs) ≡ 0 = suffix_len-take_no is_in_line cs (n + 1) c (omega arith) (omega (arith, at.0)) stops in
    omega (arith, none)

-- a column is at most one more than the characters
pub column_within : (cs : List ℕ) (n : ℕ) → n ≤ length cs → column_of (take n cs) ≤ n + 1
column_within cs n le = omega (arith, suffix_len-le-length is_in_line (take n cs), length-take-le n cs le)
