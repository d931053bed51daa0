-- Characters between two places of a text, and how lines and columns go on over them.
use Rattle.std.proofs.Common.{◌≡◌, ℕ, ◌+◌, ◌-◌, ◌≤◌, ◌==◌, ◌∙◌, true, false, List, ◌++◌, length, take, drop, get_or, IsUtf8, refl, ap, sym, subst, arith}
use Rattle.std.specs.Str.{IsCharBoundary, chars}
use Rattle.std.proofs.lemmas.Bool.Decides.{nat_tests}
use Rattle.std.proofs.lemmas.List.{drop-take, get_or-append-add, length-take-le, take-append-drop, take-take, take_all, take_at, length-append}
use Rattle.std.proofs.lemmas.List.Sums.{count_by-le-length, count_by_more_no, count_by_more_yes}
use Rattle.std.proofs.lemmas.Str.{IsUtf8-take, chars-append}
use Rattle.aerie_text.specs.Places.{chars_before, line_number}
use Rattle.aerie_text.proofs.Columns.{Stands, chars_within}

cut : (text : List ℕ) (from to : ℕ) → from ≤ to → take to text ≡ take from text ++ take (to - from) (drop from text)
cut text from to le =
    let room : from + (to - from) ≡ to = omega arith in
    let front : take from (take to text) ≡ take from text = take-take from to text le in
    let back : drop from (take to text) ≡ take (to - from) (drop from text) = subst (λ (n : ℕ). drop from (take n text) ≡ take (to - from) (drop from text)) room (drop-take from (to - from) text) in
    sym (take-append-drop from (take to text)) ∙ ap (λ (xs : List ℕ). xs ++ drop from (take to text)) front ∙ ap (λ (xs : List ℕ). take from text ++ xs) back

-- the characters before a place are those before an earlier one and those between
pub split_chars : (text : List ℕ) (from to : ℕ) → IsUtf8 text → from ≤ to → IsCharBoundary text from
    → chars_before text to ≡ chars_before text from ++ chars (take (to - from) (drop from text))
split_chars text from to utf8 le begins =
    ap chars (cut text from to le) ∙ chars-append (take from text) (take (to - from) (drop from text)) (IsUtf8-take text from utf8 begins)

-- a character between stands at its place among all
pub stands_behind : (all before between : List ℕ) (n c : ℕ) → all ≡ before ++ between → Stands between n c → Stands all (length before + n) c
stands_behind all before between n c split at =
    rw split (omega (arith, at.0, length-append before between), at.1 ∙ sym (get_or-append-add before between n c))

pub line_on : (cs : List ℕ) (n c : ℕ) → Stands cs n c → c ≡ 10 → line_number (take (n + 1) cs) ≡ line_number (take n cs) + 1
line_on cs n c at feed =
    let passes : (get_or cs n c == 10) ≡ true = rw (sym at.1, feed) refl in
    ap (λ (m : ℕ). m + 1) (count_by_more_yes (λ (x : ℕ). x == 10) cs n c at.0 passes)

pub line_same : (cs : List ℕ) (n c : ℕ) → Stands cs n c → (c ≡ 10 → ⊥) → line_number (take (n + 1) cs) ≡ line_number (take n cs)
line_same cs n c at other =
    let fails : (get_or cs n c == 10) ≡ false = rw (sym at.1) (differs c other) in
    ap (λ (m : ℕ). m + 1) (count_by_more_no (λ (x : ℕ). x == 10) cs n c at.0 fails)
  where
    differs : (c : ℕ) → (c ≡ 10 → ⊥) → (c == 10) ≡ false
    differs c other = grind (arith, nat_tests)

-- a line is at most one more than the characters
pub line_within : (cs : List ℕ) (n : ℕ) → n ≤ length cs → line_number (take n cs) ≤ n + 1
line_within cs n le = omega (arith, count_by-le-length (λ (x : ℕ). x == 10) (take n cs), length-take-le n cs le)

-- the characters before a place are at most the bytes of the text
pub before_within : (text : List ℕ) (to : ℕ) → IsUtf8 text → IsCharBoundary text to → length (chars_before text to) ≤ length text
before_within text to utf8 ends = omega (arith, chars_within (take to text) (IsUtf8-take text to utf8 ends), length-take-le to text ends.0, ends.0)

-- where a character between the places stands among those before the later place
pub stands_before : (text between : List ℕ) (from to n c : ℕ) → IsUtf8 text → from ≤ to → IsCharBoundary text from → between ≡ take (to - from) (drop from text)
    → Stands (chars between) n c → Stands (chars_before text to) (length (chars_before text from) + n) c
stands_before text between from to n c utf8 le begins is at =
    stands_behind (chars_before text to) (chars_before text from) (chars between) n c (split_chars text from to utf8 le begins ∙ ap (λ (xs : List ℕ). chars_before text from ++ chars xs) (sym is)) at

-- the characters before the earlier place stand in front
pub none_between : (text : List ℕ) (from to : ℕ) → IsUtf8 text → from ≤ to → IsCharBoundary text from → take (length (chars_before text from) + 0) (chars_before text to) ≡ chars_before text from
none_between text from to utf8 le begins =
    rw (split_chars text from to utf8 le begins) (take_at (chars_before text from) (chars (take (to - from) (drop from text))) (length (chars_before text from) + 0) (omega arith))

-- with all between they are all
pub all_between : (text between : List ℕ) (from to n : ℕ) → IsUtf8 text → from ≤ to → IsCharBoundary text from → between ≡ take (to - from) (drop from text) → n ≡ length (chars between)
    → take (length (chars_before text from) + n) (chars_before text to) ≡ chars_before text to
all_between text between from to n utf8 le begins is all =
    let split = split_chars text from to utf8 le begins in
    let count : n ≡ length (chars (take (to - from) (drop from text))) = all ∙ ap (λ (xs : List ℕ). length (chars xs)) is in
    take_all (length (chars_before text from) + n) (chars_before text to)
    (omega (arith, count, ap length split, length-append (chars_before text from) (chars (take (to - from) (drop from text)))))
