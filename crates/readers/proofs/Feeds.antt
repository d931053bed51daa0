-- Lines, counted by bytes: no other character has the byte of a line feed.
use Rattle.std.proofs.Common.{◌≡◌, ℕ, suc, ◌+◌, ◌<◌, ◌≤◌, ◌==◌, ◌∙◌, Bool, true, false, cond, List, [], ◌∷◌, ◌++◌, length, take, reverse, get_or, append-nil, IsUtf8, zero-add, refl, ap, sym, subst, arith, ⊎_elim}
use lib.Utf8.{encode, encodes}
use Rattle.std.specs.List.{count_by, prefix_len}
use Rattle.std.specs.Str.{IsCharBoundary, chars}
use Rattle.std.proofs.lemmas.Bool.{cases_lt}
use Rattle.std.proofs.lemmas.Bool.Decides.{nat_tests}
use Rattle.std.proofs.lemmas.List.{length-take-le, reverse-append, take_more}
use Rattle.std.proofs.lemmas.List.Sums.{count_by-le-length, sum_by-append, sum_by-cons}
use Rattle.std.proofs.lemmas.Str.{IsCharBoundary-after_ascii, IsCharBoundary-before_ascii, IsUtf8-take, chars-append, encode_ascii, encodes-chars, inside_one}
use Rattle.aerie_text.specs.Gaps.{is_in_line}
use Rattle.aerie_base.specs.declared.places.Place.{Place}
use Rattle.aerie_text.specs.Places.{chars_before, column_of, line_number, place_of}
use Rattle.aerie_text.proofs.Marking.{first_place}

abbrev pub is_feed : ℕ → Bool
is_feed byte = byte == 10

abbrev worth : ℕ → ℕ
worth byte = cond (is_feed byte) 1 0

none_counts : (bytes : List ℕ) → ((k : ℕ) → k < length bytes → is_feed (get_or bytes k 0) ≡ false) → count_by is_feed bytes ≡ 0
none_counts [] fails = refl
none_counts (byte ∷ bytes) fails =
    let rest = none_counts bytes (λ k below. fails (suc k) (omega (arith, below))) in
    sum_by-cons worth byte bytes ∙ ap (λ (b : Bool). cond b 1 0 + count_by is_feed bytes) (fails 0 (omega arith)) ∙ omega (arith, rest)

high_is_none : (byte : ℕ) → 128 ≤ byte → is_feed byte ≡ false
high_is_none byte high = grind (arith, nat_tests)

-- the bytes of a character count as the character does
as_character : (c : ℕ) → count_by is_feed (encode c) ≡ worth c
as_character c = ⊎_elim (λ low. ap (λ (bytes : List ℕ). count_by is_feed bytes) (encode_ascii c low) ∙ zero-add (worth c)) high_counts (cases_lt c 128)
  where
    at_least : (high : 128 ≤ c) (k : ℕ) → k < length (encode c) → 128 ≤ get_or (encode c) k 0
    at_least high k below =
        ⊎_elim (λ low. absurd (omega (arith, high, low, inside_one c [] (encode c) k (sym (append-nil (encode c))) below low))) (λ least. least) (cases_lt (get_or (encode c) k 0) 128)

    high_counts : 128 ≤ c → count_by is_feed (encode c) ≡ worth c
    high_counts high =
        none_counts (encode c) (λ k below. high_is_none (get_or (encode c) k 0) (at_least high k below))
        ∙ sym (ap (λ (b : Bool). cond b 1 0) (high_is_none c high))

as_characters : (cs : List ℕ) → count_by is_feed (encodes cs) ≡ count_by is_feed cs
as_characters [] = refl
as_characters (c ∷ cs) =
    sum_by-append worth (encode c) (encodes cs)
    ∙ (λ i. as_character c i + as_characters cs i)
    ∙ sym (sum_by-cons worth c cs)

feeds_are : (text : List ℕ) → IsUtf8 text → count_by is_feed text ≡ count_by is_feed (chars text)
feeds_are text utf8 = ap (λ (bytes : List ℕ). count_by is_feed bytes) (sym (encodes-chars text utf8)) ∙ as_characters (chars text)

-- the number of a line, by the bytes before it
pub feeds_before : (text : List ℕ) (at : ℕ) → IsUtf8 text → IsCharBoundary text at → count_by is_feed (take at text) + 1 ≡ line_number (chars_before text at)
feeds_before text at utf8 edge = ap (λ (n : ℕ). n + 1) (feeds_are (take at text) (IsUtf8-take text at utf8 edge))

-- a text has no more line feeds than bytes
pub few_feeds : (text : List ℕ) (at : ℕ) → IsCharBoundary text at → count_by is_feed (take at text) ≤ length text
few_feeds text at edge = omega (arith, count_by-le-length is_feed (take at text), length-take-le at text edge.0, edge.0)

one_feed : chars (10 ∷ []) ≡ 10 ∷ []
unfolding chars
one_feed = refl

pub edge_behind_feed : (text : List ℕ) (n : ℕ) → IsUtf8 text → n < length text → get_or text n 0 ≡ 10 → IsCharBoundary text (n + 1)
edge_behind_feed text n utf8 below is = IsCharBoundary-after_ascii text n utf8 below (omega (arith, is))

-- behind a line feed a line begins
pub behind_feed : (text : List ℕ) (n : ℕ) → IsUtf8 text → n < length text → get_or text n 0 ≡ 10 → column_of (chars_before text (n + 1)) ≡ 1
behind_feed text n utf8 below is =
    let begins : IsCharBoundary text n = IsCharBoundary-before_ascii text n below (omega (arith, is)) in
    let bytes : take (n + 1) text ≡ take n text ++ (10 ∷ []) = take_more text n 0 below ∙ ap (λ (byte : ℕ). take n text ++ (byte ∷ [])) is in
    let split : chars_before text (n + 1) ≡ chars (take n text) ++ (10 ∷ []) = ap chars bytes ∙ chars-append (take n text) (10 ∷ []) (IsUtf8-take text n utf8 begins) ∙ ap (λ (cs : List ℕ). chars (take n text) ++ cs) one_feed in
    ap column_of split ∙ ap (λ (cs : List ℕ). prefix_len is_in_line cs + 1) (reverse-append (chars (take n text)) (10 ∷ []))

-- so does the text
pub first_line : (text : List ℕ) → column_of (chars_before text 0) ≡ 1
first_line text = ap (λ (place : Place). place.column) (sym (first_place text))

-- the place where a line begins
pub line_place : (text : List ℕ) (at line : ℕ) → line ≡ line_number (chars_before text at) → column_of (chars_before text at) ≡ 1 → record { line = line; column = 1 } ≡ place_of text at
line_place text at line is first = λ i. record { line = is i; column = sym first i }
