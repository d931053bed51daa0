-- A token has at least one byte, lies within the text, and begins and ends with an ASCII byte.
use Rattle.std.proofs.Common.{◌≡◌, ℕ, suc, ◌+◌, ◌-◌, ◌<◌, ◌≤◌, ◌∙◌, inl, inr, Bool, true, false, cond, List, [], ◌∷◌, length, take, drop, get_or, Option, Some, None, refl, ap, subst, sym, arith, nat_eq}
use Rattle.std.specs.Prelude.{◌==◌, ◌&&◌, nat_le, nat_lt}
use Rattle.std.specs.Char.{is_ascii_digit}
use Rattle.std.specs.List.{prefix_len, list_all, list_any, starts_with}
use Rattle.std.specs.Str.{IsAscii}
use Rattle.std.proofs.lemmas.Bool.{cases_lt, eqb-true, false≢true}
use borrow.Author.Tests.{ltb-true}
use Rattle.std.proofs.lemmas.Str.Ascii.{IsAscii-nil, IsAscii-cons}
use Rattle.std.proofs.lemmas.Bool.Decides.{nat_tests}
use Rattle.std.proofs.lemmas.List.{drop_more, drop_all, get_or-take}
use Rattle.std.proofs.lemmas.List.Sums.{prefix_len-le-length, prefix_len_passes}
use Rattle.std.proofs.lemmas.Slice.Eq.{bytes_eq-Decides}
use Rattle.aerie_text.specs.Bytes.{begins_with, is_letter, is_word_byte}
use Rattle.aerie_base.specs.Durations.{duration_len}
use Rattle.aerie_text.specs.Numerals.{digits_at, fits_number, is_duration}
use Rattle.aerie_text.specs.Quotes.{backquote, enclosed_len, is_quotable, is_raw, quotation_mark}
use Rattle.aerie_text.specs.Symbols.{begins_double_symbol, double_symbols, is_single_symbol, single_symbols, symbol_len}
use Rattle.aerie_text.specs.TokenAt.{of_kind, token_at, word_len}
use Rattle.aerie_text.specs.declared.token.TokenKind.{TokenKind}
use Rattle.aerie_text.specs.declared.token.TokenKind.TheVariants.{Word, Quoted, Raw, Symbol}
use Rattle.aerie_text.proofs.Units.{duration_ascii, duration_within, fits}

pub record Facts (text : List ℕ) (len : ℕ) : Type 0 where
  pub positive : 0 < len
  pub within : len ≤ length text
  pub first : get_or text 0 0 < 128
  pub last : get_or text (len - 1) 0 < 128

-- ---- of what there is

pub some_is : {A : Type 0} (a b : A) → Some a ≡ Some b → a ≡ b
some_is a b e = cc

pub of_kind_some : (kind k : TokenKind) (o : Option ℕ) (n : ℕ) → of_kind kind o ≡ Some (k, n) → (o ≡ Some n) × (kind ≡ k)
of_kind_some kind k None n e = absurd (cc)
of_kind_some kind k (Some m) n e =
    let pair = some_is (kind, m) (k, n) e in
    (ap (λ (x : TokenKind × ℕ). Some x.1) pair, ap (λ (x : TokenKind × ℕ). x.0) pair)

-- the byte at a place passes the test
pub begins_at : (test : ℕ → Bool) (xs : List ℕ) (i : ℕ) → begins_with test (drop i xs) ≡ true → (i < length xs) × (test (get_or xs i 0) ≡ true)
begins_at test xs i e = elim (cases_lt i (length xs)) [ inl lt ↦ (lt, rw (drop_more xs i 0 lt) at e) | inr le ↦ absurd (false≢true (rw (drop_all i xs le) at e)) ]

-- ---- runs

pub run_positive : (test : ℕ → Bool) (b : ℕ) (bs : List ℕ) → test b ≡ true → 0 < prefix_len test (b ∷ bs)
run_positive test b bs e = rw e (omega arith)

run_facts : (test : ℕ → Bool) → ((b : ℕ) → test b ≡ true → b < 128) → (b : ℕ) (bs : List ℕ) → test b ≡ true → Facts (b ∷ bs) (prefix_len test (b ∷ bs))
run_facts test ascii b bs e =
    let positive = run_positive test b bs e in
    record {
      positive = positive;
      within = prefix_len-le-length test (b ∷ bs);
      first = ascii b e;
      last = ascii _ (prefix_len_passes test (b ∷ bs) (prefix_len test (b ∷ bs) - 1) 0 (omega arith));
    }

word_ascii : (b : ℕ) → is_word_byte b ≡ true → b < 128
word_ascii b e = grind (arith, nat_tests)

letter_goes_on : (b : ℕ) → is_letter b ≡ true → is_word_byte b ≡ true
letter_goes_on b e = rw e refl

word_facts : (b : ℕ) (bs : List ℕ) (n : ℕ) → is_letter b ≡ true → word_len (b ∷ bs) ≡ Some n → Facts (b ∷ bs) n
word_facts b bs n letter e = go (nat_le (prefix_len is_word_byte (b ∷ bs)) 64) refl
  where
    go : (v : Bool) → nat_le (prefix_len is_word_byte (b ∷ bs)) 64 ≡ v → Facts (b ∷ bs) n
    go true t = subst (Facts (b ∷ bs)) (some_is _ _ (rw t at e)) (run_facts is_word_byte word_ascii b bs (letter_goes_on b letter))
    go false t = absurd (let no : None ≡ Some n = rw t at e in cc)

-- ---- digits

digit_ascii : (b : ℕ) → is_ascii_digit b ≡ true → b < 128
digit_ascii b e = grind (arith, nat_tests)

-- a duration is not nothing
pub duration_positive : (text : List ℕ) → is_duration (take (duration_len text) text) ≡ true → 0 < duration_len text
duration_positive text is = elim (cases_lt 0 (duration_len text)) [
  | inl lt ↦ lt
  | inr le ↦ let none : is_duration (take (duration_len text) text) ≡ false = let zero_long : duration_len text ≡ 0 = omega arith in rw zero_long refl in
      absurd (false≢true (sym none ∙ is))
]

duration_facts : (b : ℕ) (bs : List ℕ) → is_ascii_digit b ≡ true → is_duration (take (duration_len (b ∷ bs)) (b ∷ bs)) ≡ true → Facts (b ∷ bs) (duration_len (b ∷ bs))
duration_facts b bs e is =
    let text = b ∷ bs in
    let positive = duration_positive text is in
    let last : get_or (take (duration_len text) text) (duration_len text - 1) 0 ≡ get_or text (duration_len text - 1) 0 =
    get_or-take (duration_len text) text (duration_len text - 1) 0 (omega (arith, positive)) in
    record {
      positive = positive;
      within = duration_within text;
      first = digit_ascii b e;
      last = subst (λ (x : ℕ). x < 128) last (duration_ascii text (duration_len text - 1));
    }

digits_facts : (b : ℕ) (bs : List ℕ) (kind : TokenKind) (n : ℕ) → is_ascii_digit b ≡ true → digits_at (b ∷ bs) ≡ Some (kind, n) → Facts (b ∷ bs) n
unfolding digits_at
digits_facts b bs kind n digit e = go _ _ _ refl refl refl
  where
    text : List ℕ
    text = b ∷ bs

    go : (v1 v2 v3 : Bool) → is_duration (take (duration_len (b ∷ bs)) (b ∷ bs)) ≡ v1 → begins_with is_word_byte (drop (prefix_len is_ascii_digit (b ∷ bs)) (b ∷ bs)) ≡ v2
        → fits_number (take (prefix_len is_ascii_digit (b ∷ bs)) (b ∷ bs)) ≡ v3 → Facts (b ∷ bs) n
    go true v2 v3 e1 e2 e3 = subst (Facts (b ∷ bs)) (ap (λ (x : TokenKind × ℕ). x.1) (some_is _ _ (rw e1 at e))) (duration_facts b bs digit e1)
    go false true v3 e1 e2 e3 = absurd (let no : None ≡ Some (kind, n) = rw (e1, e2) at e in cc)
    go false false true e1 e2 e3 = subst (Facts (b ∷ bs)) (ap (λ (x : TokenKind × ℕ). x.1) (some_is _ _ (rw (e1, e2, e3) at e))) (run_facts is_ascii_digit digit_ascii b bs digit)
    go false false false e1 e2 e3 = absurd (let no : None ≡ Some (kind, n) = rw (e1, e2, e3) at e in cc)

-- ---- quotes

enclosed_facts : (inside : ℕ → Bool) (mark : ℕ) → mark < 128 → (b : ℕ) (bs : List ℕ) (n : ℕ) → b ≡ mark → enclosed_len inside mark bs ≡ Some n → Facts (b ∷ bs) n
enclosed_facts inside mark ascii b bs n first e = go (begins_with (λ c. c == mark) (drop (prefix_len inside bs) bs)) refl
  where
    go : (v : Bool) → begins_with (λ c. c == mark) (drop (prefix_len inside bs) bs) ≡ v → Facts (b ∷ bs) n
    go false t = absurd (let no : None ≡ Some n = rw t at e in cc)
    go true t =
        let len : prefix_len inside bs + 2 ≡ n = some_is _ _ (rw t at e) in
        let at = begins_at (λ c. c == mark) bs (prefix_len inside bs) t in
        let mark_there : get_or bs (prefix_len inside bs) 0 ≡ mark = eqb-true _ _ at.1 in
        let place : n - 1 ≡ suc (prefix_len inside bs) = omega arith in
        record {
          positive = omega arith;
          within = omega (arith, at.0);
          first = omega (arith, first);
          last = rw (place) (omega (arith, mark_there));
        }

-- ---- symbols

split_and : (a b : Bool) → a && b ≡ true → (a ≡ true) × (b ≡ true)
split_and true true e = (refl, refl)
split_and true false e = absurd (false≢true e)
split_and false b e = absurd (false≢true e)

ascii_of : (u : List ℕ) → list_all (λ c. nat_lt c 128) u ≡ true → IsAscii u
ascii_of [] e = IsAscii-nil
ascii_of (c ∷ cs) e =
    let parts = split_and (nat_lt c 128) (list_all (λ c. nat_lt c 128) cs) e in
    IsAscii-cons c cs (ltb-true c 128 parts.0) (ascii_of cs parts.1)

abbrev is_pair : List ℕ → Bool
is_pair u = nat_eq (length u) 2 && list_all (λ c. nat_lt c 128) u

-- one of these symbols stands in front
pub which : (test : List ℕ → Bool) (text : List ℕ) (symbols : List (List ℕ)) → list_any (λ symbol. starts_with nat_eq text symbol) symbols ≡ true → list_all test symbols ≡ true
    → (u : List ℕ) × (test u ≡ true) × (take (length u) text ≡ u)
which test text [] e all = absurd (false≢true e)
which test text (u ∷ us) e all = go (starts_with nat_eq text u) refl (λ later. which test text us later parts.1)
  where
    parts : (test u ≡ true) × (list_all test us ≡ true)
    parts = split_and (test u) (list_all test us) all

    go : (v : Bool) → starts_with nat_eq text u ≡ v → (list_any (λ symbol. starts_with nat_eq text symbol) us ≡ true → (u : List ℕ) × (test u ≡ true) × (take (length u) text ≡ u)) → (u : List ℕ) × (test u ≡ true) × (take (length u) text ≡ u)
    go true t later = (u, parts.0, sym ((bytes_eq-Decides u (take (length u) text)).0 t))
    go false t later = later (rw t at e)

double_facts : (text : List ℕ) → begins_double_symbol text ≡ true → Facts text 2
double_facts text e =
    let found = which is_pair text double_symbols e refl in
    let u = found.0 in
    let parts = split_and (nat_eq (length u) 2) (list_all (λ c. nat_lt c 128) u) found.1 in
    let two : length u ≡ 2 = eqb-true (length u) 2 parts.0 in
    let ascii = ascii_of u parts.1 in
    let long = fits u text found.2 in
    let at : (i : ℕ) → i < length u → get_or text i 0 < 128 =
    λ i lt. subst (λ (x : ℕ). x < 128) (ap (λ (l : List ℕ). get_or l i 0) (sym found.2) ∙ get_or-take (length u) text i 0 lt) (ascii i) in
    record { positive = omega arith; within = omega arith; first = at 0 (omega arith); last = at 1 (omega arith) }

single_below : (byte : ℕ) (symbols : List ℕ) → list_any (λ symbol. nat_eq byte symbol) symbols ≡ true → list_all (λ c. nat_lt c 128) symbols ≡ true → byte < 128
single_below byte [] e all = absurd (false≢true e)
single_below byte (c ∷ cs) e all = go (nat_eq byte c) refl (λ later. single_below byte cs later parts.1)
  where
    parts : (nat_lt c 128 ≡ true) × (list_all (λ c. nat_lt c 128) cs ≡ true)
    parts = split_and (nat_lt c 128) (list_all (λ c. nat_lt c 128) cs) all

    go : (v : Bool) → nat_eq byte c ≡ v → (list_any (λ symbol. nat_eq byte symbol) cs ≡ true → byte < 128) → byte < 128
    go true t later = omega (arith, eqb-true byte c t, ltb-true c 128 parts.0)
    go false t later = later (rw t at e)

single_facts : (text : List ℕ) → begins_with is_single_symbol text ≡ true → Facts text 1
single_facts [] e = absurd (false≢true e)
single_facts (b ∷ bs) e =
    let below = single_below b single_symbols e refl in
    record { positive = omega arith; within = omega arith; first = below; last = below }

symbol_facts : (text : List ℕ) (n : ℕ) → symbol_len text ≡ Some n → Facts text n
unfolding symbol_len
symbol_facts text n e = go _ _ refl refl
  where
    go : (v1 v2 : Bool) → begins_double_symbol text ≡ v1 → begins_with is_single_symbol text ≡ v2 → Facts text n
    go true v2 e1 e2 = subst (Facts text) (some_is 2 n (rw e1 at e)) (double_facts text e1)
    go false true e1 e2 = subst (Facts text) (some_is 1 n (rw (e1, e2) at e)) (single_facts text e2)
    go false false e1 e2 = absurd (let no : None ≡ Some n = rw (e1, e2) at e in cc)

-- ---- any token

-- what a choice gives
pub then_of : {A : Type 0} (v : Bool) (x y z : A) → v ≡ true → cond v x y ≡ z → x ≡ z
then_of v x y z e same = rw e at same

pub else_of : {A : Type 0} (v : Bool) (x y z : A) → v ≡ false → cond v x y ≡ z → y ≡ z
else_of v x y z e same = rw e at same

pub token_facts : (text : List ℕ) (kind : TokenKind) (n : ℕ) → token_at text ≡ Some (kind, n) → Facts text n
unfolding token_at
token_facts [] kind n e = absurd (cc)
token_facts (b ∷ bs) kind n e = go _ _ _ _ refl refl refl refl
  where
    go : (v1 v2 v3 v4 : Bool) → is_letter b ≡ v1 → is_ascii_digit b ≡ v2 → b == 34 ≡ v3 → b == 96 ≡ v4 → Facts (b ∷ bs) n
    go true v2 v3 v4 e1 e2 e3 e4 =
        word_facts b bs n e1 (of_kind_some Word kind (word_len (b ∷ bs)) n (then_of (is_letter b) _ _ _ e1 e)).0
    go false true v3 v4 e1 e2 e3 e4 =
        digits_facts b bs kind n e2 (then_of (is_ascii_digit b) _ _ _ e2 (else_of (is_letter b) _ _ _ e1 e))
    go false false true v4 e1 e2 e3 e4 =
        let quoted = then_of (b == 34) _ _ _ e3 (else_of (is_ascii_digit b) _ _ _ e2 (else_of (is_letter b) _ _ _ e1 e)) in
        enclosed_facts is_quotable 34 (omega arith) b bs n (eqb-true b 34 e3) (of_kind_some Quoted kind (enclosed_len is_quotable quotation_mark bs) n quoted).0
    go false false false true e1 e2 e3 e4 =
        let raw = then_of (b == 96) _ _ _ e4 (else_of (b == 34) _ _ _ e3 (else_of (is_ascii_digit b) _ _ _ e2 (else_of (is_letter b) _ _ _ e1 e))) in
        enclosed_facts is_raw 96 (omega arith) b bs n (eqb-true b 96 e4) (of_kind_some Raw kind (enclosed_len is_raw backquote bs) n raw).0
    go false false false false e1 e2 e3 e4 =
        let symbol = else_of (b == 96) _ _ _ e4 (else_of (b == 34) _ _ _ e3 (else_of (is_ascii_digit b) _ _ _ e2 (else_of (is_letter b) _ _ _ e1 e))) in
        symbol_facts (b ∷ bs) n (of_kind_some Symbol kind (symbol_len (b ∷ bs)) n symbol).0
