-- The token that is read at a place is the longest that matches there.
use Rattle.std.proofs.Common.{◌≡◌, ℕ, zero, suc, ◌+◌, ◌<◌, ◌≤◌, ◌∙◌, inl, inr, Bool, true, false, List, [], ◌∷◌, ◌++◌, length, take, drop, get_or, Option, Some, None, refl, ap, subst, sym, arith, nat_eq}
use Rattle.std.specs.Prelude.{◌==◌, ◌&&◌, is_some, nat_le}
use Rattle.std.specs.Char.{is_ascii_digit}
use Rattle.std.specs.List.{list_all, prefix_len}
use Rattle.std.proofs.lemmas.Bool.{and_parts, cases_lt, eq-eqb, eqb-true, false≢true, leb-true}
use Rattle.std.proofs.lemmas.List.{drop_more, drop_all, take_more, length-take-le}
use Rattle.std.proofs.lemmas.List.Sums.{prefix_len-le-length, prefix_len_stops}
use Rattle.aerie_base.specs.Durations.{duration_len, duration_of}
use Rattle.aerie_text.specs.Bytes.{begins_with, is_letter, is_word_byte}
use Rattle.aerie_text.specs.Numerals.{digits_at, fits_number, is_duration}
use Rattle.aerie_text.specs.Quotes.{backquote, enclosed_len, is_quotable, is_raw, quotation_mark}
use Rattle.aerie_text.specs.Symbols.{begins_double_symbol, double_symbols, is_single_symbol, symbol_len}
use Rattle.aerie_text.specs.TokenAt.{token_at, word_len}
use Rattle.aerie_text.specs.TokenTexts.{IsTextOf, word, number, duration, quoted, raw, single, double, Matches, is_double_symbol}
use Rattle.aerie_text.specs.declared.token.TokenKind.{TokenKind}
use Rattle.aerie_text.specs.declared.token.TokenKind.TheVariants.{Word, Number, Duration, Quoted, Raw, Symbol}
use Rattle.aerie_text.proofs.Beginnings.{Facts, begins_at, else_of, of_kind_some, some_is, then_of, run_positive, token_facts, which}
use Rattle.aerie_text.proofs.Figures.{front_has}

-- ---- runs

pub front_all : (test : ℕ → Bool) (text : List ℕ) → list_all test (take (prefix_len test text) text) ≡ true
front_all test text = front_has (λ l. list_all test l ≡ true) test refl (λ b bs e all. rw e all) text

pub run_stops : (test : ℕ → Bool) (text : List ℕ) → begins_with test (drop (prefix_len test text) text) ≡ false
run_stops test text =
    elim (cases_lt (prefix_len test text) (length text)) [
      | inl lt ↦ rw (drop_more text (prefix_len test text) 0 lt) (prefix_len_stops test text 0 lt)
      | inr le ↦ rw (drop_all (prefix_len test text) text le) refl
    ]

front_begins : (test : ℕ → Bool) (b : ℕ) (bs : List ℕ) (n : ℕ) → 0 < n → begins_with test (take n (b ∷ bs)) ≡ test b
front_begins test b bs zero lt = absurd (omega arith)
front_begins test b bs (suc n) lt = refl

-- ---- what is read matches

word_matches : (b : ℕ) (bs : List ℕ) (n : ℕ) → is_letter b ≡ true → 0 < n → n ≤ length (b ∷ bs) → word_len (b ∷ bs) ≡ Some n → Matches (b ∷ bs) Word n
word_matches b bs n letter positive within e = go (b ∷ bs) e (front_begins is_letter b bs n positive ∙ letter) within
  where
    one : (text : List ℕ) → nat_le (prefix_len is_word_byte text) 64 ≡ true → n ≡ prefix_len is_word_byte text → begins_with is_letter (take n text) ≡ true → n ≤ length text → Matches text Word n
    one text short is begins inside =
        let all : list_all is_word_byte (take n text) ≡ true = rw is (front_all is_word_byte text) in
        let stops : begins_with is_word_byte (drop n text) ≡ false = rw is (run_stops is_word_byte text) in
        record { within = inside; is_token = word (take n text) begins all (omega (arith, length-take-le n text inside, leb-true _ _ short)); ends = rw stops refl }

    go : (text : List ℕ) → word_len text ≡ Some n → begins_with is_letter (take n text) ≡ true → n ≤ length text → Matches text Word n
    go text same begins inside = step (nat_le (prefix_len is_word_byte text) 64) refl
      where
        step : (v : Bool) → nat_le (prefix_len is_word_byte text) 64 ≡ v → Matches text Word n
        step true t = one text t (sym (some_is _ _ (then_of _ _ _ _ t same))) begins inside
        step false t = absurd (let no : None ≡ Some n = else_of _ _ _ _ t same in cc)

some_of : {A : Type 0} (o : Option A) → is_some o ≡ true → (x : A) × (o ≡ Some x)
some_of None e = absurd (false≢true e)
some_of (Some x) e = (x, refl)

number_matches : (text : List ℕ) → 0 < prefix_len is_ascii_digit text → begins_with is_word_byte (drop (prefix_len is_ascii_digit text) text) ≡ false
    → fits_number (take (prefix_len is_ascii_digit text) text) ≡ true → Matches text Number (prefix_len is_ascii_digit text)
number_matches text positive stops fits =
    let count = prefix_len is_ascii_digit text in
    let inside = prefix_len-le-length is_ascii_digit text in
    let len = length-take-le count text inside in
    let parts = and_parts _ _ fits in
    record {
      within = inside;
      is_token = number (take count text) (omega (arith, len)) (leb-true _ _ parts.0) (front_all is_ascii_digit text) (leb-true _ _ parts.1);
      ends = rw stops refl;
    }

digits_match : (text : List ℕ) (kind : TokenKind) (n : ℕ) → 0 < prefix_len is_ascii_digit text → Facts text n → digits_at text ≡ Some (kind, n) → Matches text kind n
unfolding digits_at
digits_match text kind n positive facts e = go _ _ _ refl refl refl
  where
    go : (v1 v2 v3 : Bool) → is_duration (take (duration_len text) text) ≡ v1 → begins_with is_word_byte (drop (prefix_len is_ascii_digit text) text) ≡ v2
        → fits_number (take (prefix_len is_ascii_digit text) text) ≡ v3 → Matches text kind n
    go true v2 v3 e1 e2 e3 =
        let pair = some_is (Duration, duration_len text) (kind, n) (rw e1 at e) in
        let found = some_of (duration_of (take (duration_len text) text)) e1 in
        let len : duration_len text ≡ n = ap (λ (x : TokenKind × ℕ). x.1) pair in
        let is : IsTextOf Duration (take n text) = subst (λ (m : ℕ). IsTextOf Duration (take m text)) len (duration (take (duration_len text) text) found.0 found.1) in
        subst (λ (k : TokenKind). Matches text k n) (ap (λ (x : TokenKind × ℕ). x.0) pair) (record { within = facts.within; is_token = is; ends = eq-eqb (duration_len text) n len })
    go false true v3 e1 e2 e3 = absurd (let no : None ≡ Some (kind, n) = rw (e1, e2) at e in cc)
    go false false true e1 e2 e3 =
        let pair = some_is (Number, prefix_len is_ascii_digit text) (kind, n) (rw (e1, e2, e3) at e) in
        subst (λ (x : TokenKind × ℕ). Matches text x.0 x.1) pair (number_matches text positive e2 e3)
    go false false false e1 e2 e3 = absurd (let no : None ≡ Some (kind, n) = rw (e1, e2, e3) at e in cc)

-- a text between two marks, in front of a text that begins with the first
enclosed : (inside : ℕ → Bool) (mark : ℕ) (bs : List ℕ) (n : ℕ) → enclosed_len inside mark bs ≡ Some n
    → take n (mark ∷ bs) ≡ mark ∷ take (prefix_len inside bs) bs ++ mark ∷ []
enclosed inside mark bs n e = go (begins_with (λ c. c == mark) (drop (prefix_len inside bs) bs)) refl
  where
    go : (v : Bool) → begins_with (λ c. c == mark) (drop (prefix_len inside bs) bs) ≡ v → take n (mark ∷ bs) ≡ mark ∷ take (prefix_len inside bs) bs ++ mark ∷ []
    go false t = absurd (let no : None ≡ Some n = rw t at e in cc)
    go true t =
        let len : prefix_len inside bs + 2 ≡ n = some_is _ _ (rw t at e) in
        let at = begins_at (λ c. c == mark) bs (prefix_len inside bs) t in
        let mark_there : get_or bs (prefix_len inside bs) 0 ≡ mark = eqb-true _ _ at.1 in
        let place : n ≡ suc (prefix_len inside bs + 1) = omega arith in
        let more : take (prefix_len inside bs + 1) bs ≡ take (prefix_len inside bs) bs ++ mark ∷ [] =
        take_more bs (prefix_len inside bs) 0 at.0 ∙ ap (λ (c : ℕ). take (prefix_len inside bs) bs ++ c ∷ []) mark_there in
        rw place (ap (λ (l : List ℕ). mark ∷ l) more)

symbol_matches : (text : List ℕ) (n : ℕ) → Facts text n → symbol_len text ≡ Some n → Matches text Symbol n
unfolding symbol_len
symbol_matches text n facts e = go _ _ refl refl
  where
    first_two : List ℕ → Bool
    first_two u = nat_eq (length u) 2 && is_double_symbol u

    go : (v1 v2 : Bool) → begins_double_symbol text ≡ v1 → begins_with is_single_symbol text ≡ v2 → Matches text Symbol n
    go true v2 e1 e2 =
        let found = which (λ u. nat_eq (length u) 2 && is_double_symbol u) text double_symbols e1 refl in
        let parts = and_parts _ _ found.1 in
        let two : length found.0 ≡ n = eqb-true _ _ parts.0 ∙ some_is _ _ (rw e1 at e) in
        let front : take n text ≡ found.0 = ap (λ (m : ℕ). take m text) (sym two) ∙ found.2 in
        record { within = facts.within; is_token = double (take n text) (ap is_double_symbol front ∙ parts.1); ends = refl }
    go false true e1 e2 = one text e2 facts.within (some_is _ _ (rw (e1, e2) at e))
      where
        one : (text : List ℕ) → begins_with is_single_symbol text ≡ true → n ≤ length text → 1 ≡ n → Matches text Symbol n
        one [] begins inside is = absurd (false≢true begins)
        one (b ∷ bs) begins inside is =
            let front : take n (b ∷ bs) ≡ b ∷ [] = ap (λ (m : ℕ). take m (b ∷ bs)) (sym is) in
            record { within = inside; is_token = single (take n (b ∷ bs)) b front begins; ends = refl }
    go false false e1 e2 = absurd (let no : None ≡ Some n = rw (e1, e2) at e in cc)

pub read_matches : (text : List ℕ) (kind : TokenKind) (n : ℕ) → token_at text ≡ Some (kind, n) → Matches text kind n
unfolding token_at
read_matches [] kind n e = absurd (cc)
read_matches (b ∷ bs) kind n e = go _ _ _ _ refl refl refl refl (token_facts (b ∷ bs) kind n e)
  where
    go : (v1 v2 v3 v4 : Bool) → is_letter b ≡ v1 → is_ascii_digit b ≡ v2 → b == 34 ≡ v3 → b == 96 ≡ v4 → Facts (b ∷ bs) n → Matches (b ∷ bs) kind n
    go true v2 v3 v4 e1 e2 e3 e4 facts =
        let found = of_kind_some Word kind (word_len (b ∷ bs)) n (then_of (is_letter b) _ _ _ e1 e) in
        subst (λ (k : TokenKind). Matches (b ∷ bs) k n) found.1 (word_matches b bs n e1 facts.positive facts.within found.0)
    go false true v3 v4 e1 e2 e3 e4 facts =
        digits_match (b ∷ bs) kind n (run_positive is_ascii_digit b bs e2) facts (then_of (is_ascii_digit b) _ _ _ e2 (else_of (is_letter b) _ _ _ e1 e))
    go false false true v4 e1 e2 e3 e4 facts =
        let quote = then_of (b == 34) _ _ _ e3 (else_of (is_ascii_digit b) _ _ _ e2 (else_of (is_letter b) _ _ _ e1 e)) in
        let found = of_kind_some Quoted kind (enclosed_len is_quotable quotation_mark bs) n quote in
        let mark : 34 ≡ b = sym (eqb-true b 34 e3) in
        let whole : take n (b ∷ bs) ≡ 34 ∷ take (prefix_len is_quotable bs) bs ++ 34 ∷ [] = rw (sym mark) (enclosed is_quotable 34 bs n found.0) in
        subst (λ (k : TokenKind). Matches (b ∷ bs) k n) found.1
        (record { within = facts.within; is_token = quoted (take n (b ∷ bs)) (take (prefix_len is_quotable bs) bs) whole (front_all is_quotable bs); ends = refl })
    go false false false true e1 e2 e3 e4 facts =
        let quote = then_of (b == 96) _ _ _ e4 (else_of (b == 34) _ _ _ e3 (else_of (is_ascii_digit b) _ _ _ e2 (else_of (is_letter b) _ _ _ e1 e))) in
        let found = of_kind_some Raw kind (enclosed_len is_raw backquote bs) n quote in
        let mark : 96 ≡ b = sym (eqb-true b 96 e4) in
        let whole : take n (b ∷ bs) ≡ 96 ∷ take (prefix_len is_raw bs) bs ++ 96 ∷ [] = rw (sym mark) (enclosed is_raw 96 bs n found.0) in
        subst (λ (k : TokenKind). Matches (b ∷ bs) k n) found.1
        (record { within = facts.within; is_token = raw (take n (b ∷ bs)) (take (prefix_len is_raw bs) bs) whole (front_all is_raw bs); ends = refl })
    go false false false false e1 e2 e3 e4 facts =
        let symbol = else_of (b == 96) _ _ _ e4 (else_of (b == 34) _ _ _ e3 (else_of (is_ascii_digit b) _ _ _ e2 (else_of (is_letter b) _ _ _ e1 e))) in
        let found = of_kind_some Symbol kind (symbol_len (b ∷ bs)) n symbol in
        subst (λ (k : TokenKind). Matches (b ∷ bs) k n) found.1 (symbol_matches (b ∷ bs) n facts found.0)
