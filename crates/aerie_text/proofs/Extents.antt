-- No token is longer than the one that is read.
use Rattle.std.proofs.Common.{◌≡◌, ℕ, zero, suc, ◌+◌, ◌<◌, ◌≤◌, ◌∙◌, Bool, true, false, cond, List, [], ◌∷◌, ◌++◌, length, take, drop, get_or, Option, Some, None, refl, ap, subst, sym, arith, nat_eq, le-leb, append_assoc, take-append-drop}
use Rattle.std.specs.Prelude.{◌==◌, ◌&&◌, ◌||◌, not, is_some}
use Rattle.std.specs.Char.{is_ascii_digit}
use Rattle.std.specs.List.{list_all, list_any, prefix_len, starts_with}
use Rattle.std.specs.Str.{bytes_eq}
use Rattle.std.specs.Str.Parse.{digits_value}
use Rattle.std.proofs.lemmas.Bool.{and_parts, eq-eqb, eqb-true, false≢true, not-true}
use Rattle.std.proofs.lemmas.Bool.Decides.{nat_tests}
use Rattle.std.proofs.lemmas.List.{drop_more, drop_at, get_or-take, length-append, length-take-le, take_all, take_at}
use Rattle.std.proofs.lemmas.List.Prefix.{front_fits}
use Rattle.std.proofs.lemmas.List.Sums.{prefix_len_is, AllPass-from_list_all}
use Rattle.std.proofs.lemmas.Slice.Eq.{bytes_eq-Decides}
use Rattle.aerie_base.specs.Durations.{duration_len, duration_of}
use Rattle.aerie_text.specs.Bytes.{begins_with, is_letter, is_word_byte}
use Rattle.aerie_text.specs.Numerals.{digits_at, fits_number, is_duration}
use Rattle.aerie_text.specs.Quotes.{enclosed_len, is_quotable, is_raw}
use Rattle.aerie_text.specs.Symbols.{begins_double_symbol, double_symbols, is_single_symbol, single_symbols, symbol_len}
use Rattle.aerie_text.specs.TokenAt.{of_kind, token_at, word_len}
use Rattle.aerie_text.specs.TokenTexts.{IsTextOf, word, number, duration, quoted, raw, single, double, BeginsNone, IsLongest, Matches, is_double_symbol, may_end}
use Rattle.aerie_text.specs.declared.token.TokenKind.{TokenKind}
use Rattle.aerie_text.specs.declared.token.TokenKind.TheVariants.{Word, Number, Duration, Quoted, Raw, Symbol}
use Rattle.aerie_text.proofs.Beginnings.{duration_positive, some_is}
use Rattle.aerie_text.proofs.Matching.{read_matches}
use Rattle.aerie_text.proofs.Units.{duration_begun, duration_read}

-- a token of at least so many bytes is found
pub record AtLeast (found : Option (TokenKind × ℕ)) (len : ℕ) : Type 0 where
  pub kind : TokenKind
  pub whole : ℕ
  pub is : found ≡ Some (kind, whole)
  pub covers : len ≤ whole

at_least : (kind : TokenKind) (o : Option ℕ) (whole len : ℕ) → o ≡ Some whole → len ≤ whole → AtLeast (of_kind kind o) len
at_least kind o whole len e covers = record { kind = kind; whole = whole; is = ap (of_kind kind) e; covers = covers }

-- ---- choices

if_true : {A : Type 0} (v : Bool) (x y : A) → v ≡ true → cond v x y ≡ x
if_true v x y e = rw e refl

if_false : {A : Type 0} (v : Bool) (x y : A) → v ≡ false → cond v x y ≡ y
if_false v x y e = rw e refl

at_letter : (b : ℕ) (bs : List ℕ) → is_letter b ≡ true → token_at (b ∷ bs) ≡ of_kind Word (word_len (b ∷ bs))
unfolding token_at
at_letter b bs e = if_true (is_letter b) _ _ e

at_digit : (b : ℕ) (bs : List ℕ) → is_letter b ≡ false → is_ascii_digit b ≡ true → token_at (b ∷ bs) ≡ digits_at (b ∷ bs)
unfolding token_at
at_digit b bs e1 e2 = if_false (is_letter b) _ _ e1 ∙ if_true (is_ascii_digit b) _ _ e2

at_quote : (bs : List ℕ) → token_at (34 ∷ bs) ≡ of_kind Quoted (enclosed_len is_quotable 34 bs)
unfolding token_at
at_quote bs = refl

at_backquote : (bs : List ℕ) → token_at (96 ∷ bs) ≡ of_kind Raw (enclosed_len is_raw 96 bs)
unfolding token_at
at_backquote bs = refl

-- whether a symbol may begin with a byte
abbrev begins_symbol : ℕ → Bool
begins_symbol b = (not (is_letter b) && not (is_ascii_digit b)) && (not (b == 34) && not (b == 96))

at_symbol : (b : ℕ) (bs : List ℕ) → begins_symbol b ≡ true → token_at (b ∷ bs) ≡ of_kind Symbol (symbol_len (b ∷ bs))
unfolding token_at
at_symbol b bs e =
    let parts = and_parts _ _ e in
    let first = and_parts _ _ parts.0 in
    let last = and_parts _ _ parts.1 in
    if_false (is_letter b) _ _ (not-true _ first.0) ∙ if_false (is_ascii_digit b) _ _ (not-true _ first.1)
    ∙ if_false (b == 34) _ _ (not-true _ last.0) ∙ if_false (b == 96) _ _ (not-true _ last.1)

-- ---- runs

stops_there : (test : ℕ → Bool) (text : List ℕ) (n : ℕ) → begins_with test (drop n text) ≡ false → n < length text → test (get_or text n 0) ≡ false
stops_there test text n e lt = rw (drop_more text n 0 lt) at e

run_is : (test : ℕ → Bool) (text : List ℕ) (n : ℕ) → n ≤ length text → list_all test (take n text) ≡ true → begins_with test (drop n text) ≡ false → prefix_len test text ≡ n
run_is test text n within all stops =
    prefix_len_is test text n 0 within
    (λ k lt. ap test (sym (get_or-take n text k 0 lt)) ∙ AllPass-from_list_all test (take n text) all k 0 (omega (arith, lt, length-take-le n text within)))
    (λ lt. stops_there test text n stops lt)

-- a front that begins with such a byte is the front of a text that does
first_of_front : (test : ℕ → Bool) (n : ℕ) (b : ℕ) (bs : List ℕ) → begins_with test (take n (b ∷ bs)) ≡ true → test b ≡ true
first_of_front test zero b bs e = absurd (false≢true e)
first_of_front test (suc n) b bs e = e

-- ---- words

word_covers : (text : List ℕ) (n : ℕ) → n ≤ length text → begins_with is_letter (take n text) ≡ true → list_all is_word_byte (take n text) ≡ true → n ≤ 64
    → begins_with is_word_byte (drop n text) ≡ false → AtLeast (token_at text) n
word_covers [] n within begins all short stops = absurd (false≢true (rw (take_all {A = ℕ} n [] (omega arith)) at begins))
word_covers (b ∷ bs) n within begins all short stops =
    subst (λ found. AtLeast found n) (sym (at_letter b bs (first_of_front is_letter n b bs begins)))
    (at_least Word (word_len (b ∷ bs)) n n (len (b ∷ bs) (run_is is_word_byte (b ∷ bs) n within all stops)) (omega arith))
  where
    len : (text : List ℕ) → prefix_len is_word_byte text ≡ n → word_len text ≡ Some n
    len text e = rw (e, le-leb n 64 short) refl

-- ---- digits

digits_cover : (text : List ℕ) (n : ℕ) → prefix_len is_ascii_digit text ≡ n → begins_with is_word_byte (drop n text) ≡ false → fits_number (take n text) ≡ true → AtLeast (digits_at text) n
unfolding digits_at
digits_cover text n e stops fits = go (is_duration (take (duration_len text) text)) refl
  where
    go : (v : Bool) → is_duration (take (duration_len text) text) ≡ v → AtLeast (digits_at text) n
    go true t = record { kind = Duration; whole = duration_len text; is = if_true _ _ _ t; covers = let begun = duration_begun text (duration_positive text t) in omega (arith, e, begun.all) }
    go false t =
        let last : begins_with is_word_byte (drop (prefix_len is_ascii_digit text) text) ≡ false = rw e stops in
        let short : fits_number (take (prefix_len is_ascii_digit text) text) ≡ true = rw e fits in
        record { kind = Number; whole = prefix_len is_ascii_digit text; is = if_false _ _ _ t ∙ if_false _ _ _ last ∙ if_true _ _ _ short; covers = omega (arith, e) }

digit_no_letter : (b : ℕ) → is_ascii_digit b ≡ true → is_letter b ≡ false
digit_no_letter b e = grind (arith, nat_tests)

-- where no letter, digit or underscore stands, no digit does
no_digit : (text : List ℕ) → begins_with is_word_byte text ≡ false → begins_with is_ascii_digit text ≡ false
no_digit [] e = refl
no_digit (b ∷ bs) e = one b e
  where
    one : (b : ℕ) → is_word_byte b ≡ false → is_ascii_digit b ≡ false
    one b e = grind (arith, nat_tests)

first_digit : (n b : ℕ) (bs : List ℕ) → 0 < n → list_all is_ascii_digit (take n (b ∷ bs)) ≡ true → is_ascii_digit b ≡ true
first_digit zero b bs lt e = absurd (omega arith)
first_digit (suc n) b bs lt e = (and_parts _ _ e).0

number_covers : (text : List ℕ) (n : ℕ) → n ≤ length text → 1 ≤ length (take n text) → list_all is_ascii_digit (take n text) ≡ true → fits_number (take n text) ≡ true
    → begins_with is_word_byte (drop n text) ≡ false → AtLeast (token_at text) n
number_covers [] n within long all fits stops = absurd (omega (arith, ap length (take_all {A = ℕ} n [] (omega arith))))
number_covers (b ∷ bs) n within long all fits stops =
    let positive : 0 < n = omega (arith, length-take-le n (b ∷ bs) within) in
    let digit : is_ascii_digit b ≡ true = first_digit n b bs positive all in
    subst (λ found. AtLeast found n) (sym (at_digit b bs (digit_no_letter b digit) digit))
    (digits_cover (b ∷ bs) n (run_is is_ascii_digit (b ∷ bs) n within all (no_digit (drop n (b ∷ bs)) stops)) stops fits)

-- ---- durations

begins_digit : (b : ℕ) (bs : List ℕ) → 0 < prefix_len is_ascii_digit (b ∷ bs) → is_ascii_digit b ≡ true
begins_digit b bs lt = go (is_ascii_digit b) refl
  where
    go : (v : Bool) → is_ascii_digit b ≡ v → is_ascii_digit b ≡ true
    go true e = e
    go false e = let none : prefix_len is_ascii_digit (b ∷ bs) ≡ 0 = rw e refl in absurd (omega (arith, none))

duration_covers : (text : List ℕ) (n micros : ℕ) → duration_of (take n text) ≡ Some micros → duration_len text ≡ n → AtLeast (token_at text) n
duration_covers text n micros e len = go text (ap (λ (m : ℕ). is_duration (take m text)) len ∙ ap is_some e) len
  where
    go : (text : List ℕ) → is_duration (take (duration_len text) text) ≡ true → duration_len text ≡ n → AtLeast (token_at text) n
    go [] is len = absurd (false≢true is)
    go (b ∷ bs) is len =
        let digit = begins_digit b bs (duration_begun (b ∷ bs) (duration_positive (b ∷ bs) is)).some in
        record { kind = Duration; whole = duration_len (b ∷ bs); is = at_digit b bs (digit_no_letter b digit) digit ∙ duration_read (b ∷ bs) is; covers = omega (arith, len) }

-- ---- quotes

quote_covers : (inside : ℕ → Bool) (mark : ℕ) (text body rest : List ℕ) → inside mark ≡ false → text ≡ body ++ mark ∷ rest → list_all inside body ≡ true
    → enclosed_len inside mark text ≡ Some (length body + 2)
quote_covers inside mark text body rest outside split all =
    let front : take (length body) text ≡ body = ap (take (length body)) split ∙ take_at body (mark ∷ rest) (length body) refl in
    let back : drop (length body) text ≡ mark ∷ rest = ap (drop (length body)) split ∙ drop_at body (mark ∷ rest) (length body) refl in
    let within : length body ≤ length text = front_fits text body (mark ∷ rest) split in
    let count : prefix_len inside text ≡ length body = run_is inside text (length body) within (ap (list_all inside) front ∙ all) (ap (begins_with inside) back ∙ outside) in
    let marked : begins_with (λ c. c == mark) (drop (prefix_len inside text) text) ≡ true = rw (count, back) (eq-eqb mark mark refl) in
    if_true _ _ _ marked ∙ ap (λ (m : ℕ). Some (m + 2)) count

enclosed_covers : (inside : ℕ → Bool) (mark : ℕ) (text body : List ℕ) (n : ℕ) → inside mark ≡ false → n ≤ length text → take n text ≡ mark ∷ body ++ mark ∷ [] → list_all inside body ≡ true
    → (bs : List ℕ) × (text ≡ mark ∷ bs) × (enclosed_len inside mark bs ≡ Some n)
enclosed_covers inside mark text body n outside within front all =
    let bs = body ++ mark ∷ drop n text in
    let split : text ≡ mark ∷ bs = sym (take-append-drop n text) ∙ ap (λ (l : List ℕ). l ++ drop n text) front ∙ ap (λ (l : List ℕ). mark ∷ l) (append_assoc body (mark ∷ []) (drop n text)) in
    let len : length body + 2 ≡ n = omega (arith, length-take-le n text within, ap length front, length-append body (mark ∷ [])) in
    (bs, split, quote_covers inside mark bs body (drop n text) outside refl all ∙ ap (λ (m : ℕ). Some m) len)

-- ---- symbols

-- what all of some bytes have, one of them has
single_has : (test : ℕ → Bool) (byte : ℕ) (symbols : List ℕ) → list_any (λ symbol. nat_eq byte symbol) symbols ≡ true → list_all test symbols ≡ true → test byte ≡ true
single_has test byte [] e all = absurd (false≢true e)
single_has test byte (c ∷ cs) e all = go (nat_eq byte c) refl (λ later. single_has test byte cs later (and_parts _ _ all).1)
  where
    go : (v : Bool) → nat_eq byte c ≡ v → (list_any (λ symbol. nat_eq byte symbol) cs ≡ true → test byte ≡ true) → test byte ≡ true
    go true t later = ap test (eqb-true byte c t) ∙ (and_parts _ _ all).0
    go false t later = later (rw t at e)

double_has : (test : List ℕ → Bool) (u : List ℕ) (symbols : List (List ℕ)) → list_any (λ symbol. bytes_eq u symbol) symbols ≡ true → list_all test symbols ≡ true → test u ≡ true
double_has test u [] e all = absurd (false≢true e)
double_has test u (c ∷ cs) e all = go (bytes_eq u c) refl (λ later. double_has test u cs later (and_parts _ _ all).1)
  where
    go : (v : Bool) → bytes_eq u c ≡ v → (list_any (λ symbol. bytes_eq u symbol) cs ≡ true → test u ≡ true) → test u ≡ true
    go true t later = ap test ((bytes_eq-Decides u c).0 t) ∙ (and_parts _ _ all).0
    go false t later = later (rw t at e)

-- a text whose front is one of these symbols begins with it
starts : (text : List ℕ) (n : ℕ) (symbols : List (List ℕ)) → list_any (λ symbol. bytes_eq (take n text) symbol) symbols ≡ true → list_all (λ symbol. nat_eq (length symbol) n) symbols ≡ true
    → list_any (λ symbol. starts_with nat_eq text symbol) symbols ≡ true
starts text n [] e all = absurd (false≢true e)
starts text n (c ∷ cs) e all = go (bytes_eq (take n text) c) refl (λ later. starts text n cs later (and_parts _ _ all).1)
  where
    go : (v : Bool) → bytes_eq (take n text) c ≡ v → (list_any (λ symbol. bytes_eq (take n text) symbol) cs ≡ true → list_any (λ symbol. starts_with nat_eq text symbol) cs ≡ true)
        → list_any (λ symbol. starts_with nat_eq text symbol) (c ∷ cs) ≡ true
    go true t later =
        let len : length c ≡ n = eqb-true _ _ (and_parts _ _ all).0 in
        let same : c ≡ take (length c) text = sym ((bytes_eq-Decides (take n text) c).0 t) ∙ ap (λ (m : ℕ). take m text) (sym len) in
        let here : starts_with nat_eq text c ≡ true = (bytes_eq-Decides c (take (length c) text)).1 same in
        rw here refl
    go false t later = or_later (starts_with nat_eq text c) _ (later (rw t at e))
      where
        or_later : (a b : Bool) → b ≡ true → a || b ≡ true
        or_later true b e = refl
        or_later false b e = e

symbol_covers : (text : List ℕ) (n : ℕ) → n ≤ 2 → begins_with is_single_symbol text ≡ true → n ≤ 1 → AtLeast (of_kind Symbol (symbol_len text)) n
unfolding symbol_len
symbol_covers text n short begins one = go (begins_double_symbol text) refl
  where
    go : (v : Bool) → begins_double_symbol text ≡ v → AtLeast (of_kind Symbol (symbol_len text)) n
    go true t = at_least Symbol (symbol_len text) 2 n (if_true _ _ _ t) short
    go false t = at_least Symbol (symbol_len text) 1 n (if_false _ _ _ t ∙ if_true _ _ _ begins) one

single_covers : (text : List ℕ) (n byte : ℕ) → n ≤ length text → take n text ≡ byte ∷ [] → is_single_symbol byte ≡ true → AtLeast (token_at text) n
single_covers [] n byte within front is = absurd (let none : [] ≡ byte ∷ [] = sym (take_all {A = ℕ} n [] (omega arith)) ∙ front in cc)
single_covers (b ∷ bs) n byte within front is =
    let len : n ≡ 1 = sym (length-take-le n (b ∷ bs) within) ∙ ap length front in
    let same : b ≡ byte = some_is _ _ (ap (λ (l : List ℕ). first_of l) (ap (λ (m : ℕ). take m (b ∷ bs)) (sym len) ∙ front)) in
    let single_here : is_single_symbol b ≡ true = ap is_single_symbol same ∙ is in
    subst (λ found. AtLeast found n) (sym (at_symbol b bs (single_has begins_symbol b single_symbols single_here refl)))
    (symbol_covers (b ∷ bs) n (omega arith) single_here (omega arith))
  where
    first_of : List ℕ → Option ℕ
    first_of [] = None
    first_of (x ∷ xs) = Some x

double_read : (text : List ℕ) → begins_double_symbol text ≡ true → symbol_len text ≡ Some 2
unfolding symbol_len
double_read text e = if_true _ _ _ e

double_covers : (text : List ℕ) (n : ℕ) → n ≤ length text → is_double_symbol (take n text) ≡ true → AtLeast (token_at text) n
double_covers text n within is =
    let parts = and_parts _ _ (double_has (λ u. nat_eq (length u) 2 && begins_with begins_symbol u) (take n text) double_symbols is refl) in
    let len : n ≡ 2 = sym (length-take-le n text within) ∙ eqb-true _ _ parts.0 in
    let two : is_double_symbol (take 2 text) ≡ true = ap (λ (m : ℕ). is_double_symbol (take m text)) (sym len) ∙ is in
    go text n len parts.1 (starts text 2 double_symbols two refl)
  where
    go : (text : List ℕ) (n : ℕ) → n ≡ 2 → begins_with begins_symbol (take n text) ≡ true → begins_double_symbol text ≡ true → AtLeast (token_at text) n
    go [] n len begins double_here = absurd (false≢true double_here)
    go (b ∷ bs) n len begins double_here =
        subst (λ found. AtLeast found n) (sym (at_symbol b bs (first_of_front begins_symbol n b bs begins)))
        (at_least Symbol (symbol_len (b ∷ bs)) 2 n (double_read (b ∷ bs) double_here) (omega arith))

-- ---- any token

pub covers : (text : List ℕ) (kind : TokenKind) (n : ℕ) → Matches text kind n → AtLeast (token_at text) n
covers text kind n m = go kind (take n text) refl m.is_token m.ends
  where
    go : (kind : TokenKind) (front : List ℕ) → take n text ≡ front → IsTextOf kind front → may_end kind text n ≡ true → AtLeast (token_at text) n
    go kind front same (word whole begins all short) ends =
        word_covers text n m.within (ap (begins_with is_letter) same ∙ begins) (ap (list_all is_word_byte) same ∙ all)
        (omega (arith, ap length same, length-take-le n text m.within)) (not-true _ ends)
    go kind front same (number whole some short all value) ends =
        number_covers text n m.within (omega (arith, ap length same)) (ap (list_all is_ascii_digit) same ∙ all)
        (ap fits_number same ∙ fits whole short value) (not-true _ ends)
      where
        fits : (digits : List ℕ) → length digits ≤ 19 → digits_value 10 digits ≤ 1_000_000_000_000_000_000 → fits_number digits ≡ true
        fits digits short value = rw (le-leb _ _ short, le-leb _ _ value) refl
    go kind front same (duration whole micros is) ends = duration_covers text n micros (ap duration_of same ∙ is) (eqb-true _ _ ends)
    go kind front same (quoted whole inside is all) ends =
        let found = enclosed_covers is_quotable 34 text inside n refl m.within (same ∙ is) all in
        subst (λ l. AtLeast (token_at l) n) (sym found.1) (subst (λ o. AtLeast o n) (sym (at_quote found.0)) (at_least Quoted _ n n found.2 (omega arith)))
    go kind front same (raw whole inside is all) ends =
        let found = enclosed_covers is_raw 96 text inside n refl m.within (same ∙ is) all in
        subst (λ l. AtLeast (token_at l) n) (sym found.1) (subst (λ o. AtLeast o n) (sym (at_backquote found.0)) (at_least Raw _ n n found.2 (omega arith)))
    go kind front same (single whole byte is symbol) ends = single_covers text n byte m.within (same ∙ is) symbol
    go kind front same (double whole is) ends = double_covers text n m.within (ap is_double_symbol same ∙ is)

-- ---- what is read is the longest, and where nothing is read nothing matches

pub read_longest : (text : List ℕ) (kind : TokenKind) (n : ℕ) → token_at text ≡ Some (kind, n) → IsLongest text kind n
read_longest text kind n e =
    record {
      matches = read_matches text kind n e;
      longest = λ other more matching.
          let found = covers text other more matching in
          let same : (found.kind, found.whole) ≡ (kind, n) = some_is _ _ (sym found.is ∙ e) in
          let len : found.whole ≡ n = ap (λ (x : TokenKind × ℕ). x.1) same in
          omega (arith, found.covers);
    }

pub none_matches : (text : List ℕ) → token_at text ≡ None → BeginsNone text
none_matches text e kind len matching =
    let found = covers text kind len matching in
    let no : ◌≡◌ {A = Option (TokenKind × ℕ)} None (Some (found.kind, found.whole)) = sym e ∙ found.is in
    absurd (cc)
