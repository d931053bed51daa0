-- What stands in front of the first place where no token begins can be cut into tokens: of each token and each gap there, the
-- text behind it decides nothing.
use Rattle.std.proofs.Common.{◌≡◌, ℕ, zero, suc, ◌+◌, ◌-◌, ◌<◌, ◌≤◌, ◌∙◌, Bool, true, false, cond, List, [], ◌∷◌, ◌++◌, length, take, drop, Option, Some, None, Result, Ok, Err, refl, ap, sym, subst, arith, nat_eq, codes, take-append-drop}
use Rattle.std.specs.Prelude.{◌==◌, nat_le, nat_lt}
use Rattle.std.specs.Str.{bytes_eq}
use Rattle.std.specs.Char.{is_ascii_digit}
use Rattle.std.specs.List.{list_all, list_any, prefix_len, starts_with}
use Rattle.std.proofs.lemmas.Bool.{and_parts, eqb-true, false≢true}
use Rattle.std.proofs.lemmas.List.{take-append-le, drop-append-le, length-drop, length-take}
use Rattle.std.proofs.lemmas.Slice.Eq.{bytes_eq-Decides}
use Rattle.aerie_text.specs.Bytes.{begins_with, is_letter, is_white, is_word_byte}
use Rattle.aerie_text.specs.Gaps.{begins_comment, gap_len, is_in_line}
use Rattle.aerie_base.specs.Durations.{begins_part, duration_len, part_len, parts_len, unit_text, units}
use Rattle.aerie_text.specs.Numerals.{digits_at, fits_number, is_duration}
use Rattle.aerie_text.specs.Quotes.{backquote, enclosed_len, is_quotable, is_raw, quotation_mark}
use Rattle.aerie_text.specs.Symbols.{begins_double_symbol, double_symbols, is_single_symbol, symbol_len}
use Rattle.aerie_text.specs.TokenAt.{of_kind, token_at, word_len}
use Rattle.aerie_text.specs.Tokens.{read_at, token, tokens_from, tokens_of, with_tokens}
use Rattle.aerie_text.specs.declared.token.Token.{Token}
use Rattle.aerie_text.specs.declared.token.TokenKind.{TokenKind}
use Rattle.aerie_text.specs.declared.token.TokenKind.TheVariants.{Word, Number, Duration, Quoted, Raw, Symbol}

some_is : {A : Type 0} (a b : A) → Some a ≡ Some b → a ≡ b
some_is a b e = cc

of_kind_some : (kind k : TokenKind) (o : Option ℕ) (n : ℕ) → of_kind kind o ≡ Some (k, n) → (o ≡ Some n) × (kind ≡ k)
of_kind_some kind k None n e = absurd (cc)
of_kind_some kind k (Some m) n e =
    let pair = some_is (kind, m) (k, n) e in
    (ap (λ (x : TokenKind × ℕ). Some x.1) pair, ap (λ (x : TokenKind × ℕ). x.0) pair)

if_true : {A : Type 0} (v : Bool) (x y : A) → v ≡ true → cond v x y ≡ x
if_true v x y e = rw e refl

if_false : {A : Type 0} (v : Bool) (x y : A) → v ≡ false → cond v x y ≡ y
if_false v x y e = rw e refl

then_of : {A : Type 0} (v : Bool) (x y z : A) → v ≡ true → cond v x y ≡ z → x ≡ z
then_of v x y z e same = rw e at same

else_of : {A : Type 0} (v : Bool) (x y z : A) → v ≡ false → cond v x y ≡ z → y ≡ z
else_of v x y z e same = rw e at same

given : (kind : TokenKind) (o : Option ℕ) (k : TokenKind) (n : ℕ) → o ≡ Some n → kind ≡ k → of_kind kind o ≡ Some (k, n)
given kind o k n e same = ap (of_kind kind) e ∙ ap (λ (x : TokenKind). Some (x, n)) same

-- ---- runs

run_kept : (test : ℕ → Bool) (f b : List ℕ) (n : ℕ) → prefix_len test (f ++ b) ≡ n → n ≤ length f → prefix_len test f ≡ n
run_kept test [] b n e within = omega (arith, within)
run_kept test (x ∷ xs) b n e within = go (test x) refl (λ short. run_kept test xs b (prefix_len test (xs ++ b)) refl short)
  where
    go : (v : Bool) → test x ≡ v → (prefix_len test (xs ++ b) ≤ length xs → prefix_len test xs ≡ prefix_len test (xs ++ b)) → prefix_len test (x ∷ xs) ≡ n
    go true t later =
        let more : 1 + prefix_len test (xs ++ b) ≡ n = rw t at e in
        let rest : prefix_len test xs ≡ prefix_len test (xs ++ b) = later (omega (arith, more, within)) in
        rw t (omega (arith, rest, more))
    go false t later = let none : 0 ≡ n = rw t at e in rw t none

-- the first byte decides what a text begins with
begins_kept : (test : ℕ → Bool) (f b : List ℕ) → 0 < length f → begins_with test (f ++ b) ≡ begins_with test f
begins_kept test [] b some = absurd (omega (arith, some))
begins_kept test (x ∷ xs) b some = refl

-- what begins no text with more behind it begins none without
begins_none : (test : ℕ → Bool) (f b : List ℕ) → begins_with test (f ++ b) ≡ false → begins_with test f ≡ false
begins_none test [] b e = refl
begins_none test (x ∷ xs) b e = e

-- ---- words in front

starts_kept : (f b u : List ℕ) (v : Bool) → length u ≤ length f → starts_with nat_eq (f ++ b) u ≡ v → starts_with nat_eq f u ≡ v
starts_kept f b u v within e = rw (take-append-le (length u) f b within) at e

stands : (text u : List ℕ) → starts_with nat_eq text u ≡ true → u ≡ take (length u) text
stands text u e = (bytes_eq-Decides u (take (length u) text)).0 e

fits : (text u : List ℕ) → u ≡ take (length u) text → length u ≤ length text
fits text u e = omega (arith, ap length e, length-take {A = ℕ})

starts_none : (f b u : List ℕ) → starts_with nat_eq (f ++ b) u ≡ false → starts_with nat_eq f u ≡ false
starts_none f b u e = go (starts_with nat_eq f u) refl
  where
    go : (v : Bool) → starts_with nat_eq f u ≡ v → starts_with nat_eq f u ≡ false
    go false t = t
    go true t = absurd (false≢true (sym (starts_kept f b u false (fits f u (stands f u t)) e) ∙ t))

-- ---- gaps

two_slashes : (x y : ℕ) (rest : List ℕ) → 47 ∷ 47 ∷ [] ≡ x ∷ y ∷ [] → 2 ≤ prefix_len is_in_line (x ∷ y ∷ rest)
two_slashes x y rest s =
    let first : 47 ≡ x = cc in
    let second : 47 ≡ y = cc in
    subst (λ (c : ℕ). 2 ≤ prefix_len is_in_line (c ∷ y ∷ rest)) first
    (subst (λ (d : ℕ). 2 ≤ prefix_len is_in_line (47 ∷ d ∷ rest)) second (omega arith))

comment_goes_on : (text : List ℕ) → begins_comment text ≡ true → 2 ≤ prefix_len is_in_line text
comment_goes_on text e = go text (stands text (codes "//") e)
  where
    go : (text : List ℕ) → codes "//" ≡ take 2 text → 2 ≤ prefix_len is_in_line text
    go [] s = absurd (omega (arith, ap length s))
    go (x ∷ []) s = absurd (omega (arith, ap length s))
    go (x ∷ y ∷ rest) s = two_slashes x y rest s

gap_kept : (f b : List ℕ) (n : ℕ) → gap_len (f ++ b) ≡ n → 0 < length f → n ≤ length f → gap_len f ≡ n
gap_kept f b n e some within = go (begins_comment (f ++ b)) refl
  where
    go : (v : Bool) → begins_comment (f ++ b) ≡ v → gap_len f ≡ n
    go true t =
        let len : prefix_len is_in_line (f ++ b) ≡ n = rw t at e in
        let two = comment_goes_on (f ++ b) t in
        rw (starts_kept f b (codes "//") true (omega (arith, len, two, within)) t) (run_kept is_in_line f b n len within)
    go false t =
        let len : prefix_len is_white (f ++ b) ≡ n = rw t at e in
        rw (starts_none f b (codes "//") t) (run_kept is_white f b n len within)

-- ---- words

word_kept : (f b : List ℕ) (n : ℕ) → word_len (f ++ b) ≡ Some n → n ≤ length f → word_len f ≡ Some n
word_kept f b n e within = go (nat_le (prefix_len is_word_byte (f ++ b)) 64) refl
  where
    go : (v : Bool) → nat_le (prefix_len is_word_byte (f ++ b)) 64 ≡ v → word_len f ≡ Some n
    go true t =
        let count : prefix_len is_word_byte (f ++ b) ≡ n = some_is _ _ (rw t at e) in
        let short : nat_le n 64 ≡ true = ap (λ (c : ℕ). nat_le c 64) (sym count) ∙ t in
        rw (run_kept is_word_byte f b n count within, short) refl
    go false t = absurd (let no : None ≡ Some n = rw t at e in cc)

-- ---- quotes

enclosed_kept : (inside : ℕ → Bool) (mark : ℕ) (f b : List ℕ) (n : ℕ) → enclosed_len inside mark (f ++ b) ≡ Some n → n ≤ length f + 1 → enclosed_len inside mark f ≡ Some n
enclosed_kept inside mark f b n e within = go (begins_with (λ c. c == mark) (drop (prefix_len inside (f ++ b)) (f ++ b))) refl
  where
    closed : (count : ℕ) → prefix_len inside f ≡ count → begins_with (λ c. c == mark) (drop count f) ≡ true → count + 2 ≡ n → enclosed_len inside mark f ≡ Some n
    closed count same ends len = rw (same, ends) (ap Some len)

    go : (v : Bool) → begins_with (λ c. c == mark) (drop (prefix_len inside (f ++ b)) (f ++ b)) ≡ v → enclosed_len inside mark f ≡ Some n
    go false t = absurd (let no : None ≡ Some n = rw t at e in cc)
    go true t =
        let count = prefix_len inside (f ++ b) in
        let len : count + 2 ≡ n = some_is _ _ (rw t at e) in
        let same : prefix_len inside f ≡ count = run_kept inside f b count refl (omega (arith, len, within)) in
        let left : 0 < length (drop count f) = omega (arith, length-drop count f, len, within) in
        let cut : drop count (f ++ b) ≡ drop count f ++ b = drop-append-le count f b (omega (arith, len, within)) in
        let ends : begins_with (λ c. c == mark) (drop count f) ≡ true = sym (begins_kept (λ c. c == mark) (drop count f) b left) ∙ (ap (begins_with (λ c. c == mark)) (sym cut) ∙ t) in
        closed count same ends len

-- ---- symbols

none_of : (f b : List ℕ) (symbols : List (List ℕ)) → list_any (λ symbol. starts_with nat_eq (f ++ b) symbol) symbols ≡ false → list_any (λ symbol. starts_with nat_eq f symbol) symbols ≡ false
none_of f b [] e = refl
none_of f b (u ∷ us) e = go (starts_with nat_eq (f ++ b) u) refl (λ later. none_of f b us later)
  where
    go : (v : Bool) → starts_with nat_eq (f ++ b) u ≡ v → (list_any (λ symbol. starts_with nat_eq (f ++ b) symbol) us ≡ false → list_any (λ symbol. starts_with nat_eq f symbol) us ≡ false)
        → list_any (λ symbol. starts_with nat_eq f symbol) (u ∷ us) ≡ false
    go true t later = absurd (false≢true (sym (rw t at e)))
    go false t later = rw (starts_none f b u t) (later (rw t at e))

double_kept : (f b : List ℕ) → 2 ≤ length f → begins_double_symbol (f ++ b) ≡ begins_double_symbol f
double_kept f b within = rw (take-append-le 2 f b within) refl

symbol_kept : (f b : List ℕ) (n : ℕ) → symbol_len (f ++ b) ≡ Some n → 0 < length f → n ≤ length f → symbol_len f ≡ Some n
unfolding symbol_len
symbol_kept f b n e some within = go _ _ refl refl
  where
    go : (v1 v2 : Bool) → begins_double_symbol (f ++ b) ≡ v1 → begins_with is_single_symbol (f ++ b) ≡ v2 → symbol_len f ≡ Some n
    go true v2 e1 e2 =
        let two : 2 ≡ n = some_is 2 n (rw e1 at e) in
        rw (sym (double_kept f b (omega (arith, two, within))) ∙ e1) (ap Some two)
    go false true e1 e2 =
        let one : 1 ≡ n = some_is 1 n (rw (e1, e2) at e) in
        rw (none_of f b double_symbols e1, sym (begins_kept is_single_symbol f b some) ∙ e2) (ap Some one)
    go false false e1 e2 = absurd (let no : None ≡ Some n = rw (e1, e2) at e in cc)

-- ---- digits

-- what begins with a letter, a digit or an underscore is not nothing
some_word : (u : List ℕ) → begins_with is_word_byte u ≡ true → 0 < length u
some_word [] e = absurd (false≢true e)
some_word (c ∷ cs) e = omega arith

-- the bytes in front that pass, where another follows them
run_stays : (test : ℕ → Bool) (f b : List ℕ) → prefix_len test f < length f → prefix_len test (f ++ b) ≡ prefix_len test f
run_stays test [] b short = absurd (omega (arith, short))
run_stays test (x ∷ xs) b short = go (test x) refl (λ less. run_stays test xs b less)
  where
    go : (v : Bool) → test x ≡ v → (prefix_len test xs < length xs → prefix_len test (xs ++ b) ≡ prefix_len test xs) → prefix_len test (x ∷ xs ++ b) ≡ prefix_len test (x ∷ xs)
    go true t later =
        let here : prefix_len test (x ∷ xs) ≡ 1 + prefix_len test xs = rw t refl in
        let rest : prefix_len test (xs ++ b) ≡ prefix_len test xs = later (omega (arith, here, short)) in
        rw (t, rest) refl
    go false t later = rw t refl

-- a part in front
part_of : (unit : _) (text : List ℕ) (count : ℕ) → prefix_len is_ascii_digit text ≡ count → nat_lt 0 count ≡ true → starts_with nat_eq (drop count text) (unit_text unit) ≡ true → begins_part unit text ≡ true
part_of unit text count digits some there = rw (digits, some, there) refl

part_stays : (unit : _) (f b : List ℕ) → begins_with is_word_byte (unit_text unit) ≡ true → begins_part unit f ≡ true → begins_part unit (f ++ b) ≡ true
part_stays unit f b word e =
    let count = prefix_len is_ascii_digit f in
    let both = and_parts (nat_lt 0 count) (starts_with nat_eq (drop count f) (unit_text unit)) e in
    let room = fits (drop count f) (unit_text unit) (stands (drop count f) (unit_text unit) both.1) in
    let short : count < length f = omega (arith, room, some_word (unit_text unit) word, length-drop count f) in
    let cut : drop count (f ++ b) ≡ drop count f ++ b = drop-append-le count f b (omega (arith, short)) in
    part_of unit (f ++ b) count (run_stays is_ascii_digit f b short) both.0
    (ap (λ (text : List ℕ). starts_with nat_eq text (unit_text unit)) cut ∙ (ap (λ (text : List ℕ). bytes_eq (unit_text unit) text) (take-append-le (length (unit_text unit)) (drop count f) b room) ∙ both.1))

part_kept : (unit : _) (f b : List ℕ) → begins_with is_word_byte (unit_text unit) ≡ true → part_len unit (f ++ b) ≤ length f → begins_part unit f ≡ begins_part unit (f ++ b)
part_kept unit f b word within = go (begins_part unit (f ++ b)) (begins_part unit f) refl refl
  where
    go : (v w : Bool) → begins_part unit (f ++ b) ≡ v → begins_part unit f ≡ w → begins_part unit f ≡ begins_part unit (f ++ b)
    go v true e t = t ∙ sym (part_stays unit f b word t)
    go false false e t = t ∙ sym e
    go true false e t =
        let count = prefix_len is_ascii_digit (f ++ b) in
        let both = and_parts (nat_lt 0 count) (starts_with nat_eq (drop count (f ++ b)) (unit_text unit)) e in
        let len : part_len unit (f ++ b) ≡ count + length (unit_text unit) = rw e refl in
        let cut : drop count (f ++ b) ≡ drop count f ++ b = drop-append-le count f b (omega (arith, len, within)) in
        let there : starts_with nat_eq (drop count f) (unit_text unit) ≡ true =
        starts_kept (drop count f) b (unit_text unit) true (omega (arith, len, within, length-drop count f)) (ap (λ (text : List ℕ). starts_with nat_eq text (unit_text unit)) (sym cut) ∙ both.1) in
        part_of unit f count (run_kept is_ascii_digit f b count refl (omega (arith, len, within))) both.0 there ∙ sym e

part_len_kept : (unit : _) (f b : List ℕ) → begins_with is_word_byte (unit_text unit) ≡ true → part_len unit (f ++ b) ≤ length f → part_len unit f ≡ part_len unit (f ++ b)
part_len_kept unit f b word within = go (begins_part unit (f ++ b)) refl
  where
    go : (v : Bool) → begins_part unit (f ++ b) ≡ v → part_len unit f ≡ part_len unit (f ++ b)
    go false e = let none : begins_part unit f ≡ false = part_kept unit f b word within ∙ e in rw (none, e) refl
    go true e =
        let some : begins_part unit f ≡ true = part_kept unit f b word within ∙ e in
        let len : part_len unit (f ++ b) ≡ prefix_len is_ascii_digit (f ++ b) + length (unit_text unit) = rw e refl in
        let digits : prefix_len is_ascii_digit f ≡ prefix_len is_ascii_digit (f ++ b) = run_kept is_ascii_digit f b (prefix_len is_ascii_digit (f ++ b)) refl (omega (arith, len, within)) in
        let short : part_len unit f ≡ prefix_len is_ascii_digit f + length (unit_text unit) = rw some refl in
        omega (arith, len, short, digits)

-- what begins with no letter, digit or underscore begins with no word
no_start : (text : List ℕ) (c : ℕ) (cs : List ℕ) → is_word_byte c ≡ true → begins_with is_word_byte text ≡ false → starts_with nat_eq text (c ∷ cs) ≡ false
no_start [] c cs letter e = refl
no_start (x ∷ xs) c cs letter e = go (nat_eq c x) refl
  where
    go : (v : Bool) → nat_eq c x ≡ v → starts_with nat_eq (x ∷ xs) (c ∷ cs) ≡ false
    go false t = rw t refl
    go true t = absurd (false≢true (sym e ∙ (ap is_word_byte (sym (eqb-true c x t)) ∙ letter)))

no_word : (text u : List ℕ) → begins_with is_word_byte u ≡ true → begins_with is_word_byte text ≡ false → starts_with nat_eq text u ≡ false
no_word text [] word e = absurd (false≢true word)
no_word text (c ∷ cs) word e = no_start text c cs word e

-- digits behind which no letter, digit or underscore stands are no part of a duration
no_part : (unit : _) (text : List ℕ) → begins_with is_word_byte (unit_text unit) ≡ true → begins_with is_word_byte (drop (prefix_len is_ascii_digit text) text) ≡ false → part_len unit text ≡ 0
no_part unit text word e = go (nat_lt 0 (prefix_len is_ascii_digit text)) refl
  where
    go : (v : Bool) → nat_lt 0 (prefix_len is_ascii_digit text) ≡ v → part_len unit text ≡ 0
    go true t = rw (t, no_word (drop (prefix_len is_ascii_digit text) text) (unit_text unit) word e) refl
    go false t = rw t refl

no_parts : (units : List _) (text : List ℕ) → list_all (λ unit. begins_with is_word_byte (unit_text unit)) units ≡ true → begins_with is_word_byte (drop (prefix_len is_ascii_digit text) text) ≡ false → parts_len units text ≡ 0
no_parts [] text words e = refl
no_parts (unit ∷ lesser) text words e =
    let both = and_parts (begins_with is_word_byte (unit_text unit)) (list_all (λ other. begins_with is_word_byte (unit_text other)) lesser) words in
    let none : part_len unit text ≡ 0 = no_part unit text both.0 e in
    let later : parts_len lesser text ≡ 0 = no_parts lesser text both.1 e in
    let same : parts_len lesser (drop (part_len unit text) text) ≡ parts_len lesser text = ap (λ (k : ℕ). parts_len lesser (drop k text)) none in
    omega (arith, none, same, later)

-- the parts in front
parts_kept : (units : List _) (f b : List ℕ) → list_all (λ unit. begins_with is_word_byte (unit_text unit)) units ≡ true → parts_len units (f ++ b) ≤ length f → parts_len units f ≡ parts_len units (f ++ b)
parts_kept [] f b words within = refl
parts_kept (unit ∷ lesser) f b words within =
    let both = and_parts (begins_with is_word_byte (unit_text unit)) (list_all (λ other. begins_with is_word_byte (unit_text other)) lesser) words in
    let len = part_len unit (f ++ b) in
    let here : len ≤ length f = omega (arith, within) in
    let same : part_len unit f ≡ len = part_len_kept unit f b both.0 here in
    let cut : drop len (f ++ b) ≡ drop len f ++ b = drop-append-le len f b here in
    let more : parts_len lesser (drop len (f ++ b)) ≡ parts_len lesser (drop len f ++ b) = ap (parts_len lesser) cut in
    let later : parts_len lesser (drop len f) ≡ parts_len lesser (drop len f ++ b) = parts_kept lesser (drop len f) b both.1 (omega (arith, within, more, length-drop len f)) in
    let there : parts_len lesser (drop (part_len unit f) f) ≡ parts_len lesser (drop len f) = ap (λ (k : ℕ). parts_len lesser (drop k f)) same in
    omega (arith, same, there, later, more)

duration_kept : (f b : List ℕ) → duration_len (f ++ b) ≤ length f → duration_len f ≡ duration_len (f ++ b)
duration_kept f b within = parts_kept units f b refl within

-- a number in front, behind which no letter, digit or underscore stands
number_kept : (f b : List ℕ) (n : ℕ) → prefix_len is_ascii_digit (f ++ b) ≡ n → n ≤ length f → begins_with is_word_byte (drop n (f ++ b)) ≡ false
    → (prefix_len is_ascii_digit f ≡ n) × (begins_with is_word_byte (drop n f) ≡ false) × (duration_len f ≡ 0)
number_kept f b n count within stops =
    let digits : prefix_len is_ascii_digit f ≡ n = run_kept is_ascii_digit f b n count within in
    let cut : drop n (f ++ b) ≡ drop n f ++ b = drop-append-le n f b within in
    let none : begins_with is_word_byte (drop n f) ≡ false = begins_none is_word_byte (drop n f) b (ap (begins_with is_word_byte) (sym cut) ∙ stops) in
    (digits, none, no_parts units f refl (ap (λ (k : ℕ). begins_with is_word_byte (drop k f)) digits ∙ none))

-- so many bytes of this kind
abbrev some_of : TokenKind → ℕ → Option (TokenKind × ℕ)
some_of kind len = Some (kind, len)

digits_kept : (f b : List ℕ) (kind : TokenKind) (n : ℕ) → digits_at (f ++ b) ≡ Some (kind, n) → n ≤ length f → digits_at f ≡ Some (kind, n)
unfolding digits_at
digits_kept f b kind n e within = go _ _ _ refl refl refl
  where
    -- a duration of so many bytes
    lasts : (len : ℕ) → duration_len f ≡ len → is_duration (take len f) ≡ true → some_of Duration len ≡ Some (kind, n) → digits_at f ≡ Some (kind, n)
    lasts len same is pair = rw (same, is) pair

    -- a number of so many bytes
    counts : (len : ℕ) → prefix_len is_ascii_digit f ≡ len → duration_len f ≡ 0 → begins_with is_word_byte (drop len f) ≡ false → fits_number (take len f) ≡ true
        → some_of Number len ≡ Some (kind, n) → digits_at f ≡ Some (kind, n)
    counts len same none ends few pair =
        let one : is_duration (take (duration_len f) f) ≡ false = ap (λ (k : ℕ). is_duration (take k f)) none in
        let two : begins_with is_word_byte (drop (prefix_len is_ascii_digit f) f) ≡ false = ap (λ (k : ℕ). begins_with is_word_byte (drop k f)) same ∙ ends in
        let three : fits_number (take (prefix_len is_ascii_digit f) f) ≡ true = ap (λ (k : ℕ). fits_number (take k f)) same ∙ few in
        if_false _ _ _ one ∙ (if_false _ _ _ two ∙ (if_true _ _ _ three ∙ (ap (some_of Number) same ∙ pair)))

    go : (v1 v2 v3 : Bool) → is_duration (take (duration_len (f ++ b)) (f ++ b)) ≡ v1 → begins_with is_word_byte (drop (prefix_len is_ascii_digit (f ++ b)) (f ++ b)) ≡ v2
        → fits_number (take (prefix_len is_ascii_digit (f ++ b)) (f ++ b)) ≡ v3 → digits_at f ≡ Some (kind, n)
    go true v2 v3 e1 e2 e3 =
        let pair : some_of Duration (duration_len (f ++ b)) ≡ Some (kind, n) = rw e1 at e in
        let len : duration_len (f ++ b) ≡ n = ap (λ (x : TokenKind × ℕ). x.1) (some_is _ _ pair) in
        let short : duration_len (f ++ b) ≤ length f = omega (arith, len, within) in
        lasts (duration_len (f ++ b)) (duration_kept f b short) (ap is_duration (sym (take-append-le (duration_len (f ++ b)) f b short)) ∙ e1) pair
    go false true v3 e1 e2 e3 = absurd (let no : None ≡ Some (kind, n) = rw (e1, e2) at e in cc)
    go false false true e1 e2 e3 =
        let count = prefix_len is_ascii_digit (f ++ b) in
        let pair : some_of Number count ≡ Some (kind, n) = rw (e1, e2, e3) at e in
        let len : count ≡ n = ap (λ (x : TokenKind × ℕ). x.1) (some_is _ _ pair) in
        let short : count ≤ length f = omega (arith, len, within) in
        let parts = number_kept f b count refl short e2 in
        let cut : take count (f ++ b) ≡ take count f = take-append-le count f b short in
        counts count parts.0 parts.2 parts.1 (ap fits_number (sym cut) ∙ e3) pair
    go false false false e1 e2 e3 = absurd (let no : None ≡ Some (kind, n) = rw (e1, e2, e3) at e in cc)

-- ---- any token

token_kept : (f b : List ℕ) (kind : TokenKind) (n : ℕ) → token_at (f ++ b) ≡ Some (kind, n) → 0 < length f → n ≤ length f → token_at f ≡ Some (kind, n)
unfolding token_at
token_kept [] b kind n e some within = absurd (omega (arith, some))
token_kept (x ∷ xs) b kind n e some within = go _ _ _ _ refl refl refl refl
  where
    f : List ℕ
    f = x ∷ xs

    go : (v1 v2 v3 v4 : Bool) → is_letter x ≡ v1 → is_ascii_digit x ≡ v2 → x == 34 ≡ v3 → x == 96 ≡ v4 → token_at (x ∷ xs) ≡ Some (kind, n)
    go true v2 v3 v4 e1 e2 e3 e4 =
        let read = of_kind_some Word kind (word_len (x ∷ xs ++ b)) n (then_of (is_letter x) _ _ _ e1 e) in
        if_true (is_letter x) _ _ e1 ∙ given Word (word_len (x ∷ xs)) kind n (word_kept (x ∷ xs) b n read.0 within) read.1
    go false true v3 v4 e1 e2 e3 e4 =
        let read = then_of (is_ascii_digit x) _ _ _ e2 (else_of (is_letter x) _ _ _ e1 e) in
        if_false (is_letter x) _ _ e1 ∙ (if_true (is_ascii_digit x) _ _ e2 ∙ digits_kept (x ∷ xs) b kind n read within)
    go false false true v4 e1 e2 e3 e4 =
        let read = of_kind_some Quoted kind (enclosed_len is_quotable quotation_mark (xs ++ b)) n (then_of (x == 34) _ _ _ e3 (else_of (is_ascii_digit x) _ _ _ e2 (else_of (is_letter x) _ _ _ e1 e))) in
        if_false (is_letter x) _ _ e1 ∙ (if_false (is_ascii_digit x) _ _ e2 ∙ (if_true (x == 34) _ _ e3
        ∙ given Quoted (enclosed_len is_quotable quotation_mark xs) kind n (enclosed_kept is_quotable 34 xs b n read.0 (omega (arith, within))) read.1))
    go false false false true e1 e2 e3 e4 =
        let read = of_kind_some Raw kind (enclosed_len is_raw backquote (xs ++ b)) n (then_of (x == 96) _ _ _ e4 (else_of (x == 34) _ _ _ e3 (else_of (is_ascii_digit x) _ _ _ e2 (else_of (is_letter x) _ _ _ e1 e)))) in
        if_false (is_letter x) _ _ e1 ∙ (if_false (is_ascii_digit x) _ _ e2 ∙ (if_false (x == 34) _ _ e3 ∙ (if_true (x == 96) _ _ e4
        ∙ given Raw (enclosed_len is_raw backquote xs) kind n (enclosed_kept is_raw 96 xs b n read.0 (omega (arith, within))) read.1)))
    go false false false false e1 e2 e3 e4 =
        let read = of_kind_some Symbol kind (symbol_len (x ∷ xs ++ b)) n (else_of (x == 96) _ _ _ e4 (else_of (x == 34) _ _ _ e3 (else_of (is_ascii_digit x) _ _ _ e2 (else_of (is_letter x) _ _ _ e1 e)))) in
        if_false (is_letter x) _ _ e1 ∙ (if_false (is_ascii_digit x) _ _ e2 ∙ (if_false (x == 34) _ _ e3 ∙ (if_false (x == 96) _ _ e4
        ∙ given Symbol (symbol_len (x ∷ xs)) kind n (symbol_kept (x ∷ xs) b n read.0 some within) read.1)))

-- ---- all tokens

with_fails : (before : List Token) (read : Result (List Token) ℕ) (bad : ℕ) → with_tokens before read ≡ Err bad → read ≡ Err bad
with_fails before (Ok tokens) bad e = absurd (cc)
with_fails before (Err at) bad e = e

err_is : (a b : ℕ) → let left : Result (List Token) ℕ = Err a in left ≡ Err b → a ≡ b
err_is a b e = cc

-- where no token begins at a place, that place lies behind what was read before it, and within the text
bad_behind : (at skipped : ℕ) (text : List ℕ) (bad : ℕ) → tokens_from at skipped text ≡ Err bad → (at + skipped ≤ bad) × (bad < at + length text)
unfolding tokens_from
bad_behind at skipped [] bad e = absurd (cc)
bad_behind at (suc skipped) (x ∷ xs) bad e =
    let later = bad_behind (at + 1) skipped xs bad e in
    (omega (arith, later.0), omega (arith, later.1))
bad_behind at zero (x ∷ xs) bad e = go (gap_len (x ∷ xs)) (token_at (x ∷ xs)) e (λ more h. bad_behind (at + 1) more xs bad h)
  where
    go : (gap : ℕ) (found : Option (TokenKind × ℕ)) → read_at at gap found (λ more. tokens_from (at + 1) more xs) ≡ Err bad
        → ((more : ℕ) → tokens_from (at + 1) more xs ≡ Err bad → (at + 1 + more ≤ bad) × (bad < at + 1 + length xs)) → (at + 0 ≤ bad) × (bad < at + length (x ∷ xs))
    go (suc more) found e later =
        let rest = later more e in
        (omega (arith, rest.0), omega (arith, rest.1))
    go zero None e later =
        let is : at ≡ bad = err_is at bad e in
        (omega (arith, is), omega (arith, is))
    go zero (Some (kind, len)) e later =
        let rest = later (len - 1) (with_fails (token at kind len ∷ []) (tokens_from (at + 1) (len - 1) xs) bad e) in
        (omega (arith, rest.0), omega (arith, rest.1))

-- so many tokens, or why there are none
pub record IsCutFrom (at skipped : ℕ) (text : List ℕ) : Type 0 where
  pub tokens : List Token
  pub is : tokens_from at skipped text ≡ Ok tokens

front_from : (at skipped : ℕ) (f b : List ℕ) (bad : ℕ) → bad ≡ at + length f → tokens_from at skipped (f ++ b) ≡ Err bad → IsCutFrom at skipped f
unfolding tokens_from
front_from at skipped [] b bad is e = record { tokens = []; is = refl }
front_from at (suc skipped) (x ∷ xs) b bad is e =
    let later = front_from (at + 1) skipped xs b bad (omega (arith, is)) e in
    record { tokens = later.tokens; is = later.is }
front_from at zero (x ∷ xs) b bad is e = go (gap_len (x ∷ xs ++ b)) (token_at (x ∷ xs ++ b)) refl refl e (λ more h. front_from (at + 1) more xs b bad (omega (arith, is)) h)
  where
    go : (gap : ℕ) (found : Option (TokenKind × ℕ)) → gap_len (x ∷ xs ++ b) ≡ gap → token_at (x ∷ xs ++ b) ≡ found → read_at at gap found (λ more. tokens_from (at + 1) more (xs ++ b)) ≡ Err bad
        → ((more : ℕ) → tokens_from (at + 1) more (xs ++ b) ≡ Err bad → IsCutFrom (at + 1) more xs) → IsCutFrom at 0 (x ∷ xs)
    go (suc more) found g t e later =
        let behind = bad_behind (at + 1) more (xs ++ b) bad e in
        let gap : gap_len (x ∷ xs) ≡ suc more = gap_kept (x ∷ xs) b (suc more) g (omega arith) (omega (arith, behind.0, is)) in
        let rest = later more e in
        record { tokens = rest.tokens; is = ap (λ (n : ℕ). read_at at n (token_at (x ∷ xs)) (λ more. tokens_from (at + 1) more xs)) gap ∙ rest.is }
    go zero None g t e later =
        let no : at ≡ bad = err_is at bad e in
        absurd (omega (arith, no, is))
    go zero (Some (kind, len)) g t e later =
        let inner = with_fails (token at kind len ∷ []) (tokens_from (at + 1) (len - 1) (xs ++ b)) bad e in
        let behind = bad_behind (at + 1) (len - 1) (xs ++ b) bad inner in
        let gap : gap_len (x ∷ xs) ≡ 0 = gap_kept (x ∷ xs) b 0 g (omega arith) (omega arith) in
        let found : token_at (x ∷ xs) ≡ Some (kind, len) = token_kept (x ∷ xs) b kind len t (omega arith) (omega (arith, behind.0, is)) in
        let rest = later (len - 1) inner in
        record {
          tokens = token at kind len ∷ rest.tokens;
          is = ap (λ (n : ℕ). read_at at n (token_at (x ∷ xs)) (λ more. tokens_from (at + 1) more xs)) gap
              ∙ (ap (λ (o : Option (TokenKind × ℕ)). read_at at 0 o (λ more. tokens_from (at + 1) more xs)) found
              ∙ ap (with_tokens (token at kind len ∷ [])) rest.is);
        }

-- the tokens in front of the first place where none begins
pub record FrontTokens (text : List ℕ) (at : ℕ) : Type 0 where
  pub tokens : List Token
  pub is : tokens_of (take at text) ≡ Ok tokens

pub front_is_cut : (text : List ℕ) (at : ℕ) → tokens_of text ≡ Err at → FrontTokens text at
unfolding tokens_of
front_is_cut text at e =
    let within = bad_behind 0 0 text at e in
    let long : at ≡ 0 + length (take at text) = omega (arith, length-take at text, within.1) in
    let cut = front_from 0 0 (take at text) (drop at text) at long (ap (tokens_from 0 0) (take-append-drop at text) ∙ e) in
    record { tokens = cut.tokens; is = cut.is }
