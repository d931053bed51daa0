-- How marks of a sort, and marks that count within bounds, stand to the terminals.
use Rattle.std.proofs.Common.{◌≡◌, ℕ, ◌<◌, ◌≤◌, Bool, true, false, ◌&&◌, ◌||◌, not, List, [], ◌∷◌, map, nat_eq, nat_lt, ne_eqb, if◌then◌else◌, IsTrue, refl, sym, ◌∙◌, ap, arith}
use Rattle.std.specs.List.{list_all}
use Rattle.std.proofs.lemmas.Bool.{eqb-true, false≢true}
use Rattle.std.proofs.lemmas.Bool.Decides.{nat_tests}
use Rattle.aerie_text.specs.Sorts.{number_of}
use Rattle.aerie_text.specs.declared.sorts.Sort.{Sort}
use Rattle.aerie_text.specs.declared.sorts.Sort.TheVariants as sort
use Rattle.readers.specs.Marks.{Mark}
use Rattle.readers.specs.Parsed.{is_of, is_one_of}
use Rattle.readers.specs.grammar.Tables.{is_among}
use Rattle.readers.specs.Within.{counts_within, is_within}
use Rattle.session_grammar.specs.grammar.Terminals.{class_of, fits, number_of_terminal, id_limit, plain, id_number, great_number, no_time, some_time}

-- the class of a mark whose sort has this number, by what it counts
abbrev pub class : Bool → Bool → ℕ → ℕ
class i z n = if nat_eq 70 n then (if i then 102 else 103) else if nat_eq 71 n then (if z then 104 else 105) else n

below : (s : Sort) → IsTrue (nat_lt (number_of s) 102)
below sort.Accumulator = refl
below s = refl

is_below : (s : Sort) → number_of s < 102
is_below s = let test = below s in grind (arith, nat_tests)

other : (m n : ℕ) → n < 102 → 102 ≤ m → nat_eq m n ≡ false
other m n lt le = ne_eqb m n (λ e. omega (arith, lt, le, e))

seventy_one : (n : ℕ) → nat_eq 70 n ≡ true → nat_eq 71 n ≡ false
seventy_one n e = rw (sym (eqb-true 70 n e)) refl

-- an id, and a greater number
is_id : (i z : Bool) (n : ℕ) → n < 102 → nat_eq 102 (class i z n) ≡ (nat_eq 70 n && i)
is_id i z n lt = go (nat_eq 70 n) (nat_eq 71 n) i z
  where
    go : (v w i z : Bool) → nat_eq 102 (if v then (if i then 102 else 103) else if w then (if z then 104 else 105) else n) ≡ (v && i)
    go true w true z = refl
    go true w false z = refl
    go false true i true = refl
    go false true i false = refl
    go false false i z = other 102 n lt (omega arith)

is_great : (i z : Bool) (n : ℕ) → n < 102 → nat_eq 103 (class i z n) ≡ (nat_eq 70 n && not i)
is_great i z n lt = go (nat_eq 70 n) (nat_eq 71 n) i z
  where
    go : (v w i z : Bool) → nat_eq 103 (if v then (if i then 102 else 103) else if w then (if z then 104 else 105) else n) ≡ (v && not i)
    go true w true z = refl
    go true w false z = refl
    go false true i true = refl
    go false true i false = refl
    go false false i z = other 103 n lt (omega arith)

-- no time, and some
is_none : (i z : Bool) (n : ℕ) → n < 102 → nat_eq 104 (class i z n) ≡ (nat_eq 71 n && z)
is_none i z n lt = go (nat_eq 70 n) (nat_eq 71 n) i z (seventy_one n)
  where
    go : (v w i z : Bool) → (v ≡ true → w ≡ false) → nat_eq 104 (if v then (if i then 102 else 103) else if w then (if z then 104 else 105) else n) ≡ (w && z)
    go true true i z one = absurd (false≢true (sym (one refl)))
    go true false true z one = refl
    go true false false z one = refl
    go false true i true one = refl
    go false true i false one = refl
    go false false i z one = other 104 n lt (omega arith)

is_some : (i z : Bool) (n : ℕ) → n < 102 → nat_eq 105 (class i z n) ≡ (nat_eq 71 n && not z)
is_some i z n lt = go (nat_eq 70 n) (nat_eq 71 n) i z (seventy_one n)
  where
    go : (v w i z : Bool) → (v ≡ true → w ≡ false) → nat_eq 105 (if v then (if i then 102 else 103) else if w then (if z then 104 else 105) else n) ≡ (w && not z)
    go true true i z one = absurd (false≢true (sym (one refl)))
    go true false true z one = refl
    go true false false z one = refl
    go false true i true one = refl
    go false true i false one = refl
    go false false i z one = other 105 n lt (omega arith)

-- any other sort
is_plain : (i z : Bool) (m n : ℕ) → m < 102 → nat_eq m 70 ≡ false → nat_eq m 71 ≡ false → nat_eq m (class i z n) ≡ nat_eq m n
is_plain i z m n lt far_number far_time = go (nat_eq 70 n) (nat_eq 71 n) refl refl i z
  where
    far : (k : ℕ) → 102 ≤ k → nat_eq m k ≡ false
    far k le = ne_eqb m k (λ e. omega (arith, lt, le, e))

    here : (k : ℕ) → nat_eq k n ≡ true → nat_eq m k ≡ false → false ≡ nat_eq m n
    here k e away = sym away ∙ ap (nat_eq m) (eqb-true k n e)

    go : (v w : Bool) → nat_eq 70 n ≡ v → nat_eq 71 n ≡ w → (i z : Bool) → nat_eq m (if v then (if i then 102 else 103) else if w then (if z then 104 else 105) else n) ≡ nat_eq m n
    go true w e f true z = far 102 (omega arith) ∙ here 70 e far_number
    go true w e f false z = far 103 (omega arith) ∙ here 70 e far_number
    go false true e f i true = far 104 (omega arith) ∙ here 71 f far_time
    go false true e f i false = far 105 (omega arith) ∙ here 71 f far_time
    go false false e f i z = refl

-- ---- of marks

in_halves : (a b : Bool) → a ≡ ((a && b) || (a && not b))
in_halves true true = refl
in_halves true false = refl
in_halves false b = refl

both_true : (a b : Bool) → (a && b) ≡ true → (a ≡ true) × (b ≡ true)
both_true true b e = (refl, e)
both_true false b e = absurd (false≢true e)

module _ (k : Mark) where
  abbrev id : Bool
  id = is_within 0 id_limit k.number

  abbrev none : Bool
  none = is_within 0 0 k.number

  pub id_fits : fits id_number k ≡ counts_within sort.Number 0 id_limit k
  id_fits = is_id id none (number_of k.sort) (is_below k.sort)

  great_fits : fits great_number k ≡ (is_of sort.Number k && not id)
  great_fits = is_great id none (number_of k.sort) (is_below k.sort)

  pub none_fits : fits no_time k ≡ counts_within sort.Time 0 0 k
  none_fits = is_none id none (number_of k.sort) (is_below k.sort)

  pub some_fits : fits some_time k ≡ (is_of sort.Time k && not none)
  some_fits = is_some id none (number_of k.sort) (is_below k.sort)

  pub plain_fits : (s : Sort) → nat_eq (number_of s) 70 ≡ false → nat_eq (number_of s) 71 ≡ false → fits (plain s) k ≡ is_of s k
  plain_fits s far_number far_time = is_plain id none (number_of s) (number_of k.sort) (is_below s) far_number far_time

  -- with a number, or with a length of time, begin the marks that the two halves read
  pub number_begins : is_of sort.Number k ≡ (fits id_number k || fits great_number k)
  number_begins = in_halves (is_of sort.Number k) id ∙ ap (λ (v : Bool). v || (is_of sort.Number k && not id)) (sym id_fits) ∙ ap (λ (v : Bool). fits id_number k || v) (sym great_fits)

  pub time_begins : is_of sort.Time k ≡ (fits no_time k || fits some_time k)
  time_begins = in_halves (is_of sort.Time k) none ∙ ap (λ (v : Bool). v || (is_of sort.Time k && not none)) (sym none_fits) ∙ ap (λ (v : Bool). fits no_time k || v) (sym some_fits)

-- ---- of lists of sorts

abbrev pub all_plain : List Sort → Bool
all_plain sorts = list_all (λ s. not (nat_eq (number_of s) 70) && not (nat_eq (number_of s) 71)) sorts

negated : (a : Bool) → not a ≡ true → a ≡ false
negated true e = sym e
negated false e = refl

or_nothing : (a : Bool) → a ≡ (a || false)
or_nothing true = refl
or_nothing false = refl

-- the mark is of one of the sorts where it is of one of their terminals
pub in_terminals : (sorts : List Sort) → all_plain sorts ≡ true → (k : Mark) → is_one_of sorts k ≡ is_among number_of_terminal (map plain sorts) (class_of k)
in_terminals [] all k = refl
in_terminals (s ∷ []) all k =
    let here = both_true (not (nat_eq (number_of s) 70) && not (nat_eq (number_of s) 71)) true all in
    let both = both_true (not (nat_eq (number_of s) 70)) (not (nat_eq (number_of s) 71)) here.0 in
    sym (plain_fits k s (negated _ both.0) (negated _ both.1)) ∙ or_nothing (fits (plain s) k)
in_terminals (s ∷ (other ∷ others)) all k =
    let here = both_true (not (nat_eq (number_of s) 70) && not (nat_eq (number_of s) 71)) (all_plain (other ∷ others)) all in
    let both = both_true (not (nat_eq (number_of s) 70)) (not (nat_eq (number_of s) 71)) here.0 in
    ap (λ (v : Bool). v || is_one_of (other ∷ others) k) (sym (plain_fits k s (negated _ both.0) (negated _ both.1)))
    ∙ ap (λ (v : Bool). fits (plain s) k || v) (in_terminals (other ∷ others) here.1 k)
