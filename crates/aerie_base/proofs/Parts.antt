-- The parts of a duration, taken unit by unit.
use Rattle.std.proofs.Common.{◌≡◌, ℕ, ◌+◌, ◌-◌, ◌*◌, ◌<◌, ◌≤◌, ◌∙◌, inl, inr, nat_eq, nat_lt, true, false, List, ◌∷◌, length, take, drop, get_or, Option, refl, ap, sym, arith}
use Rattle.std.specs.List.{starts_with}
use Rattle.std.specs.Str.Parse.{digits_value}
use Rattle.std.proofs.lemmas.Bool.{and_parts, cases_lt}
use Rattle.std.proofs.lemmas.List.{drop_more, drop-drop, length-drop, take_all}
use Rattle.std.proofs.lemmas.Slice.Eq.{bytes_eq-Decides}
use Rattle.aerie_base.specs.Ranges.{time_of}
use Rattle.aerie_base.specs.Durations.{begins_part, digit_count, parts_len, parts_micros, unit_micros, unit_text}
use Rattle.aerie_base.specs.declared.durations.Unit.{Unit}

-- all behind a place
pub all_behind : (text : List ℕ) (at : ℕ) → take (length text - at) (drop at text) ≡ drop at text
all_behind text at = take_all (length text - at) (drop at text) (omega (arith, length-drop at text))

-- what stands in front is no longer than the text
fits : (u text : List ℕ) → starts_with nat_eq text u ≡ true → length u ≤ length text
fits u text e =
    let front : u ≡ take (length u) text = (bytes_eq-Decides u (take (length u) text)).0 e in
    elim (cases_lt (length text) (length u)) [
      | inl lt ↦ let whole : take (length u) text ≡ text = take_all (length u) text (omega arith) in
          omega (arith, ap length front, ap length whole)
      | inr le ↦ le
    ]

-- a part in front is no longer than the text
pub part_within : (unit : Unit) (text : List ℕ) → digit_count text ≤ length text → begins_part unit text ≡ true → digit_count text + length (unit_text unit) ≤ length text
part_within unit text within e =
    let both = and_parts (nat_lt 0 (digit_count text)) _ e in
    let unit_fits = fits (unit_text unit) (drop (digit_count text) text) both.1 in
    omega (arith, unit_fits, length-drop (digit_count text) text)

-- the parts of the first units are so long and come to so much, and the parts of the other units follow
pub record SoFar (units : List Unit) (text : List ℕ) (i len count : ℕ) (micros : Option ℕ) : Type 0 where
  pub inside : len ≤ length text
  pub digits : count ≡ digit_count (drop len text)
  pub lengths : parts_len units text ≡ len + parts_len (drop i units) (drop len text)
  pub sum : ℕ
  pub sums : micros ≡ time_of sum
  pub whole : parts_micros units text ≡ sum + parts_micros (drop i units) (drop len text)

-- the parts of the units from a place on, where no part of the next unit stands in front
module _ (unit : Unit) (lesser : List Unit) (text : List ℕ) where
  len_without : begins_part unit text ≡ false → parts_len (unit ∷ lesser) text ≡ parts_len lesser text
  len_without e = rw e (omega arith)

  micros_without : begins_part unit text ≡ false → parts_micros (unit ∷ lesser) text ≡ parts_micros lesser text
  micros_without e = rw e (omega arith)

  len_with : begins_part unit text ≡ true
      → parts_len (unit ∷ lesser) text ≡ digit_count text + length (unit_text unit) + parts_len lesser (drop (digit_count text + length (unit_text unit)) text)
  len_with e = rw e refl

  micros_with : begins_part unit text ≡ true → parts_micros (unit ∷ lesser) text
      ≡ digits_value 10 (take (digit_count text) text) * unit_micros unit + parts_micros lesser (drop (digit_count text + length (unit_text unit)) text)
  micros_with e = rw e refl

-- no part of the next unit
pub left : (units : List Unit) (text : List ℕ) (i len count : ℕ) (micros : Option ℕ) (unit : Unit) → i < length units → SoFar units text i len count micros
    → begins_part (get_or units i unit) (drop len text) ≡ false → SoFar units text (i + 1) len count micros
left units text i len count micros unit lt so_far none =
    let next = drop_more units i unit lt in
    record {
      inside = so_far.inside;
      digits = so_far.digits;
      lengths = so_far.lengths ∙ ap (λ us. len + parts_len us (drop len text)) next ∙ ap (λ n. len + n) (len_without (get_or units i unit) (drop (i + 1) units) (drop len text) none);
      sum = so_far.sum;
      sums = so_far.sums;
      whole = so_far.whole ∙ ap (λ us. so_far.sum + parts_micros us (drop len text)) next
          ∙ ap (λ n. so_far.sum + n) (micros_without (get_or units i unit) (drop (i + 1) units) (drop len text) none);
    }

-- a part of the next unit
pub taken : (units : List Unit) (text : List ℕ) (i len count : ℕ) (micros part next : Option ℕ) (unit : Unit) (behind : ℕ) → i < length units → SoFar units text i len count micros
    → begins_part (get_or units i unit) (drop len text) ≡ true → behind ≡ len + (count + length (unit_text (get_or units i unit))) → behind ≤ length text
    → part ≡ time_of (digits_value 10 (take count (drop len text)) * unit_micros (get_or units i unit))
    → ((a b : ℕ) → micros ≡ time_of a → part ≡ time_of b → next ≡ time_of (a + b))
    → SoFar units text (i + 1) behind (digit_count (drop behind text)) next
taken units text i len count micros part next unit behind lt so_far some is within part_is add =
    let u = get_or units i unit in
    let lesser = drop (i + 1) units in
    let rest = drop len text in
    let more = drop_more units i unit lt in
    let size : ℕ = digit_count rest + length (unit_text u) in
    let there : len + size ≡ behind = omega (arith, is, so_far.digits) in
    let cut : drop size rest ≡ drop behind text = drop-drop size len text ∙ ap (λ n. drop n text) there in
    let worth : ℕ = digits_value 10 (take count rest) * unit_micros u in
    let same : digits_value 10 (take (digit_count rest) rest) * unit_micros u ≡ worth = ap (λ n. digits_value 10 (take n rest) * unit_micros u) (sym so_far.digits) in
    let len_here : parts_len (drop i units) rest ≡ size + parts_len lesser (drop behind text) =
    ap (λ us. parts_len us rest) more ∙ len_with u lesser rest some ∙ ap (λ xs. size + parts_len lesser xs) cut in
    let micros_here : parts_micros (drop i units) rest ≡ worth + parts_micros lesser (drop behind text) =
    ap (λ us. parts_micros us rest) more ∙ micros_with u lesser rest some ∙ ap (λ xs. digits_value 10 (take (digit_count rest) rest) * unit_micros u + parts_micros lesser xs) cut
    ∙ ap (λ n. n + parts_micros lesser (drop behind text)) same in
    record {
      inside = within;
      digits = refl;
      lengths = omega (arith, so_far.lengths, len_here, there);
      sum = so_far.sum + worth;
      sums = add so_far.sum worth so_far.sums part_is;
      whole = omega (arith, so_far.whole, micros_here);
    }
