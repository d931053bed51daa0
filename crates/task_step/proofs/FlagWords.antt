-- Flags of cells as bits.
use Rattle.std.proofs.Common.{◌≡◌, ◌≢◌, ℕ, zero, suc, ◌+◌, ◌-◌, ◌*◌, ◌/◌, ◌%◌, ◌^◌, ◌<◌, ◌≤◌, Bool, true, false, List, [], ◌∷◌, refl, sym, ap, ◌∙◌, subst, arith, length, replicate, get_or, set, nat_eq, ⊎_elim}
use Rattle.std.specs.Int.{bit_at}
use Rattle.std.specs.Int.RustNames.{bit_or}
use Rattle.std.specs.Prelude.{min}
use Rattle.std.proofs.lemmas.Bool.{cases_eq, cases_lt}
use Rattle.std.proofs.lemmas.List.{length-replicate, length-set, set_past, same_lists, get_or-replicate, get_or-set_same, get_or-set_other}
use Rattle.std.proofs.lemmas.List.FromFn.{get_or-map-range_with_len, length-map-range_with_len}
use Rattle.std.proofs.lemmas.Nat.{shr-shr, shr_below, shr_le}
use Rattle.std.proofs.lemmas.Nat.Bits.{bit_at_set_same, bit_at_set_other, bit_at-trailing_zeros, bit_at_above, bit_at-zero}
use mir.Syntax.{w64}
use lib.Count.{count_trailing_zeros}
use Rattle.task_step.specs.FlagWords.{has_bit, flags_of}

flag_at : (cells : ℕ) (words : List ℕ) (cell : ℕ) (d : Bool) → cell < cells → get_or (flags_of cells words) cell d ≡ has_bit words cell
flag_at cells words cell d lt = get_or-map-range_with_len (has_bit words) 0 cells cell cell d lt (omega arith)

pub flags_length : (cells : ℕ) (words : List ℕ) → length (flags_of cells words) ≡ cells
flags_length cells words = length-map-range_with_len (has_bit words) 0 cells

-- ---- no bit

no_word : (at : ℕ) → ◌≡◌ {A = ℕ} (get_or (0 ∷ 0 ∷ 0 ∷ 0 ∷ []) at 0) 0
no_word zero = refl
no_word (suc zero) = refl
no_word (suc (suc zero)) = refl
no_word (suc (suc (suc zero))) = refl
no_word (suc (suc (suc (suc at)))) = refl

pub no_flags : (cells : ℕ) → flags_of cells (0 ∷ 0 ∷ 0 ∷ 0 ∷ []) ≡ replicate cells false
no_flags cells =
    same_lists (flags_of cells (0 ∷ 0 ∷ 0 ∷ 0 ∷ [])) (replicate cells false) (flags_length cells (0 ∷ 0 ∷ 0 ∷ 0 ∷ []) ∙ sym (length-replicate cells false))
    (λ k d lt.
    let here : k < cells = omega (arith, lt, flags_length cells (0 ∷ 0 ∷ 0 ∷ 0 ∷ [])) in
    flag_at cells (0 ∷ 0 ∷ 0 ∷ 0 ∷ []) k d here
    ∙ ap (λ word. nat_eq (bit_at word (k % 64)) 1) (no_word (k / 64))
    ∙ ap (λ bit. nat_eq bit 1) (bit_at-zero (k % 64))
    ∙ sym (get_or-replicate cells k false d here))

-- ---- one bit more

abbrev with_bit : List ℕ → ℕ → List ℕ
with_bit words at = set words (at / 64) (bit_or (get_or words (at / 64) 0) (1 * 2 ^ (at % 64) % 2 ^ 64))

bit_same : (words : List ℕ) (at : ℕ) → at / 64 < length words → has_bit (with_bit words at) at ≡ true
bit_same words at lt =
    ap (λ word. nat_eq (bit_at word (at % 64)) 1) (get_or-set_same words (at / 64) (bit_or (get_or words (at / 64) 0) (1 * 2 ^ (at % 64) % 2 ^ 64)) 0 lt)
    ∙ ap (λ bit. nat_eq bit 1) (bit_at_set_same w64 (get_or words (at / 64) 0) (at % 64) (omega arith))

bit_other : (words : List ℕ) (at cell : ℕ) → at / 64 < length words → cell ≢ at → has_bit (with_bit words at) cell ≡ has_bit words cell
bit_other words at cell lt apart =
    let word = bit_or (get_or words (at / 64) 0) (1 * 2 ^ (at % 64) % 2 ^ 64) in
    ⊎_elim
    (λ (same : cell / 64 ≡ at / 64).
    let place : cell % 64 ≢ at % 64 = λ e. apart (omega (arith, same, e)) in
    ap (λ k. nat_eq (bit_at (get_or (with_bit words at) k 0) (cell % 64)) 1) same
    ∙ ap (λ n. nat_eq (bit_at n (cell % 64)) 1) (get_or-set_same words (at / 64) word 0 lt)
    ∙ ap (λ bit. nat_eq bit 1) (bit_at_set_other w64 (get_or words (at / 64) 0) (at % 64) (omega arith) (cell % 64) place)
    ∙ sym (ap (λ k. nat_eq (bit_at (get_or words k 0) (cell % 64)) 1) same))
    (λ other. ap (λ n. nat_eq (bit_at n (cell % 64)) 1) (get_or-set_other words (at / 64) (cell / 64) word 0 other))
    (cases_eq (cell / 64) (at / 64))

pub flag_noted : (cells : ℕ) (words : List ℕ) (seen : List Bool) (at : ℕ) → cells ≤ 256 → length words ≡ 4 → flags_of cells words ≡ seen → at < cells →
    flags_of cells (set words (at / 64) (bit_or (get_or words (at / 64) 0) (1 * 2 ^ (at % 64) % 2 ^ 64))) ≡ set seen at true
flag_noted cells words seen at few four is lt =
    let word : at / 64 < length words = omega (arith, few, four, lt) in
    let count = flags_length cells words in
    same_lists (flags_of cells (with_bit words at)) (set (flags_of cells words) at true)
    (flags_length cells (with_bit words at) ∙ sym (length-set (flags_of cells words) at true ∙ count))
    (λ k d le.
    let here : k < cells = omega (arith, le, flags_length cells (with_bit words at)) in
    flag_at cells (with_bit words at) k d here
    ∙ ⊎_elim
    (λ (same : k ≡ at). ap (has_bit (with_bit words at)) same ∙ bit_same words at word
    ∙ sym (ap (λ i. get_or (set (flags_of cells words) at true) i d) same ∙ get_or-set_same (flags_of cells words) at true d (omega (arith, count, lt))))
    (λ other. bit_other words at k word other ∙ sym (flag_at cells words k d here) ∙ sym (get_or-set_other (flags_of cells words) at k true d other))
    (cases_eq k at))
    ∙ ap (λ l. set l at true) is

pub flag_past : (cells cell : ℕ) (words : List ℕ) (seen : List Bool) → flags_of cells words ≡ seen → cells ≤ cell → seen ≡ set seen cell true
flag_past cells cell words seen e le = sym (set_past seen cell true (omega (arith, ap length e, flags_length cells words)))

-- ---- the next bit

-- no cell from one up to another was read
abbrev pub NoneFrom : List Bool → ℕ → ℕ → Type 0
NoneFrom seen from to = (cell : ℕ) → from ≤ cell → cell < to → get_or seen cell false ≡ false

-- a bit of the word of a cell, by the bits from there on
bit_on : (words : List ℕ) (word at cell i : ℕ) → word ≡ get_or words (at / 64) 0 → at + i ≡ cell → cell / 64 ≡ at / 64 → has_bit words cell ≡ nat_eq (bit_at (word / 2 ^ (at % 64)) i) 1
bit_on words word at cell i is e same =
    let place : cell % 64 ≡ at % 64 + i = omega (arith, e, same) in
    ap (λ k. nat_eq (bit_at (get_or words k 0) (cell % 64)) 1) same
    ∙ sym (ap (λ n. nat_eq (bit_at n (cell % 64)) 1) is)
    ∙ ap (λ k. nat_eq (bit_at word k) 1) place
    ∙ sym (ap (λ n. nat_eq (n % 2) 1) (shr-shr word (at % 64) i))

-- the cells from one up to a later one of its word, of which no bit is set
none_in_word : (cells : ℕ) (words : List ℕ) (seen : List Bool) (word at to : ℕ) → flags_of cells words ≡ seen → word ≡ get_or words (at / 64) 0 → to ≤ at / 64 * 64 + 64 →
    ((i : ℕ) → at + i < to → bit_at (word / 2 ^ (at % 64)) i ≡ 0) → NoneFrom seen at (min to cells)
none_in_word cells words seen word at to is is_word within none cell le lt =
    let here : cell < cells = omega (arith, lt) in
    let sum : at + (cell - at) ≡ cell = omega (arith, le) in
    let same : cell / 64 ≡ at / 64 = omega (arith, le, lt, within) in
    sym (ap (λ l. get_or l cell false) is)
    ∙ flag_at cells words cell false here
    ∙ bit_on words word at cell (cell - at) is_word sum same
    ∙ ap (λ bit. nat_eq bit 1) (none (cell - at) (omega (arith, sum, lt)))

then_from : (seen : List Bool) (from at to : ℕ) → NoneFrom seen from at → NoneFrom seen at to → NoneFrom seen from to
then_from seen from at to first rest cell le lt = ⊎_elim (λ a. first cell le a) (λ b. rest cell b lt) (cases_lt cell at)

-- a word without a bit from a cell on
pub none_there : (cells : ℕ) (words : List ℕ) (seen : List Bool) (word from at : ℕ) → flags_of cells words ≡ seen → word ≡ get_or words (at / 64) 0 → word / 2 ^ (at % 64) ≡ 0 →
    NoneFrom seen from (min at cells) → at < cells → NoneFrom seen from (min ((at / 64 + 1) * 64) cells)
none_there cells words seen word from at is is_word nothing before lt =
    let here : min at cells ≡ at = omega (arith, lt) in
    then_from seen from at (min ((at / 64 + 1) * 64) cells) (subst (NoneFrom seen from) here before)
    (none_in_word cells words seen word at ((at / 64 + 1) * 64) is is_word (omega arith) (λ i _. ap (λ n. bit_at n i) nothing ∙ bit_at-zero i))

-- the lowest bit that is set stands in its word
lowest_within : (word k t : ℕ) → word < 2 ^ 64 → k < 64 → bit_at (word / 2 ^ k) t ≡ 1 → k + t < 64
lowest_within word k t small within is =
    ⊎_elim (λ a. omega (arith, a, within))
    (λ (b : 64 - k ≤ t).
    let parts : 64 - k + k ≡ 64 = omega (arith, within) in
    let z = bit_at_above (word / 2 ^ k) (64 - k) t (shr_below word (64 - k) k (subst (λ n. word < 2 ^ n) (sym parts) small)) b in
    absurd (omega (arith, z, is)))
    (cases_lt t (64 - k))

-- the next cell that was read, as the code finds it
pub record IsNext (seen : List Bool) (from to : ℕ) : Type 0 where
  pub after : from ≤ to
  pub within : to ≤ length seen
  pub is_read : to < length seen → get_or seen to false ≡ true
  pub none : NoneFrom seen from to

pub next_there : (cells : ℕ) (words : List ℕ) (seen : List Bool) (word from at to : ℕ) → flags_of cells words ≡ seen → word ≡ get_or words (at / 64) 0 → word < 2 ^ 64 →
    word / 2 ^ (at % 64) ≢ 0 → NoneFrom seen from (min at cells) → from ≤ at → at < cells → to ≡ min (at + count_trailing_zeros 64 (word / 2 ^ (at % 64))) cells → IsNext seen from to
next_there cells words seen word from at to is is_word small some before after lt end =
    let rest = word / 2 ^ (at % 64) in
    let t = count_trailing_zeros 64 rest in
    let fits : rest < 2 ^ 64 = omega (arith, small, shr_le word (at % 64)) in
    let lowest = bit_at-trailing_zeros w64 rest (omega (arith, some)) fits in
    let stays = lowest_within word (at % 64) t small (omega arith) lowest.1 in
    let count : length seen ≡ cells = sym (ap length is) ∙ flags_length cells words in
    let here : min at cells ≡ at = omega (arith, lt) in
    record {
      after = omega (arith, after, lt, end);
      within = omega (arith, count, end);
      is_read = λ le.
          let before_end : at + t < cells = omega (arith, le, count, end) in
          let there : to ≡ at + t = omega (arith, before_end, end) in
          ap (λ i. get_or seen i false) there
          ∙ sym (ap (λ l. get_or l (at + t) false) is)
          ∙ flag_at cells words (at + t) false before_end
          ∙ bit_on words word at (at + t) t is_word refl (omega (arith, stays))
          ∙ ap (λ bit. nat_eq bit 1) lowest.1;
      none = subst (NoneFrom seen from) (sym end)
          (then_from seen from at (min (at + t) cells) (subst (NoneFrom seen from) here before)
          (none_in_word cells words seen word at (at + t) is is_word (omega (arith, stays)) (λ i l. lowest.2 i (omega (arith, l)))));
    }

-- no cell is left
pub next_none : (cells : ℕ) (words : List ℕ) (seen : List Bool) (from at : ℕ) → flags_of cells words ≡ seen → from ≤ length seen → NoneFrom seen from (min at cells) → cells ≤ at → IsNext seen from cells
next_none cells words seen from at is le before past =
    let count : length seen ≡ cells = sym (ap length is) ∙ flags_length cells words in
    let end : min at cells ≡ cells = omega (arith, past) in
    record {
      after = omega (arith, le, count);
      within = omega (arith, count);
      is_read = λ lt. absurd (omega (arith, count, lt));
      none = subst (NoneFrom seen from) end before;
    }
