-- A file of lemmas: what it proves need not be read to trust a clause.
--
-- What a search finds is the least number that passes, and it finds none exactly where none passes.
use Rattle.std.specs.Prelude.{◌≡◌, ℕ, zero, suc, ◌+◌, ◌<◌, ◌≤◌, Bool, true, false, Some, None, refl}
use Rattle.std.proofs.Common.{arith, sym, ap, ◌∙◌}
use Rattle.std.proofs.lemmas.Bool.{false≢true}
use Rattle.effect_cells.specs.Searching.{found_or, least_from}

-- ---- laws: what is found is the least number that passes, and none is found exactly where none passes

pub record IsLeast (test : ℕ → Bool) (from count : ℕ) (found : ℕ) : Type 0 where
  pub reached : from ≤ found
  pub below : found < from + count
  pub passes : test found ≡ true
  pub first : (n : ℕ) → from ≤ n → n < found → test n ≡ false

abbrev pub NonePasses : (ℕ → Bool) → ℕ → ℕ → Type 0
NonePasses test from count = (n : ℕ) → from ≤ n → n < from + count → test n ≡ false

-- the least that passes is found
pub least_is : (test : ℕ → Bool) (from count found : ℕ) → IsLeast test from count found → least_from test from count ≡ Some found
least_is test from zero found least = absurd (omega (arith, least.reached, least.below))
least_is test from (suc count) found least = go (test from) refl (λ later. least_is test (from + 1) count found later)
  where
    earlier : from < found → test from ≡ false
    earlier less = least.first from (omega arith) less

    here : test from ≡ true → from ≡ found
    here t = grind (arith, earlier, least.reached)

    not_here : test from ≡ false → from ≡ found → ⊥
    not_here t same = false≢true (sym t ∙ (rw same least.passes))

    beyond : test from ≡ false → from + 1 ≤ found
    beyond t = let other : from ≡ found → ⊥ = not_here t in omega (arith, least.reached, other)

    further : test from ≡ false → IsLeast test (from + 1) count found
    further t = record {
      reached = beyond t;
      below = omega (arith, least.below);
      passes = least.passes;
      first = λ n above less. least.first n (omega arith) less;
    }

    go : (v : Bool) → test from ≡ v → (IsLeast test (from + 1) count found → least_from test (from + 1) count ≡ Some found) →
        found_or from (test from) (λ _. least_from test (from + 1) count) ≡ Some found
    go true t onward = rw t (ap (λ n. Some n) (here t))
    go false t onward = rw t (onward (further t))

-- where none passes none is found
pub none_is : (test : ℕ → Bool) (from count : ℕ) → NonePasses test from count → least_from test from count ≡ None
none_is test from zero none = refl
none_is test from (suc count) none =
    let here : test from ≡ false = none from (omega arith) (omega arith) in
    rw here (none_is test (from + 1) count (λ n above below. none n (omega arith) (omega arith)))
