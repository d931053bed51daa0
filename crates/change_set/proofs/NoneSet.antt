-- No flag is set exactly where none is counted.
use Rattle.std.proofs.Common.{◌≡◌, ℕ, zero, suc, ◌+◌, Bool, true, false, cond, List, [], ◌∷◌, refl, get_or, arith}
use Rattle.std.specs.Prelude.{count_by}
use Rattle.std.proofs.lemmas.List.Sums.{sum_by-cons}

counted : (flag : Bool) (rest : List Bool) → count_by (λ flag. flag) (flag ∷ rest) ≡ cond flag 1 0 + count_by (λ flag. flag) rest
counted flag rest = sum_by-cons (λ flag. cond flag 1 0) flag rest

pub none_set : (flags : List Bool) → count_by (λ flag. flag) flags ≡ 0 → (cell : ℕ) → get_or flags cell false ≡ false
none_set [] none cell = refl
none_set (true ∷ rest) none cell = absurd (omega (arith, none, counted true rest))
none_set (false ∷ rest) none zero = refl
none_set (false ∷ rest) none (suc cell) = none_set rest (omega (arith, none, counted false rest)) cell

pub none_counted : (flags : List Bool) → ((cell : ℕ) → get_or flags cell false ≡ false) → count_by (λ flag. flag) flags ≡ 0
none_counted [] none = refl
none_counted (true ∷ rest) none = let first : true ≡ false = none 0 in cc
none_counted (false ∷ rest) none = omega (arith, counted false rest, none_counted rest (λ cell. none (suc cell)))
