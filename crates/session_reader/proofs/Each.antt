-- What holds of each of a list.
use Rattle.std.proofs.Common.{◌≡◌, ℕ, zero, suc, ◌<◌, List, [], ◌∷◌, ◌++◌, length, get_or, sym, subst, arith}
use Rattle.std.specs.List.{AllByRecursion}

-- of one more
pub all_behind : {A : Type 0} (P : A → Type 0) (xs : List A) (x : A) → AllByRecursion P xs → P x → AllByRecursion P (xs ++ x ∷ [])
all_behind P [] x all one = (one, tt)
all_behind P (first ∷ rest) x all one = (all.0, all_behind P rest x all.1 one)

-- of the one at a place
pub of_one : {A : Type 0} (P : A → Type 0) (xs : List A) (i : ℕ) (x : A) → AllByRecursion P xs → i < length xs → x ≡ get_or xs i x → P x
of_one P [] i x all lt is = absurd (omega (arith, lt))
of_one P (first ∷ rest) zero x all lt is = subst P (sym is) all.0
of_one P (first ∷ rest) (suc i) x all lt is = of_one P rest i x all.1 (omega (arith, lt)) is
