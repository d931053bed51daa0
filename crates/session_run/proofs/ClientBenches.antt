-- The benches of clients: as many as clients, each under the same bound.
use Rattle.std.proofs.Common.{◌≡◌, ℕ, zero, suc, ◌+◌, ◌<◌, List, [], ◌∷◌, ◌++◌, length, get_or, replicate, slice_set, refl, ap, ◌∙◌, arith}

again : (count bound : ℕ) → replicate count bound ++ (bound ∷ []) ≡ replicate (suc count) bound
again zero bound = refl
again (suc count) bound = ap (λ (l : List ℕ). bound ∷ l) (again count bound)

pub one_more : (benches : List ℕ) (bench count bound : ℕ) → benches ≡ replicate count bound → bench ≡ bound → benches ++ (bench ∷ []) ≡ replicate (count + 1) bound
one_more benches bench count bound are is =
    let next : suc count ≡ count + 1 = omega arith in
    ap (λ (l : List ℕ). l ++ (bench ∷ [])) are
    ∙ ap (λ (n : ℕ). replicate count bound ++ (n ∷ [])) is
    ∙ again count bound
    ∙ ap (λ (n : ℕ). replicate n bound) next

as_often : (count bound : ℕ) → length (replicate count bound) ≡ count
as_often zero bound = refl
as_often (suc count) bound = ap suc (as_often count bound)

pub as_many : (benches : List ℕ) (count bound : ℕ) → benches ≡ replicate count bound → length benches ≡ count
as_many benches count bound are = ap length are ∙ as_often count bound

one_of : (count bound at bench : ℕ) → at < count → bench ≡ get_or (replicate count bound) at bench → bench ≡ bound
one_of zero bound at bench within is = absurd (omega (arith, within))
one_of (suc count) bound zero bench within is = is
one_of (suc count) bound (suc at) bench within is = one_of count bound at bench (omega (arith, within)) is

pub bench_at : (benches : List ℕ) (count bound at bench : ℕ) → benches ≡ replicate count bound → at < count → bench ≡ get_or benches at bench → bench ≡ bound
bench_at benches count bound at bench are within is = one_of count bound at bench within (is ∙ ap (λ (l : List ℕ). get_or l at bench) are)

set_same : (count bound at : ℕ) → slice_set (replicate count bound) at bound ≡ replicate count bound
set_same zero bound at = refl
set_same (suc count) bound zero = refl
set_same (suc count) bound (suc at) = ap (λ (l : List ℕ). bound ∷ l) (set_same count bound at)

pub bench_set : (benches : List ℕ) (count bound at bench : ℕ) → benches ≡ replicate count bound → bench ≡ bound → slice_set benches at bench ≡ replicate count bound
bench_set benches count bound at bench are is =
    ap (λ (l : List ℕ). slice_set l at bench) are ∙ ap (λ (n : ℕ). slice_set (replicate count bound) at n) is ∙ set_same count bound at
