-- The entries of a series begin at 0, and the value of whole numbers is that of the last one that has begun.
use Rattle.std.proofs.Common.{◌≡◌, ℕ, ℤ, List, [], ◌∷◌, map, nat_le, Some, IfSome, arith}
use Rattle.std.proofs.lemmas.Int.{ints}
use Rattle.windows.specs.Begun.{last_begun, HaveBegun}
use Rattle.windows.specs.BegunLaws.{same_choice, one_holds}
use Rattle.windows.specs.Linear.{segment_value, segments_value}
use Rattle.dataset_in.specs.Levels.{constant}
use Rattle.dataset_in.specs.Series.{AreStarts}

-- the first begins at 0, so one has begun by each time
pub have_begun : (t : ℕ) (starts : List ℕ) → AreStarts starts → HaveBegun t starts
have_begun t [] starts = absurd starts
have_begun t (first ∷ rest) starts = (omega (arith, starts.0), starts.1)

stays : (entry : ℕ × ℤ) (t : ℕ) → entry.1 ≡ segment_value (constant entry) t
stays entry t = omega (arith, ints)

constant_value : (entries : List (ℕ × ℤ)) (t : ℕ) → IfSome (last_begun (λ entry. entry.0) entries t) (λ entry. entry.1 ≡ segments_value (map constant entries) t)
constant_value [] t = tt
constant_value (entry ∷ []) t = stays entry t
constant_value (entry ∷ next ∷ rest) t =
    same_choice (λ (e : ℕ × ℤ). e.1) (nat_le next.0 t) (last_begun (λ (e : ℕ × ℤ). e.0) (next ∷ rest) t) entry (segments_value (map constant (next ∷ rest)) t)
    (segment_value (constant entry) t) (constant_value (next ∷ rest) t) (stays entry t)

pub constant_is : (entries : List (ℕ × ℤ)) (t : ℕ) (entry : ℕ × ℤ) → Some entry ≡ last_begun (λ entry. entry.0) entries t →
    entry.1 ≡ segments_value (map constant entries) t
constant_is entries t entry e = one_holds (λ (x : ℕ × ℤ). x.1 ≡ segments_value (map constant entries) t) _ _ e (constant_value entries t)
