-- Which of several that begin one after another has begun last by a time: each lasts until the next one begins.
use Rattle.std.specs.Prelude.{ℕ, ◌<◌, ◌≤◌, cond, nat_le, List, [], ◌∷◌, Option, Some, None}

-- the last of these that begins no later than a time, where the first does
abbrev pub last_begun : {A : Type 0} → (A → ℕ) → List A → ℕ → Option A
last_begun from [] t = None
last_begun from (one ∷ []) t = Some one
last_begun from (one ∷ next ∷ rest) t = cond (nat_le (from next) t) (last_begun from (next ∷ rest) t) (Some one)

-- each start is after the one before it
abbrev pub StartsRise : ℕ → List ℕ → Type 0
StartsRise last [] = Unit {0}
StartsRise last (next ∷ rest) = (last < next) × StartsRise next rest

-- starts that rise, the first of them no later than a time
abbrev pub HaveBegun : ℕ → List ℕ → Type 0
HaveBegun t [] = ⊥
HaveBegun t (first ∷ rest) = (first ≤ t) × StartsRise first rest
