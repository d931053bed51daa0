-- A fold that goes on until it has a result, as a relation and as a function.
use Rattle.std.specs.Prelude.{ℕ, zero, suc}

-- what a transition gives: where the fold stands then, or its result
pub data Next (S R : Type 0) : Type 0 where
  more : S → Next S R
  finished : R → Next S R

module _ (S R : Type 0) (next : S → Next S R) where
  -- where the fold comes to from a first point, its result included
  pub data Reaches (first : S) : Next S R → Type 0 where
    begins : Reaches first (more first)
    onward : {point : S} → Reaches first (more point) → Reaches first (next point)

  abbrev pub and_on : Next S R → Next S R
  and_on (more point) = next point
  and_on (finished result) = finished result

  -- so many transitions
  abbrev pub iterate : ℕ → Next S R → Next S R
  iterate zero point = point
  iterate (suc count) point = iterate count (and_on point)
