-- Worked cases: a bookmark of an old simulation behind the place from which on a new one is alike.
use Rattle.std.specs.Prelude.{[], ◌∷◌, refl}
use Rattle.std.proofs.Common.{arith, lit≤}
use Rattle.run_data.specs.declared.runs.Instant.{Instant}
use Rattle.resimulate.specs.Followed.{ComeBehind, IsSpentThere}

module _ (one two three four : Instant) where
  -- the new simulation has one instant where the old one has two, and the bookmark is an instant further on
  pub those_behind_come_too : ComeBehind (one ∷ []) (two ∷ three ∷ four ∷ []) 2 (one ∷ four ∷ [])
  those_behind_come_too = record { enough = lit≤ tt; is = refl }

  pub right_behind_there_are_no_more : ComeBehind (one ∷ []) (two ∷ three ∷ []) 2 (one ∷ [])
  right_behind_there_are_no_more = record { enough = lit≤ tt; is = refl }

  pub not_in_front : ComeBehind (one ∷ []) (two ∷ []) 2 (one ∷ []) → ⊥
  not_in_front behind = (let enough = behind.enough in absurd (omega (arith, enough)))

-- the old simulation spent 10 until it was alike and 30 at the bookmark, the new one 4
pub as_much_is_spent_since : IsSpentThere 30 10 4 24 24
as_much_is_spent_since = record { since = refl; within = lit≤ tt }

pub not_beyond_the_bound : IsSpentThere 30 10 4 23 24 → ⊥
not_beyond_the_bound spent = (let within = spent.within in absurd (omega (arith, within)))
