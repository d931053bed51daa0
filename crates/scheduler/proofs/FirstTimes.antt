-- The first time of violations so far and of others, and what is found behind other trials.
use Rattle.std.proofs.Common.{◌≡◌, ℕ, Option, Some, None, min, refl, ap, arith}
use Rattle.std.specs.Option.{option_or}
use Rattle.aerie_base.specs.TimeOrder.{earlier}
use Rattle.goals.specs.declared.unmet.Rejection.{Rejection}
use Rattle.scheduler.specs.Trials.{Found, found_behind}

pub earlier_of_three : (a b c : Option ℕ) → earlier (earlier a b) c ≡ earlier a (earlier b c)
earlier_of_three None b c = refl
earlier_of_three (Some a) None c = refl
earlier_of_three (Some a) (Some b) None = refl
earlier_of_three (Some a) (Some b) (Some c) = ap Some same
  where
    same : min (min a b) c ≡ min a (min b c)
    same = omega arith

-- an earlier rejection is forgotten behind a later one
pub behind_two : (earlier : Option Rejection) (rejection : Rejection) (found : Found) →
    found_behind earlier (found_behind (Some rejection) found) ≡ found_behind (Some rejection) found
behind_two earlier rejection found = λ i. record { plan = found.plan; last = later found.last i; left = found.left }
  where
    later : (last : Option Rejection) → option_or (option_or last (Some rejection)) earlier ≡ option_or last (Some rejection)
    later None = refl
    later (Some one) = refl
