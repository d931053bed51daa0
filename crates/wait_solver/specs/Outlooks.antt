-- What a condition answers at a time, and for how many microseconds at least it answers the same from then on.
use Rattle.std.specs.Prelude.{◌≡◌, ⊤, ℕ, ◌+◌, ◌<◌, ◌≤◌, ◌^◌, Bool, true, false, not, List, Option, Some, None, refl}
use Rattle.aerie_base.specs.declared.conditions.Cond.{Cond}
use Rattle.aerie_base.specs.TimeOrder.{earlier, later}
use Rattle.effect_cells.specs.WakeTimes.{holds_in}
use Rattle.effect_cells.specs.declared.effects.CellState.{CellState}
use Rattle.wait_solver.specs.declared.outlooks.Outlook.{Outlook}

-- so many microseconds are before a change; where there is none they always are
abbrev pub IsBefore : ℕ → Option ℕ → Type 0
IsBefore n None = ⊤
IsBefore n (Some change) = n < change

-- a change comes later than now, and within a bound on all changes
abbrev pub IsSoon : Option ℕ → Type 0
IsSoon None = ⊤
IsSoon (Some change) = (0 < change) × (change ≤ 2 ^ 117)

abbrev pub of_negation : Outlook → Outlook
of_negation part = record { holds = not part.holds; stays = part.stays }

-- a conjunction: one part that does not hold decides it for as long as it stays so
abbrev pub both_by : Bool → Bool → Outlook → Outlook → Outlook
both_by true true left right = record { holds = true; stays = earlier left.stays right.stays }
both_by true false left right = right
both_by false true left right = left
both_by false false left right = record { holds = false; stays = later left.stays right.stays }

abbrev pub of_conjunction : Outlook → Outlook → Outlook
of_conjunction left right = both_by left.holds right.holds left right

-- a disjunction: one part that holds decides it
abbrev pub either_by : Bool → Bool → Outlook → Outlook → Outlook
either_by false false left right = record { holds = false; stays = earlier left.stays right.stays }
either_by false true left right = right
either_by true false left right = left
either_by true true left right = record { holds = true; stays = later left.stays right.stays }

abbrev pub of_disjunction : Outlook → Outlook → Outlook
of_disjunction left right = either_by left.holds right.holds left right

-- an outlook is right for a condition at a time, if the cells only evolve by themselves
pub record IsOutlookOf (cells : List CellState) (condition : Cond) (dt : ℕ) (outlook : Outlook) : Type 0 where
  pub now : holds_in cells condition dt ≡ outlook.holds
  pub on : (n : ℕ) → IsBefore n outlook.stays → holds_in cells condition (dt + n) ≡ outlook.holds

-- ---- worked cases: two bounds, of which one is met in 4 microseconds and the other in 9

abbrev pub met_in : ℕ → Outlook
met_in n = record { holds = false; stays = Some n }

pub both_wait_for_the_last : of_conjunction (met_in 4) (met_in 9) ≡ met_in 9
both_wait_for_the_last = refl

pub either_waits_for_the_first : of_disjunction (met_in 4) (met_in 9) ≡ met_in 4
either_waits_for_the_first = refl
