-- The search goes from the end of one outlook to the next.
use Rattle.std.proofs.Common.{◌≡◌, ℕ, ◌+◌, ◌-◌, ◌<◌, ◌≤◌, Bool, true, false, List, [], ◌∷◌, Option, Some, None, refl, ap, ◌∙◌, arith, nat_le}
use Rattle.aerie_base.specs.declared.conditions.Cond.{Cond}
use Rattle.effect_cells.specs.Cells.{passed}
use Rattle.effect_cells.specs.SearchLaws.{least_is, none_is}
use Rattle.effect_cells.specs.WakeTimes.{wake_time, holds_in, holds_on}
use Rattle.effect_cells.specs.declared.effects.CellState.{CellState}
use Rattle.effect_cells.specs.declared.effects.CellState.TheVariants.{Counter, Register, Volume}
use Rattle.effect_cells.specs.States.{volume_of}
use Rattle.effect_cells.specs.SumLaws.{flowed_zero}
use Rattle.wait_solver.specs.Outlooks.{IsBefore, IsOutlookOf}
use Rattle.wait_solver.specs.declared.outlooks.Outlook.{Outlook}

-- the condition holds at no time before this one
abbrev pub NoneBefore : List CellState → Cond → ℕ → Type 0
NoneBefore cells condition dt = (n : ℕ) → n < dt → holds_in cells condition n ≡ false

module _ (cells : List CellState) (condition : Cond) where
  pub found : (limit dt : ℕ) → dt < limit → NoneBefore cells condition dt → holds_in cells condition dt ≡ true → wake_time cells condition limit ≡ Some dt
  found limit dt below none holds = least_is (holds_in cells condition) 0 limit dt
      (record { reached = omega arith; below = omega arith; passes = holds; first = λ n from less. none n less })

  pub past_the_limit : (limit dt : ℕ) → limit ≤ dt → NoneBefore cells condition dt → wake_time cells condition limit ≡ None
  past_the_limit limit dt past none = none_is (holds_in cells condition) 0 limit (λ n from below. none n (omega arith))

  -- at no time before the end of an outlook by which it does not hold
  pub none_further : (dt n : ℕ) (outlook : Outlook) (stays : Option ℕ) → IsOutlookOf cells condition dt outlook → outlook.holds ≡ false → outlook.stays ≡ stays → dt ≤ n →
      IsBefore (n - dt) stays → holds_in cells condition n ≡ false
  none_further dt n outlook stays tells fails is from before =
      let same : dt + (n - dt) ≡ n = omega arith in
      let stands : holds_in cells condition (dt + (n - dt)) ≡ false = tells.on (n - dt) (rw is before) ∙ fails in
      rw same at stands

  pub none_before_the_change : (dt change : ℕ) (outlook : Outlook) → IsOutlookOf cells condition dt outlook → outlook.holds ≡ false → NoneBefore cells condition dt →
      outlook.stays ≡ Some change → NoneBefore cells condition (dt + change)
  none_before_the_change dt change outlook tells fails none is n below = go (nat_le dt n) refl
    where
      go : (v : Bool) → nat_le dt n ≡ v → holds_in cells condition n ≡ false
      go true e = none_further dt n outlook (Some change) tells fails is (grind arith) (let from : dt ≤ n = grind arith in omega arith)
      go false e = none n (grind arith)

  pub none_ever : (limit dt : ℕ) (outlook : Outlook) → IsOutlookOf cells condition dt outlook → outlook.holds ≡ false → NoneBefore cells condition dt →
      outlook.stays ≡ None → wake_time cells condition limit ≡ None
  none_ever limit dt outlook tells fails none is = none_is (holds_in cells condition) 0 limit (λ n from below. each n)
    where
      each : (n : ℕ) → holds_in cells condition n ≡ false
      each n = go (nat_le dt n) refl
        where
          go : (v : Bool) → nat_le dt n ≡ v → holds_in cells condition n ≡ false
          go true e = none_further dt n outlook None tells fails is (grind arith) tt
          go false e = none n (grind arith)

passed_none : (cells : List CellState) → passed cells 0 ≡ cells
passed_none [] = refl
passed_none (Counter number ∷ rest) = ap (λ (others : List CellState). Counter number ∷ others) (passed_none rest)
passed_none (Register value conflicted ∷ rest) = ap (λ (others : List CellState). Register value conflicted ∷ others) (passed_none rest)
passed_none (Volume volume rate ∷ rest) = λ i. volume_of (flowed_zero (volume, rate) i) ∷ passed_none rest i

-- the answer at once is that on the cells as they are
pub holds_now : (cells : List CellState) (condition : Cond) → holds_in cells condition 0 ≡ holds_on cells condition
holds_now cells condition = λ i. holds_on (passed_none cells i) condition
