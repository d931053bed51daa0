-- Straight pieces that follow the first terms of a sum.
use Rattle.std.specs.Prelude.{◌≡◌, ℕ, ◌+◌, ◌*◌, ◌<◌, ◌≤◌, ℤ, ◌+ℤ◌, ◌*ℤ◌, List}
use Rattle.std.specs.Int.RustNames.{unsigned_abs}
use Rattle.aerie_base.specs.declared.models.model.Parts.{Parts}
use Rattle.run_data.specs.declared.runs.Run.{Run}
use Rattle.windows.specs.declared.segments.Segment.{Segment}
use Rattle.windows.specs.Linear.{AreSegments, IsSum, segments_value}
use Rattle.constraints.specs.declared.types.RuleSum.{RuleSum}
use Rattle.constraints.specs.declared.types.RuleTerm.{RuleTerm}
use Rattle.constraints.specs.Holding.{rule_term_value, rule_terms_value}

-- no term comes further from 0: a million times 2 * 10^27
abbrev pub product_limit : ℕ
product_limit = 2_000_000_000_000_000_000_000_000_000_000_000

-- below the reach these pieces come no further from 0
abbrev pub ComeNoFurther : ℕ → ℕ → List Segment → Type 0
ComeNoFurther reach most made = (t : ℕ) → t < reach → unsigned_abs (segments_value made t) ≤ most

-- some pieces, and so many times others, are sums that may be counted with at each time below the reach
abbrev pub MayBeAdded : ℕ → List Segment → ℤ → List Segment → Type 0
MayBeAdded reach sum coefficient more =
    (t : ℕ) → t < reach → IsSum (segments_value sum t +ℤ coefficient *ℤ segments_value more t)

-- the pieces that they make
abbrev pub HasMore : ℕ → List Segment → ℤ → List Segment → List Segment → Type 0
HasMore reach sum coefficient more made =
    (t : ℕ) → t < reach → segments_value made t ≡ segments_value sum t +ℤ coefficient *ℤ segments_value more t

-- pieces with a term more
abbrev pub HasTermMore : Parts → Run → List Segment → RuleTerm → List Segment → Type 0
HasTermMore model run sum term made =
    (t : ℕ) → t < run.reach → segments_value made t ≡ segments_value sum t +ℤ rule_term_value model run term t

-- a term comes no further from 0 than any may
abbrev pub IsSmallTerm : Parts → Run → RuleTerm → Type 0
IsSmallTerm model run term = (t : ℕ) → t < run.reach → unsigned_abs (rule_term_value model run term t) ≤ product_limit

-- the pieces have the sum of the terms and a constant at each time below the reach, so far from 0 at most
pub record SumTo (model : Parts) (run : Run) (terms : List RuleTerm) (constant : ℤ) (count : ℕ) (made : List Segment) : Type 0 where
  pub form : AreSegments run.reach made
  pub values : (t : ℕ) → t < run.reach → segments_value made t ≡ rule_terms_value model run terms t +ℤ constant
  pub small : (t : ℕ) → t < run.reach → unsigned_abs (segments_value made t) ≤ product_limit * (count + 1)

-- the pieces have the sum
abbrev pub HasSum : Parts → Run → RuleSum → List Segment → Type 0
HasSum model run sum made = SumTo model run sum.terms sum.constant 16 made

-- pieces of a sum, so far from 0 at most
pub record AreModest (reach : ℕ) (made : List Segment) : Type 0 where
  pub form : AreSegments reach made
  pub small : (t : ℕ) → t < reach → unsigned_abs (segments_value made t) ≤ product_limit * (16 + 1)
