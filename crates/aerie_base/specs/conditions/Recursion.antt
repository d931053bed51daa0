-- Recursion over a condition that computes: what a condition gives, by what its parts give.
use Rattle.aerie_base.specs.declared.conditions.Cond.{Cond, Literal, Flag, Same, Compare, Not', And', Or', Row_of-Cond, end_of-Cond, more_of-Cond}
use Rattle.aerie_base.specs.declared.conditions.Cond.TheOpen.{Cond-F}

abbrev mutual
  -- what a condition gives, by a step over one level; `nothing` is for a part that is not there, which never comes
  pub cond_gives : (A : Type 0) (nothing : A) → (Cond-F A → A) → Cond → A
  cond_gives A nothing step (Literal truth) = step (Cond-F.Literal truth)
  cond_gives A nothing step (Flag operand) = step (Cond-F.Flag operand)
  cond_gives A nothing step (Same left right equal) = step (Cond-F.Same left right equal)
  cond_gives A nothing step (Compare left how right) = step (Cond-F.Compare left how right)
  cond_gives A nothing step (Not' _ part) = step (Cond-F.Not (part_gives A nothing step part))
  cond_gives A nothing step (And' _ left _ right) = step (Cond-F.And (part_gives A nothing step left) (part_gives A nothing step right))
  cond_gives A nothing step (Or' _ left _ right) = step (Cond-F.Or (part_gives A nothing step left) (part_gives A nothing step right))

  part_gives : (A : Type 0) (nothing : A) → (Cond-F A → A) → {m : _} → Row_of-Cond m → A
  part_gives A nothing step end_of-Cond = nothing
  part_gives A nothing step (more_of-Cond part rest) = cond_gives A nothing step part
