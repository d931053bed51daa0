-- A file of lemmas: what it proves need not be read to trust a clause.
--
-- A condition with its locals filled in holds exactly where the condition holds with these locals.
use Rattle.std.proofs.Common.{◌≡◌, ℤ, ◌+ℤ◌, ◌*ℤ◌, not, ◌&&◌, ◌||◌, List, [], ◌∷◌, refl, ap, arith, if◌then◌else◌}
use Rattle.std.proofs.lemmas.Int.{ints}
use Rattle.aerie_base.specs.declared.values.Value.{Value}
use Rattle.aerie_base.specs.declared.operands.Operand.{Operand}
use Rattle.aerie_base.specs.declared.operands.Operand.TheVariants.{Read, Local}
use Rattle.aerie_base.specs.declared.linear.Term.{Term}
use Rattle.aerie_base.specs.declared.linear.Linear.{Linear}
use Rattle.aerie_base.specs.declared.conditions.Simple.{Simple}
use Rattle.aerie_base.specs.declared.conditions.Simple.TheVariants as simple
use Rattle.aerie_base.specs.declared.conditions.Cond.{Cond, Literal, Flag, Same, Compare, Not', And', Or', more_of-Cond, end_of-Cond}
use Rattle.aerie_base.specs.declared.conditions.Cond.TheBlock.{hidden-the_row-Cond-0, shape-the_row-Cond-0}
use denote.Hole.Carrier.{hidden}
use Rattle.aerie_base.specs.conditions.Holding.{Readings, holds, operand_value, side_value, terms_value, linear_value}
use Rattle.aerie_base.specs.conditions.Filling.{filled, filled_side, with_cell, cell_terms, local_part, local_parts, filled_linear}
use Rattle.aerie_base.specs.expressions.Arithmetic.{number_in, same_value, compared}

module _ (readings : Readings) (locals : List Value) where
  side_same : (side : Simple) → side_value readings [] (filled_side locals side) ≡ side_value readings locals side
  side_same (simple.Literal value) = refl
  side_same (simple.Operand (Read read)) = refl
  side_same (simple.Operand (Local slot)) = refl

  term_moved : (operand : Operand) (coefficient : ℤ) (rest : List Term) →
      terms_value readings [] (with_cell operand (record { coefficient = coefficient; operand = operand }) rest) +ℤ local_part locals operand coefficient
      ≡ (coefficient *ℤ number_in (operand_value readings locals operand)) +ℤ terms_value readings [] rest
  term_moved (Read read) coefficient rest = omega (arith, ints)
  term_moved (Local slot) coefficient rest = omega (arith, ints)

  terms_moved : (terms : List Term) → terms_value readings [] (cell_terms terms) +ℤ local_parts locals terms ≡ terms_value readings locals terms
  terms_moved [] = refl
  terms_moved (term ∷ rest) = omega (arith, ints, term_moved term.operand term.coefficient (cell_terms rest), terms_moved rest)

  linear_same : (form : Linear) → linear_value readings [] (filled_linear locals form) ≡ linear_value readings locals form
  linear_same form = omega (arith, ints, terms_moved form.terms)

  pub filled_holds : (condition : Cond) → holds (filled condition locals) readings [] ≡ holds condition readings locals
  unfolding holds filled hidden-the_row-Cond-0 shape-the_row-Cond-0 hidden
  filled_holds (Literal truth) = refl
  filled_holds (Flag (Read read)) = refl
  filled_holds (Flag (Local slot)) = refl
  filled_holds (Same left right equal) = λ i. let same = same_value (side_same left i) (side_same right i) in if equal then same else not same
  filled_holds (Compare left how right) = λ i. compared how (linear_same left i) (linear_same right i)
  filled_holds (Not' s (more_of-Cond part end_of-Cond)) = ap not (filled_holds part)
  filled_holds (And' s (more_of-Cond left end_of-Cond) t (more_of-Cond right end_of-Cond)) = λ i. filled_holds left i && filled_holds right i
  filled_holds (Or' s (more_of-Cond left end_of-Cond) t (more_of-Cond right end_of-Cond)) = λ i. filled_holds left i || filled_holds right i
