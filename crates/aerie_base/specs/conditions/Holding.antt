-- Whether a condition holds, by what the cells and the locals have. A condition never faults: its numbers have no limit.
use Rattle.std.specs.Prelude.{ℕ, ℤ, pos, ◌+ℤ◌, ◌*ℤ◌, Bool, false, not, ◌&&◌, ◌||◌, List, [], ◌∷◌, slice_index_or, if◌then◌else◌}
use Rattle.aerie_base.specs.declared.values.Value.{Value}
use Rattle.aerie_base.specs.declared.values.Value.TheVariants.{Int}
use Rattle.aerie_base.specs.declared.operands.CellRead.{CellRead}
use Rattle.aerie_base.specs.declared.operands.Operand.{Operand}
use Rattle.aerie_base.specs.declared.operands.Operand.TheVariants.{Read, Local}
use Rattle.aerie_base.specs.declared.linear.Term.{Term}
use Rattle.aerie_base.specs.declared.linear.Linear.{Linear}
use Rattle.aerie_base.specs.declared.conditions.Simple.{Simple}
use Rattle.aerie_base.specs.declared.conditions.Simple.TheVariants as simple
use Rattle.aerie_base.specs.declared.conditions.Cond.{Cond}
use Rattle.aerie_base.specs.declared.conditions.Cond.TheOpen.{Cond-F}
use Rattle.aerie_base.specs.conditions.Recursion.{cond_gives}
use Rattle.aerie_base.specs.expressions.Arithmetic.{number_in, truth_in, same_value, compared}

-- what each read of a cell has; a number may be out of its range
abbrev pub Readings : Type 0
Readings = CellRead → Value

-- a local that is not set has 0
abbrev pub local_value : List Value → ℕ → Value
local_value locals slot = slice_index_or locals slot (Int (pos 0))

abbrev pub operand_value : Readings → List Value → Operand → Value
operand_value readings locals (Read read) = readings read
operand_value readings locals (Local slot) = local_value locals slot

abbrev pub side_value : Readings → List Value → Simple → Value
side_value readings locals (simple.Literal value) = value
side_value readings locals (simple.Operand operand) = operand_value readings locals operand

abbrev pub term_value : Readings → List Value → Term → ℤ
term_value readings locals term = term.coefficient *ℤ number_in (operand_value readings locals term.operand)

abbrev pub terms_value : Readings → List Value → List Term → ℤ
terms_value readings locals [] = pos 0
terms_value readings locals (term ∷ rest) = term_value readings locals term +ℤ terms_value readings locals rest

-- the value of a linear form
abbrev pub linear_value : Readings → List Value → Linear → ℤ
linear_value readings locals form = terms_value readings locals form.terms +ℤ form.constant

abbrev pub Holding : Type 0
Holding = Readings → List Value → Bool

abbrev pub holds_step : Cond-F Holding → Holding
holds_step (Cond-F.Literal truth) readings locals = truth
holds_step (Cond-F.Flag operand) readings locals = truth_in (operand_value readings locals operand)
holds_step (Cond-F.Same left right equal) readings locals =
    let same = same_value (side_value readings locals left) (side_value readings locals right) in
    if equal then same else not same
holds_step (Cond-F.Compare left how right) readings locals =
    compared how (linear_value readings locals left) (linear_value readings locals right)
holds_step (Cond-F.Not part) readings locals = not (part readings locals)
holds_step (Cond-F.And left right) readings locals = left readings locals && right readings locals
holds_step (Cond-F.Or left right) readings locals = left readings locals || right readings locals

-- whether a condition holds
unfoldable pub holds : Cond → Holding
holds = cond_gives Holding (λ readings locals. false) holds_step
