-- A condition with its locals filled in: what a waiting task waits for, which then reads cells alone.
--
-- A literal stands in the place of a local. In a linear form the terms of cells stay in their order, and a term of a
-- local is left out, its coefficient times the local's number being added to the constant.
use Rattle.std.specs.Prelude.{ℤ, pos, ◌+ℤ◌, ◌*ℤ◌, false, List, [], ◌∷◌}
use Rattle.aerie_base.specs.declared.values.Value.{Value}
use Rattle.aerie_base.specs.declared.operands.Operand.{Operand}
use Rattle.aerie_base.specs.declared.operands.Operand.TheVariants.{Read, Local}
use Rattle.aerie_base.specs.declared.linear.Term.{Term}
use Rattle.aerie_base.specs.declared.linear.Linear.{Linear}
use Rattle.aerie_base.specs.declared.conditions.Simple.{Simple}
use Rattle.aerie_base.specs.declared.conditions.Simple.TheVariants as simple
use Rattle.aerie_base.specs.declared.conditions.Cond.{Cond, Literal, Flag, Same, Compare, Not, And, Or}
use Rattle.aerie_base.specs.declared.conditions.Cond.TheOpen.{Cond-F}
use Rattle.aerie_base.specs.conditions.Recursion.{cond_gives}
use Rattle.aerie_base.specs.conditions.Holding.{local_value}
use Rattle.aerie_base.specs.expressions.Arithmetic.{number_in, truth_in}

-- a literal for a local, a read as it is
abbrev pub filled_operand : List Value → Operand → Simple
filled_operand locals (Read read) = simple.Operand (Read read)
filled_operand locals (Local slot) = simple.Literal (local_value locals slot)

abbrev pub filled_side : List Value → Simple → Simple
filled_side locals (simple.Literal value) = simple.Literal value
filled_side locals (simple.Operand operand) = filled_operand locals operand

-- a term of a cell in front of some others; one of a local is left out
abbrev pub with_cell : Operand → Term → List Term → List Term
with_cell (Read read) term rest = term ∷ rest
with_cell (Local slot) term rest = rest

-- the terms of cells
abbrev pub cell_terms : List Term → List Term
cell_terms [] = []
cell_terms (term ∷ rest) = with_cell term.operand term (cell_terms rest)

-- what a term of a local adds, by its coefficient; one of a cell adds nothing
abbrev pub local_part : List Value → Operand → ℤ → ℤ
local_part locals (Read read) coefficient = pos 0
local_part locals (Local slot) coefficient = coefficient *ℤ number_in (local_value locals slot)

-- what the terms of locals add
abbrev pub local_parts : List Value → List Term → ℤ
local_parts locals [] = pos 0
local_parts locals (term ∷ rest) = local_part locals term.operand term.coefficient +ℤ local_parts locals rest

abbrev pub filled_linear : List Value → Linear → Linear
filled_linear locals form = record { terms = cell_terms form.terms; constant = form.constant +ℤ local_parts locals form.terms }

-- a truth by itself
abbrev pub flag_of : Simple → Cond
flag_of (simple.Literal value) = Literal (truth_in value)
flag_of (simple.Operand operand) = Flag operand

abbrev pub filled_step : Cond-F (List Value → Cond) → List Value → Cond
filled_step (Cond-F.Literal truth) locals = Literal truth
filled_step (Cond-F.Flag operand) locals = flag_of (filled_operand locals operand)
filled_step (Cond-F.Same left right equal) locals = Same (filled_side locals left) (filled_side locals right) equal
filled_step (Cond-F.Compare left how right) locals = Compare (filled_linear locals left) how (filled_linear locals right)
filled_step (Cond-F.Not part) locals = Not (part locals)
filled_step (Cond-F.And left right) locals = And (left locals) (right locals)
filled_step (Cond-F.Or left right) locals = Or (left locals) (right locals)

-- the condition with the locals filled in
unfoldable pub filled : Cond → List Value → Cond
filled = cond_gives (List Value → Cond) (λ locals. Literal false) filled_step
