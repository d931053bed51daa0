-- Which faults expressions have.
use Rattle.std.specs.Prelude.{Bool, true, false, IfErr, IsTrue}
use Rattle.aerie_base.specs.expressions.Arithmetic.{ValueOrFault}
use Rattle.aerie_base.specs.declared.faults.Fault.{Fault}
use Rattle.aerie_base.specs.declared.faults.Fault.TheVariants.{Range, Divide, NegativeDelay, TooDeep}

-- the faults of expressions
abbrev pub is_of_expression : Fault → Bool
is_of_expression Range = true
is_of_expression Divide = true
is_of_expression NegativeDelay = false
is_of_expression TooDeep = false

-- a value, or one of these faults
abbrev pub MayFault : ValueOrFault → Type 0
MayFault outcome = IfErr outcome (λ fault. IsTrue (is_of_expression fault))
