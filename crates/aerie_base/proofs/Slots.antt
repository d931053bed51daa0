-- The slots of the locals.
use Rattle.std.proofs.Common.{◌<◌, ℕ, zero, suc, List, [], ◌∷◌, IsSome, length, arith}
use Rattle.aerie_base.specs.declared.values.Value.{Value}
use Rattle.aerie_base.specs.expressions.Typing.{slot_kinds}

-- a slot that has a type is there
pub slot_there : (locals : List Value) (slot : ℕ) → IsSome (slot_kinds locals slot) → slot < length locals
slot_there [] slot h = absurd (cc)
slot_there (v ∷ vs) zero h = omega arith
slot_there (v ∷ vs) (suc slot) h = let k : slot < length vs = slot_there vs slot h in omega arith
