-- What a call answers that asks for memory: what is defined, or that memory ran out.
use Rattle.std.specs.Prelude.{◌≡◌, Bool, true, false, Result, Ok, Err, ⊤}

-- the fact, unless the test says yes
abbrev pub Unless : Bool → Type 0 → Type 0
Unless true fact = ⊤
Unless false fact = fact

-- The answer is this one, unless memory ran out, which the error tells by a test of its own.
abbrev pub UnlessMemory : {A E : Type 0} → (E → Bool) → Result A E → Result A E → Type 0
UnlessMemory ran_out answer (Ok value) = answer ≡ Ok value
UnlessMemory ran_out answer (Err error) = Unless (ran_out error) (answer ≡ Err error)
