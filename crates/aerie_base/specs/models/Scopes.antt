-- Which locals a statement knows.
--
-- The locals have slots in the order of the text, parameters first. A local is known from its `let` to the end of its
-- block; its slot is no other local's.
use Rattle.std.specs.Prelude.{ℕ, ◌-◌, List, [], ◌∷◌, ◌++◌, Option, Some, None, nat_eq, length, replicate, slice_get, if◌then◌else◌}
use Rattle.aerie_base.specs.declared.values.Kind.{Kind}

-- the types of the slots so far, of which those of locals that are no longer known are left out
abbrev pub Scope : Type 0
Scope = List (Option Kind)

abbrev pub flattened : {A : Type 0} → Option (Option A) → Option A
flattened None = None
flattened (Some found) = found

-- the type of a local that is known
abbrev pub known : Scope → ℕ → Option Kind
known scope slot = flattened (slice_get scope slot)

-- the scope behind a `let`, which takes the next slot
abbrev pub with_local : ℕ → Option Kind → Scope → Option Scope
with_local slot None scope = None
with_local slot (Some kind) scope = if nat_eq slot (length scope) then Some (scope ++ Some kind ∷ []) else None

-- the scope behind a block, by the one in front of it and the one at its end: what was new in it is no longer known
abbrev pub behind : Scope → Scope → Scope
behind scope inner = scope ++ replicate (length inner - length scope) None
