-- How the effects of a tree are gathered on all cells in one walk from the back.
--
-- What is behind an item in its own tree follows it; what is behind its tree, in the trees around that, is beside it.
-- A clock tells the two apart: what was gathered on a cell since the walk entered the tree follows, what was gathered
-- earlier is beside.
use Rattle.std.specs.Prelude.{◌≡◌, ℕ, ◌+◌, ◌<◌, ◌≤◌, pos, Bool, true, false, List, length, get_or, Option, Some, None, nat_le, if◌then◌else◌}
use Rattle.effect_cells.specs.Worth.{in_front, beside, magnitude_if_any}
use Rattle.effect_cells.specs.States.{is_of_kind}
use Rattle.effect_cells.specs.declared.registers.Change.TheVariants.{Nothing}
use Rattle.effect_cells.specs.declared.effects.Effect.{Effect}
use Rattle.effect_cells.specs.declared.effects.Effect.TheVariants.{Register}
use Rattle.effect_cells.specs.declared.effects.CellState.{CellState}
use Rattle.effect_cells.specs.declared.effects.CellState.TheVariants.{Counter}
use Rattle.effect_cells.specs.declared.pending.Pending.{Pending}

-- an effect that does nothing to a register; on a counter or an accumulator it does not matter whether what is behind an
-- effect follows it or is beside it
abbrev pub is_nothing : Effect → Bool
is_nothing (Register Nothing) = true
is_nothing effect = false

abbrev pub is_blank : Option Effect → Bool
is_blank None = true
is_blank (Some effect) = is_nothing effect

-- whether what is pending is of the kind of a cell
abbrev pub suits_cell : CellState → Option Effect → Bool
suits_cell state None = true
suits_cell state (Some effect) = is_of_kind state effect

-- an effect in a tree that was entered at `entered_at`, met at `now`, in front of what is pending on its cell
abbrev pub gathered_with : Pending → Effect → ℕ → ℕ → Pending
gathered_with one effect entered_at now =
    if is_blank one.effect then record { effect = Some effect; gathered_at = now }
    else if nat_le entered_at one.gathered_at then record { effect = in_front effect one.effect; gathered_at = one.gathered_at }
    else record { effect = beside (Some effect) one.effect; gathered_at = one.gathered_at }

-- What one cell gathers from the items behind a place of a tree that was entered at `entered_at`, up to `now`: what these
-- items are worth on it, beside what was pending before the tree.
pub record Gathers (state : CellState) (entered_at now : ℕ) (worth : Option Effect) (size : ℕ) (before after : Pending) : Type 0 where
  pub effect : after.effect ≡ beside worth before.effect
  pub small : magnitude_if_any after.effect ≤ size + magnitude_if_any before.effect
  pub suits_before : suits_cell state before.effect ≡ true
  pub suits_after : suits_cell state after.effect ≡ true
  pub earlier : is_blank before.effect ≡ false → before.gathered_at < entered_at
  pub kept : is_blank before.effect ≡ false → after.gathered_at ≡ before.gathered_at
  pub fresh : is_blank before.effect ≡ true → is_blank after.effect ≡ false → entered_at ≤ after.gathered_at
  pub past : is_blank after.effect ≡ false → after.gathered_at < now

abbrev pub pending_at : List Pending → ℕ → Pending
pending_at pending cell = get_or pending cell (record { effect = None; gathered_at = 0 })

abbrev pub state_at : List CellState → ℕ → CellState
state_at states cell = get_or states cell (Counter (pos 0))

-- the same of all cells
pub record GatherAll (states : List CellState) (entered_at now : ℕ) (worth : ℕ → Option Effect) (size : ℕ) (before after : List Pending) : Type 0 where
  pub order : entered_at ≤ now
  pub same : length after ≡ length before
  pub each : (cell : ℕ) → cell < length before →
      Gathers (state_at states cell) entered_at now (worth cell) size (pending_at before cell) (pending_at after cell)

-- what is pending on all cells suits them, and was gathered before `now`
pub record AreReady (states : List CellState) (now : ℕ) (pending : List Pending) : Type 0 where
  pub suit : (cell : ℕ) → cell < length pending → suits_cell (state_at states cell) (pending_at pending cell).effect ≡ true
  pub past : (cell : ℕ) → cell < length pending → is_blank (pending_at pending cell).effect ≡ false → (pending_at pending cell).gathered_at < now

-- numbers of this size more on each cell stay small
abbrev pub HaveRoom : ℕ → ℕ → List Pending → Type 0
HaveRoom size limit pending = (cell : ℕ) → cell < length pending → size + magnitude_if_any (pending_at pending cell).effect < limit

-- nothing is pending on any cell
abbrev pub AreBlank : List Pending → Type 0
AreBlank pending = (cell : ℕ) → cell < length pending → (pending_at pending cell).effect ≡ None
