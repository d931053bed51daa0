-- The cells that a step wrote, each once with its state, laid over those of its view.
use Rattle.std.specs.Prelude.{◌≡◌, ◌<◌, ℕ, ◌+◌, List, [], ◌∷◌, Option, Some, length, nat_eq, slice_get, unwrap_or, if◌then◌else◌}
use Rattle.std.specs.Map.{lookup}

-- the state of a cell that was written
abbrev pub written_state : {A : Type 0} → ℕ → List (ℕ × A) → Option A
written_state cell written = lookup (nat_eq cell) written

-- cells from a number on, with the states of those that were written
abbrev pub overlaid_from : {A : Type 0} → ℕ → List A → List (ℕ × A) → List A
overlaid_from cell [] written = []
overlaid_from cell (state ∷ rest) written = unwrap_or (written_state cell written) state ∷ overlaid_from (cell + 1) rest written

-- the cells of a view, with the states of those that were written
abbrev pub overlaid : {A : Type 0} → List A → List (ℕ × A) → List A
overlaid view written = overlaid_from 0 view written

-- one cell has this state afterwards, and the others what they had
abbrev pub Puts : {A : Type 0} → ℕ → A → List (ℕ × A) → List (ℕ × A) → Type 0
Puts cell state before after = (other : ℕ) → written_state other after ≡ (if nat_eq other cell then Some state else written_state other before)

-- each cell that was written has its place among them noted
pub record ArePlaced {A : Type 0} (written : List (ℕ × A)) (places : List ℕ) : Type 0 where
  pub count : length places ≡ 256
  pub placed : (place : ℕ) (one : ℕ × A) → slice_get written place ≡ Some one → slice_get places one.0 ≡ Some place

-- this cell was written, and stands at this place among those that were
abbrev pub IsWrittenAt : {A : Type 0} → List (ℕ × A) → ℕ → ℕ → Type 0
IsWrittenAt {A} written place cell = (state : A) × (slice_get written place ≡ Some (cell, state))

-- each cell stands once among those that were written
abbrev pub AreOnce : {A : Type 0} → List (ℕ × A) → Type 0
AreOnce written = (places : List ℕ) × ArePlaced written places

-- each cell stands once, and a table that is not empty has their places
pub record HavePlaces {A : Type 0} (written : List (ℕ × A)) (table : List ℕ) : Type 0 where
  pub once : AreOnce written
  pub placed : 0 < length table → ArePlaced written table
