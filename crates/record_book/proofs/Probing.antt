-- Views that agree with reads, and the keys of reads.
use Rattle.std.proofs.Common.{◌≡◌, ℕ, zero, suc, ◌+◌, ◌<◌, ◌≤◌, ◌↔◌, Bool, true, false, IsTrue, List, [], ◌∷◌, ◌++◌, length, take, Some, slice_get, get_or, refl, ap, sym, subst, ◌∙◌, arith, append_assoc, append-nil}
use Rattle.std.specs.Option.{option_map}
use Rattle.std.specs.Hash.{HashWrites, fed_then}
use Rattle.std.specs.List.{All, fold}
use Rattle.std.proofs.lemmas.List.{take_all, take_more}
use Rattle.std.proofs.lemmas.List.Concat.{flat_map-append}
use Rattle.std.proofs.lemmas.List.Elements.{All-cons}
use Rattle.std.proofs.lemmas.Option.{slice_get_read, slice_get_within, slice_get-map, slice_get-get_or, get_or_from_slice_get}
use Rattle.effect_cells.specs.declared.effects.CellState.{CellState}
use Rattle.run_data.specs.Records.{Agrees}
use Rattle.record_book.specs.Ways.{cell_written, cells_read, states_written}

-- ---- views that agree

pub agreeing_are_within : (view : List CellState) (reads : List (ℕ × CellState)) → Agrees view reads → All (λ cell. cell < length view) (cells_read reads)
agreeing_are_within view [] agrees = λ at other lt. absurd (omega arith)
agreeing_are_within view (read ∷ rest) agrees =
    All-cons (λ cell. cell < length view) read.0 (cells_read rest) (slice_get_within view read.0 read.1 agrees.0) (agreeing_are_within view rest agrees.1)

pub agrees_at : (view : List CellState) (reads : List (ℕ × CellState)) (at : ℕ) (read : ℕ × CellState) → Agrees view reads → slice_get reads at ≡ Some read →
    slice_get view read.0 ≡ Some read.1
agrees_at view [] at read agrees there = absurd (cc)
agrees_at view (first ∷ rest) zero read agrees there =
    let same : first ≡ read = cc in subst (λ (r : ℕ × CellState). slice_get view r.0 ≡ Some r.1) same agrees.0
agrees_at view (first ∷ rest) (suc at) read agrees there = agrees_at view rest at read agrees.1 there

agrees_pushed : (view : List CellState) (reads : List (ℕ × CellState)) (read : ℕ × CellState) → Agrees view reads → slice_get view read.0 ≡ Some read.1 → Agrees view (reads ++ read ∷ [])
agrees_pushed view [] read agrees here = (here, tt)
agrees_pushed view (first ∷ rest) read agrees here = (agrees.0, agrees_pushed view rest read agrees.1 here)

-- the first reads and one more
first_more : (reads : List (ℕ × CellState)) (at : ℕ) (read : ℕ × CellState) → slice_get reads at ≡ Some read → take (at + 1) reads ≡ take at reads ++ read ∷ []
first_more reads at read there =
    take_more reads at read (slice_get_within reads at read there)
    ∙ ap (λ r. take at reads ++ r ∷ []) (get_or_from_slice_get reads at read read there)

pub agrees_more : (view : List CellState) (reads : List (ℕ × CellState)) (at : ℕ) (read : ℕ × CellState) → slice_get reads at ≡ Some read →
    Agrees view (take at reads) → slice_get view read.0 ≡ Some read.1 → Agrees view (take (at + 1) reads)
agrees_more view reads at read there agrees here = subst (Agrees view) (sym (first_more reads at read there)) (agrees_pushed view (take at reads) read agrees here)

-- the cell of a read
pub cell_at : (reads : List (ℕ × CellState)) (at cell : ℕ) → slice_get (cells_read reads) at ≡ Some cell → (state : CellState) × (slice_get reads at ≡ Some (cell, state))
cell_at [] at cell there = absurd (cc)
cell_at (first ∷ rest) zero cell there = let same : first.0 ≡ cell = cc in (first.1, ap (λ c. Some (c, first.1)) same)
cell_at (first ∷ rest) (suc at) cell there = cell_at rest at cell there

-- the cell of the read at a position is one of the view's
pub cell_within : (view : List CellState) (reads : List (ℕ × CellState)) (at : ℕ) (read : ℕ × CellState) → All (λ cell. cell < length view) (cells_read reads) →
    at < length reads → read ≡ get_or reads at read → read.0 < length view
cell_within view reads at read all lt is =
    let there : slice_get (cells_read reads) at ≡ Some read.0 =
    slice_get-map (λ (r : ℕ × CellState). r.0) reads at ∙ ap (option_map (λ (r : ℕ × CellState). r.0)) (slice_get_read reads (length reads) at read refl lt is) in
    let within : at < length (cells_read reads) = slice_get_within (cells_read reads) at read.0 there in
    subst (λ cell. cell < length view) (get_or_from_slice_get (cells_read reads) at read.0 read.0 there) (all at read.0 within)

-- ---- keys

module _ {S : Type 0} (write : S → List ℕ → S) (start : S) (front : HashWrites) where
  -- what was written of the first reads
  abbrev pub HasWritten : List (ℕ × CellState) → ℕ → S → Type 0
  HasWritten reads count now = now ≡ fold write start (front ++ states_written (take count reads))

  pub written_more : (reads : List (ℕ × CellState)) (at : ℕ) (read : ℕ × CellState) (now next : S) → slice_get reads at ≡ Some read →
      HasWritten reads at now → next ≡ fold write now (cell_written read.1) → HasWritten reads (at + 1) next
  written_more reads at read now next there is more =
      fed_then write start now next (front ++ states_written (take at reads)) (cell_written read.1) is more
      ∙ ap (fold write start) (joined ∙ ap (λ r. front ++ states_written r) (sym (first_more reads at read there)))
    where
      joined : (front ++ states_written (take at reads)) ++ cell_written read.1 ≡ front ++ states_written (take at reads ++ read ∷ [])
      joined =
          append_assoc front (states_written (take at reads)) (cell_written read.1)
          ∙ ap (λ w. front ++ w)
          (ap (λ w. states_written (take at reads) ++ w) (sym (append-nil (cell_written read.1)))
          ∙ sym (flat_map-append (λ (r : ℕ × CellState). cell_written r.1) (take at reads) (read ∷ [])))

  pub written_begins : (reads : List (ℕ × CellState)) (now : S) → now ≡ fold write start front → HasWritten reads 0 now
  written_begins reads now is = is ∙ ap (fold write start) (sym (append-nil front))

  pub written_all : (reads : List (ℕ × CellState)) (count : ℕ) (now : S) → length reads ≤ count → HasWritten reads count now → now ≡ fold write start (front ++ states_written reads)
  written_all reads count now le is = is ∙ ap (λ r. fold write start (front ++ states_written r)) (take_all count reads le)

-- the read of a cell has the state that the view has
pub read_there : (view : List CellState) (reads : List (ℕ × CellState)) (cells : List ℕ) (at : ℕ) (state : CellState) → cells_read reads ≡ cells → Agrees view reads →
    at < length cells → slice_get view (get_or cells at 0) ≡ Some state → slice_get reads at ≡ Some (get_or cells at 0, state)
read_there view reads cells at state same agrees lt here =
    let cell : slice_get (cells_read reads) at ≡ Some (get_or cells at 0) = ap (λ (c : List ℕ). slice_get c at) same ∙ slice_get-get_or cells at 0 lt in
    let read = cell_at reads at (get_or cells at 0) cell in
    let both : Some read.0 ≡ Some state = sym (agrees_at view reads at (get_or cells at 0, read.0) agrees read.1) ∙ here in
    let is_state : read.0 ≡ state = cc in
    read.1 ∙ ap (λ (s : CellState). Some (get_or cells at 0, s)) is_state

-- ---- tests

-- what a test denies does not hold
pub denied : (test : Bool) (P : Type 0) → test ≡ false → IsTrue test ↔ P → P → ⊥
denied test P refused tells holds = let is : test ≡ true = tells.1 holds in cc

pub cell_is : (reads : List (ℕ × CellState)) (at other : ℕ) (read : ℕ × CellState) → at < length reads → read ≡ get_or reads at read → get_or (cells_read reads) at other ≡ read.0
cell_is reads at other read lt is =
    get_or_from_slice_get (cells_read reads) at read.0 other
    (slice_get-map (λ (r : ℕ × CellState). r.0) reads at ∙ ap (option_map (λ (r : ℕ × CellState). r.0)) (slice_get_read reads (length reads) at read refl lt is))

pub refuted : (P : Type 0) → (P → ⊥) → IsTrue false ↔ P
refuted P never = (λ is. absurd (cc), λ holds. absurd (never holds))

-- the read at a position
pub read_at : (reads : List (ℕ × CellState)) (at : ℕ) (read : ℕ × CellState) → at < length reads → read ≡ get_or reads at read → slice_get reads at ≡ Some read
read_at reads at read lt is = slice_get_read reads (length reads) at read refl lt is
