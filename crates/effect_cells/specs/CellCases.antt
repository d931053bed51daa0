-- Worked cases: what trees of effects do to cells, and the first cell that leaves its range.
use Rattle.std.specs.Prelude.{◌≡◌, pos, negsuc, true, false, List, [], ◌∷◌, None, Ok, Err, refl}
use Rattle.aerie_base.specs.declared.values.Value.TheVariants.{Int}
use Rattle.effect_cells.specs.Cells.{committed_cells, passed, emitted, verdict, fits_cells}
use Rattle.effect_cells.specs.Worth.{worth_of, magnitude_of}
use Rattle.effect_cells.specs.declared.registers.Change.TheVariants as change
use Rattle.effect_cells.specs.declared.effects.Effect.TheVariants.{Add, Register, Flow}
use Rattle.effect_cells.specs.declared.effects.CellState.{CellState}
use Rattle.effect_cells.specs.declared.effects.CellState.TheVariants as state
use Rattle.effect_cells.specs.declared.trees.Part.{Part, Emit, Child}
use Rattle.effect_cells.specs.declared.trees.Part.TheBlock.{hidden-the_row-Part-0, shape-the_row-Part-0}
use Rattle.effect_cells.specs.declared.trees.Tree.{Tree}
use denote.Hole.Carrier.{hidden}

abbrev pub child : List Part → Part
child parts = Child (record { items = parts })

abbrev pub tree : List Part → Tree
tree parts = record { items = parts }

-- the value 0 without a conflict, and a counter that stands at 0
abbrev pub register_and_counter : List CellState
register_and_counter = state.Register (Int (pos 0)) false ∷ state.Counter (pos 0) ∷ []

-- two tasks of one batch that set the register to the same value
abbrev pub two_equal_sets : Tree
two_equal_sets =
    tree (child (Emit 0 (Register (change.Set (Int (pos 7)))) ∷ []) ∷ child (Emit 0 (Register (change.Set (Int (pos 7)))) ∷ []) ∷ [])

pub equal_sets_conflict : committed_cells register_and_counter two_equal_sets ≡ state.Register (Int (pos 0)) true ∷ state.Counter (pos 0) ∷ []
unfolding hidden-the_row-Part-0 shape-the_row-Part-0 hidden
equal_sets_conflict = refl

pub no_effect_on_the_counter : worth_of two_equal_sets 1 ≡ None
unfolding hidden-the_row-Part-0 shape-the_row-Part-0 hidden
no_effect_on_the_counter = refl

-- a task that sets 1, begins a child that sets 2 and adds to the counter, and then sets 3
abbrev pub child_between : Tree
child_between =
    tree (child (Emit 0 (Register (change.Set (Int (pos 1))))
    ∷ child (Emit 1 (Add (pos 1)) ∷ Emit 0 (Register (change.Set (Int (pos 2)))) ∷ [])
    ∷ Emit 0 (Register (change.Set (Int (pos 3)))) ∷ []) ∷ [])

-- the child's effect is concurrent with what comes behind it, and both come after what is in front
pub conflict_behind_a_child : committed_cells register_and_counter child_between ≡ state.Register (Int (pos 1)) true ∷ state.Counter (pos 1) ∷ []
unfolding hidden-the_row-Part-0 shape-the_row-Part-0 hidden
conflict_behind_a_child = refl

-- the same without the last effect
abbrev pub child_at_the_end : Tree
child_at_the_end =
    tree (child (Emit 0 (Register (change.Set (Int (pos 1))))
    ∷ child (Emit 1 (Add (pos 1)) ∷ Emit 0 (Register (change.Set (Int (pos 2)))) ∷ []) ∷ []) ∷ [])

pub no_conflict_with_what_is_in_front : committed_cells register_and_counter child_at_the_end ≡ state.Register (Int (pos 2)) false ∷ state.Counter (pos 1) ∷ []
unfolding hidden-the_row-Part-0 shape-the_row-Part-0 hidden
no_conflict_with_what_is_in_front = refl

pub its_effects_are_of_their_kinds : fits_cells register_and_counter child_at_the_end ≡ true
unfolding hidden-the_row-Part-0 shape-the_row-Part-0 hidden
its_effects_are_of_their_kinds = refl

pub on_a_counter_that_is_none : fits_cells register_and_counter (tree (Emit 0 (Add (pos 1)) ∷ [])) ≡ false
on_a_counter_that_is_none = refl

pub on_a_cell_that_is_none : fits_cells register_and_counter (tree (Emit 2 (Add (pos 1)) ∷ [])) ≡ false
on_a_cell_that_is_none = refl

pub its_numbers_added_up : magnitude_of (tree (Emit 0 (Add (negsuc 4)) ∷ child (Emit 1 (Flow (pos 2) (negsuc 0)) ∷ []) ∷ [])) ≡ 8
unfolding hidden-the_row-Part-0 shape-the_row-Part-0 hidden
its_numbers_added_up = refl

-- ---- ranges

-- two volumes that rise by the greatest rate
abbrev pub two_accumulators : List CellState
two_accumulators = state.Volume (pos 0) (pos 1_000_000_000_000) ∷ state.Volume (pos 0) (pos 1_000_000_000_000) ∷ []

pub at_the_end_of_the_range : verdict (passed two_accumulators 1_000_000) ≡ Ok tt
at_the_end_of_the_range = refl

-- both leave their range, and the first is named
pub the_first_of_two : verdict (passed two_accumulators 1_000_001) ≡ Err (record { cell = 0 })
the_first_of_two = refl

-- a rate leaves its range where another cell is within its own
pub rate_out_of_range : verdict (committed_cells two_accumulators (tree (Emit 1 (Flow (pos 0) (pos 1)) ∷ []))) ≡ Err (record { cell = 1 })
rate_out_of_range = refl

-- one effect may leave the range
pub emitted_past_the_range : emitted two_accumulators 1 (Flow (pos 0) (pos 1)) ≡ state.Volume (pos 0) (pos 1_000_000_000_000) ∷ state.Volume (pos 0) (pos 1_000_000_000_001) ∷ []
emitted_past_the_range = refl
