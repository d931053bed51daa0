-- What an effect on a register does.
use Rattle.std.specs.Prelude.{Bool, true, false}
use Rattle.aerie_base.specs.declared.values.Value.{Value}
use Rattle.effect_cells.specs.declared.registers.Change.{Change}
use Rattle.effect_cells.specs.declared.registers.Change.TheVariants.{Nothing, Set, Mark, SetMark}

-- one change and then another: the later one decides, but a mark keeps the value that was set before it
abbrev pub change_in_turn : Change → Change → Change
change_in_turn first Nothing = first
change_in_turn first (Set value) = Set value
change_in_turn first (SetMark value) = SetMark value
change_in_turn Nothing Mark = Mark
change_in_turn Mark Mark = Mark
change_in_turn (Set value) Mark = SetMark value
change_in_turn (SetMark value) Mark = SetMark value

-- two changes concurrently: where both do something they conflict, also where they do the same
abbrev pub change_beside : Change → Change → Change
change_beside Nothing other = other
change_beside (Set value) Nothing = Set value
change_beside Mark Nothing = Mark
change_beside (SetMark value) Nothing = SetMark value
change_beside _ _ = Mark

-- the value and the conflict flag after a change
abbrev pub changed : Value × Bool → Change → Value × Bool
changed state Nothing = state
changed state (Set value) = (value, false)
changed state Mark = (state.0, true)
changed state (SetMark value) = (value, true)
