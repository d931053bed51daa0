-- Worked cases: what each pair of changes of a register comes to, one after another and concurrently.
use Rattle.std.specs.Prelude.{◌≡◌, List, [], ◌∷◌, map, refl}
use Rattle.aerie_base.specs.declared.values.Value.{Value}
use Rattle.effect_cells.specs.declared.registers.Change.{Change}
use Rattle.effect_cells.specs.declared.registers.Change.TheVariants.{Nothing, Set, Mark, SetMark}
use Rattle.effect_cells.specs.Changes.{change_in_turn, change_beside}

-- each change, where one sets this value
abbrev pub changes : Value → List Change
changes value = Nothing ∷ Set value ∷ Mark ∷ SetMark value ∷ []

-- a row for each first change, with a column for each second one
pub one_after_another : (v w : Value) → map (λ first. map (change_in_turn first) (changes w)) (changes v) ≡
    (Nothing ∷ Set w ∷ Mark ∷ SetMark w ∷ [])
    ∷ (Set v ∷ Set w ∷ SetMark v ∷ SetMark w ∷ [])
    ∷ (Mark ∷ Set w ∷ Mark ∷ SetMark w ∷ [])
    ∷ (SetMark v ∷ Set w ∷ SetMark v ∷ SetMark w ∷ [])
    ∷ []
one_after_another v w = refl

pub concurrently : (v w : Value) → map (λ left. map (change_beside left) (changes w)) (changes v) ≡
    (Nothing ∷ Set w ∷ Mark ∷ SetMark w ∷ [])
    ∷ (Set v ∷ Mark ∷ Mark ∷ Mark ∷ [])
    ∷ (Mark ∷ Mark ∷ Mark ∷ Mark ∷ [])
    ∷ (SetMark v ∷ Mark ∷ Mark ∷ Mark ∷ [])
    ∷ []
concurrently v w = refl

-- two that set the same value conflict too
pub equal_sets_conflict : (v : Value) → change_beside (Set v) (Set v) ≡ Mark
equal_sets_conflict v = refl
