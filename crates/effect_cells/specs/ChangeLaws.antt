-- A file of lemmas: what it proves need not be read to trust a clause.
--
-- The laws of changes.
use Rattle.std.specs.Prelude.{◌≡◌, Bool, refl}
use Rattle.std.proofs.Common.{arith}
use Rattle.aerie_base.specs.declared.values.Value.{Value}
use Rattle.effect_cells.specs.declared.registers.Change.{Change}
use Rattle.effect_cells.specs.declared.registers.Change.TheVariants.{Nothing, Set, Mark, SetMark}
use Rattle.effect_cells.specs.Changes.{change_in_turn, change_beside, changed}

pub nothing_first : (a : Change) → change_in_turn Nothing a ≡ a
nothing_first Nothing = refl
nothing_first (Set w) = refl
nothing_first Mark = refl
nothing_first (SetMark w) = refl

pub nothing_last : (a : Change) → change_in_turn a Nothing ≡ a
nothing_last Nothing = refl
nothing_last (Set w) = refl
nothing_last Mark = refl
nothing_last (SetMark w) = refl

pub turns_associate : (a b c : Change) → change_in_turn (change_in_turn a b) c ≡ change_in_turn a (change_in_turn b c)
turns_associate a b Nothing = refl
turns_associate a b (Set w) = refl
turns_associate a b (SetMark w) = refl
turns_associate a Nothing Mark = refl
turns_associate a (Set w) Mark = refl
turns_associate a (SetMark w) Mark = refl
turns_associate Nothing Mark Mark = refl
turns_associate (Set w) Mark Mark = refl
turns_associate Mark Mark Mark = refl
turns_associate (SetMark w) Mark Mark = refl

pub nothing_left : (a : Change) → change_beside Nothing a ≡ a
nothing_left a = refl

pub nothing_right : (a : Change) → change_beside a Nothing ≡ a
nothing_right Nothing = refl
nothing_right (Set w) = refl
nothing_right Mark = refl
nothing_right (SetMark w) = refl

pub sides_commute : (a b : Change) → change_beside a b ≡ change_beside b a
sides_commute Nothing b = grind arith
sides_commute (Set w) b = grind arith
sides_commute Mark b = grind arith
sides_commute (SetMark w) b = grind arith

pub sides_associate : (a b c : Change) → change_beside (change_beside a b) c ≡ change_beside a (change_beside b c)
sides_associate a b c = grind arith

-- to apply one change and then another is to apply them in turn
pub changed_in_turn : (state : Value × Bool) (a b : Change) → changed state (change_in_turn a b) ≡ changed (changed state a) b
changed_in_turn state a Nothing = refl
changed_in_turn state a (Set w) = refl
changed_in_turn state a (SetMark w) = refl
changed_in_turn state Nothing Mark = refl
changed_in_turn state (Set w) Mark = refl
changed_in_turn state Mark Mark = refl
changed_in_turn state (SetMark w) Mark = refl
