-- What is known of the instants of a fresh run.
use Rattle.std.specs.Prelude.{ℕ, ◌<◌, List, [], ◌∷◌}
use Rattle.aerie_base.specs.declared.models.model.Parts.{Parts}
use Rattle.effect_cells.specs.Cells.{AreInRange}
use Rattle.run_data.specs.declared.runs.Instant.{Instant}
use Rattle.run_data.specs.declared.runs.Run.{Run}
use Rattle.run_data.specs.Values.{cells_at}
use Rattle.run_data.specs.laws.Rising.{RiseFromStart}
use Rattle.profiles.specs.States.{RiseFrom}

-- each lists the cells that it changed in the order of their numbers
abbrev pub ChangesRise : List Instant → Type 0
ChangesRise [] = Unit {0}
ChangesRise (instant ∷ rest) = RiseFrom 0 instant.changed × ChangesRise rest

abbrev pub HasSome : List Instant → Type 0
HasSome [] = ⊥
HasSome (instant ∷ rest) = Unit {0}

pub record AreGoodInstants (instants : List Instant) (reach : ℕ) : Type 0 where
  pub changes : ChangesRise instants
  -- there is one where the run came past 0
  pub some : 0 < reach → HasSome instants

-- the cells at each time below the reach are in range
abbrev pub InRangeBelow : Parts → Run → Type 0
InRangeBelow model run = (t : ℕ) → t < run.reach → AreInRange (cells_at model run t)

pub record CanBeFollowed (model : Parts) (run : Run) : Type 0 where
  pub rise : RiseFromStart run.instants
  pub instants : AreGoodInstants run.instants run.reach
  pub in_range : InRangeBelow model run
