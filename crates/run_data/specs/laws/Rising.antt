-- The times of a run: its instants rise from the start of the plan, and lie before its end.
use Rattle.std.specs.Prelude.{◌≡◌, ℕ, ◌<◌, ◌≤◌, List, [], ◌∷◌}
use Rattle.aerie_base.specs.declared.models.model.Parts.{Parts}
use Rattle.aerie_base.specs.declared.plans.Plan.{Plan}
use Rattle.run_data.specs.declared.runs.Instant.{Instant}
use Rattle.run_data.specs.declared.runs.Run.{Run}
use Rattle.run_data.specs.Fresh.{IsFresh}

-- each instant after the one before it, and the first after this time
abbrev pub RiseAbove : ℕ → List Instant → Type 0
RiseAbove time [] = Unit {0}
RiseAbove time (instant ∷ rest) = (time < instant.time) × RiseAbove instant.time rest

-- the first instant, where there is one, at the start of the plan, and each further one after the one before it
abbrev pub RiseFromStart : List Instant → Type 0
RiseFromStart [] = Unit {0}
RiseFromStart (first ∷ rest) = (first.time ≡ 0) × RiseAbove first.time rest

-- each instant before this time
abbrev pub AreBefore : ℕ → List Instant → Type 0
AreBefore end [] = Unit {0}
AreBefore end (instant ∷ rest) = (instant.time < end) × AreBefore end rest

-- the instants of a fresh run rise from the start of the plan
abbrev pub InstantsRise : Type 0
InstantsRise = (model : Parts) (plan : Plan) (bound : ℕ) (run : Run) → IsFresh model plan bound run → RiseFromStart run.instants

-- they lie before the end of the plan, which lasts some time, and the run reaches no further than that end
abbrev pub InstantsAreBeforeEnd : Type 0
InstantsAreBeforeEnd =
    (model : Parts) (plan : Plan) (bound : ℕ) (run : Run) → 0 < plan.duration → IsFresh model plan bound run →
    AreBefore plan.duration run.instants × (run.reach ≤ plan.duration)
