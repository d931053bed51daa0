-- Until when the plans of two runs are known to go alike, and what their runs have in common until then.
use Rattle.std.specs.Prelude.{◌≡◌, ℕ, ◌≤◌, true, List, IfSome, length, take, drop, Option, None}
use Rattle.aerie_base.specs.declared.models.model.Parts.{Parts}
use Rattle.aerie_base.specs.declared.plans.Directive.{Directive}
use Rattle.aerie_base.specs.declared.plans.Plan.{Plan}
use Rattle.run_data.specs.declared.runs.Run.{Run}
use Rattle.run_data.specs.Fresh.{SimulationState, IsReached}
use Rattle.run_data.specs.Transitions.{Next}
use Rattle.run_data.specs.laws.LateDifferences.{common_directives, instants_of}
use Rattle.run_data.specs.laws.Orders.{EachOf}
use Rattle.parting.specs.IdRanges.{is_id_between}
use Rattle.resimulate.specs.EarlyEnds.{MayBeEnded}
use Rattle.resimulate.specs.declared.partings.Parting.{Parting}

-- ---- directives by their ids

-- those whose ids are not in the range
abbrev pub others_of : ℕ → ℕ → List Directive → List Directive
others_of first past directives = common_directives (is_id_between first past) directives

-- a directive has no anchor, and does not start before a time if its id is in the range
pub record IsFreeAndLate (first past until : ℕ) (directive : Directive) : Type 0 where
  pub free : directive.anchor ≡ None
  pub late : is_id_between first past directive.id ≡ true → until ≤ directive.start

-- two plans without anchors are the same but for directives whose ids are in the range, and none of these is due before a time
pub record PartFrom (first past until : ℕ) (plan old_plan : Plan) : Type 0 where
  pub same : others_of first past plan.directives ≡ others_of first past old_plan.directives
  pub late : EachOf (IsFreeAndLate first past until) plan.directives
  pub old_late : EachOf (IsFreeAndLate first past until) old_plan.directives

-- so it is at a parting, if there is one
abbrev pub PartsBy : Plan → Plan → Option Parting → Type 0
PartsBy plan old_plan found = IfSome found (λ parting. PartFrom parting.first parting.past parting.until plan old_plan)

-- from one index to another of a plan all directives are of the range
abbrev pub SkipsTo : ℕ → ℕ → List Directive → ℕ → ℕ → Type 0
SkipsTo first past others from to = others_of first past (drop from others) ≡ others_of first past (drop to others)

-- outside of the range, where there is one, the directives are the same
abbrev pub AreSameOutside : Plan → Plan → Option Parting → Type 0
AreSameOutside plan old_plan found =
    IfSome found (λ parting. others_of parting.first parting.past plan.directives ≡ others_of parting.first parting.past old_plan.directives)

-- ---- instants

-- so many of the first instants of an old run are those of the new simulation as well, as far as that came
abbrev pub SharesFirst : Parts → Plan → ℕ → Run → ℕ → Type 0
SharesFirst model plan bound old count =
    (point : Next SimulationState Run) → IsReached model plan bound point → (number : ℕ) → number ≤ count → number ≤ length (instants_of point) →
    take number (instants_of point) ≡ take number old.instants

-- a simulation may end with the rest of the old run, of which it has so many first instants
pub record MayEndFrom (model : Parts) (plan : Plan) (bound : ℕ) (old : Run) (count : ℕ) : Type 0 where
  pub may : MayBeEnded plan old
  pub shares : SharesFirst model plan bound old count
