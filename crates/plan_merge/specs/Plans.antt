-- What a merge is given: plans, each in order.
use Rattle.std.specs.Prelude.{◌≡◌, ℕ, suc, ◌≤◌, IsTrue, List, Some, length, map}
use Rattle.std.specs.List.{list_all}
use Rattle.aerie_base.specs.declared.plans.Directive.{Directive}
use Rattle.aerie_base.specs.declared.plans.Plan.{Plan}
use Rattle.aerie_base.specs.plans.OfModel.{directive_limit, rise_to, ids_of, anchored_to, followed, is_there, Rise}
use Rattle.plan_merge.specs.Renaming.{renamed}

-- the condition on a plan that is merged
pub record IsInOrder (plan : Plan) : Type 0 where
  pub count : length plan.directives ≤ directive_limit
  -- the ids rise and are below the next id
  pub ids : IsTrue (rise_to plan.next_id 0 (ids_of plan.directives))
  -- anchors name directives of the plan
  pub anchors : IsTrue (list_all (λ (directive : Directive). is_there plan.directives (anchored_to directive)) plan.directives)
  -- following anchors from a directive never returns to it
  pub acyclic : (id steps : ℕ) → followed plan.directives (suc steps) id ≡ Some id → ⊥

-- the condition on the three plans of a merge
pub record AreMergeable (first second third : Plan) : Type 0 where
  pub base : IsInOrder first
  pub source : IsInOrder second
  pub target : IsInOrder third
  pub source_model : second.model ≡ first.model
  pub target_model : third.model ≡ first.model
  pub source_duration : second.duration ≡ first.duration
  pub target_duration : third.duration ≡ first.duration

-- the directives of a plan have rising ids
pub rises : (plan : Plan) → IsInOrder plan → Rise plan.directives
rises plan order = (plan.next_id, order.ids)

-- these are the source's directives, renamed
abbrev pub AreRenamed : Plan → Plan → Plan → List Directive → Type 0
AreRenamed base source target directives = directives ≡ map (renamed base source target) source.directives
