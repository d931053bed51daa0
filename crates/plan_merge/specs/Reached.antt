-- What is reached by following anchors from each of some directives.
use Rattle.std.specs.Prelude.{◌≡◌, ◌≤◌, ℕ, suc, List, [], ◌∷◌, Option, Some, None, length, nat_eq, map, if◌then◌else◌}
use Rattle.aerie_base.specs.declared.plans.Directive.{Directive}
use Rattle.aerie_base.specs.plans.OfModel.{followed}

-- the id that is reached from each directive by so many anchors
abbrev pub reached_after : List Directive → ℕ → List (Option ℕ)
reached_after directives steps = map (λ (directive : Directive). followed directives steps directive.id) directives

-- the id that is reached from the directive with an id, by those that are reached from each
abbrev pub reached_from_id : List Directive → List (Option ℕ) → ℕ → Option ℕ
reached_from_id [] reached id = None
reached_from_id (directive ∷ rest) [] id = None
reached_from_id (directive ∷ rest) (reached ∷ others) id = if nat_eq directive.id id then reached else reached_from_id rest others id

-- the same from an id, where there is one
abbrev pub reached_from : List Directive → List (Option ℕ) → Option ℕ → Option ℕ
reached_from directives reached None = None
reached_from directives reached (Some id) = reached_from_id directives reached id

-- these ids are reached from each directive by at least one anchor more than there are directives
abbrev pub AreReachedAfterEnough : List Directive → List (Option ℕ) → Type 0
AreReachedAfterEnough directives reached =
    (steps : ℕ) × ((length directives ≤ steps) × (reached ≡ reached_after directives (suc steps)))
