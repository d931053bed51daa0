-- Worked cases of what only adds, and of what does not.
use Rattle.std.specs.Prelude.{ℕ, List, [], ◌∷◌, refl}
use Rattle.std.proofs.Common.{subst}
use Rattle.aerie_base.specs.declared.plans.Directive.{Directive}
use Rattle.aerie_base.specs.declared.plans.Plan.{Plan}
use Rattle.run_data.specs.cases.SmallModels.{directive}
use Rattle.scheduler.specs.OnlyAdds.{OnlyAdds}

-- a plan of 40 microseconds with these directives
abbrev planned : List Directive → ℕ → Plan
planned directives next_id = record { model = 0; duration = 40; next_id = next_id; directives = directives }

-- the planner's own
abbrev own : Directive
own = directive 1 5 0 []

-- two are behind it: for one goal, or one for each of two
pub two_are_added : OnlyAdds (planned (own ∷ []) 2) (planned (own ∷ directive 2 15 0 [] ∷ directive 3 25 0 [] ∷ []) 4) (2 ∷ 3 ∷ [])
two_are_added = record { added = directive 2 15 0 [] ∷ directive 3 25 0 [] ∷ []; directives = refl; ids = refl; counted = refl; next_id = refl }

-- where a goal was rolled back, all is as it was
pub none_is_added : OnlyAdds (planned (own ∷ []) 2) (planned (own ∷ []) 2) []
none_is_added = record { added = []; directives = refl; ids = refl; counted = refl; next_id = refl }

-- ---- what does not

abbrev IsEmpty : List Directive → Type 0
IsEmpty [] = Unit {0}
IsEmpty (first ∷ rest) = ⊥

-- the planner's directive is not taken out, whatever is placed
pub none_is_taken_out : (next_id : ℕ) (placed : List ℕ) → OnlyAdds (planned (own ∷ []) 2) (planned [] next_id) placed → ⊥
none_is_taken_out next_id placed adds = subst IsEmpty adds.directives tt
