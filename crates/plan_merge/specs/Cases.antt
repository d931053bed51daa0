-- Worked cases of a merge.
use Rattle.std.specs.Prelude.{◌≡◌, ℕ, pos, List, [], ◌∷◌, Some, None, Ok, Err, refl}
use Rattle.aerie_base.specs.declared.values.Value.TheVariants.{Int}
use Rattle.aerie_base.specs.declared.plans.Edge.TheVariants.{End}
use Rattle.aerie_base.specs.declared.plans.Directive.{Directive}
use Rattle.aerie_base.specs.declared.plans.Plan.{Plan}
use Rattle.plan_merge.specs.declared.answers.MergeError.TheVariants.{Conflicts, TooMany}
use Rattle.plan_merge.specs.declared.answers.ConflictKind.TheVariants as kind
use Rattle.plan_merge.specs.Merging.{merge_of}

abbrev plan : ℕ → List Directive → Plan
plan next_id directives = record { model = 0; duration = 100; next_id = next_id; directives = directives }

-- a bump by some amount, at a time of the plan
abbrev bump : ℕ → ℕ → ℕ → Directive
bump id start by = record { id = id; start = start; anchor = None; kind = 0; arguments = Int (pos by) ∷ [] }

-- the same behind the end of another directive
abbrev behind : ℕ → ℕ → Directive
behind id to = record { id = id; start = 1; anchor = Some (record { to = to; edge = End }); kind = 0; arguments = [] }

abbrev base : Plan
base = plan 2 (bump 1 5 3 ∷ [])

pub moved_and_added : merge_of base (plan 3 (bump 1 50 3 ∷ bump 2 70 1 ∷ [])) (plan 3 (bump 1 5 3 ∷ bump 2 20 2 ∷ [])) ≡
    Ok (record { plan = plan 4 (bump 1 50 3 ∷ bump 2 20 2 ∷ bump 3 70 1 ∷ []); added = 3 ∷ [] })
moved_and_added = refl

pub moved_by_both : merge_of base (plan 2 (bump 1 50 3 ∷ [])) (plan 2 (bump 1 60 3 ∷ [])) ≡ Err (Conflicts (record { id = 1; kind = kind.Both } ∷ []))
moved_by_both = refl

pub moved_by_both_alike : merge_of base (plan 2 (bump 1 50 3 ∷ [])) (plan 2 (bump 1 50 3 ∷ [])) ≡
    Ok (record { plan = plan 2 (bump 1 50 3 ∷ []); added = [] })
moved_by_both_alike = refl

pub removed_and_moved : merge_of base (plan 2 []) (plan 2 (bump 1 60 3 ∷ [])) ≡ Err (Conflicts (record { id = 1; kind = kind.Removed } ∷ []))
removed_and_moved = refl

pub moved_and_removed : merge_of base (plan 2 (bump 1 60 3 ∷ [])) (plan 2 []) ≡ Err (Conflicts (record { id = 1; kind = kind.Removed } ∷ []))
moved_and_removed = refl

pub removed_by_both : merge_of base (plan 2 []) (plan 2 []) ≡ Ok (record { plan = plan 2 []; added = [] })
removed_by_both = refl

-- an anchor follows the directive that gets a new id
pub an_anchor_renamed : merge_of base (plan 4 (bump 1 5 3 ∷ bump 2 7 1 ∷ behind 3 2 ∷ [])) (plan 3 (bump 1 5 3 ∷ bump 2 20 2 ∷ [])) ≡
    Ok (record { plan = plan 5 (bump 1 5 3 ∷ bump 2 20 2 ∷ bump 3 7 1 ∷ behind 4 3 ∷ []); added = 3 ∷ 4 ∷ [] })
an_anchor_renamed = refl

-- the source anchored a new directive to one that the target removed
pub an_anchor_lost : merge_of base (plan 3 (bump 1 5 3 ∷ behind 2 1 ∷ [])) (plan 2 []) ≡ Err (Conflicts (record { id = 2; kind = kind.Anchor } ∷ []))
an_anchor_lost = refl

-- one puts 1 behind 2, the other 2 behind 1
pub a_cycle_made : merge_of (plan 3 (bump 1 5 3 ∷ bump 2 6 3 ∷ [])) (plan 3 (behind 1 2 ∷ bump 2 6 3 ∷ [])) (plan 3 (bump 1 5 3 ∷ behind 2 1 ∷ [])) ≡
    Err (Conflicts (record { id = 1; kind = kind.Cycle } ∷ record { id = 2; kind = kind.Cycle } ∷ []))
a_cycle_made = refl

pub the_last_id_is_given : merge_of base (plan 3 (bump 1 5 3 ∷ bump 2 7 1 ∷ [])) (plan 4_294_967_294 (bump 1 5 3 ∷ [])) ≡
    Ok (record { plan = plan 4_294_967_295 (bump 1 5 3 ∷ bump 4_294_967_294 7 1 ∷ []); added = 4_294_967_294 ∷ [] })
the_last_id_is_given = refl

pub no_id_is_left : merge_of base (plan 3 (bump 1 5 3 ∷ bump 2 7 1 ∷ [])) (plan 4_294_967_295 (bump 1 5 3 ∷ [])) ≡ Err TooMany
no_id_is_left = refl
