-- What a merge gives where only the source changed anything.
use Rattle.std.specs.Prelude.{◌≡◌, ◌↔◌, ℕ, List, Some, Result, Ok, Err, map, slice_get}
use Rattle.aerie_base.specs.declared.plans.Directive.{Directive}
use Rattle.aerie_base.specs.declared.plans.Plan.{Plan}
use Rattle.plan_merge.specs.declared.answers.Merged.{Merged}
use Rattle.plan_merge.specs.declared.answers.MergeError.{MergeError}
use Rattle.plan_merge.specs.declared.answers.MergeError.TheVariants.{Conflicts, TooMany, OutOfMemory}
use Rattle.plan_merge.specs.Renaming.{renamed}

-- the directive is one of these
abbrev pub IsAmong : List Directive → Directive → Type 0
IsAmong directives directive = (at : ℕ) × (slice_get directives at ≡ Some directive)

-- a merged plan with exactly the source's directives, those that are new being renamed, or that it would be too large
abbrev pub GivesTheSource : Plan → Plan → Plan → Result Merged MergeError → Type 0
GivesTheSource base source target (Ok merged) =
    (directive : Directive) → IsAmong merged.plan.directives directive ↔ IsAmong (map (renamed base source target) source.directives) directive
GivesTheSource base source target (Err TooMany) = Unit {0}
GivesTheSource base source target (Err (Conflicts conflicts)) = ⊥
GivesTheSource base source target (Err OutOfMemory) = ⊥
