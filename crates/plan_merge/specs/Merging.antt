-- The three-way merge.
use Rattle.std.specs.Prelude.{ℕ, zero, suc, ◌+◌, Bool, true, false, ◌||◌, List, [], ◌∷◌, ◌++◌, Option, Some, None, Result, Ok, Err, option_map, nat_eq, nat_lt, length, filter_map, if◌then◌else◌}
use Rattle.aerie_base.specs.declared.plans.Directive.{Directive}
use Rattle.aerie_base.specs.declared.plans.Plan.{Plan}
use Rattle.aerie_base.specs.plans.OfModel.{directive_limit, with_id, ids_of, followed, is_id_of, is_dangling}
use Rattle.plan_merge.specs.declared.answers.Merged.{Merged}
use Rattle.plan_merge.specs.declared.answers.Conflict.{Conflict}
use Rattle.plan_merge.specs.declared.answers.ConflictKind.{ConflictKind}
use Rattle.plan_merge.specs.declared.answers.ConflictKind.TheVariants.{Anchor, Cycle}
use Rattle.plan_merge.specs.declared.answers.MergeError.{MergeError}
use Rattle.plan_merge.specs.declared.answers.MergeError.TheVariants.{Conflicts, TooMany}
use Rattle.plan_merge.specs.Renaming.{first_new, renamed, added}
use Rattle.plan_merge.specs.Table.{row}

-- ---- directives of the base

-- the source's directive with an id, renamed
abbrev pub source_with : Plan → Plan → Plan → ℕ → Option Directive
source_with base source target id = option_map (renamed base source target) (with_id source.directives id)

-- what becomes of a directive of the base
abbrev pub becomes : Plan → Plan → Plan → Directive → Result (Option Directive) ConflictKind
becomes base source target directive =
    row directive (source_with base source target directive.id) (with_id target.directives directive.id)

abbrev pub clash_of : ℕ → Result (Option Directive) ConflictKind → Option Conflict
clash_of id (Ok left) = None
clash_of id (Err kind) = Some (record { id = id; kind = kind })

-- the conflicts Both and Removed, in order of id
abbrev pub clashes : Plan → Plan → Plan → List Conflict
clashes base source target =
    filter_map (λ (directive : Directive). clash_of directive.id (becomes base source target directive)) base.directives

-- ---- the merged directives

abbrev pub what_is_left : Result (Option Directive) ConflictKind → Option Directive
what_is_left (Ok left) = left
what_is_left (Err kind) = None

-- what is left of a directive of the target, by the base's with its id: one that the base has not stays
abbrev pub left_by : Plan → Plan → Plan → Directive → Option Directive → Option Directive
left_by base source target directive None = Some directive
left_by base source target directive (Some of_base) = what_is_left (becomes base source target of_base)

-- what is left of the target's directives. A directive of the base that the target has not is never left.
abbrev pub left_of_target : Plan → Plan → Plan → List Directive
left_of_target base source target =
    filter_map (λ (directive : Directive). left_by base source target directive (with_id base.directives directive.id)) target.directives

-- the merged directives, in order of id: what is left of the target's, and the source's new ones
abbrev pub merged : Plan → Plan → Plan → List Directive
merged base source target = left_of_target base source target ++ added base source target

-- one more than the last id given, where so many were given, or the target's where none was given
abbrev pub next_after : Plan → Plan → ℕ → ℕ
next_after base target zero = target.next_id
next_after base target (suc more) = first_new base target + suc more

-- ---- anchors

abbrev pub conflict_where : ConflictKind → ℕ → Bool → Option Conflict
conflict_where kind id true = Some (record { id = id; kind = kind })
conflict_where kind id false = None

abbrev pub conflict_if : ConflictKind → (Directive → Bool) → Directive → Option Conflict
conflict_if kind test directive = conflict_where kind directive.id (test directive)

-- the conflicts of a kind of the directives that pass a test
abbrev pub conflicts_of : ConflictKind → (Directive → Bool) → List Directive → List Conflict
conflicts_of kind test directives = filter_map (conflict_if kind test) directives

-- whether a directive's anchor is to none of some directives
abbrev pub has_dangling_anchor : List Directive → Directive → Bool
has_dangling_anchor directives directive = is_dangling (is_id_of directives) directive.anchor

abbrev pub is_at : ℕ → Option ℕ → Bool
is_at id None = false
is_at id (Some other) = nat_eq other id

-- whether following at least one and at most so many anchors returns to the id
abbrev pub returns_within : List Directive → ℕ → ℕ → Bool
returns_within directives id zero = false
returns_within directives id (suc steps) = is_at id (followed directives (suc steps) id) || returns_within directives id steps

-- whether following anchors returns to the directive: as many as there are directives are enough
abbrev pub is_on_cycle : List Directive → Directive → Bool
is_on_cycle directives directive = returns_within directives directive.id (length directives)

-- ---- the answer

abbrev pub unless : List Conflict → Result Merged MergeError → Result Merged MergeError
unless [] answer = answer
unless (conflict ∷ rest) answer = Err (Conflicts (conflict ∷ rest))

-- whether a plan cannot have so many directives or such a next id
abbrev pub is_too_many : ℕ → ℕ → Bool
is_too_many count next_id = nat_lt directive_limit count || nat_lt 4_294_967_295 next_id

-- the target with other directives in place of its own, some of them new, unless they are too many
abbrev pub made : Plan → ℕ → List Directive → List Directive → Result Merged MergeError
made target next_id directives new =
    if is_too_many (length directives) next_id then Err TooMany
    else Ok (record { plan = record target { next_id = next_id; directives = directives }; added = ids_of new })

-- the same, unless an anchor dangles or there is a cycle
abbrev pub made_or_conflicts : Plan → ℕ → List Directive → List Directive → Result Merged MergeError
made_or_conflicts target next_id directives new =
    unless (conflicts_of Anchor (has_dangling_anchor directives) directives)
    (unless (conflicts_of Cycle (is_on_cycle directives) directives) (made target next_id directives new))

-- the merge, or the first that applies of its refusals
abbrev pub merge_of : Plan → Plan → Plan → Result Merged MergeError
merge_of base source target =
    unless (clashes base source target)
    (made_or_conflicts target (next_after base target (length (added base source target))) (merged base source target) (added base source target))
