-- The ids that the directives new in the source get.
use Rattle.std.specs.Prelude.{◌≡◌, ℕ, suc, Bool, not, List, [], ◌∷◌, Option, Some, None, option_map, is_some, nat_eq, nat_lt, map, filter_map, if◌then◌else◌}
use Rattle.aerie_base.specs.declared.plans.Anchor.{Anchor}
use Rattle.aerie_base.specs.declared.plans.Directive.{Directive}
use Rattle.aerie_base.specs.declared.plans.Plan.{Plan}
use Rattle.aerie_base.specs.plans.OfModel.{with_id, ids_of}

-- whether one of some directives has the id
abbrev pub has : List Directive → ℕ → Bool
has directives id = is_some (with_id directives id)

-- the first new id: the greater of the base's and the target's next id
abbrev pub first_new : Plan → Plan → ℕ
first_new base target = if nat_lt base.next_id target.next_id then target.next_id else base.next_id

-- the id that a directive of the source gets: its own where the base has that id; else new ids count up, in order of id
abbrev pub new_id : List Directive → ℕ → List Directive → ℕ → ℕ
new_id base next [] id = id
new_id base next (directive ∷ rest) id =
    if nat_eq directive.id id then (if has base id then id else next)
    else new_id base (if has base directive.id then next else suc next) rest id

-- these are the ids that the directives of the source get
abbrev pub AreNewIds : List Directive → ℕ → List Directive → List ℕ → Type 0
AreNewIds base first source ids = ids ≡ map (new_id base first source) (ids_of source)

abbrev pub with_new_id : (ℕ → ℕ) → Anchor → Anchor
with_new_id new anchor = record anchor { to = new anchor.to }

-- a directive with other ids, its own and its anchor's
abbrev pub with_new_ids : (ℕ → ℕ) → Directive → Directive
with_new_ids new directive =
    record directive { id = new directive.id; anchor = option_map (with_new_id new) directive.anchor }

-- a directive of the source with the ids that it and its anchor get
abbrev pub renamed : Plan → Plan → Plan → Directive → Directive
renamed base source target = with_new_ids (new_id base.directives (first_new base target) source.directives)

-- whether a directive is new: the base has none with its id
abbrev pub is_new : Plan → Directive → Bool
is_new base directive = not (has base.directives directive.id)

-- the directive of the source, renamed, where it is new
abbrev pub renamed_if_new : Plan → Plan → Plan → Directive → Option Directive
renamed_if_new base source target directive = if is_new base directive then Some (renamed base source target directive) else None

-- the directives new in the source, renamed
abbrev pub added : Plan → Plan → Plan → List Directive
added base source target = filter_map (renamed_if_new base source target) source.directives
