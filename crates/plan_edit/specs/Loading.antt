-- A plan whose directives are replaced by those of a text.
use Rattle.std.specs.Prelude.{◌≡◌, ℕ, ◌+◌, ◌||◌, not, Bool, List, [], ◌∷◌, map, length, nat_lt, Option, Some, None, is_some, option_map, unwrap_or, Result, Ok, Err, if◌then◌else◌}
use Rattle.std.specs.List.{list_any}
use Rattle.serde_json.specs.Data.{Data}
use Rattle.aerie_base.specs.declared.models.model.Parts.{Parts}
use Rattle.aerie_base.specs.declared.plans.Anchor.{Anchor}
use Rattle.aerie_base.specs.declared.plans.Directive.{Directive}
use Rattle.aerie_base.specs.declared.plans.Plan.{Plan}
use Rattle.aerie_base.specs.plans.OfModel.{directive_limit, is_dangling}
use Rattle.plan_merge.specs.Merging.{is_at, is_on_cycle}
use Rattle.plan_edit.specs.declared.arguments.Given.{Given}
use Rattle.plan_edit.specs.declared.errors.EditError.{EditError}
use Rattle.plan_edit.specs.declared.errors.EditError.TheVariants.{OutsidePlan, TooMany, NoAnchor, Cycle}
use Rattle.plan_edit.specs.declared.forms.WrittenDirective.{WrittenDirective}
use Rattle.plan_edit.specs.Answers.{unless_refused, then_made_of, put_in_front}
use Rattle.plan_edit.specs.Editing.{given_of, is_outside}
use Rattle.plan_edit.specs.PlanForm.{if_formed, plan_of_json, plan_text}

-- ---- the ids that stand in the text

-- the positions of the directives with an id, counted from a number
abbrev pub positions_of : ℕ → ℕ → List WrittenDirective → List ℕ
positions_of id position [] = []
positions_of id position (written ∷ rest) = if is_at id written.id then position ∷ positions_of id (position + 1) rest else positions_of id (position + 1) rest

-- the one of a list of one
abbrev pub the_only : List ℕ → Option ℕ
the_only [] = None
the_only (one ∷ []) = Some one
the_only (one ∷ another ∷ rest) = None

-- the position of the one directive with an id
abbrev pub position_in_text : List WrittenDirective → ℕ → Option ℕ
position_in_text all id = the_only (positions_of id 0 all)

-- ---- the first step: each directive, its anchor as it is written

-- whether so many directives are before it that it has no room, or no id
abbrev pub is_past_room : Plan → ℕ → Bool
is_past_room plan number = not (nat_lt number directive_limit) || not (nat_lt (plan.next_id + number) 4_294_967_295)

-- whether an id is that of one directive
abbrev pub is_id_of_one : List WrittenDirective → ℕ → Bool
is_id_of_one all id = is_some (position_in_text all id)

abbrev pub loaded_directive : Plan → WrittenDirective → ℕ → Given → Directive
loaded_directive plan written number given =
    record { id = plan.next_id + number; start = written.start; anchor = written.anchor; kind = given.kind; arguments = given.arguments }

abbrev pub load_placed : Plan → List WrittenDirective → WrittenDirective → ℕ → Given → Result Directive EditError
load_placed plan all written number given =
    unless_refused
    ((is_outside plan written.start, OutsidePlan) ∷ (is_past_room plan number, TooMany) ∷ (is_dangling (is_id_of_one all) written.anchor, NoAnchor) ∷ [])
    (Ok (loaded_directive plan written number given))

-- a directive under its new id, or the smallest refusal that applies to it
abbrev pub load_one : Parts → Plan → List WrittenDirective → ℕ → WrittenDirective → Result Directive EditError
load_one model plan all number written = then_made_of (load_placed plan all written number) (given_of model written.kind written.arguments)

-- the directives from a number on, or the refusal of the first to which one applies
abbrev pub load_all : Parts → Plan → List WrittenDirective → ℕ → List WrittenDirective → Result (List Directive) EditError
load_all model plan all number [] = Ok []
load_all model plan all number (written ∷ rest) = put_in_front (load_one model plan all number written) (load_all model plan all (number + 1) rest)

-- ---- the second step: anchors to the new ids, without cycles

-- an anchor to the new id of the directive that it names
abbrev pub anchor_to_new_id : ℕ → List WrittenDirective → Anchor → Anchor
anchor_to_new_id first all anchor = record anchor { to = first + unwrap_or (position_in_text all anchor.to) 0 }

abbrev pub anchored_to_new_id : ℕ → List WrittenDirective → Directive → Directive
anchored_to_new_id first all directive = record directive { anchor = option_map (anchor_to_new_id first all) directive.anchor }

abbrev pub has_cycle : List Directive → Bool
has_cycle directives = list_any (is_on_cycle directives) directives

abbrev pub unless_cycle : List Directive → Result (List Directive) EditError
unless_cycle directives = if has_cycle directives then Err Cycle else Ok directives

-- the directives that are written, under their new ids
abbrev pub load_written : Parts → Plan → List WrittenDirective → Result (List Directive) EditError
load_written model plan all =
    then_made_of (λ directives. unless_cycle (map (anchored_to_new_id plan.next_id all) directives)) (load_all model plan all 0 all)

-- ---- the plan

abbrev pub with_loaded : Plan → List Directive → Plan
with_loaded plan directives = record plan { next_id = plan.next_id + length directives; directives = directives }

-- the directives of a form, under their new ids, or NotAPlan where there is no form, or the first refusal
abbrev pub directives_of_form : Parts → Plan → Option (List WrittenDirective) → Result (List Directive) EditError
directives_of_form model plan form = then_made_of (load_written model plan) (if_formed form)

abbrev pub directives_of_text : Parts → Plan → List ℕ → Result (List Directive) EditError
directives_of_text model plan text = directives_of_form model plan (plan_text text)

abbrev pub loaded_form : Parts → Plan → Option (List WrittenDirective) → Result Plan EditError
loaded_form model plan form = then_made_of (λ directives. Ok (with_loaded plan directives)) (directives_of_form model plan form)

-- the plan after a `load` of a text
abbrev pub load_of : Parts → Plan → List ℕ → Result Plan EditError
load_of model plan text = loaded_form model plan (plan_text text)

-- the plan after a `load` of a text that is this value
abbrev pub load_of_value : Parts → Plan → Data → Result Plan EditError
load_of_value model plan value = loaded_form model plan (plan_of_json value)

-- ---- an index of positions by id

-- what an index says of an id: nothing, its one place, or that it has several
abbrev pub noted_as : List ℕ → Option (Option ℕ)
noted_as [] = None
noted_as (one ∷ []) = Some (Some one)
noted_as (one ∷ another ∷ rest) = Some None

-- with one place more
abbrev pub also_noted : ℕ → Option (Option ℕ) → Option (Option ℕ)
also_noted position None = Some (Some position)
also_noted position (Some noted) = Some None

-- the one place that an index says
abbrev pub position_noted : Option (Option ℕ) → Option ℕ
position_noted None = None
position_noted (Some position) = position

-- an index says of each id the positions of the directives that have it in the text
abbrev pub IsIndexOf : (ℕ → Option (Option ℕ)) → List WrittenDirective → Type 0
IsIndexOf noted all = (id : ℕ) → noted id ≡ noted_as (positions_of id 0 all)

-- what is noted of an id with the position of a directive more, which has this id or none
abbrev pub noted_with : ℕ → ℕ → Option ℕ → Option (Option ℕ) → Option (Option ℕ)
noted_with other position id noted = if is_at other id then also_noted position noted else noted

-- an index with the position of a directive more
abbrev pub NotesOneMore : ℕ → Option ℕ → (ℕ → Option (Option ℕ)) → (ℕ → Option (Option ℕ)) → Type 0
NotesOneMore position id before after = (other : ℕ) → after other ≡ noted_with other position id (before other)
