-- The edits of a plan: each gives the edited plan, or the refusal with the smallest number of those that apply.
use Rattle.std.specs.Prelude.{◌≡◌, ℕ, suc, zero, ◌+◌, ◌||◌, not, Bool, false, List, [], ◌∷◌, ◌++◌, map, filter, find, length, nat_eq, nat_lt, position, slice_get, slice_set, Option, Some, None, Result, Ok, Err, if◌then◌else◌}
use Rattle.aerie_base.specs.declared.values.Value.{Value}
use Rattle.aerie_base.specs.declared.arguments.RawValue.{RawValue}
use Rattle.aerie_base.specs.declared.arguments.RawArgument.{RawArgument}
use Rattle.aerie_base.specs.declared.models.Activity.{Activity}
use Rattle.aerie_base.specs.declared.models.model.Parts.{Parts}
use Rattle.aerie_base.specs.declared.plans.Anchor.{Anchor}
use Rattle.aerie_base.specs.declared.plans.When.{When}
use Rattle.aerie_base.specs.declared.plans.Directive.{Directive}
use Rattle.aerie_base.specs.declared.plans.Plan.{Plan}
use Rattle.aerie_base.specs.models.Names.{same_name}
use Rattle.aerie_base.specs.plans.OfModel.{directive_limit, with_id, anchored_to, anchor_of, is_id_of, is_dangling}
use Rattle.plan_merge.specs.Merging.{is_at}
use Rattle.plan_edit.specs.declared.errors.EditError.{EditError}
use Rattle.plan_edit.specs.declared.errors.EditError.TheVariants.{NoDirective, UnknownType, BadArgument, Invalid, OutsidePlan, TooMany, NoAnchor, Cycle, Anchored}
use Rattle.plan_edit.specs.declared.arguments.Given.{Given}
use Rattle.plan_edit.specs.Answers.{unless_refused, then_made_of}
use Rattle.plan_edit.specs.Arguments.{arguments_of, parameter_position, value_for}
use Rattle.plan_edit.specs.Requires.{first_unmet}

-- ---- a type and its arguments

-- the position of the activity type with a name
abbrev pub type_position : Parts → List ℕ → Option ℕ
type_position model name = position (λ activity. same_name activity.name name) model.activities

-- values, unless a `require` is not true of them: the first such
abbrev pub unless_unmet : Option ℕ → List Value → Result (List Value) EditError
unless_unmet None values = Ok values
unless_unmet (Some number) values = Err (Invalid number)

-- values of a type's parameters, where they meet its `require`s
abbrev pub if_met : Activity → List Value → Result (List Value) EditError
if_met activity values = unless_unmet (first_unmet 0 values activity.requires_) values

-- a type with the values of its arguments, which meet its `require`s
abbrev pub given_to : Parts → ℕ → List RawArgument → Option Activity → Result Given EditError
given_to model kind arguments None = Err UnknownType
given_to model kind arguments (Some activity) =
    then_made_of (λ values. Ok (record { kind = kind; arguments = values }))
    (then_made_of (if_met activity) (arguments_of model.enums activity.parameters arguments))

abbrev pub given_at_position : Parts → List RawArgument → Option ℕ → Result Given EditError
given_at_position model arguments None = Err UnknownType
given_at_position model arguments (Some kind) = given_to model kind arguments (slice_get model.activities kind)

-- the type with a name and the values of its arguments, or UnknownType, BadArgument or Invalid
abbrev pub given_of : Parts → List ℕ → List RawArgument → Result Given EditError
given_of model name arguments = given_at_position model arguments (type_position model name)

-- ---- where a directive may stand

-- whether a start is none within the plan
abbrev pub is_outside : Plan → ℕ → Bool
is_outside plan start = not (nat_lt start plan.duration)

-- whether the plan can have no directive more: for their number, or for want of a next id
abbrev pub is_full : Plan → Bool
is_full plan = not (nat_lt (length plan.directives) directive_limit) || not (nat_lt plan.next_id 4_294_967_295)

-- ---- add

abbrev pub new_directive : Plan → When → Given → Directive
new_directive plan at given =
    record { id = plan.next_id; start = at.start; anchor = at.anchor; kind = given.kind; arguments = given.arguments }

-- a directive with the next id, behind the others
abbrev pub with_added : Plan → Directive → Plan
with_added plan directive = record plan { next_id = plan.next_id + 1; directives = plan.directives ++ directive ∷ [] }

abbrev pub directive_placed : Plan → When → Given → Result Directive EditError
directive_placed plan at given =
    unless_refused
    ((is_outside plan at.start, OutsidePlan) ∷ (is_full plan, TooMany) ∷ (is_dangling (is_id_of plan.directives) at.anchor, NoAnchor) ∷ [])
    (Ok (new_directive plan at given))

-- the directive that an `add` adds
abbrev pub directive_added : Parts → Plan → When → List ℕ → List RawArgument → Result Directive EditError
directive_added model plan at name arguments = then_made_of (directive_placed plan at) (given_of model name arguments)

-- the plan after an `add`
abbrev pub add_of : Parts → Plan → When → List ℕ → List RawArgument → Result Plan EditError
add_of model plan at name arguments =
    then_made_of (λ directive. Ok (with_added plan directive)) (directive_added model plan at name arguments)

-- ---- edits of one directive

-- what is made of the directive with an id, where there is one
abbrev pub of_directive : {A : Type 0} → (Directive → Result A EditError) → Option Directive → Result A EditError
of_directive make None = Err NoDirective
of_directive make (Some directive) = make directive

-- one directive changed, and every other one as it was
abbrev pub changed_where : ℕ → (Directive → Directive) → Directive → Directive
changed_where id change directive = if nat_eq directive.id id then change directive else directive

abbrev pub with_changed : Plan → ℕ → (Directive → Directive) → Plan
with_changed plan id change = record plan { directives = map (changed_where id change) plan.directives }

-- the directive at a position, where there is one, is changed so, and every other one is as it was
abbrev pub ChangesAt : ℕ → (Directive → Directive) → List Directive → List Directive → Type 0
ChangesAt at change before after =
    (directive : Directive) → slice_get before at ≡ Some directive → after ≡ slice_set before at (change directive)

-- ---- remove

-- whether a directive is anchored to the one with an id
abbrev pub is_anchored_to : ℕ → Directive → Bool
is_anchored_to id directive = is_at id (anchored_to directive)

abbrev pub is_another : ℕ → Directive → Bool
is_another id directive = not (nat_eq directive.id id)

-- every directive but the one with an id
abbrev pub without : Plan → ℕ → Plan
without plan id = record plan { directives = filter (is_another id) plan.directives }

-- unless a directive is anchored to it: the first such has the least id
abbrev pub unless_anchored : {A : Type 0} → Option Directive → Result A EditError → Result A EditError
unless_anchored None made = made
unless_anchored (Some directive) made = Err (Anchored directive.id)

-- the plan after a `remove`
abbrev pub remove_of : Plan → ℕ → Result Plan EditError
remove_of plan id =
    of_directive
    (λ directive. unless_anchored (find (is_anchored_to id) plan.directives) (Ok (without plan id)))
    (with_id plan.directives id)

-- ---- move

-- what a test says of the next id, where there is one
abbrev pub on_next : (ℕ → Bool) → Option ℕ → Bool
on_next test None = false
on_next test (Some next) = test next

-- whether following at most so many anchors from an id reaches another one
abbrev pub reaches_within : List Directive → ℕ → ℕ → ℕ → Bool
reaches_within directives id zero from = nat_eq from id
reaches_within directives id (suc steps) from =
    nat_eq from id || on_next (reaches_within directives id steps) (anchor_of directives from)

-- whether following anchors from an anchor reaches the id: as many as there are directives are enough
abbrev pub leads_to : Plan → ℕ → Option Anchor → Bool
leads_to plan id None = false
leads_to plan id (Some anchor) = reaches_within plan.directives id (length plan.directives) anchor.to

abbrev pub moved_directive : When → Directive → Directive
moved_directive to directive = record directive { start = to.start; anchor = to.anchor }

-- the plan after a `move` of a directive
abbrev pub move_of : Plan → ℕ → When → Result Plan EditError
move_of plan id to =
    of_directive
    (λ directive. unless_refused
    ((is_outside plan to.start, OutsidePlan) ∷ (is_dangling (is_id_of plan.directives) to.anchor, NoAnchor) ∷ (leads_to plan id to.anchor, Cycle) ∷ [])
    (Ok (with_changed plan id (moved_directive to))))
    (with_id plan.directives id)

-- ---- set

abbrev pub with_arguments : List Value → Directive → Directive
with_arguments values directive = record directive { arguments = values }

-- the arguments with another value at a position
abbrev pub argument_set : Activity → List Value → List ℕ → Option ℕ → Option Value → Result (List Value) EditError
argument_set activity arguments name None value = Err (BadArgument name)
argument_set activity arguments name (Some at) None = Err (BadArgument name)
argument_set activity arguments name (Some at) (Some value) = if_met activity (slice_set arguments at value)

abbrev pub arguments_set : Parts → List Value → List ℕ → RawValue → Option Activity → Result (List Value) EditError
arguments_set model arguments name value None = Err UnknownType
arguments_set model arguments name value (Some activity) =
    argument_set activity arguments name (parameter_position activity.parameters name) (value_for model.enums activity.parameters name value)

abbrev pub arguments_set_for : Parts → List Value → List ℕ → RawValue → ℕ → Result (List Value) EditError
arguments_set_for model arguments name value kind =
    arguments_set model arguments name value (slice_get model.activities kind)

-- the plan after a `set` of one argument of a directive
abbrev pub set_of : Parts → Plan → ℕ → List ℕ → RawValue → Result Plan EditError
set_of model plan id name value =
    of_directive
    (λ directive. then_made_of (λ values. Ok (with_changed plan id (with_arguments values)))
    (arguments_set model directive.arguments name value (slice_get model.activities directive.kind)))
    (with_id plan.directives id)
