-- No edit of a plan, and no other change of a branch but a plan that is placed, uses an id again.
use Rattle.std.proofs.Common.{◌≡◌, ◌⊎◌, inl, inr, ℕ, ◌+◌, ◌≤◌, Bool, true, false, List, [], ◌∷◌, ◌++◌, filter, map, nat_eq, not, slice_get, Option, Some, None, Result, Ok, Err, refl, ap, arith, subst, if◌then◌else◌}
use Rattle.std.specs.Prelude.{find}
use Rattle.aerie_base.specs.declared.arguments.RawArgument.{RawArgument}
use Rattle.aerie_base.specs.declared.arguments.RawValue.{RawValue}
use Rattle.aerie_base.specs.declared.models.model.Parts.{Parts}
use Rattle.aerie_base.specs.declared.plans.Directive.{Directive}
use Rattle.aerie_base.specs.declared.plans.Plan.{Plan}
use Rattle.aerie_base.specs.declared.plans.When.{When}
use Rattle.aerie_base.specs.declared.values.Value.{Value}
use Rattle.aerie_base.specs.plans.OfModel.{ids_of, with_id, is_dangling, is_id_of}
use Rattle.aerie_base.specs.plans.RisingIds.{ids_pushed}
use Rattle.plan_edit.specs.declared.arguments.Given.{Given}
use Rattle.plan_edit.specs.declared.errors.EditError.{EditError}
use Rattle.plan_edit.specs.declared.errors.EditError.TheVariants.{OutsidePlan, TooMany, NoAnchor, Cycle}
use Rattle.plan_edit.specs.declared.errors.MigrateError.{MigrateError}
use Rattle.plan_edit.specs.declared.errors.MigrateError.TheVariants as migration
use Rattle.plan_edit.specs.declared.forms.WrittenDirective.{WrittenDirective}
use Rattle.plan_edit.specs.declared.mappings.Mapping.{Mapping}
use Rattle.plan_edit.specs.declared.mappings.TypeRule.{TypeRule}
use Rattle.plan_edit.specs.Answers.{then_made_of, unless_refused, put_in_front}
use Rattle.plan_edit.specs.Editing.{add_of, arguments_set_for, changed_where, directive_placed, given_of, is_anchored_to, is_another, is_full, is_outside, leads_to, move_of, moved_directive, new_directive, of_directive, remove_of, set_of, unless_anchored, with_added, with_arguments, with_changed, without}
use Rattle.plan_edit.specs.Loading.{anchored_to_new_id, has_cycle, is_past_room, is_id_of_one, load_all, load_of, load_one, load_placed, load_written, loaded_directive, unless_cycle, with_loaded}
use Rattle.plan_edit.specs.Migrating.{mapped_arguments, all_migrated, by_rule, migrated, parameter_kinds_of, requires_of, retyped_directive, rule_of, unless_misfit, with_migrated}
use Rattle.plan_edit.specs.PlanForm.{if_formed, plan_text}
use Rattle.commands.specs.Edits.{edit_of}
use Rattle.commands.specs.declared.edits.Edit.{Edit}
use Rattle.commands.specs.declared.edits.Edit.TheVariants as edit
use Rattle.run_data.specs.KeptRuns.{KeptRun}
use Rattle.run_data.specs.laws.Orders.{EachOf}
use Rattle.hangar_core.specs.declared.branches.Branch.{Branch}
use Rattle.hangar_core.specs.declared.replies.Reply.{Reply}
use Rattle.hangar_core.specs.Changing.{attached, by_model, edited, fetched, if_edited, if_migrated, mapping_to, migrated_branch, migrated_by, migrated_to}

-- ---- ids

abbrev pub IsAmong : List ℕ → ℕ → Type 0
IsAmong [] id = ⊥
IsAmong (first ∷ rest) id = (first ≡ id) ⊎ IsAmong rest id

pub among_both : (front back : List ℕ) (id : ℕ) → IsAmong (front ++ back) id → IsAmong front id ⊎ IsAmong back id
among_both [] back id is = inr is
among_both (first ∷ front) back id (inl same) = inl (inl same)
among_both (first ∷ front) back id (inr is) = by (among_both front back id is)
  where
    by : IsAmong front id ⊎ IsAmong back id → ((first ≡ id) ⊎ IsAmong front id) ⊎ IsAmong back id
    by (inl one) = inl (inr one)
    by (inr other) = inr other

pub ids_both : (front back : List Directive) → ids_of (front ++ back) ≡ ids_of front ++ ids_of back
ids_both [] back = refl
ids_both (directive ∷ front) back = ap (λ (ids : List ℕ). directive.id ∷ ids) (ids_both front back)

-- all of them are at least so much
pub least_among : (least : ℕ) (directives : List Directive) (id : ℕ) → EachOf (λ (directive : Directive). least ≤ directive.id) directives → IsAmong (ids_of directives) id → least ≤ id
least_among least [] id each is = absurd is
least_among least (directive ∷ rest) id each (inl same) = subst (λ (n : ℕ). least ≤ n) same each.0
least_among least (directive ∷ rest) id each (inr is) = least_among least rest id each.1 is

-- ---- plans

-- the next id has not fallen, and each id is an old one or was not used before
pub record GoesOn (before after : Plan) : Type 0 where
  pub next_id : before.next_id ≤ after.next_id
  pub ids : (id : ℕ) → IsAmong (ids_of after.directives) id → IsAmong (ids_of before.directives) id ⊎ (before.next_id ≤ id)

pub goes_nowhere : (plan : Plan) → GoesOn plan plan
goes_nowhere plan = record { next_id = omega arith; ids = λ id is. inl is }

pub goes_further : (before between after : Plan) → GoesOn before between → GoesOn between after → GoesOn before after
goes_further before between after one other = record {
  next_id = omega (arith, one.next_id, other.next_id);
  ids = λ id is. by id (other.ids id is);
}
  where
    by : (id : ℕ) → IsAmong (ids_of between.directives) id ⊎ (between.next_id ≤ id) → IsAmong (ids_of before.directives) id ⊎ (before.next_id ≤ id)
    by id (inl is) = one.ids id is
    by id (inr new) = let least = one.next_id in inr (omega (arith, new, least))

-- the same ids, and the same next id
pub goes_alike : (before after : Plan) → after.next_id ≡ before.next_id → ids_of after.directives ≡ ids_of before.directives → GoesOn before after
goes_alike before after next same = record {
  next_id = omega (arith, next);
  ids = λ id is. inl (subst (λ (ids : List ℕ). IsAmong ids id) same is);
}

-- what is made of the plan, if anything, does
abbrev pub GoesOnTo : Plan → Result Plan EditError → Type 0
GoesOnTo plan (Ok made) = GoesOn plan made
GoesOnTo plan (Err refusal) = Unit {0}

-- ---- add, remove, move, set

added_goes : (plan : Plan) (directive : Directive) → directive.id ≡ plan.next_id → GoesOn plan (with_added plan directive)
added_goes plan directive own = record {
  next_id = omega arith;
  ids = λ id is. by id (among_both (ids_of plan.directives) (directive.id ∷ []) id (subst (λ (ids : List ℕ). IsAmong ids id) (ids_pushed plan.directives directive) is));
}
  where
    by : (id : ℕ) → IsAmong (ids_of plan.directives) id ⊎ IsAmong (directive.id ∷ []) id → IsAmong (ids_of plan.directives) id ⊎ (plan.next_id ≤ id)
    by id (inl is) = inl is
    by id (inr (inl same)) = inr (omega (arith, own, same))
    by id (inr (inr none)) = absurd none

add_goes : (model : Parts) (plan : Plan) (at : When) (name : List ℕ) (arguments : List RawArgument) → GoesOnTo plan (add_of model plan at name arguments)
add_goes model plan at name arguments = go (given_of model name arguments)
  where
    placed : (given : Given) (outside full loose : Bool) → GoesOnTo plan (then_made_of (λ directive. Ok (with_added plan directive))
        (unless_refused ((outside, OutsidePlan) ∷ (full, TooMany) ∷ (loose, NoAnchor) ∷ []) (Ok (new_directive plan at given))))
    placed given true full loose = tt
    placed given false true loose = tt
    placed given false false true = tt
    placed given false false false = added_goes plan (new_directive plan at given) refl

    go : (given : Result Given EditError) → GoesOnTo plan (then_made_of (λ directive. Ok (with_added plan directive)) (then_made_of (directive_placed plan at) given))
    go (Ok given) = placed given (is_outside plan at.start) (is_full plan) (is_dangling (is_id_of plan.directives) at.anchor)
    go (Err refusal) = tt

among_filtered : (test : Directive → Bool) (directives : List Directive) (id : ℕ) → IsAmong (ids_of (filter test directives)) id → IsAmong (ids_of directives) id
among_filtered test [] id is = is
among_filtered test (directive ∷ rest) id is = by (test directive) is (among_filtered test rest id)
  where
    by : (passes : Bool) → IsAmong (ids_of (if passes then directive ∷ filter test rest else filter test rest)) id →
        (IsAmong (ids_of (filter test rest)) id → IsAmong (ids_of rest) id) → (directive.id ≡ id) ⊎ IsAmong (ids_of rest) id
    by true (inl same) others = inl same
    by true (inr is) others = inr (others is)
    by false is others = inr (others is)

remove_goes : (plan : Plan) (id : ℕ) → GoesOnTo plan (remove_of plan id)
remove_goes plan id = go (with_id plan.directives id)
  where
    free : (found : Option Directive) → GoesOnTo plan (unless_anchored found (Ok (without plan id)))
    free None = record { next_id = omega arith; ids = λ other is. inl (among_filtered (is_another id) plan.directives other is) }
    free (Some directive) = tt

    go : (found : Option Directive) → GoesOnTo plan (of_directive (λ directive. unless_anchored (find (is_anchored_to id) plan.directives) (Ok (without plan id))) found)
    go None = tt
    go (Some directive) = free (find (is_anchored_to id) plan.directives)

same_ids : (id : ℕ) (change : Directive → Directive) → ((directive : Directive) → (change directive).id ≡ directive.id) → (directives : List Directive) →
    ids_of (map (changed_where id change) directives) ≡ ids_of directives
same_ids id change same [] = refl
same_ids id change same (directive ∷ rest) = λ i. by (nat_eq directive.id id) i ∷ same_ids id change same rest i
  where
    by : (here : Bool) → (if here then change directive else directive).id ≡ directive.id
    by true = same directive
    by false = refl

move_goes : (plan : Plan) (id : ℕ) (to : When) → GoesOnTo plan (move_of plan id to)
move_goes plan id to = go (with_id plan.directives id)
  where
    moved : (outside loose cycle : Bool) → GoesOnTo plan (unless_refused ((outside, OutsidePlan) ∷ (loose, NoAnchor) ∷ (cycle, Cycle) ∷ []) (Ok (with_changed plan id (moved_directive to))))
    moved true loose cycle = tt
    moved false true cycle = tt
    moved false false true = tt
    moved false false false = goes_alike plan (with_changed plan id (moved_directive to)) refl (same_ids id (moved_directive to) (λ directive. refl) plan.directives)

    go : (found : Option Directive) → GoesOnTo plan (of_directive (λ directive. unless_refused
        ((is_outside plan to.start, OutsidePlan) ∷ (is_dangling (is_id_of plan.directives) to.anchor, NoAnchor) ∷ (leads_to plan id to.anchor, Cycle) ∷ [])
        (Ok (with_changed plan id (moved_directive to)))) found)
    go None = tt
    go (Some directive) = moved (is_outside plan to.start) (is_dangling (is_id_of plan.directives) to.anchor) (leads_to plan id to.anchor)

set_goes : (model : Parts) (plan : Plan) (id : ℕ) (name : List ℕ) (value : RawValue) → GoesOnTo plan (set_of model plan id name value)
set_goes model plan id name value = go (with_id plan.directives id)
  where
    set : (values : Result (List Value) EditError) → GoesOnTo plan (then_made_of (λ values. Ok (with_changed plan id (with_arguments values))) values)
    set (Ok values) = goes_alike plan (with_changed plan id (with_arguments values)) refl (same_ids id (with_arguments values) (λ directive. refl) plan.directives)
    set (Err refusal) = tt

    go : (found : Option Directive) → GoesOnTo plan (of_directive (λ directive. then_made_of (λ values. Ok (with_changed plan id (with_arguments values)))
        (arguments_set_for model directive.arguments name value directive.kind)) found)
    go None = tt
    go (Some directive) = set (arguments_set_for model directive.arguments name value directive.kind)

-- ---- load

-- each id is at least so much
abbrev OneFrom : ℕ → Result Directive EditError → Type 0
OneFrom least (Ok directive) = least ≤ directive.id
OneFrom least (Err refusal) = Unit {0}

abbrev AllFrom : ℕ → Result (List Directive) EditError → Type 0
AllFrom least (Ok directives) = EachOf (λ (directive : Directive). least ≤ directive.id) directives
AllFrom least (Err refusal) = Unit {0}

one_loaded : (model : Parts) (plan : Plan) (all : List WrittenDirective) (number : ℕ) (written : WrittenDirective) → OneFrom plan.next_id (load_one model plan all number written)
one_loaded model plan all number written = go (given_of model written.kind written.arguments)
  where
    placed : (given : Given) (outside past loose : Bool) → OneFrom plan.next_id
        (unless_refused ((outside, OutsidePlan) ∷ (past, TooMany) ∷ (loose, NoAnchor) ∷ []) (Ok (loaded_directive plan written number given)))
    placed given true past loose = tt
    placed given false true loose = tt
    placed given false false true = tt
    placed given false false false = omega arith

    go : (given : Result Given EditError) → OneFrom plan.next_id (then_made_of (load_placed plan all written number) given)
    go (Ok given) = placed given (is_outside plan written.start) (is_past_room plan number) (is_dangling (is_id_of_one all) written.anchor)
    go (Err refusal) = tt

all_loaded : (model : Parts) (plan : Plan) (all : List WrittenDirective) (number : ℕ) (rest : List WrittenDirective) → AllFrom plan.next_id (load_all model plan all number rest)
all_loaded model plan all number [] = tt
all_loaded model plan all number (written ∷ rest) =
    by (load_one model plan all number written) (load_all model plan all (number + 1) rest) (one_loaded model plan all number written) (all_loaded model plan all (number + 1) rest)
  where
    by : (one : Result Directive EditError) (others : Result (List Directive) EditError) → OneFrom plan.next_id one → AllFrom plan.next_id others → AllFrom plan.next_id (put_in_front one others)
    by (Err refusal) others first later = tt
    by (Ok directive) (Err refusal) first later = tt
    by (Ok directive) (Ok directives) first later = (first, later)

new_ids_from : (least first : ℕ) (all : List WrittenDirective) (directives : List Directive) → EachOf (λ (directive : Directive). least ≤ directive.id) directives →
    EachOf (λ (directive : Directive). least ≤ directive.id) (map (anchored_to_new_id first all) directives)
new_ids_from least first all [] each = tt
new_ids_from least first all (directive ∷ rest) each = (each.0, new_ids_from least first all rest each.1)

load_goes : (model : Parts) (plan : Plan) (text : List ℕ) → GoesOnTo plan (load_of model plan text)
load_goes model plan text = formed (if_formed (plan_text text))
  where
    loaded : (directives : Result (List Directive) EditError) → AllFrom plan.next_id directives → GoesOnTo plan (then_made_of (λ directives. Ok (with_loaded plan directives)) directives)
    loaded (Ok directives) each = record { next_id = omega arith; ids = λ id is. inr (least_among plan.next_id directives id each is) }
    loaded (Err refusal) each = tt

    checked : (cycle : Bool) (directives : List Directive) → EachOf (λ (directive : Directive). plan.next_id ≤ directive.id) directives →
        AllFrom plan.next_id (if cycle then Err Cycle else Ok directives)
    checked true directives each = tt
    checked false directives each = each

    written : (all : List WrittenDirective) (directives : Result (List Directive) EditError) → AllFrom plan.next_id directives →
        AllFrom plan.next_id (then_made_of (λ directives. unless_cycle (map (anchored_to_new_id plan.next_id all) directives)) directives)
    written all (Ok directives) each =
        checked (has_cycle (map (anchored_to_new_id plan.next_id all) directives)) (map (anchored_to_new_id plan.next_id all) directives) (new_ids_from plan.next_id plan.next_id all directives each)
    written all (Err refusal) each = tt

    formed : (form : Result (List WrittenDirective) EditError) → GoesOnTo plan (then_made_of (λ directives. Ok (with_loaded plan directives)) (then_made_of (load_written model plan) form))
    formed (Ok all) = loaded (load_written model plan all) (written all (load_all model plan all 0 all) (all_loaded model plan all 0 all))
    formed (Err refusal) = tt

pub edit_goes : (edit : Edit) (model : Parts) (plan : Plan) → GoesOnTo plan (edit_of edit model plan)
edit_goes (edit.Add at kind arguments) model plan = add_goes model plan at kind arguments
edit_goes (edit.Remove id) model plan = remove_goes plan id
edit_goes (edit.Move id at) model plan = move_goes plan id at
edit_goes (edit.Set id parameter value) model plan = set_goes model plan id parameter value
edit_goes (edit.Load text) model plan = load_goes model plan text

-- ---- what becomes of a branch

-- the name stays, and no id is used again
pub record Rises (before after : Branch) : Type 0 where
  pub name : after.name ≡ before.name
  pub plan : GoesOn before.plan after.plan

pub stays : (branch : Branch) → Rises branch branch
stays branch = record { name = refl; plan = goes_nowhere branch.plan }

if_edited_rises : (branch : Branch) (reply : Plan → ℕ → Reply) (made : Result Plan EditError) → GoesOnTo branch.plan made → Rises branch (if_edited branch reply made).1
if_edited_rises branch reply (Ok plan) goes = record { name = refl; plan = goes }
if_edited_rises branch reply (Err refusal) goes = stays branch

pub edited_rises : (models : List Parts) (edit : Parts → Plan → Result Plan EditError) (reply : Plan → Plan → ℕ → Reply) →
    ((model : Parts) (plan : Plan) → GoesOnTo plan (edit model plan)) → (branch : Branch) → Rises branch (edited models edit reply branch).1
edited_rises models edit reply goes branch =
    if_edited_rises branch (reply branch.plan) (by_model (slice_get models branch.plan.model) (λ model. edit model branch.plan)) (by (slice_get models branch.plan.model))
  where
    by : (model : Option Parts) → GoesOnTo branch.plan (by_model model (λ model. edit model branch.plan))
    by None = tt
    by (Some model) = goes model branch.plan

-- ---- migrations

abbrev OneAlike : ℕ → Result Directive MigrateError → Type 0
OneAlike id (Ok directive) = directive.id ≡ id
OneAlike id (Err refusal) = Unit {0}

abbrev AllAlike : List Directive → Result (List Directive) MigrateError → Type 0
AllAlike before (Ok directives) = ids_of directives ≡ ids_of before
AllAlike before (Err refusal) = Unit {0}

one_migrated : (new : Parts) (mapping : Mapping) (directive : Directive) → OneAlike directive.id (migrated new mapping directive)
one_migrated new mapping directive = go (rule_of mapping.rules directive.kind)
  where
    met : (unmet : Option ℕ) (made : Directive) → made.id ≡ directive.id → OneAlike directive.id (unless_misfit directive.id unmet made)
    met None made same = same
    met (Some number) made same = tt

    go : (rule : Option TypeRule) → OneAlike directive.id (by_rule new directive rule)
    go None = tt
    go (Some rule) =
        let values = mapped_arguments directive.arguments (parameter_kinds_of (slice_get new.activities rule.new)) rule.feeds in
        met (requires_of (slice_get new.activities rule.new) values) (retyped_directive directive rule.new values) refl

all_alike : (new : Parts) (mapping : Mapping) (directives : List Directive) → AllAlike directives (all_migrated new mapping directives)
all_alike new mapping [] = refl
all_alike new mapping (directive ∷ rest) =
    by (migrated new mapping directive) (all_migrated new mapping rest) (one_migrated new mapping directive) (all_alike new mapping rest)
  where
    by : (one : Result Directive MigrateError) (others : Result (List Directive) MigrateError) → OneAlike directive.id one → AllAlike rest others → AllAlike (directive ∷ rest) (put_in_front one others)
    by (Err refusal) others first later = tt
    by (Ok made) (Err refusal) first later = tt
    by (Ok made) (Ok directives) first later = λ i. first i ∷ later i

if_migrated_rises : (branch : Branch) (model : ℕ) (directives : Result (List Directive) MigrateError) → AllAlike branch.plan.directives directives →
    Rises branch (if_migrated branch (with_migrated branch.plan model directives)).1
if_migrated_rises branch model (Ok directives) alike = record { name = refl; plan = goes_alike branch.plan (record branch.plan { model = model; directives = directives }) refl alike }
if_migrated_rises branch model (Err (migration.Unmapped id)) alike = stays branch
if_migrated_rises branch model (Err (migration.Misfit id number)) alike = stays branch
if_migrated_rises branch model (Err migration.OutOfMemory) alike = stays branch

pub migrated_rises : (models : List Parts) (mappings : List Mapping) (name : List ℕ) (branch : Branch) → Rises branch (migrated_branch models mappings name branch).1
migrated_rises models mappings name branch = by (mapping_to models mappings branch.plan.model name)
  where
    to : (mapping : Mapping) (model : Option Parts) → Rises branch (migrated_to branch mapping model).1
    to mapping None = stays branch
    to mapping (Some model) = if_migrated_rises branch mapping.to (all_migrated model mapping branch.plan.directives) (all_alike model mapping branch.plan.directives)

    by : (mapping : Option Mapping) → Rises branch (migrated_by models branch mapping).1
    by None = stays branch
    by (Some mapping) = to mapping (slice_get models mapping.to)

-- ---- reading and keeping

pub fetched_rises : (branch : Branch) → Rises branch (fetched branch).1
fetched_rises branch = stays branch

pub attached_rises : (kept : KeptRun) (branch : Branch) → Rises branch (attached kept branch).1
attached_rises kept branch = record { name = refl; plan = goes_nowhere branch.plan }
