-- A branch whose plan is edited.
use Rattle.std.proofs.Common.{◌≡◌, ℕ, zero, suc, ◌+◌, ◌<◌, Bool, true, false, ◌&&◌, List, [], ◌∷◌, drop, length, cond, Option, Some, None, Result, Ok, Err, find, refl, sym, ap, ◌∙◌, slice_get, slice_index_or, nat_eq, eq-eqb, eqb-true, true≢false}
use Rattle.std.proofs.lemmas.List.{drop_more}
use Rattle.std.proofs.lemmas.Option.{slice_get_read}
use Rattle.std.specs.Prelude.{IfOk}
use Rattle.aerie_base.specs.declared.memory.OutOfMemory.{OutOfMemory}
use Rattle.aerie_base.specs.declared.models.model.Parts.{Parts}
use Rattle.aerie_base.specs.declared.plans.Plan.{Plan}
use Rattle.aerie_base.specs.plans.OfModel.{IsPlanOf}
use Rattle.plan_edit.specs.declared.errors.EditError.{EditError}
use Rattle.plan_edit.specs.declared.errors.EditError.TheVariants as error
use Rattle.plan_edit.specs.declared.mappings.Mapping.{Mapping}
use Rattle.plan_edit.specs.Answers.{IsRefusal}
use Rattle.commands.specs.Edits.{edit_of}
use Rattle.commands.specs.SessionModels.{IsPlanAmong}
use Rattle.hangar_core.specs.declared.branches.Branch.{Branch}
use Rattle.commands.specs.declared.edits.Edit.{Edit}
use Rattle.hangar_core.specs.declared.replies.Reply.{Reply}
use Rattle.hangar_core.specs.declared.replies.Reply.TheVariants as reply
use Rattle.hangar_core.specs.Changing.{Told, by_model, edited, goes_to, if_edited, is_named, mapping_to}
use Rattle.hangar_core.specs.Edits.{IsToldRefusal, told_of}
use Rattle.hangar_core.specs.ValidWorkspaces.{IsBranchIn}
use Rattle.hangar_core.proofs.Plain.{none_some, some_same}
use Rattle.hangar_core.proofs.KeptFields.{edit_keeps}

-- ---- the model of a plan

get_at : {X : Type 0} (xs : List X) (at : ℕ) (x y : X) → slice_get xs at ≡ Some y → x ≡ slice_index_or xs at x → slice_get xs at ≡ Some x
get_at [] at x y e f = absurd (none_some None y refl e)
get_at (z ∷ zs) zero x y e f = ap Some (sym f)
get_at (z ∷ zs) (suc at) x y e f = get_at zs at x y e f

pub model_at : (models : List Parts) (plan : Plan) (at : ℕ) (model : Parts) → at ≡ plan.model → IsPlanAmong models plan →
    model ≡ slice_index_or models at model → slice_get models plan.model ≡ Some model
model_at models plan at model e among f =
    get_at models plan.model model among.model among.place (f ∙ ap (λ (n : ℕ). slice_index_or models n model) e)

-- ---- edits

pub edited_stays : (models : List Parts) (duration : ℕ) (branch : Branch) (model : Parts) (edit : Edit) (new : Plan) (revision : ℕ) →
    slice_get models branch.plan.model ≡ Some model → edit_of edit model branch.plan ≡ Ok new → IsPlanOf model new →
    IsBranchIn models duration branch →
    IsBranchIn models duration (record { name = branch.name; revision = revision; plan = new; kept = branch.kept })
edited_stays models duration branch model edit new revision at made of h =
    let k = edit_keeps edit model branch.plan new made in
    record {
      plan = record {
        among = record { model = model; place = ap (slice_get models) k.0 ∙ at; of_model = of };
        lasts = k.1 ∙ h.plan.lasts;
      };
      kept = h.kept;
    }

real_refusal : {A : Type 0} (made : Result A EditError) (refusal : EditError) → IsRefusal made refusal → (refusal ≡ error.OutOfMemory → ⊥) → made ≡ Err refusal
real_refusal made error.NoDirective h n = h
real_refusal made error.UnknownType h n = h
real_refusal made (error.BadArgument parameter) h n = h
real_refusal made (error.Invalid number) h n = h
real_refusal made error.OutsidePlan h n = h
real_refusal made error.TooMany h n = h
real_refusal made error.NotAPlan h n = h
real_refusal made error.OutOfMemory h n = absurd (n refl)
real_refusal made error.NoAnchor h n = h
real_refusal made error.Cycle h n = h
real_refusal made (error.Anchored by) h n = h

pub refused_told : (models : List Parts) (branch : Branch) (model : Parts) (edit : Edit) (refusal : EditError) → slice_get models branch.plan.model ≡ Some model →
    IsRefusal (edit_of edit model branch.plan) refusal → (refusal ≡ error.OutOfMemory → ⊥) →
    edited models (edit_of edit) (told_of edit) branch ≡ (reply.Edit refusal, branch)
refused_told models branch model edit refusal at h n =
    ap (λ (o : Option Parts). if_edited branch (told_of edit branch.plan) (by_model o (λ m. edit_of edit m branch.plan))) at
    ∙ ap (if_edited branch (told_of edit branch.plan)) (real_refusal (edit_of edit model branch.plan) refusal h n)

-- ---- the first mapping from a model to another

pub mapping_next : (models : List Parts) (mappings : List Mapping) (from : ℕ) (name : List ℕ) (at : ℕ) (mapping : Mapping) → at < length mappings →
    mapping ≡ slice_index_or mappings at mapping →
    mapping_to models (drop at mappings) from name ≡ cond (goes_to models from name mapping) (Some mapping) (mapping_to models (drop (at + 1) mappings) from name)
mapping_next models mappings from name at mapping l e =
    ap (λ rest. mapping_to models rest from name) (drop_more mappings at mapping l)
    ∙ ap (λ (m : Mapping). cond (goes_to models from name m) (Some m) (mapping_to models (drop (at + 1) mappings) from name)) (sym e)

pub mapping_found : (models : List Parts) (mappings : List Mapping) (from : ℕ) (name : List ℕ) (at : ℕ) (mapping : Mapping) → at < length mappings →
    mapping ≡ slice_index_or mappings at mapping → mapping_to models mappings from name ≡ mapping_to models (drop at mappings) from name →
    mapping.from ≡ from → is_named (slice_get models mapping.to) name ≡ true → slice_get mappings at ≡ mapping_to models mappings from name
mapping_found models mappings from name at mapping l e before f n =
    slice_get_read mappings (length mappings) at mapping refl l e
    ∙ sym (before ∙ mapping_next models mappings from name at mapping l e
    ∙ ap (λ t. cond (t && is_named (slice_get models mapping.to) name) (Some mapping) (mapping_to models (drop (at + 1) mappings) from name)) (eq-eqb mapping.from from f)
    ∙ ap (λ t. cond t (Some mapping) (mapping_to models (drop (at + 1) mappings) from name)) n)

find_passes : {X : Type 0} (p : X → Bool) (xs : List X) (x : X) → find p xs ≡ Some x → p x ≡ true
find_passes p [] x e = absurd (none_some None x refl e)
find_passes {X} p (y ∷ ys) x e = go (p y) refl e (find_passes p ys x)
  where
    go : (r : Bool) → p y ≡ r → cond (p y) (Some y) (find p ys) ≡ Some x → (find p ys ≡ Some x → p x ≡ true) → p x ≡ true
    go true h k more = ap p (sym (some_same (Some y) y x refl (sym (ap (λ s. cond s (Some y) (find p ys)) h) ∙ k))) ∙ h
    go false h k more = more (sym (ap (λ s. cond s (Some y) (find p ys)) h) ∙ k)

first_so : (a b : Bool) → (a && b) ≡ true → a ≡ true
first_so true b h = refl
first_so false b h = absurd (true≢false (sym h))

pub mapping_from : (models : List Parts) (mappings : List Mapping) (from : ℕ) (name : List ℕ) (mapping : Mapping) →
    mapping_to models mappings from name ≡ Some mapping → mapping.from ≡ from
mapping_from models mappings from name mapping e =
    eqb-true mapping.from from (first_so (nat_eq mapping.from from) (is_named (slice_get models mapping.to) name) (find_passes (goes_to models from name) mappings mapping e))

pub refusal_made : (refusal : EditError) (result : Result Reply OutOfMemory) (after : Branch) (models : List Parts) (branch : Branch) (model : Parts) (edit : Edit) →
    IsToldRefusal refusal result → slice_get models branch.plan.model ≡ Some model → IsRefusal (edit_of edit model branch.plan) refusal → after ≡ branch →
    IfOk result (λ (told : Reply). ◌≡◌ {A = Told} (told, after) (edited models (edit_of edit) (told_of edit) branch))
refusal_made refusal (Ok told) after models branch model edit t at h same =
    pair_same told (reply.Edit refusal) after branch t.0 same ∙ sym (refused_told models branch model edit refusal at h t.1)
  where
    pair_same : (a b : Reply) (x y : Branch) → a ≡ b → x ≡ y → ◌≡◌ {A = Told} (a, x) (b, y)
    pair_same a b x y e f = rw (e, f) refl
refusal_made refusal (Err memory) after models branch model edit t at h same = tt

pub mapping_chosen : (models : List Parts) (mappings : List Mapping) (plan shown : Plan) (name : List ℕ) (at : ℕ) (mapping : Mapping) → shown ≡ plan →
    slice_get mappings at ≡ mapping_to models mappings shown.model name → at < length mappings → mapping ≡ slice_index_or mappings at mapping →
    mapping_to models mappings plan.model name ≡ Some mapping
mapping_chosen models mappings plan shown name at mapping e found l is =
    ap (λ (p : Plan). mapping_to models mappings p.model name) (sym e) ∙ sym found ∙ slice_get_read mappings (length mappings) at mapping refl l is

-- ---- the branch with a name

pub found_at : {X : Type 0} (p : X → Bool) (xs : List X) (at : ℕ) (x : X) → at < length xs → x ≡ slice_index_or xs at x →
    find p xs ≡ find p (drop at xs) → p x ≡ true → slice_get xs at ≡ find p xs
found_at p xs at x l e before h =
    slice_get_read xs (length xs) at x refl l e
    ∙ sym (before ∙ ap (find p) (drop_more xs at x l)
    ∙ ap (λ y. cond (p y) (Some y) (find p (drop (at + 1) xs))) (sym e)
    ∙ ap (λ s. cond s (Some x) (find p (drop (at + 1) xs))) h)
