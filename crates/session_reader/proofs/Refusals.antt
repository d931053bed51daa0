-- What calls of other crates refuse, and what of it the session refuses.
use Rattle.std.proofs.Common.{◌≡◌, ℕ, ℤ, ◌+◌, ◌-◌, ◌<◌, List, Result, Ok, Err, length, drop, get_or, sym, ap, subst, ◌∙◌, arith}
use Rattle.aerie_base.specs.declared.models.model.Parts.{Parts}
use Rattle.aerie_base.specs.declared.plans.Directive.{Directive}
use Rattle.aerie_base.specs.declared.plans.Plan.{Plan}
use Rattle.aerie_base.specs.UnlessMemory.{UnlessMemory}
use Rattle.dataset_in.specs.Datasets.{ran_out}
use Rattle.dataset_in.specs.declared.dataset_error.DatasetError.{DatasetError}
use Rattle.dataset_in.specs.declared.dataset_error.DatasetError.TheVariants as fault
use Rattle.dataset_in.specs.declared.series.Series.{Series}
use Rattle.model_check.specs.CheckAnswers.{ToldUnlessOutOfMemory}
use Rattle.model_check.specs.declared.check_error.CheckError.{CheckError}
use Rattle.model_check.specs.declared.check_error.CheckError.TheVariants as check
use Rattle.plan_edit.specs.Answers.{IsRefusal as IsEditRefusal, then_made_of}
use Rattle.plan_edit.specs.Editing.{with_added}
use Rattle.plan_edit.specs.declared.errors.EditError.{EditError}
use Rattle.plan_edit.specs.declared.errors.EditError.TheVariants as edit
use Rattle.session_reader.specs.Answers.{Answer, IsRefusal, then_made_of as then_made}
use Rattle.session_reader.specs.CheckedModels.{check_refusal, of_check}
use Rattle.session_reader.specs.DatasetAnswers.{fault_refusal, of_series}
use Rattle.session_grammar.specs.declared.raw.plans.RawDirective.{RawDirective}
use Rattle.session_reader.specs.PlanSections.{directive_added, directives_added, edit_refusal, of_edit}
use Rattle.session_reader.specs.declared.session_error.SessionError.{SessionError}
use Rattle.session_reader.specs.declared.session_error.SessionError.TheVariants as error
use Rattle.diagnostics.specs.Iterations.{next_left}

-- ---- the check of a model

pub model_refused : (meant : Result Parts CheckError) (refusal : CheckError) → ToldUnlessOutOfMemory meant (Err refusal) → IsRefusal (of_check meant) (check_refusal refusal)
model_refused meant (check.Unknown place) told = ap of_check told
model_refused meant (check.Duplicate place) told = ap of_check told
model_refused meant (check.WrongType place) told = ap of_check told
model_refused meant (check.NotLinear place) told = ap of_check told
model_refused meant (check.OutOfRange place) told = ap of_check told
model_refused meant (check.TooMany what place) told = ap of_check told
model_refused meant check.OutOfMemory told = tt

pub model_made : (meant : Result Parts CheckError) (model : Parts) → ToldUnlessOutOfMemory meant (Ok model) → of_check meant ≡ Ok model
model_made meant model told = ap of_check told

-- ---- an edit

pub edit_refused : (number : ℕ) (made : Result Plan EditError) (refusal : EditError) → IsEditRefusal made refusal → IsRefusal (of_edit number made) (edit_refusal number refusal)
edit_refused number made edit.NoDirective is = ap (of_edit number) is
edit_refused number made edit.UnknownType is = ap (of_edit number) is
edit_refused number made (edit.BadArgument parameter) is = ap (of_edit number) is
edit_refused number made (edit.Invalid requirement) is = ap (of_edit number) is
edit_refused number made edit.OutsidePlan is = ap (of_edit number) is
edit_refused number made edit.TooMany is = ap (of_edit number) is
edit_refused number made edit.NotAPlan is = ap (of_edit number) is
edit_refused number made edit.OutOfMemory is = tt
edit_refused number made edit.NoAnchor is = ap (of_edit number) is
edit_refused number made edit.Cycle is = ap (of_edit number) is
edit_refused number made (edit.Anchored by) is = ap (of_edit number) is

pub edit_made : (number : ℕ) (made : Result Plan EditError) (plan : Plan) → made ≡ Ok plan → of_edit number made ≡ Ok plan
edit_made number made plan is = ap (of_edit number) is

-- a plan with one directive more is of the same model, and its next id is one more
pub added_keeps : (plan new : Plan) (directive : Result Directive EditError) → then_made_of (λ added. Ok (with_added plan added)) directive ≡ Ok new → (new.model ≡ plan.model) × (new.next_id ≡ plan.next_id + 1)
added_keeps plan new (Ok directive) h = (cc, cc)
added_keeps plan new (Err refusal) h = cc

-- ---- directives

-- what refuses the first of several steps refuses all of them
passes_on : {A B : Type 0} (make : A → Answer B) (answer : Answer A) (refusal : SessionError) → IsRefusal answer refusal → IsRefusal (then_made make answer) refusal
passes_on make answer error.TooLarge is = ap (then_made make) is
passes_on make answer (error.NotText at) is = ap (then_made make) is
passes_on make answer (error.Syntax place) is = ap (then_made make) is
passes_on make answer (error.TooMany what place) is = ap (then_made make) is
passes_on make answer (error.Check refusal) is = ap (then_made make) is
passes_on make answer (error.Start place) is = ap (then_made make) is
passes_on make answer (error.Directive number refusal) is = ap (then_made make) is
passes_on make answer (error.Client place) is = ap (then_made make) is
passes_on make answer (error.Dataset number refusal) is = ap (then_made make) is
passes_on make answer error.OutOfMemory is = tt

-- the refusal of the directive at a place, behind those that were added
pub refused_there : (start : ℤ) (model : Parts) (raws : List RawDirective) (i : ℕ) (raw : RawDirective) (plan : Plan) (whole : Answer Plan) (refusal : SessionError) →
    i < length raws → raw ≡ get_or raws i raw → plan.next_id ≡ i + 1 → whole ≡ directives_added start model i plan (drop i raws) →
    IsRefusal (directive_added start model (plan.next_id - 1) plan raw) refusal → IsRefusal whole refusal
refused_there start model raws i raw plan whole refusal lt is next left refused =
    let number : plan.next_id - 1 ≡ i = omega (arith, next) in
    let here = subst (λ (n : ℕ). IsRefusal (directive_added start model n plan raw) refusal) number refused in
    let behind = drop (i + 1) raws in
    let all = passes_on (λ (added : Plan). directives_added start model (i + 1) added behind) (directive_added start model i plan raw) refusal here in
    subst (λ (answer : Answer Plan). IsRefusal answer refusal) (sym (left ∙ ap (directives_added start model i plan) (next_left raws i raw lt is))) all

-- ---- a dataset

pub series_refused : (number : ℕ) (name : List ℕ) (meant : Result Series DatasetError) (refusal : DatasetError) → UnlessMemory ran_out meant (Err refusal) → IsRefusal (of_series number name meant) (fault_refusal number refusal)
series_refused number name meant fault.NotADataset is = ap (of_series number name) is
series_refused number name meant fault.TooMany is = ap (of_series number name) is
series_refused number name meant (fault.BadSegment segment) is = ap (of_series number name) is
series_refused number name meant fault.OutOfMemory is = tt

pub series_made : (number : ℕ) (name : List ℕ) (meant : Result Series DatasetError) (series : Series) → UnlessMemory ran_out meant (Ok series) → of_series number name meant ≡ Ok (name, series)
series_made number name meant series is = ap (of_series number name) is
