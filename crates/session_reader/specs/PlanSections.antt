-- The plan of a plan section: its directives are added one after another.
use Rattle.std.specs.Prelude.{ℕ, ℤ, ◌+◌, List, [], ◌∷◌, Option, Some, None, Result, Ok, Err, slice_get}
use Rattle.aerie_base.specs.declared.models.model.Parts.{Parts}
use Rattle.aerie_base.specs.declared.plans.Plan.{Plan}
use Rattle.plan_edit.specs.declared.errors.EditError.{EditError}
use Rattle.plan_edit.specs.declared.errors.EditError.TheVariants as edit
use Rattle.plan_edit.specs.Editing.{add_of}
use Rattle.commands.specs.SessionModels.{empty_plan}
use Rattle.session_grammar.specs.declared.raw.plans.RawDirective.{RawDirective}
use Rattle.session_grammar.specs.declared.raw.plans.RawPlan.{RawPlan}
use Rattle.session_reader.specs.declared.session_error.SessionError.{SessionError}
use Rattle.session_reader.specs.declared.session_error.SessionError.TheVariants.{Directive, OutOfMemory}
use Rattle.session_reader.specs.Answers.{Answer, then_made_of}
use Rattle.session_reader.specs.Times.{when_meant}

-- the refusal of the directive of this number; want of memory is that of the session
abbrev pub edit_refusal : ℕ → EditError → SessionError
edit_refusal number edit.OutOfMemory = OutOfMemory
edit_refusal number refusal = Directive number refusal

-- the plan of an edit, or that it is refused at the directive of this number
abbrev pub of_edit : ℕ → Result Plan EditError → Answer Plan
of_edit number (Ok plan) = Ok plan
of_edit number (Err refusal) = Err (Directive number refusal)

-- the plan with a directive as it is written, or why that is refused
abbrev pub edited_by : ℤ → Parts → Plan → RawDirective → Result Plan EditError
edited_by start model plan raw = add_of model plan (when_meant start raw.at) raw.given.kind raw.given.arguments

-- the plan with one more directive, which has this number
abbrev pub directive_added : ℤ → Parts → ℕ → Plan → RawDirective → Answer Plan
directive_added start model number plan raw = of_edit number (edited_by start model plan raw)

-- the plan with more directives, the first of which has this number; or the first one that is refused
abbrev pub directives_added : ℤ → Parts → ℕ → Plan → List RawDirective → Answer Plan
directives_added start model number plan [] = Ok plan
directives_added start model number plan (raw ∷ rest) =
    then_made_of (λ added. directives_added start model (number + 1) added rest) (directive_added start model number plan raw)

-- the plan of a plan section: of the first model, and numbers count from 0
abbrev pub plan_over : ℤ → RawPlan → Option Parts → Answer Plan
plan_over start raw None = Ok (empty_plan raw.duration)
plan_over start raw (Some model) = directives_added start model 0 (empty_plan raw.duration) raw.directives

-- the same of some models, with the start of their plans
abbrev pub plan_answer : ℤ → List Parts → RawPlan → Answer Plan
plan_answer start models raw = plan_over start raw (slice_get models 0)
