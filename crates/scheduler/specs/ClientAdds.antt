-- What a schedule does to a plan a client could have done too, by one `add` after another.
use Rattle.std.specs.Prelude.{◌≡◌, ℕ, IsTrue, List, [], ◌∷◌, None, Result, Ok}
use Rattle.aerie_base.specs.declared.arguments.RawArgument.{RawArgument}
use Rattle.aerie_base.specs.declared.models.model.Parts.{Parts}
use Rattle.aerie_base.specs.declared.plans.Plan.{Plan}
use Rattle.aerie_base.specs.models.ValidModel.{valid_model}
use Rattle.plan_edit.specs.declared.errors.EditError.{EditError}
use Rattle.plan_edit.specs.Editing.{add_of}
use Rattle.goals.specs.declared.types.Template.{Template}
use Rattle.goals.specs.OfModel.{is_template}
use Rattle.scheduler.specs.Trials.{with_template}

-- an `add` without an anchor, as a client writes it: at which time, of which type, with which arguments
pub record ClientAdd : Type 0 where
  pub time : ℕ
  pub name : List ℕ
  pub arguments : List RawArgument

-- the plan after it, or why it is refused
abbrev pub after_add : Parts → Plan → ClientAdd → Result Plan EditError
after_add model plan add = add_of model plan (record { start = add.time; anchor = None }) add.name add.arguments

-- the new plan is the old one after these, one after another, of which none is refused
abbrev pub IsAfterAdds : Parts → List ClientAdd → Plan → Plan → Type 0
IsAfterAdds model [] old new = new ≡ old
IsAfterAdds model (add ∷ rest) old new = (next : Plan) × (after_add model old add ≡ Ok next) × IsAfterAdds model rest next new

-- some of these make the new plan of the old one
abbrev pub IsMadeByAdds : Parts → Plan → Plan → Type 0
IsMadeByAdds model old new = (adds : List ClientAdd) × IsAfterAdds model adds old new

-- Each template of a valid model has a name and arguments with which an `add` answers what a trial of it does, whatever the plan
-- and the time are.
abbrev pub TrialIsClientAdd : Type 0
TrialIsClientAdd =
    (model : Parts) (template : Template) → IsTrue (valid_model model) → IsTrue (is_template model template) →
    (name : List ℕ) × (arguments : List RawArgument) × ((plan : Plan) (time : ℕ) →
    after_add model plan (record { time = time; name = name; arguments = arguments }) ≡ with_template plan template time)
