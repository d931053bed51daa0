-- A text is loaded as the value that it is.
use Rattle.std.proofs.Common.{◌∙◌, ap}
use Rattle.std.specs.Prelude.{Option, option_and_then}
use Rattle.serde_json.specs.Data.{Data}
use Rattle.plan_edit.specs.Loading.{loaded_form}
use Rattle.plan_edit.specs.PlanForm.{plan_of_json}
use Rattle.report_text.proofs.ShownLoads.{shown_loads}
use Rattle.report_text.proofs.laws.shown_plans_are_loaded.Goals as goal

pub returns : goal.returns
returns c = λ model valid shown target can text is.
    ap (λ (o : Option Data). loaded_form model target (option_and_then plan_of_json o)) is ∙ shown_loads model valid shown target can
