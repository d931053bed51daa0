-- Those so far, and those behind.
use Rattle.std.proofs.Common.{◌≡◌, map, drop}
use Rattle.serde_json.specs.View.{view}
use Rattle.plan_edit.specs.PlanForm.{directives_of_json as directives_by}
use Rattle.plan_edit.proofs.WrittenForms.{joined_forms}
use Rattle.plan_edit.proofs.forms.directives_form.Given as goal

abbrev pub invariant-loop-value : goal.invariant-loop-value
invariant-loop-value l = directives_by (map view l.fn.values) ≡ joined_forms l.all (directives_by (map view (drop l.value-index l.values)))
