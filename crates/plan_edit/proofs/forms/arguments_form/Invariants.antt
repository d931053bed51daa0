-- Those so far, and those of the members that are left.
use Rattle.std.proofs.Common.{◌≡◌}
use Rattle.serde_json.specs.View.{members_view}
use Rattle.plan_edit.specs.PlanForm.{arguments_of_members as members_by}
use Rattle.plan_edit.proofs.WrittenForms.{joined_forms}
use Rattle.plan_edit.proofs.forms.arguments_form.Given as goal

abbrev pub invariant-loop-name : goal.invariant-loop-name
invariant-loop-name l = members_by (members_view l.fn.members.entries) ≡ joined_forms l.arguments (members_by (members_view l.name-iterator))
