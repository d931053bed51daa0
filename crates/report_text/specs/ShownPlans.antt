-- A directive that is shown, with its members in the order of their names. It is the value that `load` reads
-- (`json_of_directive`), as `ShownDirectives` shows.
use Rattle.std.specs.Prelude.{codes, option_map}
use Rattle.serde_json.specs.Data.{Data, member, no_members, object, string}
use Rattle.aerie_base.specs.declared.models.Activity.{Activity}
use Rattle.aerie_base.specs.declared.models.model.Parts.{Parts}
use Rattle.aerie_base.specs.declared.plans.Directive.{Directive}
use Rattle.json_line.specs.Parts.{member_if}
use Rattle.plan_edit.specs.ShownPlan.{json_of_anchor}
use Rattle.json_line.specs.Numbers.{natural_data}
use Rattle.report_text.specs.SpanLines.{arguments_data}

abbrev pub directive_data : Parts → Activity → Directive → Data
directive_data model activity directive =
    object (member_if (codes "anchor") (option_map json_of_anchor directive.anchor)
    (member (codes "arguments") (arguments_data model directive.kind directive.arguments)
    (member (codes "id") (natural_data directive.id)
    (member (codes "start") (natural_data directive.start)
    (member (codes "type") (string activity.name) no_members)))))
