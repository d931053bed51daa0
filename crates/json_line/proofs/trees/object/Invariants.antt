-- The members so far, with the fields that are left, make the object.
use Rattle.std.proofs.Common.{◌≡◌, map}
use Rattle.serde_json.specs.Data.{object}
use Rattle.serde_json.specs.View.{members_view}
use Rattle.json_line.specs.Json.{field_data, object_of, with_fields}
use Rattle.json_line.proofs.trees.object.Given as goal

abbrev pub invariant-loop-name : goal.invariant-loop-name
invariant-loop-name l =
    object (with_fields (members_view l.members.entries) (map field_data l.name-iterator.rest.items)) ≡ object_of (map field_data l.fn.fields.items)
