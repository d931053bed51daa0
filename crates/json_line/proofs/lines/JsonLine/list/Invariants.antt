-- What is written, with the items that are left, makes the whole array.
use Rattle.std.proofs.Common.{◌≡◌, ◌++◌, drop, map}
use Rattle.serde_json.specs.Data.{array}
use Rattle.serde_json.specs.View.{items_of}
use Rattle.json_line.specs.Parts.{data_tokens, with_items}
use Rattle.json_line.proofs.lines.JsonLine.list.Given as goal

abbrev pub invariant-loop-item : goal.invariant-loop-item
invariant-loop-item g l =
    with_items l.self (items_of (map g.T.JsonData.as_data (drop l.item-index l.items))) ≡ l.fn.self ++ data_tokens (array (items_of (map g.T.JsonData.as_data l.items)))
