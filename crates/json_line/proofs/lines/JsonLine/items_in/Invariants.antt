-- What is written, with the items that are left, makes the whole.
use Rattle.std.proofs.Common.{◌≡◌, ◌++◌, drop, map}
use Rattle.json_line.specs.Parts.{listed_tokens}
use Rattle.json_line.proofs.lines.JsonLine.items_in.Given as goal

abbrev pub invariant-loop-item : goal.invariant-loop-item
invariant-loop-item g l =
    l.self ++ listed_tokens (map (g.T.JsonIn.data_in l.context) (drop l.item-index l.items)) ≡ l.fn.self ++ listed_tokens (map (g.T.JsonIn.data_in l.context) l.items)
