-- All rows before this one are lists of so many parts.
use Rattle.std.proofs.Common.{◌≡◌, map, drop}
use Rattle.std.specs.List.{list_all}
use Rattle.serde_json.specs.View.{view}
use Rattle.dataset_in.specs.Datasets.{is_row}
use Rattle.dataset_in.proofs.forms.are_lists_of.Given as goal

abbrev pub invariant-loop-row : goal.invariant-loop-row
invariant-loop-row l =
    list_all (is_row l.count) (map view l.rows) ≡ list_all (is_row l.count) (map view (drop l.row-index l.rows))
