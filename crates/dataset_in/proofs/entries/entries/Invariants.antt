-- The segments of all rows are those so far and, behind them, those of the rows that are left.
use Rattle.std.proofs.Common.{◌≡◌, map, drop, None}
use Rattle.serde_json.specs.View.{view}
use Rattle.dataset_in.specs.Datasets.{entries_behind}
use Rattle.dataset_in.proofs.Joining.{joined}
use Rattle.dataset_in.proofs.entries.entries.Given as goal

abbrev pub invariant-loop-number : goal.invariant-loop-number
invariant-loop-number g l =
    entries_behind g.E.Entry.entry g.E.Begins.from None 0 (map view l.rows)
    ≡ joined l.entries (entries_behind g.E.Entry.entry g.E.Begins.from l.last l.number (map view (drop l.number l.rows)))
