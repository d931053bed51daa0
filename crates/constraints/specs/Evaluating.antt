-- Windows by the fold, which does not compute: the form for a proof of a recursion.
use Rattle.std.specs.Prelude.{ℕ, Bool, Option}
use Rattle.aerie_base.specs.declared.models.model.Parts.{Parts}
use Rattle.run_data.specs.declared.runs.Run.{Run}
use Rattle.windows.specs.Times.{Interval}
use Rattle.constraints.specs.declared.types.Window.{Window, fold-Window}
use Rattle.constraints.specs.Holding.{window_holds_step}
use Rattle.constraints.specs.Local.{marks_step}
use Rattle.constraints.specs.OfModel.{window_step}

abbrev pub holds_by_fold : Parts → Run → Window → Option Interval → ℕ → Bool
holds_by_fold model run window bound = fold-Window (ℕ → Bool) (window_holds_step model run bound) window

abbrev pub is_window_by_fold : Parts → Window → Bool
is_window_by_fold model window = fold-Window Bool (window_step model) window

abbrev pub marks_by_fold : Window → Bool × Bool
marks_by_fold window = fold-Window (Bool × Bool) marks_step window
