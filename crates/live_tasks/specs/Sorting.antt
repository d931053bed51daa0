-- Ready tasks in order of path.
use Rattle.std.specs.Prelude.{Bool, List}
use Rattle.std.specs.Ordering.{is_lt}
use Rattle.std.specs.List.Sorted.{IsSortedBy}
use Rattle.aerie_base.specs.Paths.{path_cmp}
use Rattle.live_tasks.specs.declared.readies.ReadyTask.{ReadyTask}

abbrev pub precedes : ReadyTask → ReadyTask → Bool
precedes one other = is_lt (path_cmp one.path other.path)

abbrev pub RiseByPath : List ReadyTask → Type 0
RiseByPath ready = IsSortedBy precedes ready
