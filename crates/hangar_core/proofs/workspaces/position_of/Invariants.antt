-- Those before have other names.
use Rattle.std.proofs.Common.{◌≡◌, drop}
use Rattle.std.specs.List.{find}
use Rattle.hangar_core.specs.Workspaces.{has_name}
use Rattle.hangar_core.proofs.workspaces.position_of.Given as goal

abbrev pub invariant-loop-at : goal.invariant-loop-at
invariant-loop-at l = find (has_name l.name) l.branches ≡ find (has_name l.name) (drop l.at l.branches)
