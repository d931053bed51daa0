use Rattle.std.proofs.Common.{◌≡◌, drop}
use Rattle.std.specs.List.{list_any}
use Rattle.aerie_base.specs.models.Names.{same_name}
use Rattle.scheduler.proofs.trials.is_kept.Given as goal

-- it is none of the names so far
abbrev pub invariant-loop-name : goal.invariant-loop-name
invariant-loop-name l =
    list_any (same_name l.constraint.name) (drop l.name-index l.name-items) ≡ list_any (same_name l.constraint.name) l.name-items
