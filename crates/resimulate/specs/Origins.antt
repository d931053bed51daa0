-- Which directive or daemon a task comes from, by number.
use Rattle.std.specs.Prelude.{ℕ, ◌+◌, ◌*◌, Bool, ◌||◌, nat_eq, List, if◌then◌else◌}
use Rattle.std.specs.List.{list_any}
use Rattle.aerie_base.specs.Paths.{comes_from_daemon, id_of}

-- a number for each directive and each daemon
abbrev pub origin_number : List ℕ → ℕ
origin_number path = id_of path * 2 + (if comes_from_daemon path then 1 else 0)

abbrev pub has_root : List ℕ → ℕ → Bool
has_root roots number = list_any (nat_eq number) roots

-- whether a task is asked for, where all are, or those that come from some directives and daemons
abbrev pub is_asked : Bool → List ℕ → List ℕ → Bool
is_asked all roots path = all || has_root roots (origin_number path)
