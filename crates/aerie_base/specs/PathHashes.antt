-- What is hashed of a path: its directive or daemon as one number, and then the number of each child.
use Rattle.std.specs.Prelude.{ℕ, ◌+◌, ◌*◌, ◌++◌, List, flat_map, if◌then◌else◌}
use Rattle.std.specs.Hash.{HashWrites}
use Rattle.std.specs.Hash as fed
use Rattle.aerie_base.specs.Paths.{comes_from_daemon, id_of, children_of}

-- the directive or daemon that a task comes from, as one number
abbrev pub root_number : List ℕ → ℕ
root_number path = id_of path * 2 + (if comes_from_daemon path then 1 else 0)

abbrev pub hashed : List ℕ → HashWrites
hashed path = fed.u64 (root_number path) ++ flat_map fed.u32 (children_of path)
