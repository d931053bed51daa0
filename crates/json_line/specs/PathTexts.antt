-- How the path of a task is written: its id, behind `d` where it comes from a daemon, and the number of each child on the way
-- down, with dots between.
use Rattle.std.specs.Prelude.{◌≡◌, ℕ, List, [], ◌∷◌, ◌++◌, codes, decimal, if◌then◌else◌, refl}
use Rattle.std.specs.Fmt.{digits}
use Rattle.serde_json.specs.Data.{Data, string}
use Rattle.aerie_base.specs.Paths.{children_of, comes_from_daemon, daemon_path, directive_path, id_of}

abbrev pub numbers_text : List ℕ → List ℕ
numbers_text [] = []
numbers_text (number ∷ later) = codes "." ++ (decimal number ++ numbers_text later)

abbrev pub path_text : List ℕ → List ℕ
path_text path = (if comes_from_daemon path then codes "d" else []) ++ (decimal (id_of path) ++ numbers_text (children_of path))

abbrev pub path_data : List ℕ → Data
path_data path = string (path_text path)

-- ---- worked cases

pub child_of_a_child : path_text (directive_path 7 (0 ∷ 2 ∷ [])) ≡ codes "7.0.2"
unfolding digits
child_of_a_child = refl

pub child_of_a_daemon : path_text (daemon_path 0 (1 ∷ [])) ≡ codes "d0.1"
unfolding digits
child_of_a_daemon = refl
