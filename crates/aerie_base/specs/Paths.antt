-- The path of a task: the directive or daemon that it comes from, and the number of each child on the way down to it.
-- A path is the list of its numbers as they are compared: 0 for a directive or 1 for a daemon, then the id, then the
-- numbers of the children, each counted from 0 in the order in which its parent made it.
use Rattle.std.specs.Prelude.{◌≡◌, ℕ, ◌&&◌, List, [], ◌∷◌, ◌++◌, length, nat_eq, nat_le, nat_lt, Bool, true, false, IsTrue, Option, Some, None, if◌then◌else◌, replicate, refl}
use Rattle.std.specs.List.{list_all}
use Rattle.std.specs.Ordering.{nat_cmp}
use Rattle.std.specs.Cmp.Lexicographic.{slice_cmp}
use Rattle.std.specs.declared.cmp.Ordering.{Ordering}
use Rattle.std.specs.declared.cmp.Ordering.TheVariants.{Less, Equal}

-- how many children a path names at most
abbrev pub child_limit : ℕ
child_limit = 64

-- ids and the numbers of children lie below this
abbrev pub path_number_limit : ℕ
path_number_limit = 4_294_967_296

-- ---- what a path is made of

-- the path below a directive along the numbers of these children, and the same below a daemon
abbrev pub directive_path : ℕ → List ℕ → List ℕ
directive_path id children = 0 ∷ id ∷ children

abbrev pub daemon_path : ℕ → List ℕ → List ℕ
daemon_path id children = 1 ∷ id ∷ children

-- the path of a directive itself, and of a daemon itself
abbrev pub root : ℕ → List ℕ
root id = directive_path id []

abbrev pub daemon_root : ℕ → List ℕ
daemon_root id = daemon_path id []

-- whether it comes from a daemon
abbrev pub comes_from_daemon : List ℕ → Bool
comes_from_daemon [] = false
comes_from_daemon (kind ∷ rest) = nat_eq kind 1

-- the id of the directive or daemon
abbrev pub id_of : List ℕ → ℕ
id_of [] = 0
id_of (kind ∷ []) = 0
id_of (kind ∷ id ∷ children) = id

-- the numbers of the children
abbrev pub children_of : List ℕ → List ℕ
children_of [] = []
children_of (kind ∷ []) = []
children_of (kind ∷ id ∷ children) = children

-- the path with these parts
abbrev pub path_of : Bool → ℕ → List ℕ → List ℕ
path_of daemon id children = if daemon then daemon_path id children else directive_path id children

-- whether these are the numbers of a path
abbrev pub is_path : List ℕ → Bool
is_path [] = false
is_path (kind ∷ []) = false
is_path (kind ∷ id ∷ children) =
    nat_le kind 1 && nat_lt id path_number_limit && nat_le (length children) child_limit
    && list_all (λ number. nat_lt number path_number_limit) children

-- ---- children

-- the path of the child with this number
abbrev pub child_path : List ℕ → ℕ → List ℕ
child_path path number = path ++ number ∷ []

-- whether a child of it has a path
abbrev pub may_have_children : List ℕ → Bool
may_have_children path = nat_lt (length (children_of path)) child_limit

-- the path of the child with this number, where it has one
abbrev pub child_of : List ℕ → ℕ → Option (List ℕ)
child_of path number = if may_have_children path then Some (child_path path number) else None

-- whether the second path is the first or begins with it, so that its task is that of the first or was made below it
abbrev pub is_prefix : List ℕ → List ℕ → Bool
is_prefix [] path = true
is_prefix (number ∷ above) [] = false
is_prefix (number ∷ above) (other ∷ path) = nat_eq number other && is_prefix above path

-- one of the paths is under this one
abbrev pub AnyUnder : List ℕ → (List ℕ → Type 0) → Type 0
AnyUnder path Has = (other : List ℕ) × Has other × IsTrue (is_prefix path other)

-- ---- the order

-- which of two paths comes first: directives before daemons, smaller ids first, then the numbers compared from the
-- front, a prefix before what it begins
abbrev pub path_cmp : List ℕ → List ℕ → Ordering
path_cmp = slice_cmp nat_cmp

-- ---- worked cases

pub a_directive : child_of (root 7) 0 ≡ Some (directive_path 7 (0 ∷ []))
a_directive = refl

pub a_grandchild : child_of (directive_path 7 (0 ∷ [])) 2 ≡ Some (directive_path 7 (0 ∷ 2 ∷ []))
a_grandchild = refl

pub a_child_of_a_daemon : child_of (daemon_root 0) 1 ≡ Some (daemon_path 0 (1 ∷ []))
a_child_of_a_daemon = refl

pub at_63_numbers : child_of (directive_path 7 (replicate 63 0)) 5 ≡ Some (directive_path 7 (replicate 63 0 ++ 5 ∷ []))
at_63_numbers = refl

pub at_64_numbers : child_of (directive_path 7 (replicate 64 0)) 5 ≡ None
at_64_numbers = refl

pub as_deep_as_can_be : is_path (daemon_path 3 (replicate 64 1)) ≡ true
as_deep_as_can_be = refl

pub one_deeper : is_path (daemon_path 3 (replicate 65 1)) ≡ false
one_deeper = refl

pub a_directive_before_a_daemon : path_cmp (directive_path 9 (5 ∷ [])) (daemon_root 0) ≡ Less
a_directive_before_a_daemon = refl

pub the_smaller_id_first : path_cmp (directive_path 2 (5 ∷ [])) (root 10) ≡ Less
the_smaller_id_first = refl

pub a_task_before_its_children : path_cmp (root 7) (directive_path 7 (0 ∷ [])) ≡ Less
a_task_before_its_children = refl

pub the_earlier_child_first : path_cmp (directive_path 7 (0 ∷ 9 ∷ [])) (directive_path 7 (1 ∷ [])) ≡ Less
the_earlier_child_first = refl

pub the_same_path : path_cmp (directive_path 7 (0 ∷ 2 ∷ [])) (directive_path 7 (0 ∷ 2 ∷ [])) ≡ Equal
the_same_path = refl

pub under_itself : is_prefix (directive_path 7 (0 ∷ [])) (directive_path 7 (0 ∷ [])) ≡ true
under_itself = refl

pub under_its_directive : is_prefix (root 7) (directive_path 7 (0 ∷ 2 ∷ [])) ≡ true
under_its_directive = refl

pub beside_it : is_prefix (directive_path 7 (0 ∷ [])) (directive_path 7 (1 ∷ [])) ≡ false
beside_it = refl

pub no_daemon_is_under_a_directive : is_prefix (root 0) (daemon_root 0) ≡ false
no_daemon_is_under_a_directive = refl
