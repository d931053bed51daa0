-- The directives and daemons that tasks come from.
use Rattle.std.specs.Prelude.{◌≡◌, ℕ, Bool, true, false, not, ◌&&◌, List, [], ◌∷◌, nat_eq, refl}
use Rattle.std.specs.List.{filter, list_any}
use Rattle.aerie_base.specs.Paths.{comes_from_daemon, id_of, root, daemon_root, directive_path}
use Rattle.run_data.specs.Spans.{SpanOf, Timed}
use Rattle.span_reuse.specs.declared.roots.TaskRoot.{TaskRoot}

abbrev pub same_flag : Bool → Bool → Bool
same_flag true flag = flag
same_flag false flag = not flag

-- whether what is of a directive or daemon with this id is of this one
abbrev pub is_root : Bool → ℕ → TaskRoot → Bool
is_root daemon id one = same_flag one.daemon daemon && nat_eq one.id id

-- whether a task comes from one of these
abbrev pub comes_from_one : List TaskRoot → List ℕ → Bool
comes_from_one roots path = list_any (is_root (comes_from_daemon path) (id_of path)) roots

abbrev pub is_outside_roots : List TaskRoot → List ℕ → Bool
is_outside_roots roots path = not (comes_from_one roots path)

-- the frames of the tasks whose paths pass a test, and the spans of such tasks
abbrev pub frames_passing : (List ℕ → Bool) → List Timed → List Timed
frames_passing test frames = filter (λ entry. test entry.1.path) frames

abbrev pub spans_of_those : (List ℕ → Bool) → List SpanOf → List SpanOf
spans_of_those test spans = filter (λ span. test span.path) spans

-- a test that no task passes that comes from one of these
abbrev pub Excludes : List TaskRoot → (List ℕ → Bool) → Type 0
Excludes roots test = (path : List ℕ) → comes_from_one roots path ≡ true → test path ≡ false

-- ---- worked cases

abbrev seven : List TaskRoot
seven = record { daemon = false; id = 7 } ∷ []

pub a_child_comes_from_it : comes_from_one seven (directive_path 7 (2 ∷ [])) ≡ true
a_child_comes_from_it = refl

pub a_daemon_with_its_id_does_not : comes_from_one seven (daemon_root 7) ≡ false
a_daemon_with_its_id_does_not = refl

pub another_directive_does_not : is_outside_roots seven (root 8) ≡ true
another_directive_does_not = refl
