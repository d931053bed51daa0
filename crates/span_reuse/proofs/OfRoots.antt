-- What is below a task comes from where the task does.
use Rattle.std.proofs.Common.{◌≡◌, ℕ, Bool, true, false, not, ◌&&◌, ◌||◌, List, [], ◌∷◌, ◌++◌, IsTrue, nat_eq, refl, sym, ap, ◌∙◌}
use Rattle.std.specs.List.{list_any}
use Rattle.std.proofs.lemmas.Bool.{false≢true, and_parts, eqb-true, eq-eqb}
use Rattle.aerie_base.specs.Paths.{comes_from_daemon, id_of, is_path, is_prefix}
use Rattle.run_data.specs.Spans.{Timed}
use Rattle.span_reuse.specs.declared.roots.TaskRoot.{TaskRoot}
use Rattle.span_reuse.specs.Roots.{Excludes, comes_from_one, is_outside_roots, is_root, same_flag}
use Rattle.span_reuse.specs.Telling.{AreOfPaths}
use Rattle.span_reuse.proofs.SomeTasks.{AllClosed}

below_is : (roots : List TaskRoot) (path other : List ℕ) → IsTrue (is_path path) → is_prefix path other ≡ true → comes_from_one roots other ≡ comes_from_one roots path
below_is roots [] other is under = absurd (false≢true is)
below_is roots (kind ∷ []) other is under = absurd (false≢true is)
below_is roots (kind ∷ id ∷ children) [] is under = absurd (false≢true under)
below_is roots (kind ∷ id ∷ children) (another ∷ []) is under = absurd (false≢true (and_parts (nat_eq kind another) false under).1)
below_is roots (kind ∷ id ∷ children) (another ∷ number ∷ others) is under =
    let one = and_parts (nat_eq kind another) (nat_eq id number && is_prefix children others) under in
    let two = and_parts (nat_eq id number) (is_prefix children others) one.1 in
    ap (λ (n : ℕ). list_any (is_root (nat_eq n 1) number) roots) (sym (eqb-true kind another one.0))
    ∙ ap (λ (n : ℕ). list_any (is_root (nat_eq kind 1) n) roots) (sym (eqb-true id number two.0))

pub among_closed : (roots : List TaskRoot) (frames : List Timed) → AreOfPaths frames → AllClosed (comes_from_one roots) frames
among_closed roots [] are = tt
among_closed roots (entry ∷ rest) are = (λ other under. below_is roots entry.1.path other are.0 under, among_closed roots rest are.1)

pub outside_closed : (roots : List TaskRoot) (frames : List Timed) → AreOfPaths frames → AllClosed (is_outside_roots roots) frames
outside_closed roots [] are = tt
outside_closed roots (entry ∷ rest) are = (λ other under. ap not (below_is roots entry.1.path other are.0 under), outside_closed roots rest are.1)

-- ---- a root more

same_flags : (flag : Bool) → same_flag flag flag ≡ true
same_flags true = refl
same_flags false = refl

any_before : {A : Type 0} (p : A → Bool) (xs ys : List A) → list_any p xs ≡ true → list_any p (xs ++ ys) ≡ true
any_before p [] ys e = absurd (false≢true e)
any_before p (x ∷ xs) ys e = go (p x) (any_before p xs ys) e
  where
    go : (c : Bool) → (list_any p xs ≡ true → list_any p (xs ++ ys) ≡ true) → (c || list_any p xs) ≡ true → (c || list_any p (xs ++ ys)) ≡ true
    go true after e = refl
    go false after e = after e

any_last : {A : Type 0} (p : A → Bool) (xs : List A) (y : A) → p y ≡ true → list_any p (xs ++ y ∷ []) ≡ true
any_last p [] y e = ap (λ b. b || false) e
any_last p (x ∷ xs) y e = go (p x) (any_last p xs y e)
  where
    go : (c : Bool) → list_any p (xs ++ y ∷ []) ≡ true → (c || list_any p (xs ++ y ∷ [])) ≡ true
    go true after = refl
    go false after = after

abbrev pub root_at : List ℕ → TaskRoot
root_at path = record { daemon = comes_from_daemon path; id = id_of path }

-- no test that excludes one more passes what the others exclude
pub fewer_pass : (roots : List TaskRoot) (one : TaskRoot) (test : List ℕ → Bool) → Excludes (roots ++ one ∷ []) test → Excludes roots test
fewer_pass roots one test all path among = all path (any_before (is_root (comes_from_daemon path) (id_of path)) roots (one ∷ []) among)

-- nor that one
pub root_fails : (roots : List TaskRoot) (path : List ℕ) (test : List ℕ → Bool) → Excludes (roots ++ root_at path ∷ []) test → test path ≡ false
root_fails roots path test all =
    all path (any_last (is_root (comes_from_daemon path) (id_of path)) roots (root_at path)
    (ap (λ b. b && nat_eq (id_of path) (id_of path)) (same_flags (comes_from_daemon path)) ∙ eq-eqb (id_of path) (id_of path) refl))
