-- A file of lemmas: what it proves need not be read to trust a clause.
--
-- The paths that a path is under, one after another.
use Rattle.std.proofs.Common.{◌≡◌, ℕ, ◌+◌, ◌<◌, ◌≤◌, Bool, true, false, cond, List, [], ◌∷◌, ◌++◌, length, take, get_or, Option, Some, None, IsTrue, refl, sym, ap, ◌∙◌, arith, add-one}
use Rattle.std.proofs.Math.Seq.{take-suc}
use Rattle.std.proofs.lemmas.Grind.{common_steps}
use Rattle.std.proofs.lemmas.Bool.{false≢true}
use Rattle.std.proofs.lemmas.List.{take_all, length-take-le}
use Rattle.aerie_base.specs.Paths.{path_of, comes_from_daemon, id_of, children_of, is_path, child_path, child_of, may_have_children}

-- a path so far along the numbers of its children
abbrev pub so_far : List ℕ → ℕ → List ℕ
so_far path i = path_of (comes_from_daemon path) (id_of path) (take i (children_of path))

goes_on : (daemon : Bool) (id number : ℕ) (children : List ℕ) → path_of daemon id (children ++ number ∷ []) ≡ child_path (path_of daemon id children) number
goes_on true id number children = refl
goes_on false id number children = refl

children_are : (daemon : Bool) (id : ℕ) (children : List ℕ) → children_of (path_of daemon id children) ≡ children
children_are true id children = refl
children_are false id children = refl

pub below_is : (path : List ℕ) (i : ℕ) → i < length (children_of path) → so_far path (i + 1) ≡ child_path (so_far path i) (get_or (children_of path) i 0)
below_is path i within =
    ap (path_of (comes_from_daemon path) (id_of path)) (rw add-one (take-suc (children_of path) i 0 within))
    ∙ goes_on (comes_from_daemon path) (id_of path) (get_or (children_of path) i 0) (take i (children_of path))

few : (path : List ℕ) → IsTrue (is_path path) → length (children_of path) ≤ 64
few [] is = absurd (false≢true is)
few (kind ∷ []) is = absurd (false≢true is)
few (kind ∷ id ∷ children) is = grind (arith, common_steps, is)

pub may_go_on : (path : List ℕ) (i : ℕ) → IsTrue (is_path path) → i < length (children_of path) → may_have_children (so_far path i) ≡ true
may_go_on path i is within =
    let most = few path is in
    let short : length (take i (children_of path)) ≤ i = omega (arith, length-take-le i (children_of path) (omega arith)) in
    let at : length (children_of (so_far path i)) ≤ i = rw (children_are (comes_from_daemon path) (id_of path) (take i (children_of path))) short in
    grind (arith, common_steps)

pub child_there : (path : List ℕ) (i : ℕ) → IsTrue (is_path path) → i < length (children_of path) →
    child_of (so_far path i) (get_or (children_of path) i 0) ≡ Some (so_far path (i + 1))
child_there path i is within =
    ap (λ b. cond b (Some (child_path (so_far path i) (get_or (children_of path) i 0))) None) (may_go_on path i is within)
    ∙ ap Some (sym (below_is path i within))

-- the path of the child is the next on the way down
pub next_is : (path items above : List ℕ) (i : ℕ) (made : Option (List ℕ)) → IsTrue (is_path path) → items ≡ children_of path → i < length items →
    above ≡ so_far path i → made ≡ child_of above (get_or items i 0) → made ≡ Some (so_far path (i + 1))
next_is path items above i made is same within at e =
    e ∙ (λ j. child_of (at j) (get_or (same j) i 0)) ∙ child_there path i is (let l : length items ≡ length (children_of path) = ap length same in omega (arith, within, l))

pub next_child : (path items above : List ℕ) (i : ℕ) → items ≡ children_of path → i < length items → above ≡ so_far path i → so_far path (i + 1) ≡ child_path above (get_or items i 0)
next_child path items above i same within at =
    below_is path i (let l : length items ≡ length (children_of path) = ap length same in omega (arith, within, l)) ∙ (λ j. child_path (sym at j) (get_or (sym same j) i 0))

-- at the end it is the path itself
pub last_is : (path items : List ℕ) (i : ℕ) → items ≡ children_of path → path ≡ path_of (comes_from_daemon path) (id_of path) (children_of path) → length items ≤ i → so_far path i ≡ path
last_is path items i same whole past =
    ap (path_of (comes_from_daemon path) (id_of path)) (take_all i (children_of path) (let l : length items ≡ length (children_of path) = ap length same in omega (arith, past, l))) ∙ sym whole

some_same : {A : Type 0} (one other : A) → Some one ≡ Some other → one ≡ other
some_same one other e = cc

-- the child that was made is that path
pub made_is : (path items above below : List ℕ) (i : ℕ) (made : Option (List ℕ)) → IsTrue (is_path path) → items ≡ children_of path → i < length items →
    above ≡ so_far path i → made ≡ child_of above (get_or items i 0) → made ≡ Some below → below ≡ so_far path (i + 1)
made_is path items above below i made is same within at e f = some_same below (so_far path (i + 1)) (sym f ∙ next_is path items above i made is same within at e)

pub not_none : (made : Option (List ℕ)) (one : List ℕ) → made ≡ Some one → made ≡ None → ⊥
not_none made one e f = let k : Some one ≡ None = sym e ∙ f in cc
