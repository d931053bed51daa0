-- The branch with a name at its position.
use Rattle.std.proofs.Common.{◌≡◌, ℕ, zero, suc, ◌<◌, Bool, true, false, not, ◌&&◌, ◌||◌, IsTrue, List, [], ◌∷◌, length, map, Some, None, refl, sym, ap, ◌∙◌, subst, slice_get, true≢false, arith}
use Rattle.std.specs.Prelude.{cond, set, remove}
use Rattle.std.specs.List.{find, filter}
use Rattle.aerie_base.specs.models.Names.{same_name, is_name_among, are_distinct}
use Rattle.hangar_core.specs.declared.branches.Branch.{Branch}
use Rattle.hangar_core.specs.Workspaces.{has_name, put_where_named}
use Rattle.hangar_core.specs.Opening.{has_other_name}
use Rattle.hangar_core.specs.ValidWorkspaces.{branch_names}
use Rattle.hangar_core.proofs.Plain.{none_some, some_same}
use Rattle.hangar_core.proofs.Named.{same_when, name_is, found_passes}

pub both : (a b : Bool) → IsTrue (a && b) → (a ≡ true) × (b ≡ true)
both true b h = (refl, h)
both false b h = absurd (true≢false (sym h))

pub is_not : (a : Bool) → not a ≡ true → a ≡ false
is_not true h = absurd (true≢false (sym h))
is_not false h = refl

-- ---- no branch of a name

either : (a b : Bool) → (a || b) ≡ false → (a ≡ false) × (b ≡ false)
either true b h = absurd (true≢false h)
either false b h = (refl, h)

-- none of other branches has the name of a branch
pub none_has : (name : List ℕ) (xs : List Branch) → is_name_among name (branch_names xs) ≡ false → find (has_name name) xs ≡ None
none_has name [] h = refl
none_has name (y ∷ ys) h =
    let parts = either (same_name name y.name) (is_name_among name (branch_names ys)) h in
    ap (λ s. cond s (Some y) (find (has_name name) ys)) (done (has_name name y) refl parts.0) ∙ none_has name ys parts.1
  where
    done : (r : Bool) → has_name name y ≡ r → same_name name y.name ≡ false → has_name name y ≡ false
    done true e f = absurd (true≢false (sym (same_when name y.name (sym (name_is y.name name e))) ∙ f))
    done false e f = e

pub absent_name : (name : List ℕ) (xs : List Branch) → find (has_name name) xs ≡ None → is_name_among name (branch_names xs) ≡ false
absent_name name [] h = refl
absent_name name (y ∷ ys) h = go (has_name name y) refl h (absent_name name ys)
  where
    go : (r : Bool) → has_name name y ≡ r → cond (has_name name y) (Some y) (find (has_name name) ys) ≡ None →
        (find (has_name name) ys ≡ None → is_name_among name (branch_names ys) ≡ false) → (same_name name y.name || is_name_among name (branch_names ys)) ≡ false
    go true e k more = absurd (none_some (Some y) y (sym (ap (λ s. cond s (Some y) (find (has_name name) ys)) e) ∙ k) refl)
    go false e k more = ap (λ s. s || is_name_among name (branch_names ys)) (done (same_name name y.name) refl e)
        ∙ more (sym (ap (λ s. cond s (Some y) (find (has_name name) ys)) e) ∙ k)
      where
        done : (r : Bool) → same_name name y.name ≡ r → has_name name y ≡ false → same_name name y.name ≡ false
        done true e f = absurd (true≢false (sym (same_when y.name name (sym (name_is name y.name e))) ∙ f))
        done false e f = e

put_none : (name : List ℕ) (b : Branch) (xs : List Branch) → find (has_name name) xs ≡ None → map (put_where_named name b) xs ≡ xs
put_none name b [] h = refl
put_none name b (y ∷ ys) h = go (has_name name y) refl h (put_none name b ys)
  where
    go : (r : Bool) → has_name name y ≡ r → cond (has_name name y) (Some y) (find (has_name name) ys) ≡ None →
        (find (has_name name) ys ≡ None → map (put_where_named name b) ys ≡ ys) → map (put_where_named name b) (y ∷ ys) ≡ y ∷ ys
    go true e k more = absurd (none_some (Some y) y (sym (ap (λ s. cond s (Some y) (find (has_name name) ys)) e) ∙ k) refl)
    go false e k more =
        ap (λ s. cond s b y ∷ map (put_where_named name b) ys) e
        ∙ ap (λ l. y ∷ l) (more (sym (ap (λ s. cond s (Some y) (find (has_name name) ys)) e) ∙ k))

left_all : (name : List ℕ) (xs : List Branch) → find (has_name name) xs ≡ None → filter (has_other_name name) xs ≡ xs
left_all name [] h = refl
left_all name (y ∷ ys) h = go (has_name name y) refl h (left_all name ys)
  where
    go : (r : Bool) → has_name name y ≡ r → cond (has_name name y) (Some y) (find (has_name name) ys) ≡ None →
        (find (has_name name) ys ≡ None → filter (has_other_name name) ys ≡ ys) → filter (has_other_name name) (y ∷ ys) ≡ y ∷ ys
    go true e k more = absurd (none_some (Some y) y (sym (ap (λ s. cond s (Some y) (find (has_name name) ys)) e) ∙ k) refl)
    go false e k more =
        ap (λ s. cond (not s) (y ∷ filter (has_other_name name) ys) (filter (has_other_name name) ys)) e
        ∙ ap (λ l. y ∷ l) (more (sym (ap (λ s. cond s (Some y) (find (has_name name) ys)) e) ∙ k))

-- ---- the branch of a name, where names differ

-- behind the branch with a name there is none of it
none_behind : (name : List ℕ) (y : Branch) (ys : List Branch) → IsTrue (are_distinct (branch_names (y ∷ ys))) → has_name name y ≡ true → find (has_name name) ys ≡ None
none_behind name y ys d h =
    let parts = both (not (is_name_among y.name (branch_names ys))) (are_distinct (branch_names ys)) d in
    none_has name ys (subst (λ n. is_name_among n (branch_names ys) ≡ false) (name_is y.name name h) (is_not (is_name_among y.name (branch_names ys)) parts.0))

pub distinct_behind : (y : Branch) (ys : List Branch) → IsTrue (are_distinct (branch_names (y ∷ ys))) → IsTrue (are_distinct (branch_names ys))
distinct_behind y ys d = (both (not (is_name_among y.name (branch_names ys))) (are_distinct (branch_names ys)) d).1

-- at what position it stands
abbrev IsAt : List ℕ → Branch → List Branch → ℕ → Type 0
IsAt name y ys zero = has_name name y ≡ true
IsAt name y ys (suc at) = (has_name name y ≡ false) × (slice_get ys at ≡ find (has_name name) ys)

get_passes : (name : List ℕ) (ys : List Branch) (at : ℕ) (y : Branch) → slice_get ys at ≡ Some y → has_name name y ≡ true → find (has_name name) ys ≡ None → ⊥
get_passes name [] at y g h f = none_some None y refl g
get_passes name (z ∷ zs) zero y g h f =
    none_some (find (has_name name) (z ∷ zs)) z f (ap (λ s. cond s (Some z) (find (has_name name) zs)) (ap (has_name name) (some_same (Some z) z y refl g) ∙ h))
get_passes name (z ∷ zs) (suc at) y g h f = go (has_name name z) refl f (get_passes name zs at y g h)
  where
    go : (r : Bool) → has_name name z ≡ r → cond (has_name name z) (Some z) (find (has_name name) zs) ≡ None → (find (has_name name) zs ≡ None → ⊥) → ⊥
    go true e k more = none_some (Some z) z (sym (ap (λ s. cond s (Some z) (find (has_name name) zs)) e) ∙ k) refl
    go false e k more = more (sym (ap (λ s. cond s (Some z) (find (has_name name) zs)) e) ∙ k)

place_of : (name : List ℕ) (y : Branch) (ys : List Branch) (at : ℕ) → IsTrue (are_distinct (branch_names (y ∷ ys))) → at < length (y ∷ ys) →
    slice_get (y ∷ ys) at ≡ find (has_name name) (y ∷ ys) → IsAt name y ys at
place_of name y ys zero d l e = go (has_name name y) refl e
  where
    go : (r : Bool) → has_name name y ≡ r → Some y ≡ cond (has_name name y) (Some y) (find (has_name name) ys) → IsAt name y ys zero
    go true h k = h
    go false h k = (found_passes name ys y (sym (k ∙ ap (λ s. cond s (Some y) (find (has_name name) ys)) h)))
place_of name y ys (suc at) d l e = go (has_name name y) refl e
  where
    go : (r : Bool) → has_name name y ≡ r → slice_get ys at ≡ cond (has_name name y) (Some y) (find (has_name name) ys) → IsAt name y ys (suc at)
    go true h k = absurd (get_passes name ys at y (k ∙ ap (λ s. cond s (Some y) (find (has_name name) ys)) h) h (none_behind name y ys d h))
    go false h k = (h, k ∙ ap (λ s. cond s (Some y) (find (has_name name) ys)) h)

pub put_is_set : (name : List ℕ) (b : Branch) (xs : List Branch) (at : ℕ) → IsTrue (are_distinct (branch_names xs)) → at < length xs →
    slice_get xs at ≡ find (has_name name) xs → map (put_where_named name b) xs ≡ set xs at b
put_is_set name b [] at d l e = absurd (omega (arith, l))
put_is_set name b (y ∷ ys) at d l e = go at (place_of name y ys at d l e) (λ k f. put_is_set name b ys k (distinct_behind y ys d) f) l
  where
    go : (at : ℕ) → IsAt name y ys at →
        ((k : ℕ) → k < length ys → slice_get ys k ≡ find (has_name name) ys → map (put_where_named name b) ys ≡ set ys k b) →
        at < length (y ∷ ys) → map (put_where_named name b) (y ∷ ys) ≡ set (y ∷ ys) at b
    go zero h more l =
        ap (λ s. cond s b y ∷ map (put_where_named name b) ys) h ∙ ap (λ r. b ∷ r) (put_none name b ys (none_behind name y ys d h))
    go (suc k) (h, f) more l = ap (λ s. cond s b y ∷ map (put_where_named name b) ys) h ∙ ap (λ r. y ∷ r) (more k (omega (arith, l)) f)

pub left_is_removed : (name : List ℕ) (xs : List Branch) (at : ℕ) → IsTrue (are_distinct (branch_names xs)) → at < length xs →
    slice_get xs at ≡ find (has_name name) xs → filter (has_other_name name) xs ≡ remove xs at
left_is_removed name [] at d l e = absurd (omega (arith, l))
left_is_removed name (y ∷ ys) at d l e = go at (place_of name y ys at d l e) (λ k f. left_is_removed name ys k (distinct_behind y ys d) f) l
  where
    go : (at : ℕ) → IsAt name y ys at →
        ((k : ℕ) → k < length ys → slice_get ys k ≡ find (has_name name) ys → filter (has_other_name name) ys ≡ remove ys k) →
        at < length (y ∷ ys) → filter (has_other_name name) (y ∷ ys) ≡ remove (y ∷ ys) at
    go zero h more l =
        ap (λ s. cond (not s) (y ∷ filter (has_other_name name) ys) (filter (has_other_name name) ys)) h ∙ left_all name ys (none_behind name y ys d h)
    go (suc k) (h, f) more l =
        ap (λ s. cond (not s) (y ∷ filter (has_other_name name) ys) (filter (has_other_name name) ys)) h ∙ ap (λ r. y ∷ r) (more k (omega (arith, l)) f)

-- a branch put in its own position changes nothing
pub put_same : (name : List ℕ) (xs : List Branch) (x : Branch) → IsTrue (are_distinct (branch_names xs)) → find (has_name name) xs ≡ Some x →
    map (put_where_named name x) xs ≡ xs
put_same name [] x d e = refl
put_same name (y ∷ ys) x d e = go (has_name name y) refl e (put_same name ys x (distinct_behind y ys d))
  where
    go : (r : Bool) → has_name name y ≡ r → cond (has_name name y) (Some y) (find (has_name name) ys) ≡ Some x →
        (find (has_name name) ys ≡ Some x → map (put_where_named name x) ys ≡ ys) → map (put_where_named name x) (y ∷ ys) ≡ y ∷ ys
    go true h k more =
        let same : y ≡ x = some_same (Some y) y x refl (sym (ap (λ s. cond s (Some y) (find (has_name name) ys)) h) ∙ k) in
        ap (λ s. cond s x y ∷ map (put_where_named name x) ys) h
        ∙ ap (λ (z : Branch). z ∷ map (put_where_named name x) ys) (sym same)
        ∙ ap (λ r. y ∷ r) (put_none name x ys (none_behind name y ys d h))
    go false h k more =
        ap (λ s. cond s x y ∷ map (put_where_named name x) ys) h
        ∙ ap (λ r. y ∷ r) (more (sym (ap (λ s. cond s (Some y) (find (has_name name) ys)) h) ∙ k))
