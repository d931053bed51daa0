-- Branches by name, in lists that are changed.
use Rattle.std.proofs.Common.{◌≡◌, ℕ, Bool, true, false, not, List, [], ◌∷◌, ◌++◌, map, Option, Some, None, refl, sym, ap, ◌∙◌, true≢false}
use Rattle.std.specs.Prelude.{cond}
use Rattle.std.specs.List.{find, filter}
use Rattle.std.specs.Cmp.Lexicographic.{bytes_decides}
use Rattle.aerie_base.specs.models.Names.{same_name}
use Rattle.hangar_core.specs.declared.branches.Branch.{Branch}
use Rattle.hangar_core.specs.Workspaces.{has_name, put_where_named}
use Rattle.hangar_core.specs.Opening.{has_other_name}
use Rattle.hangar_core.proofs.Plain.{none_some, some_same}

-- ---- names

pub same_when : (a b : List ℕ) → a ≡ b → same_name a b ≡ true
same_when a b e = (bytes_decides a b).1 e

pub name_is : (a b : List ℕ) → same_name a b ≡ true → a ≡ b
name_is a b e = (bytes_decides a b).0 e

pub apart_when : (a b : List ℕ) → (a ≡ b → ⊥) → same_name a b ≡ false
apart_when a b n = go (same_name a b) refl
  where
    go : (r : Bool) → same_name a b ≡ r → same_name a b ≡ false
    go true e = absurd (n (name_is a b e))
    go false e = e

pub differ : (a b : List ℕ) → same_name a b ≡ false → a ≡ b → ⊥
differ a b e f = true≢false (sym (same_when a b f) ∙ e)

-- ---- finding

pub found_passes : (name : List ℕ) (xs : List Branch) (x : Branch) → find (has_name name) xs ≡ Some x → has_name name x ≡ true
found_passes name [] x e = absurd (none_some _ x refl e)
found_passes name (y ∷ ys) x e = go (has_name name y) refl e (found_passes name ys x)
  where
    go : (r : Bool) → has_name name y ≡ r → cond (has_name name y) (Some y) (find (has_name name) ys) ≡ Some x →
        (find (has_name name) ys ≡ Some x → has_name name x ≡ true) → has_name name x ≡ true
    go true h e rest =
        let g : Some y ≡ Some x = sym (ap (λ s. cond s (Some y) (find (has_name name) ys)) h) ∙ e in
        ap (has_name name) (sym (some_same (Some y) y x refl g)) ∙ h
    go false h e rest = rest (sym (ap (λ s. cond s (Some y) (find (has_name name) ys)) h) ∙ e)

pub put_found : (name : List ℕ) (b : Branch) → has_name name b ≡ true → (xs : List Branch) (x : Branch) → find (has_name name) xs ≡ Some x →
    find (has_name name) (map (put_where_named name b) xs) ≡ Some b
put_found name b same [] x e = absurd (none_some _ x refl e)
put_found name b same (y ∷ ys) x e = go (has_name name y) refl e (put_found name b same ys x)
  where
    rest : Option Branch
    rest = find (has_name name) (map (put_where_named name b) ys)

    go : (r : Bool) → has_name name y ≡ r → cond (has_name name y) (Some y) (find (has_name name) ys) ≡ Some x →
        (find (has_name name) ys ≡ Some x → find (has_name name) (map (put_where_named name b) ys) ≡ Some b) →
        find (has_name name) (map (put_where_named name b) (y ∷ ys)) ≡ Some b
    go true h e more =
        ap (λ s. cond (has_name name (cond s b y)) (Some (cond s b y)) (find (has_name name) (map (put_where_named name b) ys))) h
        ∙ ap (λ s. cond s (Some b) (find (has_name name) (map (put_where_named name b) ys))) same
    go false h e more =
        ap (λ s. cond (has_name name (cond s b y)) (Some (cond s b y)) (find (has_name name) (map (put_where_named name b) ys))) h
        ∙ ap (λ s. cond s (Some y) (find (has_name name) (map (put_where_named name b) ys))) h
        ∙ more (sym (ap (λ s. cond s (Some y) (find (has_name name) ys)) h) ∙ e)

-- a branch of one name is none of another
pub has_no_other : (name another : List ℕ) → (name ≡ another → ⊥) → (y : Branch) → has_name name y ≡ true → has_name another y ≡ false
has_no_other name another n y h = apart_when y.name another (λ e. n (sym (name_is y.name name h) ∙ e))

pub put_other : (name another : List ℕ) → (name ≡ another → ⊥) → (b : Branch) → has_name name b ≡ true → (xs : List Branch) →
    find (has_name another) (map (put_where_named name b) xs) ≡ find (has_name another) xs
put_other name another n b same [] = refl
put_other name another n b same (y ∷ ys) = go (has_name name y) refl (put_other name another n b same ys)
  where
    go : (r : Bool) → has_name name y ≡ r → find (has_name another) (map (put_where_named name b) ys) ≡ find (has_name another) ys →
        find (has_name another) (map (put_where_named name b) (y ∷ ys)) ≡ find (has_name another) (y ∷ ys)
    go true h more =
        ap (λ s. cond (has_name another (cond s b y)) (Some (cond s b y)) (find (has_name another) (map (put_where_named name b) ys))) h
        ∙ ap (λ s. cond s (Some b) (find (has_name another) (map (put_where_named name b) ys))) (has_no_other name another n b same)
        ∙ more
        ∙ sym (ap (λ s. cond s (Some y) (find (has_name another) ys)) (has_no_other name another n y h))
    go false h more =
        ap (λ s. cond (has_name another (cond s b y)) (Some (cond s b y)) (find (has_name another) (map (put_where_named name b) ys))) h
        ∙ ap (λ o. cond (has_name another y) (Some y) o) more

pub last_found : (name : List ℕ) (xs : List Branch) (b : Branch) → find (has_name name) xs ≡ None → has_name name b ≡ true →
    find (has_name name) (xs ++ b ∷ []) ≡ Some b
last_found name [] b e h = ap (λ s. cond s (Some b) None) h
last_found name (y ∷ ys) b e h = go (has_name name y) refl e (last_found name ys b)
  where
    go : (r : Bool) → has_name name y ≡ r → cond (has_name name y) (Some y) (find (has_name name) ys) ≡ None →
        (find (has_name name) ys ≡ None → has_name name b ≡ true → find (has_name name) (ys ++ b ∷ []) ≡ Some b) →
        cond (has_name name y) (Some y) (find (has_name name) (ys ++ b ∷ [])) ≡ Some b
    go true g e more = absurd (none_some (Some y) y (sym (ap (λ s. cond s (Some y) (find (has_name name) ys)) g) ∙ e) refl)
    go false g e more =
        ap (λ s. cond s (Some y) (find (has_name name) (ys ++ b ∷ []))) g
        ∙ more (sym (ap (λ s. cond s (Some y) (find (has_name name) ys)) g) ∙ e) h

pub front_found : (name : List ℕ) (xs : List Branch) (b : Branch) → has_name name b ≡ false →
    find (has_name name) (xs ++ b ∷ []) ≡ find (has_name name) xs
front_found name [] b h = ap (λ s. cond s (Some b) None) h
front_found name (y ∷ ys) b h = ap (λ o. cond (has_name name y) (Some y) o) (front_found name ys b h)

pub none_left : (name : List ℕ) (xs : List Branch) → find (has_name name) (filter (has_other_name name) xs) ≡ None
none_left name [] = refl
none_left name (y ∷ ys) = go (has_name name y) refl (none_left name ys)
  where
    go : (r : Bool) → has_name name y ≡ r → find (has_name name) (filter (has_other_name name) ys) ≡ None →
        find (has_name name) (filter (has_other_name name) (y ∷ ys)) ≡ None
    go true h more = ap (λ s. find (has_name name) (cond (not s) (y ∷ filter (has_other_name name) ys) (filter (has_other_name name) ys))) h ∙ more
    go false h more =
        ap (λ s. find (has_name name) (cond (not s) (y ∷ filter (has_other_name name) ys) (filter (has_other_name name) ys))) h
        ∙ ap (λ s. cond s (Some y) (find (has_name name) (filter (has_other_name name) ys))) h
        ∙ more

pub others_left : (name another : List ℕ) → (name ≡ another → ⊥) → (xs : List Branch) →
    find (has_name another) (filter (has_other_name name) xs) ≡ find (has_name another) xs
others_left name another n [] = refl
others_left name another n (y ∷ ys) = go (has_name name y) refl (others_left name another n ys)
  where
    go : (r : Bool) → has_name name y ≡ r → find (has_name another) (filter (has_other_name name) ys) ≡ find (has_name another) ys →
        find (has_name another) (filter (has_other_name name) (y ∷ ys)) ≡ find (has_name another) (y ∷ ys)
    go true h more =
        ap (λ s. find (has_name another) (cond (not s) (y ∷ filter (has_other_name name) ys) (filter (has_other_name name) ys))) h
        ∙ more
        ∙ sym (ap (λ s. cond s (Some y) (find (has_name another) ys)) (has_no_other name another n y h))
    go false h more =
        ap (λ s. find (has_name another) (cond (not s) (y ∷ filter (has_other_name name) ys) (filter (has_other_name name) ys))) h
        ∙ ap (λ o. cond (has_name another y) (Some y) o) more
