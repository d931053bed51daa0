-- A file of lemmas: what it proves need not be read to trust a clause.
--
-- What is noted of one list and then of another, and what it says that nothing was noted.
use Rattle.std.proofs.Common.{◌≡◌, ℕ, Bool, true, false, List, [], ◌∷◌, ◌++◌, Option, Some, None, refl, sym, ap, ◌∙◌, if◌then◌else◌}
use Rattle.std.specs.List.{AllByRecursion}
use Rattle.aerie_base.specs.declared.places.Place.{Place}
use Rattle.diagnostics.specs.declared.diagnostic.Diagnostic.{Diagnostic}
use Rattle.diagnostics.specs.Diagnostics.{is_told_before, sooner_by, noted_by, first_by, refused_unless, all_of}

-- what is noted of two lists is noted of one after the other
pub noted_appended : {C : Type 0} (rank : C → ℕ) (found : Option (Diagnostic C)) (front back : List (Diagnostic C)) →
    noted_by rank found (front ++ back) ≡ noted_by rank (noted_by rank found front) back
noted_appended rank found [] back = refl
noted_appended rank found (new ∷ front) back = noted_appended rank (sooner_by rank found new) front back

-- what is noted of one list and then of another is noted of both
pub noted_in_turn : {C : Type 0} (rank : C → ℕ) (first second : List (Diagnostic C)) (before between after : Option (Diagnostic C)) →
    between ≡ noted_by rank before first → after ≡ noted_by rank between second → after ≡ noted_by rank before (first ++ second)
noted_in_turn {C} rank first second before between after e f =
    f ∙ (ap (λ (found : Option (Diagnostic C)). noted_by rank found second) e ∙ sym (noted_appended rank before first second))

-- ---- nothing was noted

-- what was found stays
found_stays : {C : Type 0} (rank : C → ℕ) (found : Diagnostic C) (wrong : List (Diagnostic C)) → noted_by rank (Some found) wrong ≡ None → ⊥
found_stays rank found [] e = cc
found_stays rank found (new ∷ rest) e = found_stays rank (if is_told_before rank new found then new else found) rest e

pub none_found : {C : Type 0} (rank : C → ℕ) (wrong : List (Diagnostic C)) → first_by rank wrong ≡ None → wrong ≡ []
none_found rank [] e = refl
none_found rank (new ∷ rest) e = absurd (found_stays rank new rest e)

-- nothing is refused: it holds
pub holds_if_empty : {C : Type 0} (holds : Bool) (cause : C) (at : Place) → refused_unless holds cause at ≡ [] → holds ≡ true
holds_if_empty true cause at e = refl
holds_if_empty false cause at e = cc

-- ---- parts of what is empty

pub front_empty : {A : Type 0} (xs ys : List A) → xs ++ ys ≡ [] → xs ≡ []
front_empty [] ys e = refl
front_empty (x ∷ xs) ys e = cc

pub back_empty : {A : Type 0} (xs ys : List A) → xs ++ ys ≡ [] → ys ≡ []
back_empty [] ys e = e
back_empty (x ∷ xs) ys e = cc

pub each_empty : {A C : Type 0} (judge : A → List (Diagnostic C)) (xs : List A) → all_of judge xs ≡ [] → AllByRecursion (λ x. judge x ≡ []) xs
each_empty judge [] e = tt
each_empty judge (x ∷ rest) e = (front_empty (judge x) (all_of judge rest) e, each_empty judge rest (back_empty (judge x) (all_of judge rest) e))
