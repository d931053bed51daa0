-- What is reached by twice as many anchors.
use Rattle.std.proofs.Common.{◌≡◌, ℕ, suc, ◌+◌, List, [], ◌∷◌, Option, Some, None, option_and_then, map, nat_eq, Bool, true, false, IsTrue, slice_get, refl, sym, ap, ◌∙◌, if◌then◌else◌, eqb-true}
use Rattle.aerie_base.specs.declared.plans.Directive.{Directive}
use Rattle.aerie_base.specs.plans.OfModel.{followed, with_id, anchored_to, rise_to, ids_of}
use Rattle.aerie_base.specs.plans.FollowedAnchors.{followed_on, nowhere}
use Rattle.aerie_base.specs.plans.RisingIds.{found_by_id}
use Rattle.plan_merge.specs.Reached.{reached_from_id, reached_from, reached_after}

-- what stands beside the directive with an id
beside : (f : ℕ → Option ℕ) (directives : List Directive) (id : ℕ) → (with_id directives id ≡ None → f id ≡ None) →
    reached_from_id directives (map (λ (d : Directive). f d.id) directives) id ≡ f id
beside f [] id none = sym (none refl)
beside f (first ∷ rest) id none = go (beside f rest id) (nat_eq first.id id) refl none
  where
    go : ((with_id rest id ≡ None → f id ≡ None) → reached_from_id rest (map (λ (d : Directive). f d.id) rest) id ≡ f id) → (t : Bool) → nat_eq first.id id ≡ t →
        ((if t then Some first else with_id rest id) ≡ None → f id ≡ None) →
        (if nat_eq first.id id then f first.id else reached_from_id rest (map (λ (d : Directive). f d.id) rest) id) ≡ f id
    go others true h none = ap (λ (t : Bool). if t then f first.id else reached_from_id rest (map (λ (d : Directive). f d.id) rest) id) h ∙ ap f (eqb-true first.id id h)
    go others false h none = ap (λ (t : Bool). if t then f first.id else reached_from_id rest (map (λ (d : Directive). f d.id) rest) id) h ∙ others none

pub map_same : {X Y : Type 0} (f g : X → Y) (xs : List X) → ((x : X) → f x ≡ g x) → map f xs ≡ map g xs
map_same f g [] same = refl
map_same f g (x ∷ xs) same = ap (λ y. y ∷ map f xs) (same x) ∙ ap (λ ys. g x ∷ ys) (map_same f g xs same)

map_map : {X Y Z : Type 0} (f : Y → Z) (g : X → Y) (xs : List X) → map f (map g xs) ≡ map (λ x. f (g x)) xs
map_map f g [] = refl
map_map f g (x ∷ xs) = ap (λ ys. f (g x) ∷ ys) (map_map f g xs)

-- what is reached from what is reached is what twice as many anchors reach
pub twice : (directives : List Directive) (steps : ℕ) →
    map (reached_from directives (reached_after directives (suc steps))) (reached_after directives (suc steps)) ≡ reached_after directives (suc steps + suc steps)
twice directives steps =
    map_map (reached_from directives (reached_after directives (suc steps))) (λ (d : Directive). followed directives (suc steps) d.id) directives
    ∙ map_same (λ (d : Directive). reached_from directives (reached_after directives (suc steps)) (followed directives (suc steps) d.id)) (λ (d : Directive). followed directives (suc steps + suc steps) d.id) directives
    (λ d. on (followed directives (suc steps) d.id) ∙ sym (followed_on directives (suc steps) (suc steps) d.id))
  where
    on : (reached_one : Option ℕ) → reached_from directives (reached_after directives (suc steps)) reached_one ≡ option_and_then (followed directives (suc steps)) reached_one
    on None = refl
    on (Some id) = beside (followed directives (suc steps)) directives id (nowhere directives steps id)

-- two functions that are equal at the items of a list give the same of it
pub map_at : {X Y : Type 0} (f g : X → Y) (xs : List X) → ((at : ℕ) (x : X) → slice_get xs at ≡ Some x → f x ≡ g x) → map f xs ≡ map g xs
map_at f g [] same = refl
map_at f g (x ∷ xs) same = ap (λ y. y ∷ map f xs) (same 0 x refl) ∙ ap (λ ys. g x ∷ ys) (map_at f g xs (λ at. same (suc at)))

-- one anchor on
pub once : (directives : List Directive) → (most : ℕ) × IsTrue (rise_to most 0 (ids_of directives)) → map anchored_to directives ≡ reached_after directives 1
once directives rise =
    map_at anchored_to (λ (d : Directive). followed directives 1 d.id) directives
    (λ at d here. plain (anchored_to d) ∙ sym (ap (λ (found : Option Directive). option_and_then (followed directives 0) (option_and_then anchored_to found)) (found_by_id rise.0 0 directives at d rise.1 here)))
  where
    plain : (next : Option ℕ) → next ≡ option_and_then (followed directives 0) next
    plain None = refl
    plain (Some id) = refl
