-- A file of lemmas: what it proves need not be read to trust a clause.
--
-- What is known of the last one that has begun.
use Rattle.std.proofs.Common.{◌≡◌, ℕ, ℤ, Bool, true, false, cond, List, [], ◌∷◌, nat_le, Option, Some, IfSome, refl, sym}
use Rattle.std.proofs.lemmas.List.Elements.{All-head, All-tail}
use Rattle.std.specs.List.{All}
use Rattle.windows.specs.declared.segments.Segment.{Segment}
use Rattle.windows.specs.Begun.{last_begun}
use Rattle.windows.specs.Linear.{segment_value, segments_value}

chosen : {A : Type 0} (P : A → Type 0) (begun : Bool) (later : Option A) (one : A) → IfSome later P → P one → IfSome (cond begun later (Some one)) P
chosen P true later one h here = h
chosen P false later one h here = here

-- what holds of all holds of it
pub all_hold : {A : Type 0} (from : A → ℕ) (P : A → Type 0) (items : List A) (t : ℕ) → All P items → IfSome (last_begun from items t) P
all_hold from P [] t all = tt
all_hold from P (one ∷ []) t all = All-head P one [] all
all_hold from P (one ∷ next ∷ rest) t all =
    chosen P (nat_le (from next) t) (last_begun from (next ∷ rest) t) one (all_hold from P (next ∷ rest) t (All-tail P one (next ∷ rest) all))
    (All-head P one (next ∷ rest) all)

pub one_holds : {A : Type 0} (P : A → Type 0) (x : A) (o : Option A) → Some x ≡ o → IfSome o P → P x
one_holds P x o e h = rw (sym e) at h

-- a value that it has, by whether the next one has begun
pub same_choice : {A : Type 0} (value : A → ℤ) (begun : Bool) (later : Option A) (one : A) (after here : ℤ) → IfSome later (λ x. value x ≡ after) → value one ≡ here →
    IfSome (cond begun later (Some one)) (λ x. value x ≡ cond begun after here)
same_choice value true later one after here h e = h
same_choice value false later one after here h e = e

-- the value of straight pieces is that of the last one that has begun
linear_value : (segments : List Segment) (t : ℕ) → IfSome (last_begun (λ s. s.from) segments t) (λ s. segment_value s t ≡ segments_value segments t)
linear_value [] t = tt
linear_value (segment ∷ []) t = refl
linear_value (segment ∷ next ∷ rest) t =
    same_choice (λ s. segment_value s t) (nat_le next.from t) (last_begun (λ (s : Segment). s.from) (next ∷ rest) t) segment (segments_value (next ∷ rest) t)
    (segment_value segment t) (linear_value (next ∷ rest) t) refl

pub linear_is : (segments : List Segment) (t : ℕ) (segment : Segment) → Some segment ≡ last_begun (λ s. s.from) segments t →
    segment_value segment t ≡ segments_value segments t
linear_is segments t segment e = one_holds (λ (s : Segment). segment_value s t ≡ segments_value segments t) _ _ e (linear_value segments t)
