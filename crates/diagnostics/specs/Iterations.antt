-- A file of lemmas: what it proves need not be read to trust a clause.
--
-- One turn of a loop over a list, whose invariant says what is left: what is noted of the rest, the state behind the rest,
-- and what the rest makes.
use Rattle.std.proofs.Common.{◌≡◌, ℕ, ◌+◌, ◌<◌, List, [], ◌∷◌, ◌++◌, Option, length, get_or, drop, map, sym, ap, ◌∙◌, append_assoc}
use Rattle.std.proofs.lemmas.List.{drop_more}
use Rattle.diagnostics.specs.declared.diagnostic.Diagnostic.{Diagnostic}
use Rattle.diagnostics.specs.Diagnostics.{noted_by, all_of}
use Rattle.diagnostics.specs.NotedInTurn.{noted_appended}

-- the next item stands in front of what is left behind it
pub next_left : {X : Type 0} → (xs : List X) (i : ℕ) (x : X) → i < length xs → x ≡ get_or xs i x → drop i xs ≡ x ∷ drop (i + 1) xs
next_left {X} xs i x lt is = drop_more xs i x lt ∙ ap (λ (y : X). y ∷ drop (i + 1) xs) (sym is)

module _ {X S : Type 0} (step : S → X → S) (all : S → List X → S) (cons : (s : S) (x : X) (rest : List X) → all s (x ∷ rest) ≡ all (step s x) rest) where
  -- the state behind the rest
  pub state_iteration : (xs : List X) (i : ℕ) (x : X) → i < length xs → x ≡ get_or xs i x →
      (before after target : S) → after ≡ step before x →
      all before (drop i xs) ≡ target → all after (drop (i + 1) xs) ≡ target
  state_iteration xs i x lt is before after target stepped h =
      ap (λ (s : S). all s (drop (i + 1) xs)) stepped
      ∙ (sym (cons before x (drop (i + 1) xs)) ∙ (ap (all before) (sym (next_left xs i x lt is)) ∙ h))

module _ {X S C : Type 0} (rank : C → ℕ) (step : S → X → S) (judge : S → X → List (Diagnostic C)) (all : S → List X → List (Diagnostic C))
    (cons : (s : S) (x : X) (rest : List X) → all s (x ∷ rest) ≡ judge s x ++ all (step s x) rest) where
  -- what is noted of the rest
  pub judged_iteration : (xs : List X) (i : ℕ) (x : X) → i < length xs → x ≡ get_or xs i x →
      (before after : S) → after ≡ step before x →
      (found more target : Option (Diagnostic C)) → more ≡ noted_by rank found (judge before x) →
      noted_by rank found (all before (drop i xs)) ≡ target → noted_by rank more (all after (drop (i + 1) xs)) ≡ target
  judged_iteration xs i x lt is before after stepped found more target judged h =
      (λ j. noted_by rank (judged j) (all (stepped j) (drop (i + 1) xs)))
      ∙ (sym (noted_appended rank found (judge before x) (all (step before x) (drop (i + 1) xs)))
      ∙ (ap (noted_by rank found) (sym (cons before x (drop (i + 1) xs)))
      ∙ (ap (λ (left : List X). noted_by rank found (all before left)) (sym (next_left xs i x lt is)) ∙ h)))

-- the same, where each is judged for itself
pub each_iteration : {X C : Type 0} → (rank : C → ℕ) (judge : X → List (Diagnostic C)) (xs : List X) (i : ℕ) (x : X) → i < length xs → x ≡ get_or xs i x →
    (found more target : Option (Diagnostic C)) → more ≡ noted_by rank found (judge x) →
    noted_by rank found (all_of judge (drop i xs)) ≡ target → noted_by rank more (all_of judge (drop (i + 1) xs)) ≡ target
each_iteration {X} {C} rank judge xs i x lt is found more target judged h =
    ap (λ (f : Option (Diagnostic C)). noted_by rank f (all_of judge (drop (i + 1) xs))) judged
    ∙ (sym (noted_appended rank found (judge x) (all_of judge (drop (i + 1) xs)))
    ∙ (ap (λ (left : List X). noted_by rank found (all_of judge left)) (sym (next_left xs i x lt is)) ∙ h))

module _ {X S Y : Type 0} (step : S → X → S) (make : S → X → Y) (all : S → List X → List Y)
    (cons : (s : S) (x : X) (rest : List X) → all s (x ∷ rest) ≡ make s x ∷ all (step s x) rest) where
  -- what the rest makes
  pub made_iteration : (xs : List X) (i : ℕ) (x : X) → i < length xs → x ≡ get_or xs i x →
      (before after : S) → after ≡ step before x →
      (made more target : List Y) (one : Y) → one ≡ make before x → more ≡ made ++ one ∷ [] →
      made ++ all before (drop i xs) ≡ target → more ++ all after (drop (i + 1) xs) ≡ target
  made_iteration xs i x lt is before after stepped made more target one is_one pushed h =
      (λ j. (pushed ∙ ap (λ (y : Y). made ++ y ∷ []) is_one) j ++ all (stepped j) (drop (i + 1) xs))
      ∙ (append_assoc made (make before x ∷ []) (all (step before x) (drop (i + 1) xs))
      ∙ (ap (λ (left : List Y). made ++ left) (sym (cons before x (drop (i + 1) xs)))
      ∙ (ap (λ (left : List X). made ++ all before left) (sym (next_left xs i x lt is)) ∙ h)))

-- one more is made, each for itself
pub map_iteration : {X Y : Type 0} → (make : X → Y) (xs : List X) (i : ℕ) (x : X) → i < length xs → x ≡ get_or xs i x →
    (made more target : List Y) (one : Y) → one ≡ make x → more ≡ made ++ one ∷ [] →
    made ++ map make (drop i xs) ≡ target → more ++ map make (drop (i + 1) xs) ≡ target
map_iteration {X} {Y} make xs i x lt is made more target one is_one pushed h =
    ap (λ (m : List Y). m ++ map make (drop (i + 1) xs)) (pushed ∙ ap (λ (y : Y). made ++ y ∷ []) is_one)
    ∙ (append_assoc made (make x ∷ []) (map make (drop (i + 1) xs))
    ∙ (ap (λ (left : List X). made ++ map make left) (sym (next_left xs i x lt is)) ∙ h))
