-- Free times are times of the plan at which no matching span starts, and not more than were tried.
use Rattle.std.proofs.Common.{◌≡◌, ℕ, zero, suc, ◌≤◌, ◌<◌, ◌-◌, ℤ, pos, negsuc, ◌+ℤ◌, ◌-ℤ◌, Bool, true, false, not, ◌&&◌, List, [], ◌∷◌, ◌++◌, length, refl, sym, ap, subst, ◌∙◌, arith, nat_eq, nat_lt, if◌then◌else◌}
use Rattle.std.specs.Prelude.{int_le, int_lt}
use Rattle.std.specs.List.{All, filter, list_any}
use Rattle.std.specs.Int.RustNames.{unsigned_abs}
use Rattle.std.proofs.lemmas.Grind.{common_steps}
use Rattle.std.proofs.lemmas.List.Elements.{All-nil, All-cons}
use Rattle.goals.specs.declared.types.GoalKind.{GoalKind}
use Rattle.goals.specs.declared.types.GoalKind.TheVariants.{Recurrence, Coexistence, Cardinality}
use Rattle.goals.specs.Candidates.{spread, is_free, free_at, free_times, most_tried, try_step}
use Rattle.goals.specs.Goals.{times_by_kind}

-- what holds of each free time that is tried holds of those that are free
module _ (P : ℕ → Type 0) (duration : ℕ) (starts : List ℕ) (holds : (time : ℕ) → is_free duration starts time ≡ true → P time) where
  before_all : (time : ℤ) (rest : List ℕ) → All P rest → All P (free_at duration starts time ++ rest)
  before_all (negsuc n) rest all = all
  before_all (pos time) rest all = go (is_free duration starts time) refl
    where
      go : (b : Bool) → is_free duration starts time ≡ b → All P ((if b then time ∷ [] else []) ++ rest)
      go true free = All-cons P time rest (holds time free) all
      go false free = all

  all_free : (tried : List ℤ) → All P (free_times duration starts tried)
  all_free [] = All-nil P
  all_free (time ∷ rest) = before_all time (free_times duration starts rest) (all_free rest)

left_of : (a b : Bool) → (a && b) ≡ true → a ≡ true
left_of true b is = refl
left_of false b is = is

right_of : (a b : Bool) → (a && b) ≡ true → b ≡ true
right_of true b is = is
right_of false true is = refl
right_of false false is = is

pub are_in_plan : (duration : ℕ) (starts : List ℕ) (tried : List ℤ) (times : List ℕ) → times ≡ free_times duration starts tried → All (λ (time : ℕ). time < duration) times
are_in_plan duration starts tried times is =
    subst (λ (free : List ℕ). All (λ (time : ℕ). time < duration) free) (sym is)
    (all_free (λ (time : ℕ). time < duration) duration starts (λ time free. within time (left_of (nat_lt time duration) (not (list_any (nat_eq time) starts)) free)) tried)
  where
    within : (time : ℕ) → nat_lt time duration ≡ true → time < duration
    within time is = grind (arith, common_steps)

not_true : (b : Bool) → not b ≡ true → b ≡ false
not_true true is = sym is
not_true false is = refl

pub are_free : (duration : ℕ) (starts whole : List ℕ) (tried : List ℤ) (times : List ℕ) → times ≡ free_times duration starts tried → starts ≡ whole →
    All (λ (time : ℕ). list_any (nat_eq time) whole ≡ false) times
are_free duration starts whole tried times is same =
    subst (λ (from : List ℕ). All (λ (time : ℕ). list_any (nat_eq time) from ≡ false) times) same
    (subst (λ (free : List ℕ). All (λ (time : ℕ). list_any (nat_eq time) starts ≡ false) free) (sym is)
    (all_free (λ (time : ℕ). list_any (nat_eq time) starts ≡ false) duration starts
    (λ time free. not_true (list_any (nat_eq time) starts) (right_of (nat_lt time duration) (not (list_any (nat_eq time) starts)) free)) tried))

-- ---- how many

one_at_most : (duration : ℕ) (starts : List ℕ) (time : ℤ) (rest : List ℕ) → length (free_at duration starts time ++ rest) ≤ suc (length rest)
one_at_most duration starts (negsuc n) rest = omega arith
one_at_most duration starts (pos time) rest = go (is_free duration starts time)
  where
    go : (b : Bool) → length ((if b then time ∷ [] else []) ++ rest) ≤ suc (length rest)
    go true = omega arith
    go false = omega arith

pub no_more : (duration : ℕ) (starts : List ℕ) (tried : List ℤ) → length (free_times duration starts tried) ≤ length tried
no_more duration starts [] = omega arith
no_more duration starts (time ∷ rest) =
    let one = one_at_most duration starts time (free_times duration starts rest) in
    let others = no_more duration starts rest in
    omega (arith, one, others)

filtered : (p : ℤ → Bool) (times : List ℤ) → length (filter p times) ≤ length times
filtered p [] = omega arith
filtered p (time ∷ rest) = go (filtered p rest) (p time)
  where
    go : length (filter p rest) ≤ length rest → (b : Bool) → length (if b then time ∷ filter p rest else filter p rest) ≤ suc (length rest)
    go others true = omega (arith, others)
    go others false = omega (arith, others)

spread_length : (count : ℕ) (first step : ℤ) → length (spread count first step) ≡ count
spread_length zero first step = refl
spread_length (suc count) first step = ap suc (spread_length count (first +ℤ step) step)

pub spread_filtered : (p : ℤ → Bool) (count : ℕ) (first step : ℤ) → length (filter p (spread count first step)) ≤ count
spread_filtered p count first step = let all = filtered p (spread count first step) in let is = spread_length count first step in omega (arith, all, is)

pub few_tried : (gap : ℤ) (kind : GoalKind) → length (times_by_kind gap kind) ≤ most_tried
few_tried gap (Recurrence every from to) = spread_filtered (λ time. int_lt gap time) most_tried (gap +ℤ pos every) (pos 0 -ℤ pos (try_step every 100))
few_tried gap (Coexistence anchor from to) =
    spread_filtered (λ time. int_le time (gap +ℤ to)) most_tried (gap +ℤ from) (pos (try_step (unsigned_abs (to -ℤ from)) 99))
few_tried gap (Cardinality count from to) = spread_filtered (λ time. int_lt time (pos to)) most_tried (pos from) (pos (try_step (to - from) 100))

pub few_free : (duration : ℕ) (starts : List ℕ) (tried whole : List ℤ) (times : List ℕ) (gap : ℤ) (kind : GoalKind) →
    times ≡ free_times duration starts tried → tried ≡ whole → whole ≡ times_by_kind gap kind → length times ≤ most_tried
few_free duration starts tried whole times gap kind is same whole_is =
    let all = no_more duration starts tried in
    let few = subst (λ (list : List ℤ). length list ≤ most_tried) (sym (same ∙ whole_is)) (few_tried gap kind) in
    let count = ap (λ (list : List ℕ). length list) is in
    omega (arith, all, few, count)
