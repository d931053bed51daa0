-- Straight pieces that follow a function of time, from a time on.
use Rattle.std.proofs.Common.{◌≡◌, ℕ, ◌<◌, ◌≤◌, ℤ, Bool, true, false, cond, List, [], ◌∷◌, refl, sym, ap, subst, ◌∙◌, arith, nat_le}
use Rattle.windows.specs.declared.segments.Segment.{Segment}
use Rattle.windows.specs.Linear.{AreSegments, Follow, IsSum, first_start, segment_value, segments_value}

-- The first piece has begun by the time, each piece has the function's values from its start up to the next one, and the last up
-- to the reach.
abbrev pub Runs : ℕ → (ℕ → ℤ) → ℕ → List Segment → Type 0
Runs reach f from [] = reach ≤ from
Runs reach f from (piece ∷ rest) =
    (piece.from ≤ from)
    × (from < first_start reach rest)
    × ((t : ℕ) → piece.from ≤ t → t < first_start reach rest → segment_value piece t ≡ f t)
    × Runs reach f (first_start reach rest) rest

is_late : (a t : ℕ) → t < a → nat_le a t ≡ false
is_late a t before = grind arith

is_begun : (a t : ℕ) → a ≤ t → nat_le a t ≡ true
is_begun a t after = grind arith

-- ---- from a profile

pub first_within : (reach : ℕ) (pieces : List Segment) → Follow reach pieces → first_start reach pieces ≤ reach
first_within reach [] follow = omega arith
first_within reach (piece ∷ rest) follow = omega (arith, follow.0, first_within reach rest follow.2)

runs_from : (reach : ℕ) (g : ℕ → ℤ) (pieces : List Segment) → Follow reach pieces → ((t : ℕ) → first_start reach pieces ≤ t → t < reach → segments_value pieces t ≡ g t) →
    Runs reach g (first_start reach pieces) pieces
runs_from reach g [] follow same = omega arith
runs_from reach g (piece ∷ []) follow same = (omega arith, follow.0, same, omega arith)
runs_from reach g (piece ∷ next ∷ rest) follow same = (omega arith, follow.0, here, runs_from reach g (next ∷ rest) follow.2 later)
  where
    here : (t : ℕ) → piece.from ≤ t → t < next.from → segment_value piece t ≡ g t
    here t after before =
        ap (λ b. cond b (segments_value (next ∷ rest) t) (segment_value piece t)) (sym (is_late next.from t before))
        ∙ same t after (omega (arith, before, first_within reach (next ∷ rest) follow.2))

    later : (t : ℕ) → next.from ≤ t → t < reach → segments_value (next ∷ rest) t ≡ g t
    later t after before =
        ap (λ b. cond b (segments_value (next ∷ rest) t) (segment_value piece t)) (sym (is_begun next.from t after))
        ∙ same t (omega (arith, after, follow.0)) before

none_below : (reach : ℕ) (pieces : List Segment) → AreSegments reach pieces → reach ≡ 0 → pieces ≡ []
none_below reach [] are none = refl
none_below reach (piece ∷ rest) are none = absurd (omega (arith, none, are.follow.0, first_within reach rest are.follow.2))

starts : (reach : ℕ) (pieces : List Segment) → AreSegments reach pieces → (b : Bool) → nat_le reach 0 ≡ b → first_start reach pieces ≡ 0
starts reach pieces are true e =
    let none : reach ≡ 0 = grind arith in
    ap (λ (l : List Segment). first_start reach l) (none_below reach pieces are none) ∙ none
starts reach pieces are false e = are.begin_at_zero (grind arith)

-- a profile follows its own values
pub runs_of : (reach : ℕ) (pieces : List Segment) → AreSegments reach pieces → Runs reach (λ t. segments_value pieces t) 0 pieces
runs_of reach pieces are =
    subst (λ n. Runs reach (λ t. segments_value pieces t) n pieces) (starts reach pieces are (nat_le reach 0) refl)
    (runs_from reach (λ t. segments_value pieces t) pieces are.follow (λ t after before. refl))

-- ---- to a profile

reach_behind : (reach from : ℕ) (f : ℕ → ℤ) (pieces : List Segment) → Runs reach f from pieces → first_start reach pieces ≤ from → from ≤ reach → first_start reach pieces ≤ reach
reach_behind reach from f pieces runs behind within = omega (arith, behind, within)

pub next_within : (reach from : ℕ) (f : ℕ → ℤ) (pieces : List Segment) → Runs reach f from pieces → first_start reach pieces ≤ reach
next_within reach from f [] runs = omega arith
next_within reach from f (piece ∷ rest) runs = omega (arith, runs.0, runs.1, next_within reach (first_start reach rest) f rest runs.3)

follows : (reach from : ℕ) (f : ℕ → ℤ) (pieces : List Segment) → ((t : ℕ) → t < reach → IsSum (f t)) → Runs reach f from pieces → Follow reach pieces
follows reach from f [] sums runs = tt
follows reach from f (piece ∷ rest) sums runs =
    (omega (arith, runs.0, runs.1), values, follows reach (first_start reach rest) f rest sums runs.3)
  where
    values : (t : ℕ) → piece.from ≤ t → t < first_start reach rest → IsSum (segment_value piece t)
    values t after before =
        subst IsSum (sym (runs.2 t after before)) (sums t (omega (arith, before, next_within reach (first_start reach rest) f rest runs.3)))

pub are_segments : (reach : ℕ) (f : ℕ → ℤ) (pieces : List Segment) → ((t : ℕ) → t < reach → IsSum (f t)) → Runs reach f 0 pieces → AreSegments reach pieces
are_segments reach f pieces sums runs = record { begin_at_zero = begin pieces runs; follow = follows reach 0 f pieces sums runs }
  where
    begin : (pieces : List Segment) → Runs reach f 0 pieces → 0 < reach → first_start reach pieces ≡ 0
    begin [] runs some = absurd (omega (arith, runs, some))
    begin (piece ∷ rest) runs some = omega (arith, runs.0)

pub values_are : (reach from : ℕ) (f : ℕ → ℤ) (pieces : List Segment) (t : ℕ) → Runs reach f from pieces → from ≤ t → t < reach → segments_value pieces t ≡ f t
values_are reach from f [] t runs after before = absurd (omega (arith, runs, after, before))
values_are reach from f (piece ∷ []) t runs after before = runs.2 t (omega (arith, runs.0, after)) before
values_are reach from f (piece ∷ next ∷ rest) t runs after before = go (λ later. values_are reach next.from f (next ∷ rest) t runs.3 later before) (nat_le next.from t) refl
  where
    go : (next.from ≤ t → segments_value (next ∷ rest) t ≡ f t) → (b : Bool) → nat_le next.from t ≡ b → cond b (segments_value (next ∷ rest) t) (segment_value piece t) ≡ f t
    go there true e = there (grind arith)
    go there false e = runs.2 t (omega (arith, runs.0, after)) (grind arith)

-- ---- a step of two

-- later pieces follow it from a later time on, whether the first of them has ended by then or not
pub on_to : (reach from end : ℕ) (f : ℕ → ℤ) (piece : Segment) (rest : List Segment) → Runs reach f from (piece ∷ rest) → from < end → end < first_start reach rest → Runs reach f end (piece ∷ rest)
on_to reach from end f piece rest runs later before = (omega (arith, runs.0, later), before, runs.2, runs.3)

-- the values of a profile are below 2^120
value_sums : (reach : ℕ) (pieces : List Segment) → Follow reach pieces → (t : ℕ) → first_start reach pieces ≤ t → t < reach → IsSum (segments_value pieces t)
value_sums reach [] follow t after before = absurd (omega (arith, after, before))
value_sums reach (piece ∷ []) follow t after before = follow.1 t after before
value_sums reach (piece ∷ next ∷ rest) follow t after before = go (λ later. value_sums reach (next ∷ rest) follow.2 t later before) (nat_le next.from t) refl
  where
    go : (next.from ≤ t → IsSum (segments_value (next ∷ rest) t)) → (b : Bool) → nat_le next.from t ≡ b → IsSum (cond b (segments_value (next ∷ rest) t) (segment_value piece t))
    go there true e = there (grind arith)
    go there false e = follow.1 t after (grind arith)

pub segment_sums : (reach : ℕ) (pieces : List Segment) → AreSegments reach pieces → (t : ℕ) → t < reach → IsSum (segments_value pieces t)
segment_sums reach pieces are t before = value_sums reach pieces are.follow t (omega (arith, are.begin_at_zero (omega (arith, before)))) before
