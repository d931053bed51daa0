-- The segments before a reach give the value at each time below it.
use Rattle.std.proofs.Common.{◌≡◌, ℕ, zero, suc, ◌-◌, ◌*◌, ◌<◌, ◌≤◌, ℤ, pos, ◌*ℤ◌, Bool, true, false, cond, if◌then◌else◌, List, [], ◌∷◌, map, nat_le, nat_lt, refl, ap, ◌∙◌, arith}
use Rattle.std.proofs.lemmas.Grind.{common_steps}
use Rattle.std.proofs.lemmas.Int.{ints, unsigned_abs-mul}
use Rattle.std.proofs.lemmas.Nat.{mul-le}
use Rattle.std.proofs.lemmas.List.Elements.{All-cons, All-head, All-nil, All-tail}
use Rattle.std.specs.List.{All}
use Rattle.std.specs.Int.RustNames.{unsigned_abs}
use Rattle.aerie_base.specs.Ranges.{IsNumber, IsRate, time_limit}
use Rattle.windows.specs.declared.segments.Segment.{Segment}
use Rattle.windows.specs.Linear.{segment_value, segments_value, IsSum, Follow, AreSegments}
use Rattle.dataset_in.specs.Levels.{constant, before}
use Rattle.windows.specs.Begun.{StartsRise}
use Rattle.dataset_in.specs.Series.{AreStarts}

abbrev pub InRange : Segment → Type 0
InRange segment = IsNumber segment.value × IsRate segment.rate

-- no value of a segment below the last time leaves the sums
small : (segment : Segment) (t : ℕ) → InRange segment → t ≤ time_limit → IsSum (segment_value segment t)
small segment t range within =
    let product = unsigned_abs-mul segment.rate (pos (t - segment.from)) in
    let most = mul-le (unsigned_abs segment.rate) (unsigned_abs (pos (t - segment.from))) 1_000_000_000_000 time_limit range.1 (omega (arith, ints)) in
    let line : unsigned_abs (segment.rate *ℤ pos (t - segment.from)) ≤ 1_000_000_000_000_000_000_000_000_000 = omega (arith, product, most) in
    omega (arith, ints, line, range.0)

-- a segment that begins before the reach stays, and those behind it go by the reach
at_reach : (reach : ℕ) (segment : Segment) (rest : List Segment) → segment.from < reach → before reach (segment ∷ rest) ≡ segment ∷ before reach rest
at_reach reach segment rest below = let e : nat_lt segment.from reach ≡ true = grind (arith, common_steps) in rw e refl

past_reach : (reach : ℕ) (segment : Segment) (rest : List Segment) → reach ≤ segment.from → before reach (segment ∷ rest) ≡ []
past_reach reach segment rest past = let e : nat_lt segment.from reach ≡ false = grind (arith, common_steps) in rw e refl

below_reach : (reach t from : ℕ) → t < reach → nat_lt from reach ≡ false → nat_le from t ≡ false
below_reach reach t from below past = grind (arith, common_steps)

value_kept : (reach t : ℕ) (segment : Segment) (rest : List Segment) → t < reach → segments_value (segment ∷ before reach rest) t ≡ segments_value (segment ∷ rest) t
value_kept reach t segment [] below = refl
value_kept reach t segment (next ∷ rest) below = by_next (nat_lt next.from reach) refl (value_kept reach t next rest below) where
  by_next : (b : Bool) → nat_lt next.from reach ≡ b → segments_value (next ∷ before reach rest) t ≡ segments_value (next ∷ rest) t →
      segments_value (segment ∷ (if b then next ∷ before reach rest else [])) t ≡ segments_value (segment ∷ next ∷ rest) t
  by_next true e h = ap (λ v. cond (nat_le next.from t) v (segment_value segment t)) h
  by_next false e h = let later = below_reach reach t next.from below e in rw later refl

-- the value at each time below the reach stays
pub values_kept : (reach : ℕ) (segments : List Segment) → AreStarts (map (λ s. s.from) segments) → (t : ℕ) → t < reach →
    segments_value (before reach segments) t ≡ segments_value segments t
values_kept reach [] starts t below = refl
values_kept reach (first ∷ rest) starts t below =
    ap (λ l. segments_value l t) (at_reach reach first rest (omega (arith, starts.0))) ∙ value_kept reach t first rest below

follows_on : (reach : ℕ) (segment : Segment) (rest : List Segment) → segment.from < reach → StartsRise segment.from (map (λ s. s.from) rest) →
    All InRange (segment ∷ rest) → reach ≤ time_limit → Follow reach (segment ∷ before reach rest)
follows_on reach segment [] below rise ranges within =
    (below, (λ t a b. small segment t (All-head InRange segment [] ranges) (omega arith)), tt)
follows_on reach segment (next ∷ rest) below rise ranges within =
    by_next (nat_lt next.from reach) refl (λ here. follows_on reach next rest here rise.1 (All-tail InRange segment (next ∷ rest) ranges) within) where
      by_next : (b : Bool) → nat_lt next.from reach ≡ b → (next.from < reach → Follow reach (next ∷ before reach rest)) →
          Follow reach (segment ∷ (if b then next ∷ before reach rest else []))
      by_next true e more =
          let here : next.from < reach = grind (arith, common_steps) in
          (rise.0, (λ t a b. small segment t (All-head InRange segment (next ∷ rest) ranges) (omega (arith, here))), more here)
      by_next false e more = (below, (λ t a b. small segment t (All-head InRange segment (next ∷ rest) ranges) (omega arith)), tt)

-- and they are segments of a profile up to the reach
pub are_segments : (reach : ℕ) (segments : List Segment) → AreStarts (map (λ s. s.from) segments) → All InRange segments → reach ≤ time_limit →
    AreSegments reach (before reach segments)
are_segments reach [] starts ranges within = absurd starts
are_segments zero (first ∷ rest) starts ranges within =
    rw (past_reach 0 first rest (omega arith)) (record { begin_at_zero = λ some. absurd (omega (arith, some)); follow = tt })
are_segments (suc reach) (first ∷ rest) starts ranges within =
    rw (at_reach (suc reach) first rest (omega (arith, starts.0)))
    (record { begin_at_zero = λ some. starts.0; follow = follows_on (suc reach) first rest (omega (arith, starts.0)) starts.1 ranges within })

-- ---- whole numbers as segments

pub same_starts : (entries : List (ℕ × ℤ)) → map (λ s. s.from) (map constant entries) ≡ map (λ entry. entry.0) entries
same_starts [] = refl
same_starts (entry ∷ rest) = ap (λ l. entry.0 ∷ l) (same_starts rest)

pub constants_in_range : (entries : List (ℕ × ℤ)) → All (λ entry. IsNumber entry.1) entries → All InRange (map constant entries)
constants_in_range [] all = All-nil InRange
constants_in_range (entry ∷ rest) all =
    All-cons InRange (constant entry) (map constant rest) (All-head (λ (e : ℕ × ℤ). IsNumber e.1) entry rest all, omega arith)
    (constants_in_range rest (All-tail (λ (e : ℕ × ℤ). IsNumber e.1) entry rest all))
