-- Segments, one after another, and the times at which each compares so.
use Rattle.std.proofs.Common.{◌≡◌, ℕ, ◌+◌, ◌<◌, ◌≤◌, Bool, true, false, cond, ◌&&◌, ◌||◌, ℤ, List, [], ◌∷◌, length, drop, get_or, refl, sym, ap, subst, ◌∙◌, arith, add-one, nat_le}
use Rattle.std.proofs.Math.Seq.{drop-cons}
use Rattle.std.proofs.lemmas.List.{drop_all}
use Rattle.std.proofs.lemmas.Grind.{common_steps}
use Rattle.aerie_base.specs.declared.expressions.Comparison.{Comparison}
use Rattle.windows.specs.Times.{Interval, covers, contains, AreIntervals}
use Rattle.windows.specs.Joining.{last_start}
use Rattle.aerie_base.specs.expressions.Arithmetic.{compared}
use Rattle.windows.specs.Linear.{segment_value, segments_value, first_start, Follow, AreSegments, IsSum}
use Rattle.windows.specs.declared.segments.Segment.{Segment}
use Rattle.windows.specs.Crossing.{JoinsWhere}
use Rattle.windows.proofs.Builds.{Builds, builds_all}

-- whether one of the segments has the time, up to the next one, and its value there compares so
abbrev pub some_compared : ℕ → Comparison → ℤ → List Segment → ℕ → Bool
some_compared reach how with [] t = false
some_compared reach how with (segment ∷ rest) t = (covers (segment.from, first_start reach rest) t && compared how (segment_value segment t) with) || some_compared reach how with rest t

-- no segment has a time before the first one begins
none_earlier : (reach : ℕ) (how : Comparison) (with : ℤ) (segments : List Segment) (t : ℕ) → Follow reach segments → t < first_start reach segments → some_compared reach how with segments t ≡ false
none_earlier reach how with [] t follow before = refl
none_earlier reach how with (segment ∷ rest) t follow before =
    let next : segment.from < first_start reach rest = follow.0 in
    let after = none_earlier reach how with rest t follow.2 (omega arith) in
    let here : covers (segment.from, first_start reach rest) t ≡ false = grind (arith, common_steps) in
    ap (λ b. (b && compared how (segment_value segment t) with) || some_compared reach how with rest t) here ∙ after

or_false : (b : Bool) → (b || false) ≡ b
or_false true = refl
or_false false = refl

-- from the first segment on that is the comparison of the value
compared_at : (reach : ℕ) (how : Comparison) (with : ℤ) (segments : List Segment) (t : ℕ) → Follow reach segments → first_start reach segments ≤ t → t < reach →
    some_compared reach how with segments t ≡ compared how (segments_value segments t) with
compared_at reach how with [] t follow after below = absurd (omega arith)
compared_at reach how with (segment ∷ []) t follow after below =
    let here : covers (segment.from, reach) t ≡ true = grind (arith, common_steps) in
    ap (λ b. (b && compared how (segment_value segment t) with) || false) here ∙ or_false (compared how (segment_value segment t) with)
compared_at reach how with (segment ∷ next ∷ rest) t follow after below = by_next (nat_le next.from t) refl (λ later. compared_at reach how with (next ∷ rest) t follow.2 later below)
  where
    by_next : (b : Bool) → nat_le next.from t ≡ b → (next.from ≤ t → some_compared reach how with (next ∷ rest) t ≡ compared how (segments_value (next ∷ rest) t) with) →
        some_compared reach how with (segment ∷ next ∷ rest) t ≡ compared how (segments_value (segment ∷ next ∷ rest) t) with
    by_next true e later =
        let passed : covers (segment.from, next.from) t ≡ false = grind (arith, common_steps) in
        ap (λ b. (b && compared how (segment_value segment t) with) || some_compared reach how with (next ∷ rest) t) passed
        ∙ (later (grind arith) ∙ ap (λ b. compared how (cond b (segments_value (next ∷ rest) t) (segment_value segment t)) with) (sym e))
    by_next false e later =
        let before : t < next.from = grind arith in
        let here : covers (segment.from, next.from) t ≡ true = grind (arith, common_steps) in
        let none : some_compared reach how with (next ∷ rest) t ≡ false = none_earlier reach how with (next ∷ rest) t follow.2 before in
        ap (λ b. (b && compared how (segment_value segment t) with) || some_compared reach how with (next ∷ rest) t) here
        ∙ (ap (λ b. compared how (segment_value segment t) with || b) none
        ∙ (or_false (compared how (segment_value segment t) with)
        ∙ ap (λ b. compared how (cond b (segments_value (next ∷ rest) t) (segment_value segment t)) with) (sym e)))

-- what the loop keeps
pub record Follows (reach : ℕ) (how : Comparison) (with : ℤ) (made : List Interval) (rest : List Segment) (whole : ℕ → Bool) : Type 0 where
  pub builds : Builds reach made (some_compared reach how with rest) whole
  pub follow : Follow reach rest
  pub start : last_start made ≤ first_start reach rest

start_within : (reach : ℕ) (segments : List Segment) → Follow reach segments → first_start reach segments ≤ reach
start_within reach [] follow = omega arith
start_within reach (segment ∷ rest) follow = let next = follow.0 in let later = start_within reach rest follow.2 in omega arith

pub follows_none : (reach : ℕ) (how : Comparison) (with : ℤ) (segments : List Segment) → AreSegments reach segments → Follows reach how with [] segments (λ t. compared how (segments_value segments t) with)
follows_none reach how with segments are = record {
  builds = record {
    in_order = tt;
    times = λ t below. compared_at reach how with segments t are.follow (let zero_first = are.begin_at_zero (omega arith) in omega arith) below;
  };
  follow = are.follow;
  start = omega arith;
}

cut_at : (segments : List Segment) (i : ℕ) (segment : Segment) → i < length segments → segment ≡ get_or segments i segment → drop i segments ≡ segment ∷ drop (i + 1) segments
cut_at segments i segment within is = rw (add-one, is) (drop-cons segments i segment within)

-- what the next segment is known to be
pub record IsNext (made : List Interval) (segment : Segment) (end : ℕ) : Type 0 where
  pub order : last_start made ≤ segment.from
  pub span : segment.from < end
  pub values : (t : ℕ) → segment.from ≤ t → t < end → IsSum (segment_value segment t)

pub follows_next : (reach i : ℕ) (how : Comparison) (with : ℤ) (made : List Interval) (segments : List Segment) (segment : Segment) (end : ℕ) (whole : ℕ → Bool) → i < length segments → segment ≡ get_or segments i segment →
    end ≡ first_start reach (drop (i + 1) segments) → Follows reach how with made (drop i segments) whole → IsNext made segment end
follows_next reach i how with made segments segment end whole within is end_is before =
    let cut = cut_at segments i segment within is in
    let follow : Follow reach (segment ∷ drop (i + 1) segments) = rw cut at before.follow in
    let start : last_start made ≤ segment.from = rw cut at before.start in
    rw end_is (record { order = start; span = follow.0; values = follow.1 })

or_assoc : (a b c : Bool) → ((a || b) || c) ≡ (a || (b || c))
or_assoc true b c = refl
or_assoc false b c = refl

pub follows_more : (reach i : ℕ) (how : Comparison) (with : ℤ) (made new : List Interval) (segments : List Segment) (segment : Segment) (end : ℕ) (whole : ℕ → Bool) → i < length segments → segment ≡ get_or segments i segment →
    end ≡ first_start reach (drop (i + 1) segments) → Follows reach how with made (drop i segments) whole → JoinsWhere made segment.from end (λ t. compared how (segment_value segment t) with) new →
    Follows reach how with new (drop (i + 1) segments) whole
follows_more reach i how with made new segments segment end whole within is end_is before joins =
    let rest = drop (i + 1) segments in
    let cut = cut_at segments i segment within is in
    let follow : Follow reach (segment ∷ rest) = rw cut at before.follow in
    record {
      builds = record {
        in_order = joins.in_order reach before.builds.in_order (rw end_is (start_within reach rest follow.2));
        times = λ t below.
            ap (λ b. b || some_compared reach how with rest t) (joins.times t)
            ∙ (or_assoc (contains made t) (covers (segment.from, end) t && compared how (segment_value segment t) with) (some_compared reach how with rest t)
            ∙ (ap (λ n. contains made t || ((covers (segment.from, n) t && compared how (segment_value segment t) with) || some_compared reach how with rest t)) end_is
            ∙ (ap (λ (l : List Segment). contains made t || some_compared reach how with l t) (sym cut)
            ∙ before.builds.times t below)));
      };
      follow = follow.2;
      start = rw (← end_is) joins.start;
    }

-- no segment is left
pub follows_all : (reach i : ℕ) (how : Comparison) (with same : ℤ) (made : List Interval) (segments : List Segment) → length segments ≤ i → with ≡ same →
    Follows reach how with made (drop i segments) (λ t. compared how (segments_value segments t) with) → AreIntervals reach (λ t. compared how (segments_value segments t) same) made
follows_all reach i how with same made segments past is before =
    subst (λ (z : ℤ). AreIntervals reach (λ t. compared how (segments_value segments t) z) made) is
    (builds_all reach made (some_compared reach how with (drop i segments)) (λ t. compared how (segments_value segments t) with) before.builds
    (λ t below. ap (λ (l : List Segment). some_compared reach how with l t) (drop_all i segments past)))
