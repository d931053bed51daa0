-- What straight pieces give: the sum at each time and its rate, in as few pieces as can be.
use Rattle.std.proofs.Common.{◌≡◌, ℕ, zero, suc, ◌-◌, ◌<◌, ◌≤◌, ℤ, pos, ◌+ℤ◌, Bool, true, false, not, cond, ◌&&◌, List, [], ◌∷◌, length, map, nat_le, Option, Some, IfSome, option_map, unwrap_or, refl, sym, ap, subst, ◌∙◌, arith}
use Rattle.std.specs.Ordering.{int_eq}
use Rattle.std.proofs.lemmas.Bool.{false≢true, leb-true, le-leb, lt-leb}
use Rattle.std.proofs.lemmas.Int.{ints}
use Rattle.std.proofs.lemmas.List.{length-map}
use Rattle.std.proofs.Math.IntN.{*ℤ-zero}
use Rattle.windows.specs.declared.segments.Segment.{Segment}
use Rattle.windows.specs.Linear.{AreSegments, Follow, IsSum, first_start, segment_value, segments_value}
use Rattle.profiles.specs.Neighbours.{DivideTime, EachNext, RiseUpTo, ChangesLine, first_start_of}
use Rattle.windows.specs.Begun.{last_begun, HaveBegun}
use Rattle.profiles.specs.Samples.{IsLineAt}
use Rattle.profiles.specs.Segments.{times_where, begins_line, line_segments}
use Rattle.profiles.proofs.FewestStarts.{is_start, no_fewer, still_last, starts_at_zero}
use Rattle.profiles.proofs.Segmenting.{one_later, same_number}
use Rattle.aerie_base.specs.SameValues.{numbers_are}
use Rattle.profiles.proofs.SegmentValues.{starts_are, last_mapped, count_is, each_next_mapped, not_true}
use Rattle.windows.specs.BegunLaws.{linear_is}
use Rattle.profiles.proofs.StartTimes.{last_where, last_within, last_are, begun_below, each_next, divide_time}

-- the piece that has begun
has_begun : (segments : List Segment) (t : ℕ) (line : Segment) → HaveBegun t (map (λ segment. segment.from) segments) → last_begun (λ segment. segment.from) segments t ≡ Some line → line.from ≤ t
has_begun [] t line begun is = absurd begun
has_begun (a ∷ []) t line begun is = let same : a ≡ line = cc in subst (λ (s : Segment). s.from ≤ t) same begun.0
has_begun (a ∷ b ∷ rest) t line begun is = by (nat_le b.from t) refl is (λ here later. has_begun (b ∷ rest) t line (here, begun.1.1) later)
  where
    by : (c : Bool) → nat_le b.from t ≡ c → cond c (last_begun (λ (segment : Segment). segment.from) (b ∷ rest) t) (Some a) ≡ Some line →
        (b.from ≤ t → last_begun (λ (segment : Segment). segment.from) (b ∷ rest) t ≡ Some line → line.from ≤ t) → line.from ≤ t
    by true e is further = further (leb-true b.from t e) is
    by false e is further = let same : a ≡ line = cc in subst (λ (s : Segment). s.from ≤ t) same begun.0

some_begun : (segments : List Segment) (t : ℕ) → HaveBegun t (map (λ segment. segment.from) segments) →
    (line : Segment) × (last_begun (λ segment. segment.from) segments t ≡ Some line)
some_begun [] t begun = absurd begun
some_begun (a ∷ []) t begun = (a, refl)
some_begun (a ∷ b ∷ rest) t begun = by (nat_le b.from t) refl (λ here. some_begun (b ∷ rest) t (here, begun.1.1))
  where
    by : (c : Bool) → nat_le b.from t ≡ c → (b.from ≤ t → (line : Segment) × (last_begun (λ (segment : Segment). segment.from) (b ∷ rest) t ≡ Some line)) →
        (line : Segment) × (cond c (last_begun (λ (segment : Segment). segment.from) (b ∷ rest) t) (Some a) ≡ Some line)
    by true e further = further (leb-true b.from t e)
    by false e further = (a, refl)

-- ---- segments in range, by the last that has begun

some_same : (a b : Segment) → Some a ≡ Some b → a ≡ b
some_same a b e = cc

starts_first : (reach : ℕ) (segments : List Segment) → first_start_of reach (map (λ segment. segment.from) segments) ≡ 0 → first_start reach segments ≡ 0
starts_first reach [] e = e
starts_first reach (a ∷ rest) e = e

below_reach : (reach : ℕ) (a : ℕ) (rest : List ℕ) → RiseUpTo reach (a ∷ rest) → a < reach
below_reach reach a [] rise = rise.0
below_reach reach a (b ∷ rest) rise = let next = below_reach reach b rest rise.1 in omega (arith, next, rise.0)

follow_from : (reach : ℕ) (a : Segment) (rest : List Segment) → RiseUpTo reach (map (λ segment. segment.from) (a ∷ rest)) →
    ((t : ℕ) (line : Segment) → t < reach → a.from ≤ t → last_begun (λ segment. segment.from) (a ∷ rest) t ≡ Some line → IsSum (segment_value line t)) →
    Follow reach (a ∷ rest)
follow_from reach a [] rise good = (rise.0, (λ t from before. good t a before from refl), tt)
follow_from reach a (b ∷ rest) rise good =
    let below : b.from < reach = below_reach reach b.from (map (λ (segment : Segment). segment.from) rest) rise.1 in (
      rise.0,
      (λ t from before.
          good t a (omega (arith, below, before)) from (ap (λ c. cond c (last_begun (λ (segment : Segment). segment.from) (b ∷ rest) t) (Some a)) (lt-leb b.from t before))),
      follow_from reach b rest rise.1
          (λ t line before from is.
          good t line before (omega (arith, rise.0, from)) (ap (λ c. cond c (last_begun (λ (segment : Segment). segment.from) (b ∷ rest) t) (Some a)) (le-leb b.from t from) ∙ is)),
    )

follow_all : (reach : ℕ) (segments : List Segment) → RiseUpTo reach (map (λ segment. segment.from) segments) →
    ((t : ℕ) (line : Segment) → t < reach → last_begun (λ segment. segment.from) segments t ≡ Some line → IsSum (segment_value line t)) → Follow reach segments
follow_all reach [] rise good = tt
follow_all reach (a ∷ rest) rise good = follow_from reach a rest rise (λ t line below from is. good t line below is)

-- ---- one value with its rate

module _ (value rate : ℕ → ℤ) where
  abbrev pub line_at : ℕ → Segment
  line_at t = record { from = t; value = value t; rate = rate t }

  abbrev test : ℕ → Bool
  test = begins_line value rate

  no_time : (s : ℕ) → value s ≡ segment_value (line_at s) s
  no_time s =
      let none : s - s ≡ 0 = omega arith in
      let still = *ℤ-zero (rate s) in
      rw none (omega (arith, ints, still))

  -- since the last start it is one straight piece
  since_start : (t : ℕ) → (segment_value (line_at (last_where test t)) t ≡ value t) × (rate (last_where test t) ≡ rate t)
  since_start zero = (sym (no_time 0), refl)
  since_start (suc t) = by (begins_line value rate (suc t)) refl (since_start t)
    where
      both : (a b : Bool) → not (a && b) ≡ false → (a ≡ true) × (b ≡ true)
      both a b h = (grind arith, grind arith)

      by : (b : Bool) → begins_line value rate (suc t) ≡ b →
          (segment_value (line_at (last_where test t)) t ≡ value t) × (rate (last_where test t) ≡ rate t) →
          (segment_value (line_at (cond b (suc t) (last_where test t))) (suc t) ≡ value (suc t)) × (rate (cond b (suc t) (last_where test t)) ≡ rate (suc t))
      by true e before = (sym (no_time (suc t)), refl)
      by false e before =
          let goes_on = both (int_eq (value t +ℤ rate t) (value (suc t))) (int_eq (rate t) (rate (suc t))) e in
          let value_is : value t +ℤ rate t ≡ value (suc t) = numbers_are _ _ goes_on.0 in
          let rate_is : rate t ≡ rate (suc t) = numbers_are _ _ goes_on.1 in (
            sym (one_later (line_at (last_where test t)) t (last_within test t))
                ∙ (ap (λ (z : ℤ). z +ℤ rate (last_where test t)) before.0 ∙ (ap (λ (z : ℤ). value t +ℤ z) before.1 ∙ value_is)),
            before.1 ∙ rate_is,
          )

  lines_begun : (reach t : ℕ) → t < reach → HaveBegun t (map (λ segment. segment.from) (line_segments value rate reach))
  lines_begun reach t below =
      subst (HaveBegun t) (sym (starts_are (λ (segment : Segment). segment.from) line_at (λ t. refl) (times_where test reach)))
      (begun_below test refl reach t below)

  last_line : (reach t : ℕ) → t < reach → last_begun (λ segment. segment.from) (line_segments value rate reach) t ≡ Some (line_at (last_where test t))
  last_line reach t below =
      last_mapped (λ (segment : Segment). segment.from) line_at (λ t. refl) (times_where test reach) t
      ∙ ap (option_map line_at) (last_are test refl reach t below)

  pub sum_given : (reach t : ℕ) → t < reach → segments_value (line_segments value rate reach) t ≡ value t
  sum_given reach t below =
      sym (linear_is (line_segments value rate reach) t (line_at (last_where test t)) (sym (last_line reach t below))) ∙ (since_start t).0

  pub slope_given : (reach t : ℕ) → t < reach →
      unwrap_or (option_map (λ segment. segment.rate) (last_begun (λ segment. segment.from) (line_segments value rate reach) t)) (pos 0) ≡ rate t
  slope_given reach t below =
      ap (λ (o : Option Segment). unwrap_or (option_map (λ segment. segment.rate) o) (pos 0)) (last_line reach t below) ∙ (since_start t).1

  pub lines_sampled : (reach t : ℕ) → ((t : ℕ) → t < reach → IsSum (value t)) → t < reach → IsLineAt (line_segments value rate reach) t
  lines_sampled reach t sums below = record {
    starts = lines_begun reach t below;
    value = subst (λ (o : Option Segment). IfSome o (λ segment. IsSum segment.value)) (sym (last_line reach t below))
        (sums (last_where test t) (let within = last_within test t in omega (arith, within, below)));
    given = subst IsSum (sym (sum_given reach t below)) (sums t below);
  }

  pub lines_divide : (reach : ℕ) → DivideTime reach (map (λ segment. segment.from) (line_segments value rate reach))
  lines_divide reach =
      subst (DivideTime reach) (sym (starts_are (λ (segment : Segment). segment.from) line_at (λ t. refl) (times_where test reach)))
      (divide_time test refl reach)

  pub lines_change : (reach : ℕ) → EachNext ChangesLine (line_segments value rate reach)
  lines_change reach =
      each_next_mapped (λ (segment : Segment). segment.from) line_at (λ t. refl) ChangesLine (times_where test reach)
      (each_next (λ a b. ChangesLine (line_at a) (line_at b)) test refl change reach)
    where
      change : (t : ℕ) → begins_line value rate (suc t) ≡ true → ChangesLine (line_at (last_where test t)) (line_at (suc t))
      change t begins same_value same_rate =
          let before = since_start t in
          let goes_on : value t +ℤ rate t ≡ value (suc t) =
          ap (λ (z : ℤ). z +ℤ rate t) (sym before.0)
          ∙ (ap (λ (z : ℤ). segment_value (line_at (last_where test t)) t +ℤ z) (sym before.1)
          ∙ (one_later (line_at (last_where test t)) t (last_within test t) ∙ same_value)) in
          let still : rate t ≡ rate (suc t) = sym before.1 ∙ same_rate in
          false≢true
          (sym (not_true (int_eq (value t +ℤ rate t) (value (suc t)) && int_eq (rate t) (rate (suc t))) begins)
          ∙ (ap (λ b. b && int_eq (rate t) (rate (suc t))) (same_number (value t +ℤ rate t) (value (suc t)) goes_on)
          ∙ same_number (rate t) (rate (suc t)) still))

  -- no other pieces that give the value and the rate are fewer
  module _ (reach : ℕ) (others : List Segment)
      (given : (t : ℕ) → t < reach → HaveBegun t (map (λ segment. segment.from) others) × (segments_value others t ≡ value t)
      × (unwrap_or (option_map (λ segment. segment.rate) (last_begun (λ segment. segment.from) others t)) (pos 0) ≡ rate t)) where
    starts_there : (t : ℕ) → t < reach → begins_line value rate t ≡ true → is_start t (map (λ segment. segment.from) others) ≡ true
    starts_there zero below begins = starts_at_zero (map (λ segment. segment.from) others) (given 0 below).0
    starts_there (suc t) below begins = by (is_start (suc t) (map (λ segment. segment.from) others)) refl
      where
        by : (b : Bool) → is_start (suc t) (map (λ segment. segment.from) others) ≡ b → b ≡ true
        by true e = refl
        by false e =
            let now = given (suc t) below in
            let then = given t (omega arith) in
            let last = still_last (λ (segment : Segment). segment.from) others t e in
            let some = some_begun others t then.0 in
            let line : Segment = some.0 in
            let from : line.from ≤ t = has_begun others t line then.0 some.1 in
            let value_then : segment_value line t ≡ value t = linear_is others t line (sym some.1) ∙ then.1 in
            let value_now : segment_value line (suc t) ≡ value (suc t) = linear_is others (suc t) line (sym (last ∙ some.1)) ∙ now.1 in
            let rate_then : line.rate ≡ rate t = sym (ap (λ (o : Option Segment). unwrap_or (option_map (λ segment. segment.rate) o) (pos 0)) some.1) ∙ then.2 in
            let rate_now : line.rate ≡ rate (suc t) = sym (ap (λ (o : Option Segment). unwrap_or (option_map (λ segment. segment.rate) o) (pos 0)) (last ∙ some.1)) ∙ now.2 in
            let goes_on : value t +ℤ rate t ≡ value (suc t) =
            ap (λ (z : ℤ). z +ℤ rate t) (sym value_then)
            ∙ (ap (λ (z : ℤ). segment_value line t +ℤ z) (sym rate_then) ∙ (one_later line t from ∙ value_now)) in
            let still : rate t ≡ rate (suc t) = sym rate_then ∙ rate_now in
            absurd (false≢true
            (sym (not_true (int_eq (value t +ℤ rate t) (value (suc t)) && int_eq (rate t) (rate (suc t))) begins)
            ∙ (ap (λ b. b && int_eq (rate t) (rate (suc t))) (same_number (value t +ℤ rate t) (value (suc t)) goes_on)
            ∙ same_number (rate t) (rate (suc t)) still)))

    pub fewest_lines : length (line_segments value rate reach) ≤ length others
    fewest_lines =
        let count = count_is (λ (segment : Segment). segment.from) line_at (λ t. refl) (times_where test reach) in
        let fewest = no_fewer test (map (λ segment. segment.from) others) reach starts_there in
        let others_count = length-map others (λ (segment : Segment). segment.from) in
        omega (arith, count, fewest, others_count)

  pub lines_follow : (reach : ℕ) → ((t : ℕ) → t < reach → IsSum (value t)) → AreSegments reach (line_segments value rate reach)
  lines_follow reach sums = record {
    begin_at_zero = λ some. starts_first reach (line_segments value rate reach) ((lines_divide reach).begin_at_zero some);
    follow = follow_all reach (line_segments value rate reach) (lines_divide reach).rise
        (λ t line below is.
        let same : line ≡ line_at (last_where test t) = some_same line (line_at (last_where test t)) (sym is ∙ last_line reach t below) in
        subst IsSum (sym (ap (λ (s : Segment). segment_value s t) same ∙ (since_start t).0)) (sums t below));
  }
