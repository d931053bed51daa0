-- A sweep over spans in the order of their starts keeps those that cover a time.
use Rattle.std.proofs.Common.{◌≡◌, ◌∙◌, ℕ, zero, suc, ◌+◌, ◌<◌, ◌≤◌, Bool, true, false, ◌&&◌, List, [], ◌∷◌, ◌++◌, ap, arith, cond, drop, get_or, length, map, nat_eq, nat_le, nat_lt, refl, subst, sym, take, unwrap_or}
use Rattle.std.proofs.lemmas.Grind.{common_steps}
use Rattle.std.proofs.lemmas.List.{take_more}
use Rattle.std.specs.List.{filter}
use Rattle.constraints.specs.Meeting.{ByStart, StartBehind}
use Rattle.constraints.specs.Violating.{is_on}
use Rattle.run_data.specs.Spans.{SpanOf}
use Rattle.span_table.specs.AsDefined.{defined_span}
use Rattle.span_table.specs.declared.span.Span.{Span}
use Rattle.windows.specs.Times.{InOrder, Interval}
use Rattle.findings.specs.MeetingPairs.{paths_on}
use Rattle.findings.specs.PairSweep.{Rising, StopsAt, ending_after, ends_after, lasting_of, paths_begun, still_lasting}
use Rattle.findings.specs.declared.pairs.Lasting.{Lasting}

module _ (reach kind : ℕ) where
  -- ---- those that end later

  module _ (t later : ℕ) (order : t ≤ later) where
    over : (end : ℕ) → nat_lt t end ≡ false → nat_lt later end ≡ true → ⊥
    over end was is =
        let above : end ≤ t = grind arith in
        let below : later < end = grind arith in
        omega (arith, above, below, order)

    pub still_are : (spans : List SpanOf) → still_lasting later (ending_after reach kind t spans) ≡ ending_after reach kind later spans
    still_are [] = refl
    still_are (span ∷ rest) = go (still_are rest) (nat_eq span.kind kind) (nat_lt t (unwrap_or span.end reach)) (nat_lt later (unwrap_or span.end reach)) refl refl
      where
        go : still_lasting later (ending_after reach kind t rest) ≡ ending_after reach kind later rest → (a b c : Bool) → nat_lt t (unwrap_or span.end reach) ≡ b → nat_lt later (unwrap_or span.end reach) ≡ c →
            still_lasting later (map (lasting_of reach) (cond (a && b) (span ∷ filter (ends_after reach kind t) rest) (filter (ends_after reach kind t) rest)))
            ≡ map (lasting_of reach) (cond (a && c) (span ∷ filter (ends_after reach kind later) rest) (filter (ends_after reach kind later) rest))
        go same false b c was is = same
        go same true true true was is = rw (is) (ap (λ (l : List Lasting). lasting_of reach span ∷ l) (same))
        go same true true false was is = rw (is) (same)
        go same true false true was is = absurd (over (unwrap_or span.end reach) was is)
        go same true false false was is = same

  -- ---- one span more

  module _ (t : ℕ) where
    ending_append : (spans : List Span) (one : Span) →
        ending_after reach kind t (map defined_span (spans ++ (one ∷ []))) ≡ ending_after reach kind t (map defined_span spans) ++ ending_after reach kind t (defined_span one ∷ [])
    ending_append [] one = refl
    ending_append (span ∷ rest) one = go (ending_append rest one) (ends_after reach kind t (defined_span span))
      where
        all : List SpanOf
        all = filter (ends_after reach kind t) (map defined_span (rest ++ (one ∷ [])))

        some : List SpanOf
        some = filter (ends_after reach kind t) (map defined_span rest)

        last : List Lasting
        last = ending_after reach kind t (defined_span one ∷ [])

        go : map (lasting_of reach) all ≡ map (lasting_of reach) some ++ last → (b : Bool) →
            map (lasting_of reach) (cond b (defined_span span ∷ all) all) ≡ map (lasting_of reach) (cond b (defined_span span ∷ some) some) ++ last
        go same true = ap (λ (l : List Lasting). lasting_of reach (defined_span span) ∷ l) same
        go same false = same

    pub one_more : (spans : List Span) (number : ℕ) (span : Span) (before after : List Lasting) → number < length spans → span ≡ get_or spans number span →
        after ≡ before ++ ending_after reach kind t (defined_span span ∷ []) → before ≡ ending_after reach kind t (map defined_span (take number spans)) →
        after ≡ ending_after reach kind t (map defined_span (take (number + 1) spans))
    one_more spans number span before after within is put so_far =
        put
        ∙ ap (λ (l : List Lasting). l ++ ending_after reach kind t (defined_span span ∷ [])) so_far
        ∙ sym (ending_append (take number spans) span)
        ∙ ap (λ (l : List Span). ending_after reach kind t (map defined_span l)) (ap (λ (s : Span). take number spans ++ (s ∷ [])) is ∙ sym (take_more spans number span within))

  -- ---- those that have begun

  module _ (t : ℕ) where
    pub begun_are : (spans : List SpanOf) → paths_begun t (ending_after reach kind t spans) ≡ paths_on reach kind t spans
    begun_are [] = refl
    begun_are (span ∷ rest) = go (begun_are rest) (nat_eq span.kind kind) (nat_le span.start t) (nat_lt t (unwrap_or span.end reach)) refl
      where
        go : paths_begun t (ending_after reach kind t rest) ≡ paths_on reach kind t rest → (a b c : Bool) → nat_le span.start t ≡ b →
            paths_begun t (map (lasting_of reach) (cond (a && c) (span ∷ filter (ends_after reach kind t) rest) (filter (ends_after reach kind t) rest)))
            ≡ map (λ one. one.path) (cond (a && (b && c)) (span ∷ filter (is_on reach kind t) rest) (filter (is_on reach kind t) rest))
        go same false b c is = same
        go same true true true is = rw (is) (ap (λ (l : List (List ℕ)). span.path ∷ l) (same))
        go same true false true is = rw (is) (same)
        go same true true false is = same
        go same true false false is = same

    lower : (a b : ℕ) (spans : List SpanOf) → a ≤ b → StartBehind b spans → StartBehind a spans
    lower a b [] below behind = tt
    lower a b (span ∷ rest) below behind = (omega (arith, below, behind.0), lower a b rest below behind.1)

    none_begun : (spans : List SpanOf) → StartBehind (t + 1) spans → paths_on reach kind t spans ≡ []
    none_begun [] behind = refl
    none_begun (span ∷ rest) behind = go (none_begun rest behind.1) (nat_eq span.kind kind) (nat_le span.start t) (nat_lt t (unwrap_or span.end reach)) refl
      where
        later : t + 1 ≤ span.start
        later = behind.0

        go : paths_on reach kind t rest ≡ [] → (a b c : Bool) → nat_le span.start t ≡ b →
            map (λ one. one.path) (cond (a && (b && c)) (span ∷ filter (is_on reach kind t) rest) (filter (is_on reach kind t) rest)) ≡ []
        go none a true c is = let no : span.start ≤ t = grind arith in absurd (omega (arith, no, later))
        go none false false c is = none
        go none true false c is = none

    -- all that cover the time are among the first ones, up to the first that starts later
    pub all_begun : (number : ℕ) (spans : List Span) → ByStart (map defined_span spans) → StopsAt t number spans →
        paths_on reach kind t (map defined_span (take number spans)) ≡ paths_on reach kind t (map defined_span spans)
    all_begun zero [] order stops = refl
    all_begun zero (span ∷ rest) order stops =
        sym (none_begun (defined_span span ∷ map defined_span rest) (omega (arith, stops), lower (t + 1) span.start (map defined_span rest) (omega (arith, stops)) order.0))
    all_begun (suc number) [] order stops = refl
    all_begun (suc number) (span ∷ rest) order stops = go (all_begun number rest order.1 stops) (is_on reach kind t (defined_span span))
      where
        first : List SpanOf
        first = filter (is_on reach kind t) (map defined_span (take number rest))

        all : List SpanOf
        all = filter (is_on reach kind t) (map defined_span rest)

        go : map (λ one. one.path) first ≡ map (λ one. one.path) all → (b : Bool) →
            map (λ one. one.path) (cond b (defined_span span ∷ first) first) ≡ map (λ one. one.path) (cond b (defined_span span ∷ all) all)
        go same true = ap (λ (l : List (List ℕ)). span.path ∷ l) same
        go same false = same

-- ---- where a sweep stops

pub stops_there : (t number : ℕ) (spans : List Span) (span : Span) → span ≡ get_or spans number span → number < length spans → t < span.start → StopsAt t number spans
stops_there t number [] span is within later = tt
stops_there t zero (first ∷ rest) span is within later = subst (λ (s : Span). t < s.start) is later
stops_there t (suc number) (first ∷ rest) span is within later = stops_there t number rest span is (omega (arith, within)) later

pub stops_behind : (t : ℕ) (spans : List Span) → StopsAt t (length spans) spans
stops_behind t [] = tt
stops_behind t (span ∷ rest) = stops_behind t rest

-- ---- intervals that rise

pub rising_in_order : (reach from time : ℕ) (intervals : List Interval) → time ≤ from → InOrder reach from intervals → Rising time intervals
rising_in_order reach from time [] below order = tt
rising_in_order reach from time (interval ∷ rest) below order =
    let starts = order.0 in
    let longer = order.1 in
    (omega (arith, below, starts), rising_in_order reach (interval.1 + 1) interval.0 rest (omega (arith, longer)) order.3)
