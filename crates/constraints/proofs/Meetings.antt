-- The times that the sweep over spans finds are those at which spans of the two types meet.
use Rattle.std.proofs.Common.{◌≡◌, ℕ, ◌≤◌, min, max, Bool, true, false, not, ◌&&◌, ◌||◌, List, [], ◌∷◌, refl, sym, ap, ◌∙◌, arith, nat_lt, nat_eq, if◌then◌else◌}
use Rattle.std.specs.List.{list_any}
use Rattle.std.proofs.lemmas.Grind.{common_steps}
use Rattle.std.proofs.lemmas.List.Folds.{list_any-append}
use Rattle.run_data.specs.Spans.{SpanOf, same_path}
use Rattle.windows.specs.Times.{covers, contains}
use Rattle.constraints.specs.declared.meeting.Ends.{Ends}
use Rattle.constraints.specs.Holding.{times_of}
use Rattle.constraints.specs.Meeting.{StartBehind, ByStart, NoneHasPath, HaveOwnPaths, no_ends, ends_with, times_if, meetings_of, swept}
use Rattle.constraints.specs.Violating.{is_on, another_is_on, meet}

regrouped : (oa ia t1 t2 po pi p : Bool) →
    (((oa && t1) || (ia && t2)) || (((po && (t1 || ia)) || (pi && (t2 || oa))) || p)) ≡ ((((oa || po) && t1) || ((ia || pi) && t2)) || ((ia && po) || ((oa && pi) || p)))
regrouped true true true true true true p = refl
regrouped true true true true true false p = refl
regrouped true true true true false true p = refl
regrouped true true true true false false p = refl
regrouped true true true false true true p = refl
regrouped true true true false true false p = refl
regrouped true true true false false true p = refl
regrouped true true true false false false p = refl
regrouped true true false true true true p = refl
regrouped true true false true true false p = refl
regrouped true true false true false true p = refl
regrouped true true false true false false p = refl
regrouped true true false false true true p = refl
regrouped true true false false true false p = refl
regrouped true true false false false true p = refl
regrouped true true false false false false p = refl
regrouped true false true true true true p = refl
regrouped true false true true true false p = refl
regrouped true false true true false true p = refl
regrouped true false true true false false p = refl
regrouped true false true false true true p = refl
regrouped true false true false true false p = refl
regrouped true false true false false true p = refl
regrouped true false true false false false p = refl
regrouped true false false true true true p = refl
regrouped true false false true true false p = refl
regrouped true false false true false true p = refl
regrouped true false false true false false p = refl
regrouped true false false false true true p = refl
regrouped true false false false true false p = refl
regrouped true false false false false true p = refl
regrouped true false false false false false p = refl
regrouped false true true true true true p = refl
regrouped false true true true true false p = refl
regrouped false true true true false true p = refl
regrouped false true true true false false p = refl
regrouped false true true false true true p = refl
regrouped false true true false true false p = refl
regrouped false true true false false true p = refl
regrouped false true true false false false p = refl
regrouped false true false true true true p = refl
regrouped false true false true true false p = refl
regrouped false true false true false true p = refl
regrouped false true false true false false p = refl
regrouped false true false false true true p = refl
regrouped false true false false true false p = refl
regrouped false true false false false true p = refl
regrouped false true false false false false p = refl
regrouped false false true true true true p = refl
regrouped false false true true true false p = refl
regrouped false false true true false true p = refl
regrouped false false true true false false p = refl
regrouped false false true false true true p = refl
regrouped false false true false true false p = refl
regrouped false false true false false true p = refl
regrouped false false true false false false p = refl
regrouped false false false true true true p = refl
regrouped false false false true true false p = refl
regrouped false false false true false true p = refl
regrouped false false false true false false p = refl
regrouped false false false false true true p = refl
regrouped false false false false true false p = refl
regrouped false false false false false true p = refl
regrouped false false false false false false p = refl

module _ (reach one other t : ℕ) where
  abbrev any : ℕ → List SpanOf → Bool
  any kind spans = list_any (is_on reach kind t) spans

  -- a span of the one type before one of the other in the list, or the other way round, both covering the time
  abbrev pairs : List SpanOf → Bool
  pairs [] = false
  pairs (span ∷ rest) = (is_on reach one t span && any other rest) || ((is_on reach other t span && any one rest) || pairs rest)

  -- ---- the sweep finds the pairs

  by_then : (kind start : ℕ) (spans : List SpanOf) → StartBehind start spans → any kind spans ≡ true → start ≤ t
  by_then kind start [] behind some = absurd (grind (arith, common_steps))
  by_then kind start (span ∷ rest) behind some = go (λ later. by_then kind start rest behind.1 later) (is_on reach kind t span) refl some
    where
      go : (any kind rest ≡ true → start ≤ t) → (b : Bool) → is_on reach kind t span ≡ b → (b || any kind rest) ≡ true → start ≤ t
      go there true e some =
          let first = behind.0 in
          let on : span.start ≤ t = grind (arith, common_steps) in
          omega (arith, first, on)
      go there false e some = there some

  -- a part of what a span adds
  part : (kind end : ℕ) (span : SpanOf) → contains (times_if (nat_eq span.kind kind) (span.start, min (times_of reach span).1 end)) t ≡ (is_on reach kind t span && nat_lt t end)
  part kind end span = go (nat_eq span.kind kind) refl
    where
      go : (b : Bool) → nat_eq span.kind kind ≡ b → contains (times_if b (span.start, min (times_of reach span).1 end)) t ≡ ((b && covers (times_of reach span) t) && nat_lt t end)
      go true e = grind (arith, common_steps)
      go false e = refl

  -- the last ends with one span more, for spans that start no earlier
  later_ends : (kind end : ℕ) (span : SpanOf) (b : Bool) → (b ≡ true → span.start ≤ t) →
      (b && nat_lt t (if nat_eq span.kind kind then max end (times_of reach span).1 else end)) ≡ (b && (nat_lt t end || is_on reach kind t span))
  later_ends kind end span false after = refl
  later_ends kind end span true after = go (nat_eq span.kind kind) refl (after refl)
    where
      go : (b : Bool) → nat_eq span.kind kind ≡ b → span.start ≤ t → nat_lt t (if b then max end (times_of reach span).1 else end) ≡ (nat_lt t end || (b && covers (times_of reach span) t))
      go true e begun = grind (arith, common_steps)
      go false e begun = grind (arith, common_steps)

  sweep : (ends : Ends) (spans : List SpanOf) → ByStart spans →
      contains (swept reach one other ends spans) t ≡ (((any other spans && nat_lt t ends.one) || (any one spans && nat_lt t ends.other)) || pairs spans)
  sweep ends [] order = refl
  sweep ends (span ∷ rest) order =
      list_any-append (λ interval. covers interval t) (meetings_of reach one other ends span) (swept reach one other (ends_with reach one other ends span) rest)
      ∙ (λ i. (first i) || (sweep (ends_with reach one other ends span) rest order.1 i))
      ∙ (λ i. ((is_on reach other t span && nat_lt t ends.one) || (is_on reach one t span && nat_lt t ends.other))
      || (((later_ends one ends.one span (any other rest) (by_then other span.start rest order.0) i) || (later_ends other ends.other span (any one rest) (by_then one span.start rest order.0) i)) || pairs rest))
      ∙ regrouped (is_on reach other t span) (is_on reach one t span) (nat_lt t ends.one) (nat_lt t ends.other) (any other rest) (any one rest) (pairs rest)
    where
      first : contains (meetings_of reach one other ends span) t ≡ ((is_on reach other t span && nat_lt t ends.one) || (is_on reach one t span && nat_lt t ends.other))
      first =
          list_any-append (λ interval. covers interval t) (times_if (nat_eq span.kind other) (span.start, min (times_of reach span).1 ends.one)) (times_if (nat_eq span.kind one) (span.start, min (times_of reach span).1 ends.other))
          ∙ (λ i. part other ends.one span i || part one ends.other span i)

  none_and : (b : Bool) → (b && nat_lt t 0) ≡ false
  none_and true = grind (arith, common_steps)
  none_and false = refl

  sweep_all : (spans : List SpanOf) → ByStart spans → contains (swept reach one other no_ends spans) t ≡ pairs spans
  sweep_all spans order = sweep no_ends spans order ∙ (λ i. (none_and (any other spans) i || none_and (any one spans) i) || pairs spans)

  -- ---- the pairs are the meetings

  same_self : (path : List ℕ) → same_path path path ≡ true
  same_self [] = refl
  same_self (n ∷ path) = ap (λ b. b && same_path path path) (eq_self n) ∙ same_self path
    where
      eq_self : (n : ℕ) → nat_eq n n ≡ true
      eq_self n = grind arith

  same_swapped : (path another : List ℕ) → same_path path another ≡ same_path another path
  same_swapped [] [] = refl
  same_swapped [] (m ∷ another) = refl
  same_swapped (n ∷ path) [] = refl
  same_swapped (n ∷ path) (m ∷ another) = (λ i. eq_swapped n m i && same_swapped path another i)
    where
      eq_swapped : (n m : ℕ) → nat_eq n m ≡ nat_eq m n
      eq_swapped n m = grind arith

  -- of spans with other paths each is another one
  all_others : (span : SpanOf) (rest : List SpanOf) → NoneHasPath span.path rest → another_is_on reach other rest t span ≡ any other rest
  all_others span [] none = refl
  all_others span (next ∷ rest) none =
      (λ i. (not (none.0 i) && is_on reach other t next) || all_others span rest none.1 i)

  and_or : (a b c : Bool) → (a && (b || c)) ≡ ((a && b) || (a && c))
  and_or true b c = refl
  and_or false b c = refl

  shuffled : (x c y m : Bool) → (((x && c) || y) || m) ≡ ((x && c) || (y || m))
  shuffled true true y m = refl
  shuffled true false y m = refl
  shuffled false c y m = refl

  -- with one span more beside them, which has another path than each
  with_first : (span : SpanOf) (rest xs : List SpanOf) → NoneHasPath span.path xs →
      list_any (λ x. is_on reach one t x && another_is_on reach other (span ∷ rest) t x) xs
      ≡ ((is_on reach other t span && any one xs) || list_any (λ x. is_on reach one t x && another_is_on reach other rest t x) xs)
  with_first span rest [] none = sym (or_false (is_on reach other t span))
    where
      or_false : (b : Bool) → ((b && false) || false) ≡ false
      or_false true = refl
      or_false false = refl
  with_first span rest (x ∷ xs) none =
      (λ i. (is_on reach one t x && ((not (apart i) && is_on reach other t span) || another_is_on reach other rest t x)) || with_first span rest xs none.1 i)
      ∙ mixed (is_on reach one t x) (is_on reach other t span) (another_is_on reach other rest t x) (any one xs) (list_any (λ x. is_on reach one t x && another_is_on reach other rest t x) xs)
    where
      apart : same_path x.path span.path ≡ false
      apart = same_swapped x.path span.path ∙ none.0

      mixed : (a c r y m : Bool) → ((a && (c || r)) || ((c && y) || m)) ≡ ((c && (a || y)) || ((a && r) || m))
      mixed true true true y m = refl
      mixed true true false y m = refl
      mixed true false true y m = refl
      mixed true false false y m = refl
      mixed false true r y m = refl
      mixed false false r y m = refl

  met : (spans : List SpanOf) → HaveOwnPaths spans → pairs spans ≡ meet reach one other spans t
  met [] own = refl
  met (span ∷ rest) own = all (sym (met rest own.1))
    where
      first : another_is_on reach other (span ∷ rest) t span ≡ any other rest
      first = ap (λ b. (not b && is_on reach other t span) || another_is_on reach other rest t span) (same_self span.path) ∙ all_others span rest own.0

      all : meet reach one other rest t ≡ pairs rest → pairs (span ∷ rest) ≡ meet reach one other (span ∷ rest) t
      all there =
          sym ((λ i. (is_on reach one t span && first i) || with_first span rest rest own.0 i)
          ∙ (λ i. (is_on reach one t span && any other rest) || ((is_on reach other t span && any one rest) || there i)))

  pub swept_is : (spans : List SpanOf) → ByStart spans → HaveOwnPaths spans → contains (swept reach one other no_ends spans) t ≡ meet reach one other spans t
  swept_is spans order own = sweep_all spans order ∙ met spans own
