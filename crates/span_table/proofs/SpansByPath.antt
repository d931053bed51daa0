-- How many spans are of a path, and what each of them has.
use Rattle.std.proofs.Common.{◌≡◌, ℕ, zero, suc, ◌+◌, ◌<◌, ◌≤◌, Bool, true, false, not, cond, ◌&&◌, ◌||◌, List, [], ◌∷◌, ◌++◌, length, map, get_or, nat_eq, Some, refl, sym, ap, subst, ◌∙◌, arith, All}
use Rattle.std.specs.List.{list_all, list_any, Contains}
use Rattle.std.specs.Cmp.Lexicographic.{same_text}
use Rattle.std.proofs.lemmas.Bool.{false≢true}
use Rattle.std.proofs.lemmas.Cmp.{nat_eq_equiv}
use Rattle.std.proofs.lemmas.List.Elements.{All-nil, All-cons}
use Rattle.aerie_base.specs.declared.models.model.Parts.{Parts}
use Rattle.aerie_base.specs.Paths.{is_prefix}
use Rattle.run_data.specs.declared.tasks.BodyId.{BodyId}
use Rattle.run_data.specs.declared.tasks.BodyId.TheVariants as body
use Rattle.run_data.specs.TaskFrames.{Frame}
use Rattle.run_data.specs.Spans.{SpanOf, Timed, same_path, is_of_path, body_ended, task_ended, last_time, span_if, span_of_body, spans_from, comes_first, put_span, sorted_spans}
use Rattle.span_table.specs.declared.span.Span.{Span}
use Rattle.span_table.specs.AsDefined.{defined_span}
use Rattle.span_table.specs.SpanLaws.{first_frame, is_of_activity, begins_activity, spans_with, HasOneEach, IsUnfinished, IsFinished, EndTells, HasItsEnd, LiesWithin, IsInTime}

-- ---- how many

abbrev count_of : List ℕ → List SpanOf → ℕ
count_of path [] = 0
count_of path (span ∷ rest) = cond (same_path path span.path) (1 + count_of path rest) (count_of path rest)

counts_alike : (path : List ℕ) (spans : List Span) → spans_with path spans ≡ count_of path (map defined_span spans)
counts_alike path [] = refl
counts_alike path (span ∷ rest) = ap (λ n. cond (same_path path span.path) (1 + n) n) (counts_alike path rest)

count_together : (path : List ℕ) (spans others : List SpanOf) → count_of path (spans ++ others) ≡ count_of path spans + count_of path others
count_together path [] others = omega arith
count_together path (span ∷ rest) others = by (same_path path span.path) (count_together path rest others)
  where
    by : (b : Bool) → count_of path (rest ++ others) ≡ count_of path rest + count_of path others →
        cond b (1 + count_of path (rest ++ others)) (count_of path (rest ++ others)) ≡ cond b (1 + count_of path rest) (count_of path rest) + count_of path others
    by true e = omega (arith, e)
    by false e = e

exchanged : (a b : Bool) (n : ℕ) → cond a (1 + cond b (1 + n) n) (cond b (1 + n) n) ≡ cond b (1 + cond a (1 + n) n) (cond a (1 + n) n)
exchanged true true n = refl
exchanged true false n = refl
exchanged false true n = refl
exchanged false false n = refl

count_put : (path : List ℕ) (span : SpanOf) (spans : List SpanOf) → count_of path (put_span span spans) ≡ count_of path (span ∷ spans)
count_put path span [] = refl
count_put path span (first ∷ rest) = by (comes_first span first) (count_put path span rest)
  where
    by : (b : Bool) → count_of path (put_span span rest) ≡ count_of path (span ∷ rest) →
        count_of path (cond b (span ∷ first ∷ rest) (first ∷ put_span span rest)) ≡ count_of path (span ∷ first ∷ rest)
    by true e = refl
    by false e =
        ap (λ n. cond (same_path path first.path) (1 + n) n) e
        ∙ exchanged (same_path path first.path) (same_path path span.path) (count_of path rest)

count_sorted : (path : List ℕ) (spans : List SpanOf) → count_of path (sorted_spans spans) ≡ count_of path spans
count_sorted path [] = refl
count_sorted path (span ∷ rest) =
    count_put path span (sorted_spans rest) ∙ ap (λ n. cond (same_path path span.path) (1 + n) n) (count_sorted path rest)

-- ---- the spans that frames begin

abbrev one_if : Bool → ℕ
one_if b = cond b 1 0

module _ (all : List Timed) (model : Parts) where
  of_itself : (path : List ℕ) (time : ℕ) (frame : Frame) (kind : BodyId) → same_path path frame.path ≡ true →
      count_of path (span_of_body all model time frame kind) ≡ one_if (is_of_activity kind)
  of_itself path time frame (body.Activity kind) same = by (task_ended all frame.path)
    where
      by : (ended : Bool) → count_of path (span_if ended all model time frame kind ∷ []) ≡ 1
      by true = ap (λ b. cond b 1 0) same
      by false = ap (λ b. cond b 1 0) same
  of_itself path time frame (body.Daemon number) same = refl

  of_another : (path : List ℕ) (time : ℕ) (frame : Frame) (kind : BodyId) → same_path path frame.path ≡ false → count_of path (span_of_body all model time frame kind) ≡ 0
  of_another path time frame (body.Activity kind) other = by (task_ended all frame.path)
    where
      by : (ended : Bool) → count_of path (span_if ended all model time frame kind ∷ []) ≡ 0
      by true = ap (λ b. cond b 1 0) other
      by false = ap (λ b. cond b 1 0) other
  of_another path time frame (body.Daemon number) other = refl

  one_each : (path : List ℕ) (before rest : List Timed) →
      count_of path (spans_from all model before rest) ≡ cond (list_any (is_of_path path) before) 0 (one_if (begins_activity (first_frame rest path)))
  one_each path before [] = by (list_any (is_of_path path) before)
    where
      by : (b : Bool) → ◌≡◌ {A = ℕ} 0 (cond b 0 0)
      by true = refl
      by false = refl
  one_each path before (entry ∷ rest) =
      let head : List SpanOf = cond (list_any (is_of_path entry.1.path) before) [] (span_of_body all model entry.0 entry.1 entry.1.before.kind) in
      count_together path head (spans_from all model (entry ∷ before) rest) ∙ by (same_path path entry.1.path) refl (one_each path (entry ∷ before) rest)
    where
      new : (b : Bool) → same_path path entry.1.path ≡ true →
          count_of path (cond b [] (span_of_body all model entry.0 entry.1 entry.1.before.kind)) + 0 ≡ cond b 0 (one_if (is_of_activity entry.1.before.kind))
      new true same = refl
      new false same = let here = of_itself path entry.0 entry.1 entry.1.before.kind same in omega (arith, here)

      none : (b : Bool) → same_path path entry.1.path ≡ false → count_of path (cond b [] (span_of_body all model entry.0 entry.1 entry.1.before.kind)) ≡ 0
      none true other = refl
      none false other = of_another path entry.0 entry.1 entry.1.before.kind other

      by : (b : Bool) → same_path path entry.1.path ≡ b →
          count_of path (spans_from all model (entry ∷ before) rest) ≡ cond (b || list_any (is_of_path path) before) 0 (one_if (begins_activity (first_frame rest path))) →
          count_of path (cond (list_any (is_of_path entry.1.path) before) [] (span_of_body all model entry.0 entry.1 entry.1.before.kind)) + count_of path (spans_from all model (entry ∷ before) rest) ≡
          cond (list_any (is_of_path path) before) 0 (one_if (begins_activity (cond b (Some entry) (first_frame rest path))))
      by true same tail =
          ap (λ n. count_of path (cond (list_any (is_of_path entry.1.path) before) [] (span_of_body all model entry.0 entry.1 entry.1.before.kind)) + n) tail
          ∙ (new (list_any (is_of_path entry.1.path) before) same
          ∙ ap (λ p. cond (list_any (is_of_path p) before) 0 (one_if (is_of_activity entry.1.before.kind))) (sym (same_text path entry.1.path (sym same))))
      by false other tail =
          let nothing = none (list_any (is_of_path entry.1.path) before) other in
          omega (arith, nothing, tail)

pub has_one_each : (model : Parts) (frames : List Timed) (spans : List Span) → map defined_span spans ≡ sorted_spans (spans_from frames model [] frames) → HasOneEach frames spans
has_one_each model frames spans are path =
    counts_alike path spans
    ∙ (ap (count_of path) are ∙ (count_sorted path (spans_from frames model [] frames) ∙ one_each frames model path [] frames))

-- ---- each span

abbrev pub Every : (SpanOf → Type 0) → List SpanOf → Type 0
Every P [] = Unit {0}
Every P (span ∷ rest) = P span × Every P rest

every_put : (P : SpanOf → Type 0) (span : SpanOf) (spans : List SpanOf) → P span → Every P spans → Every P (put_span span spans)
every_put P span [] here each = (here, tt)
every_put P span (first ∷ rest) here each = by (comes_first span first) (every_put P span rest here each.1)
  where
    by : (b : Bool) → Every P (put_span span rest) → Every P (cond b (span ∷ first ∷ rest) (first ∷ put_span span rest))
    by true further = (here, each)
    by false further = (each.0, further)

every_sorted : (P : SpanOf → Type 0) (spans : List SpanOf) → Every P spans → Every P (sorted_spans spans)
every_sorted P [] each = tt
every_sorted P (span ∷ rest) each = every_put P span (sorted_spans rest) each.0 (every_sorted P rest each.1)

every_together : (P : SpanOf → Type 0) (spans others : List SpanOf) → Every P spans → Every P others → Every P (spans ++ others)
every_together P [] others each more = more
every_together P (span ∷ rest) others each more = (each.0, every_together P rest others each.1 more)

every_defined : (P : SpanOf → Type 0) (spans : List Span) → Every P (map defined_span spans) → All (λ span. P (defined_span span)) spans
every_defined P [] each = All-nil (λ (span : Span). P (defined_span span))
every_defined P (span ∷ rest) each = All-cons (λ (span : Span). P (defined_span span)) span rest each.0 (every_defined P rest each.1)

-- what holds of the span of each frame holds of all spans
pub every_span : (P : SpanOf → Type 0) (model : Parts) (frames : List Timed) →
    ((pre rest : List Timed) (entry : Timed) (kind : ℕ) → frames ≡ pre ++ entry ∷ rest → (ended : Bool) → task_ended frames entry.1.path ≡ ended →
    P (span_if ended frames model entry.0 entry.1 kind)) →
    (spans : List Span) → map defined_span spans ≡ sorted_spans (spans_from frames model [] frames) → All (λ span. P (defined_span span)) spans
every_span P model frames one spans are = every_defined P spans (subst (Every P) (sym are) (every_sorted P (spans_from frames model [] frames) (from [] [] frames refl)))
  where
    of_body : (pre rest : List Timed) (entry : Timed) (kind : BodyId) → frames ≡ pre ++ entry ∷ rest → Every P (span_of_body frames model entry.0 entry.1 kind)
    of_body pre rest entry (body.Activity kind) is = (one pre rest entry kind is (task_ended frames entry.1.path) refl, tt)
    of_body pre rest entry (body.Daemon number) is = tt

    or_none : (b : Bool) (spans : List SpanOf) → Every P spans → Every P (cond b [] spans)
    or_none true spans each = tt
    or_none false spans each = each

    moved_on : (pre rest : List Timed) (entry : Timed) → pre ++ entry ∷ rest ≡ (pre ++ entry ∷ []) ++ rest
    moved_on [] rest entry = refl
    moved_on (first ∷ pre) rest entry = ap (λ (l : List Timed). first ∷ l) (moved_on pre rest entry)

    from : (pre before rest : List Timed) → frames ≡ pre ++ rest → Every P (spans_from frames model before rest)
    from pre before [] is = tt
    from pre before (entry ∷ rest) is =
        every_together P (cond (list_any (is_of_path entry.1.path) before) [] (span_of_body frames model entry.0 entry.1 entry.1.before.kind)) (spans_from frames model (entry ∷ before) rest)
        (or_none (list_any (is_of_path entry.1.path) before) (span_of_body frames model entry.0 entry.1 entry.1.before.kind) (of_body pre rest entry entry.1.before.kind is))
        (from (pre ++ entry ∷ []) (entry ∷ before) rest (is ∙ moved_on pre rest entry))

-- ---- ends

module _ (frames : List Timed) (path : List ℕ) where
  abbrev is_settled : Timed → Bool
  is_settled entry = not (is_prefix path entry.1.path) || body_ended frames entry.1.path

  later : (first entry : Timed) (rest : List Timed) → Contains rest entry → Contains (first ∷ rest) entry
  later first entry rest found = let within = found.1 in (suc found.0, omega (arith, within), found.2)

  some_open : (some : List Timed) → list_all is_settled some ≡ false → (entry : Timed) × Contains some entry × (is_settled entry ≡ false)
  some_open [] e = absurd (false≢true (sym e))
  some_open (first ∷ rest) e = by (is_settled first) refl e (λ others. some_open rest others)
    where
      by : (b : Bool) → is_settled first ≡ b → (b && list_all is_settled rest) ≡ false →
          (list_all is_settled rest ≡ false → (entry : Timed) × Contains rest entry × (is_settled entry ≡ false)) →
          (entry : Timed) × Contains (first ∷ rest) entry × (is_settled entry ≡ false)
      by true here e others = let found = others e in (found.0, later first found.0 rest found.1, found.2)
      by false here e others = (first, (0, omega arith, refl), here)

  open_parts : (a b : Bool) → (not a || b) ≡ false → (a ≡ true) × (b ≡ false)
  open_parts true true e = absurd (false≢true (sym e))
  open_parts true false e = (refl, refl)
  open_parts false b e = absurd (false≢true (sym e))

  pub unfinished : task_ended frames path ≡ false → IsUnfinished frames path
  unfinished e =
      let found = some_open frames e in
      let parts = open_parts (is_prefix path found.0.1.path) (body_ended frames found.0.1.path) found.2 in
      record { entry = found.0; among = found.1; under = parts.0; still_open = parts.1 }

  both : (a b : Bool) → (a && b) ≡ true → (a ≡ true) × (b ≡ true)
  both a b h = (grind arith, grind arith)

  all_at : (some : List Timed) (k : ℕ) (entry : Timed) → list_all is_settled some ≡ true → k < length some → get_or some k entry ≡ entry → is_settled entry ≡ true
  all_at [] k entry e within is = absurd (omega arith)
  all_at (first ∷ rest) zero entry e within is = subst (λ (one : Timed). is_settled one ≡ true) is (both (is_settled first) (list_all is_settled rest) e).0
  all_at (first ∷ rest) (suc k) entry e within is = all_at rest k entry (both (is_settled first) (list_all is_settled rest) e).1 (omega (arith, within)) is

  closed_part : (a b : Bool) → (not a || b) ≡ true → a ≡ true → b ≡ true
  closed_part true b e under = e
  closed_part false b e under = absurd (false≢true under)

  pub is_finished : task_ended frames path ≡ true → IsFinished frames path
  is_finished e entry found under =
      closed_part (is_prefix path entry.1.path) (body_ended frames entry.1.path) (all_at frames found.0 entry e found.1 found.2) under

ends_tell : (frames : List Timed) (model : Parts) (time : ℕ) (frame : Frame) (kind : ℕ) (ended : Bool) → task_ended frames frame.path ≡ ended →
    EndTells frames (span_if ended frames model time frame kind).path (span_if ended frames model time frame kind).end
ends_tell frames model time frame kind true e = is_finished frames frame.path e
ends_tell frames model time frame kind false e = unfinished frames frame.path e

pub have_their_ends : (model : Parts) (frames : List Timed) (spans : List Span) → map defined_span spans ≡ sorted_spans (spans_from frames model [] frames) → All (HasItsEnd frames) spans
have_their_ends model frames spans are =
    every_span (λ span. EndTells frames span.path span.end) model frames (λ pre rest entry kind is ended e. ends_tell frames model entry.0 entry.1 kind ended e) spans are

-- ---- times

-- each of these frames is at this time or later
abbrev pub NoneBefore : ℕ → List Timed → Type 0
NoneBefore time [] = Unit {0}
NoneBefore time (entry ∷ rest) = (time ≤ entry.0) × NoneBefore time rest

-- each of these frames is at the time of the one before it or later, and by the reach
abbrev pub AreInOrder : ℕ → List Timed → Type 0
AreInOrder reach [] = Unit {0}
AreInOrder reach (entry ∷ rest) = (entry.0 ≤ reach) × NoneBefore entry.0 rest × AreInOrder reach rest

same_number : (n : ℕ) → nat_eq n n ≡ true
same_number n = nat_eq_equiv.refl n

under_itself : (path : List ℕ) → is_prefix path path ≡ true
under_itself [] = refl
under_itself (number ∷ path) = ap (λ b. b && is_prefix path path) (same_number number) ∙ under_itself path

last_not_before : (time : ℕ) (frames : List Timed) (path : List ℕ) (found : ℕ) → NoneBefore time frames → time ≤ found → time ≤ last_time frames path found
last_not_before time [] path found none le = le
last_not_before time (entry ∷ rest) path found none le =
    by (is_prefix path entry.1.path) (last_not_before time rest path entry.0 none.1 none.0) (last_not_before time rest path found none.1 le)
  where
    by : (b : Bool) → time ≤ last_time rest path entry.0 → time ≤ last_time rest path found → time ≤ last_time rest path (cond b entry.0 found)
    by true new old = new
    by false new old = old

last_by : (reach : ℕ) (frames : List Timed) (path : List ℕ) (found : ℕ) → AreInOrder reach frames → found ≤ reach → last_time frames path found ≤ reach
last_by reach [] path found order le = le
last_by reach (entry ∷ rest) path found order le =
    by (is_prefix path entry.1.path) (last_by reach rest path entry.0 order.2 order.0) (last_by reach rest path found order.2 le)
  where
    by : (b : Bool) → last_time rest path entry.0 ≤ reach → last_time rest path found ≤ reach → last_time rest path (cond b entry.0 found) ≤ reach
    by true new old = new
    by false new old = old

last_since : (reach : ℕ) (pre rest : List Timed) (entry : Timed) (found : ℕ) → AreInOrder reach (pre ++ entry ∷ rest) → entry.0 ≤ last_time (pre ++ entry ∷ rest) entry.1.path found
last_since reach [] rest entry found order =
    ap_le (under_itself entry.1.path) (last_not_before entry.0 rest entry.1.path entry.0 order.1 (omega arith))
  where
    ap_le : is_prefix entry.1.path entry.1.path ≡ true → entry.0 ≤ last_time rest entry.1.path entry.0 → entry.0 ≤ last_time rest entry.1.path (cond (is_prefix entry.1.path entry.1.path) entry.0 found)
    ap_le e le = subst (λ b. entry.0 ≤ last_time rest entry.1.path (cond b entry.0 found)) (sym e) le
last_since reach (first ∷ pre) rest entry found order = last_since reach pre rest entry (cond (is_prefix entry.1.path first.1.path) first.0 found) order.2

entry_by : (reach : ℕ) (pre rest : List Timed) (entry : Timed) → AreInOrder reach (pre ++ entry ∷ rest) → entry.0 ≤ reach
entry_by reach [] rest entry order = order.0
entry_by reach (first ∷ pre) rest entry order = entry_by reach pre rest entry order.2

within : (frames : List Timed) (model : Parts) (reach : ℕ) (pre rest : List Timed) (entry : Timed) (kind : ℕ) (ended : Bool) → AreInOrder reach frames → frames ≡ pre ++ entry ∷ rest →
    LiesWithin reach (span_if ended frames model entry.0 entry.1 kind).start (span_if ended frames model entry.0 entry.1 kind).end
within frames model reach pre rest entry kind true order is =
    let by_reach = entry_by reach pre rest entry (subst (AreInOrder reach) is order) in (
      by_reach,
      (
        subst (λ (l : List Timed). entry.0 ≤ last_time l entry.1.path entry.0) (sym is) (last_since reach pre rest entry entry.0 (subst (AreInOrder reach) is order)),
        last_by reach frames entry.1.path entry.0 order by_reach,
      ),
    )
within frames model reach pre rest entry kind false order is = (entry_by reach pre rest entry (subst (AreInOrder reach) is order), tt)

pub are_in_time : (model : Parts) (frames : List Timed) (reach : ℕ) (spans : List Span) → AreInOrder reach frames → map defined_span spans ≡ sorted_spans (spans_from frames model [] frames) →
    All (IsInTime reach) spans
are_in_time model frames reach spans order are =
    every_span (λ span. LiesWithin reach span.start span.end) model frames (λ pre rest entry kind is ended e. within frames model reach pre rest entry kind ended order is) spans are
