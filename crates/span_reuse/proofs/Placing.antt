-- A span is put in its place among others.
use Rattle.std.proofs.Common.{◌≡◌, ℕ, ◌+◌, ◌<◌, Bool, true, false, not, cond, List, [], ◌∷◌, ◌++◌, drop, get_or, length, map, append_assoc, refl, sym, ap, ◌∙◌}
use Rattle.std.proofs.lemmas.List.{drop_more}
use Rattle.run_data.specs.Spans.{SpanOf, comes_first, put_span}
use Rattle.span_table.specs.declared.span.Span.{Span}
use Rattle.span_table.specs.AsDefined.{defined_span}
use Rattle.span_reuse.specs.Putting.{put_each}
use Rattle.span_reuse.specs.declared.roots.TaskRoot.{TaskRoot}
use Rattle.span_reuse.specs.Roots.{comes_from_one, is_outside_roots, spans_of_those}
use Rattle.span_reuse.proofs.SideBySide.{map_both}
use Rattle.span_reuse.proofs.SomeTasks.{filter_both}

module _ (span : Span) where
  -- its place is behind one that it does not come before
  pub place_further : (front : List Span) (next : Span) (rest : List Span) → comes_first (defined_span span) (defined_span next) ≡ false →
      map defined_span front ++ put_span (defined_span span) (map defined_span (next ∷ rest))
      ≡ map defined_span (front ++ next ∷ []) ++ put_span (defined_span span) (map defined_span rest)
  place_further front next rest e =
      ap (λ b. map defined_span front ++ cond b (defined_span span ∷ map defined_span (next ∷ rest)) (defined_span next ∷ put_span (defined_span span) (map defined_span rest))) e
      ∙ (sym (append_assoc (map defined_span front) (defined_span next ∷ []) (put_span (defined_span span) (map defined_span rest)))
      ∙ ap (λ l. l ++ put_span (defined_span span) (map defined_span rest)) (sym (map_both defined_span front (next ∷ []))))

  -- and right before one that it comes before
  pub place_here : (next : Span) (rest : List Span) → comes_first (defined_span span) (defined_span next) ≡ true →
      put_span (defined_span span) (map defined_span (next ∷ rest)) ≡ defined_span span ∷ map defined_span (next ∷ rest)
  place_here next rest e =
      ap (λ b. cond b (defined_span span ∷ map defined_span (next ∷ rest)) (defined_span next ∷ put_span (defined_span span) (map defined_span rest))) e

  pub last_first : (spans others : List Span) →
      put_each (map defined_span (spans ++ span ∷ [])) (map defined_span others) ≡ put_each (map defined_span spans) (put_span (defined_span span) (map defined_span others))
  last_first [] others = refl
  last_first (first ∷ spans) others = ap (put_span (defined_span first)) (last_first spans others)

-- ---- copies

pub none_copied : (roots : List TaskRoot) (copies : List SpanOf) (span : SpanOf) → comes_from_one roots span.path ≡ true →
    copies ≡ copies ++ spans_of_those (is_outside_roots roots) (span ∷ [])
none_copied roots copies span among =
    sym (nothing_behind copies) ∙ ap (λ b. copies ++ cond (not b) (span ∷ []) []) (sym among)
  where
    nothing_behind : (spans : List SpanOf) → spans ++ [] ≡ spans
    nothing_behind [] = refl
    nothing_behind (first ∷ spans) = ap (λ l. first ∷ l) (nothing_behind spans)

pub one_copied : (roots : List TaskRoot) (copies : List SpanOf) (span : SpanOf) → comes_from_one roots span.path ≡ false →
    copies ++ span ∷ [] ≡ copies ++ spans_of_those (is_outside_roots roots) (span ∷ [])
one_copied roots copies span outside = ap (λ b. copies ++ cond (not b) (span ∷ []) []) (sym outside)

-- in a loop: the copies so far, and what is copied of those behind
pub copied_next : (test : List ℕ → Bool) (spans : List Span) (i : ℕ) (span : Span) (copies before : List SpanOf) → i < length spans → span ≡ get_or spans i span →
    copies ≡ before ++ spans_of_those test (defined_span span ∷ []) →
    copies ++ spans_of_those test (map defined_span (drop (i + 1) spans)) ≡ before ++ spans_of_those test (map defined_span (drop i spans))
copied_next test spans i span copies before within is e =
    ap (λ l. l ++ spans_of_those test (map defined_span (drop (i + 1) spans))) e
    ∙ (append_assoc before (spans_of_those test (defined_span span ∷ [])) (spans_of_those test (map defined_span (drop (i + 1) spans)))
    ∙ (ap (λ l. before ++ l) (sym (filter_both (λ (one : SpanOf). test one.path) (defined_span span ∷ []) (map defined_span (drop (i + 1) spans))))
    ∙ ap (λ l. before ++ spans_of_those test (map defined_span l)) (sym (drop_more spans i span within ∙ ap (λ s. s ∷ drop (i + 1) spans) (sym is)))))
