-- The sorted spans are the defined ones in their order.
use Rattle.std.proofs.Common.{◌≡◌, ℕ, ◌<◌, ◌⊎◌, Bool, true, false, not, cond, List, [], ◌∷◌, map, nat_lt, nat_eq, refl, sym, ap, ◌∙◌, arith, ⊎_elim}
use Rattle.std.specs.Cmp.{IsStrictWeakOrder, nat_cmp_is}
use Rattle.std.specs.Cmp.Lexicographic.{nat_list_cmp_total}
use Rattle.std.specs.List.Sorted.{IsStableBy, IsSortedBy}
use Rattle.std.specs.Ordering.{nat_cmp, is_lt, ordering_then, ordering_reverse}
use Rattle.std.specs.declared.cmp.Ordering.{Ordering}
use Rattle.std.specs.declared.cmp.Ordering.TheVariants.{Less, Equal, Greater}
use Rattle.std.proofs.lemmas.Bool.{cases_order, lt-ltb, le-ltb, eq-eqb, ne_eqb}
use Rattle.std.proofs.lemmas.Cmp.{nat_cmp_total, on_total, then_total}
use Rattle.std.proofs.lemmas.List.Sorted.{ranks_by}
use Rattle.aerie_base.specs.Paths.{path_cmp}
use Rattle.run_data.specs.Spans.{by_path_if_equal, comes_first, put_span, sorted_spans}
use Rattle.span_table.specs.declared.span.Span.{Span}
use Rattle.span_table.specs.AsDefined.{defined_span}
use Rattle.span_table.specs.Ordering.{span_cmp}
use Rattle.span_table.proofs.Sorting.{put, all_put, sorted_is}

abbrev pub is_before : Span → Span → Bool
is_before span other = is_lt (span_cmp span other)

pub span_order : IsStrictWeakOrder is_before
span_order = ranks_by (then_total (on_total (λ (s : Span). s.start) nat_cmp_total) (on_total (λ (s : Span). s.path) nat_list_cmp_total)) (λ (s : Span). s)

-- ---- the order of the definition

by_paths : (o : Ordering) → by_path_if_equal false true o ≡ not (is_lt (ordering_reverse o))
by_paths Less = refl
by_paths Equal = refl
by_paths Greater = refl

by_starts : (s t : ℕ) (p q : List ℕ) → (s ≡ t) ⊎ ((s < t) ⊎ (t < s)) →
    by_path_if_equal (nat_lt s t) (nat_eq s t) (path_cmp p q) ≡ not (is_lt (ordering_then (nat_cmp t s) (path_cmp q p)))
by_starts s t p q which = ⊎_elim
    (λ is.
    ap (λ b. by_path_if_equal b (nat_eq s t) (path_cmp p q)) (le-ltb s t (omega arith))
    ∙ (ap (λ b. by_path_if_equal false b (path_cmp p q)) (eq-eqb s t is)
    ∙ (by_paths (path_cmp p q)
    ∙ (ap (λ o. not (is_lt o)) (sym (nat_list_cmp_total.antisymm q p))
    ∙ ap (λ o. not (is_lt (ordering_then o (path_cmp q p)))) (nat_cmp_is t s Equal (sym is))))))
    (λ apart. ⊎_elim
    (λ less.
    ap (λ b. by_path_if_equal b (nat_eq s t) (path_cmp p q)) (lt-ltb s t less)
    ∙ ap (λ o. not (is_lt (ordering_then o (path_cmp q p)))) (nat_cmp_is t s Greater less))
    (λ more.
    ap (λ b. by_path_if_equal b (nat_eq s t) (path_cmp p q)) (le-ltb s t (omega arith))
    ∙ (ap (λ b. by_path_if_equal false b (path_cmp p q)) (ne_eqb s t (λ is. absurd (omega arith)))
    ∙ ap (λ o. not (is_lt (ordering_then o (path_cmp q p)))) (nat_cmp_is t s Less more)))
    apart)
    which

first_is : (a b : Span) → comes_first (defined_span a) (defined_span b) ≡ not (is_before b a)
first_is a b = by_starts a.start b.start a.path b.path (cases_order a.start b.start)

put_is : (a : Span) (spans : List Span) → map defined_span (put Span is_before span_order a spans) ≡ put_span (defined_span a) (map defined_span spans)
put_is a [] = refl
put_is a (b ∷ rest) = go (is_before b a) refl (put_is a rest)
  where
    go : (c : Bool) → is_before b a ≡ c → map defined_span (put Span is_before span_order a rest) ≡ put_span (defined_span a) (map defined_span rest) →
        map defined_span (cond c (b ∷ put Span is_before span_order a rest) (a ∷ b ∷ rest)) ≡
        cond (comes_first (defined_span a) (defined_span b)) (defined_span a ∷ defined_span b ∷ map defined_span rest) (defined_span b ∷ put_span (defined_span a) (map defined_span rest))
    go true e after =
        ap (λ l. defined_span b ∷ l) after
        ∙ ap (λ x. cond x (defined_span a ∷ defined_span b ∷ map defined_span rest) (defined_span b ∷ put_span (defined_span a) (map defined_span rest)))
        (sym (first_is a b ∙ ap not e))
    go false e after =
        ap (λ x. cond x (defined_span a ∷ defined_span b ∷ map defined_span rest) (defined_span b ∷ put_span (defined_span a) (map defined_span rest)))
        (sym (first_is a b ∙ ap not e))

all_is : (spans : List Span) → map defined_span (all_put Span is_before span_order spans) ≡ sorted_spans (map defined_span spans)
all_is [] = refl
all_is (span ∷ spans) = put_is span (all_put Span is_before span_order spans) ∙ ap (put_span (defined_span span)) (all_is spans)

-- what a stable sort by this order gives
pub sort_gives : (spans sorted : List Span) → IsSortedBy is_before sorted → IsStableBy is_before spans sorted →
    map defined_span sorted ≡ sorted_spans (map defined_span spans)
sort_gives spans sorted up stable = ap (map defined_span) (sorted_is Span is_before span_order spans sorted up stable) ∙ all_is spans
