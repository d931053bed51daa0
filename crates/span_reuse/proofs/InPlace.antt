-- Spans that are put among others, each in its place by start and path.
use Rattle.std.proofs.Common.{◌≡◌, ℕ, Bool, true, false, not, cond, List, [], ◌∷◌, nat_lt, nat_eq, refl, sym, ap, ◌∙◌}
use Rattle.std.specs.Cmp.{IsTotalOrder}
use Rattle.std.specs.Cmp.Lexicographic.{nat_list_cmp_total, same_text, texts_ties}
use Rattle.std.specs.Ordering.{nat_cmp, is_eq, is_gt, ordering_then, ordering_reverse}
use Rattle.std.specs.declared.cmp.Ordering.{Ordering}
use Rattle.std.specs.declared.cmp.Ordering.TheVariants.{Less, Equal, Greater}
use Rattle.std.proofs.lemmas.Bool.{true≢false, false≢true, not-true}
use Rattle.std.proofs.lemmas.Cmp.{nat_cmp_total, on_total, then_total, upto}
use Rattle.aerie_base.specs.Paths.{path_cmp}
use Rattle.run_data.specs.Spans.{SpanOf, by_path_if_equal, comes_first, put_span, sorted_spans}
use Rattle.span_reuse.specs.Putting.{put_each}
use Rattle.span_reuse.specs.Roots.{spans_of_those}

-- ---- the order

abbrev rank : SpanOf → SpanOf → Ordering
rank a b = ordering_then (nat_cmp a.start b.start) (path_cmp a.path b.path)

rank_total : IsTotalOrder rank
rank_total = then_total (on_total (λ (s : SpanOf). s.start) nat_cmp_total) (on_total (λ (s : SpanOf). s.path) nat_list_cmp_total)

pub first_by : (less same : Bool) (o : Ordering) →
    by_path_if_equal less same o ≡ not (is_gt (ordering_then (cond less Less (cond same Equal Greater)) o))
first_by true same o = refl
first_by false true Less = refl
first_by false true Equal = refl
first_by false true Greater = refl
first_by false false o = refl

first_is : (a b : SpanOf) → comes_first a b ≡ not (is_gt (rank a b))
first_is a b = first_by (nat_lt a.start b.start) (nat_eq a.start b.start) (path_cmp a.path b.path)

first_chain : (a x f : SpanOf) → comes_first a x ≡ true → comes_first x f ≡ true → comes_first a f ≡ true
first_chain a x f e g =
    first_is a f
    ∙ ap not (upto rank_total a x f (not-true (is_gt (rank a x)) (sym (first_is a x) ∙ e)) (not-true (is_gt (rank x f)) (sym (first_is x f) ∙ g)))

reversed : (o r : Ordering) → r ≡ ordering_reverse o → not (is_gt o) ≡ false → not (is_gt r) ≡ true
reversed Less r s e = absurd (true≢false e)
reversed Equal r s e = absurd (true≢false e)
reversed Greater r s e = ap (λ o. not (is_gt o)) s

first_else : (a b : SpanOf) → comes_first a b ≡ false → comes_first b a ≡ true
first_else a b e = first_is b a ∙ reversed (rank a b) (rank b a) (rank_total.antisymm b a) (sym (first_is a b) ∙ e)

tie : (o r : Ordering) → r ≡ ordering_reverse o → not (is_gt o) ≡ true → not (is_gt r) ≡ true → o ≡ Equal
tie Less r s e f = absurd (false≢true (sym (ap (λ o. not (is_gt o)) s) ∙ f))
tie Equal r s e f = refl
tie Greater r s e f = absurd (false≢true e)

second_equal : (o r : Ordering) → ordering_then o r ≡ Equal → is_eq r ≡ true
second_equal Less r e = absurd (false≢true (ap is_eq e))
second_equal Equal r e = ap is_eq e
second_equal Greater r e = absurd (false≢true (ap is_eq e))

-- two spans that each come before the other are of one path
first_both : (a b : SpanOf) → comes_first a b ≡ true → comes_first b a ≡ true → a.path ≡ b.path
first_both a b e f =
    let equal = tie (rank a b) (rank b a) (rank_total.antisymm b a) (sym (first_is a b) ∙ e) (sym (first_is b a) ∙ f) in
    same_text a.path b.path (sym (texts_ties a.path b.path ∙ second_equal (nat_cmp a.start b.start) (path_cmp a.path b.path) equal))

-- ---- two of them

commute : (a x : SpanOf) (spans : List SpanOf) → comes_first a x ≡ true → comes_first x a ≡ false →
    put_span a (put_span x spans) ≡ put_span x (put_span a spans)
commute a x [] e f = ap (λ b. cond b (a ∷ x ∷ []) (x ∷ a ∷ [])) e ∙ sym (ap (λ b. cond b (x ∷ a ∷ []) (a ∷ x ∷ [])) f)
commute a x (first ∷ rest) e f = go (comes_first a first) (comes_first x first) refl refl (commute a x rest e f)
  where
    go : (c d : Bool) → comes_first a first ≡ c → comes_first x first ≡ d → put_span a (put_span x rest) ≡ put_span x (put_span a rest) →
        put_span a (cond d (x ∷ first ∷ rest) (first ∷ put_span x rest)) ≡ put_span x (cond c (a ∷ first ∷ rest) (first ∷ put_span a rest))
    go true true p q after =
        ap (λ b. cond b (a ∷ x ∷ first ∷ rest) (x ∷ put_span a (first ∷ rest))) e
        ∙ sym (ap (λ b. cond b (x ∷ a ∷ first ∷ rest) (a ∷ put_span x (first ∷ rest))) f ∙ ap (λ b. a ∷ cond b (x ∷ first ∷ rest) (first ∷ put_span x rest)) q)
    go true false p q after =
        ap (λ b. cond b (a ∷ first ∷ put_span x rest) (first ∷ put_span a (put_span x rest))) p
        ∙ sym (ap (λ b. cond b (x ∷ a ∷ first ∷ rest) (a ∷ put_span x (first ∷ rest))) f ∙ ap (λ b. a ∷ cond b (x ∷ first ∷ rest) (first ∷ put_span x rest)) q)
    go false true p q after = absurd (true≢false (sym (first_chain a x first e q) ∙ p))
    go false false p q after =
        ap (λ b. cond b (a ∷ first ∷ put_span x rest) (first ∷ put_span a (put_span x rest))) p
        ∙ (ap (λ l. first ∷ l) after ∙ sym (ap (λ b. cond b (x ∷ first ∷ put_span a rest) (first ∷ put_span x (put_span a rest))) q))

-- spans of different paths are put in whatever order
exchange : (a x : SpanOf) (spans : List SpanOf) → (a.path ≡ x.path → ⊥) → put_span a (put_span x spans) ≡ put_span x (put_span a spans)
exchange a x spans differ = go (comes_first a x) (comes_first x a) refl refl
  where
    go : (c d : Bool) → comes_first a x ≡ c → comes_first x a ≡ d → put_span a (put_span x spans) ≡ put_span x (put_span a spans)
    go true true p q = absurd (differ (first_both a x p q))
    go true false p q = commute a x spans p q
    go false d p q = sym (commute x a spans (first_else a x p) p)

-- ---- many of them

put_first : (b : SpanOf) (more spans : List SpanOf) → put_each (put_span b more) spans ≡ put_span b (put_each more spans)
put_first b [] spans = refl
put_first b (m ∷ more) spans = go (comes_first b m) refl (put_first b more spans)
  where
    go : (c : Bool) → comes_first b m ≡ c → put_each (put_span b more) spans ≡ put_span b (put_each more spans) →
        put_each (cond c (b ∷ m ∷ more) (m ∷ put_span b more)) spans ≡ put_span b (put_span m (put_each more spans))
    go true p after = refl
    go false p after = ap (put_span m) after ∙ commute m b (put_each more spans) (first_else b m p) p

-- the order of those that are put does not matter
pub each_sorted : (more spans : List SpanOf) → put_each (sorted_spans more) spans ≡ put_each more spans
each_sorted [] spans = refl
each_sorted (b ∷ more) spans = put_first b (sorted_spans more) spans ∙ ap (put_span b) (each_sorted more spans)

module _ (test : List ℕ → Bool) where
  abbrev fails : List ℕ → Bool
  fails path = not (test path)

  through : (x : SpanOf) → test x.path ≡ false → (more spans : List SpanOf) →
      put_span x (put_each (spans_of_those test more) spans) ≡ put_each (spans_of_those test more) (put_span x spans)
  through x out [] spans = refl
  through x out (b ∷ more) spans = go (test b.path) refl (through x out more spans)
    where
      go : (c : Bool) → test b.path ≡ c →
          put_span x (put_each (spans_of_those test more) spans) ≡ put_each (spans_of_those test more) (put_span x spans) →
          put_span x (put_each (cond c (b ∷ spans_of_those test more) (spans_of_those test more)) spans) ≡
          put_each (cond c (b ∷ spans_of_those test more) (spans_of_those test more)) (put_span x spans)
      go true is after =
          exchange x b (put_each (spans_of_those test more) spans) (λ same. false≢true (sym out ∙ (ap test same ∙ is)))
          ∙ ap (put_span b) after
      go false is after = after

  -- those that pass are put among the others
  pub put_apart : (spans : List SpanOf) → sorted_spans spans ≡ put_each (spans_of_those test spans) (sorted_spans (spans_of_those fails spans))
  put_apart [] = refl
  put_apart (x ∷ spans) = go (test x.path) refl (put_apart spans)
    where
      go : (c : Bool) → test x.path ≡ c → sorted_spans spans ≡ put_each (spans_of_those test spans) (sorted_spans (spans_of_those fails spans)) →
          put_span x (sorted_spans spans) ≡
          put_each (cond c (x ∷ spans_of_those test spans) (spans_of_those test spans))
          (sorted_spans (cond (not c) (x ∷ spans_of_those fails spans) (spans_of_those fails spans)))
      go true is after = ap (put_span x) after
      go false is after = ap (put_span x) after ∙ through x is spans (sorted_spans (spans_of_those fails spans))

  -- ---- the others alone

  others_put : (x : SpanOf) → test x.path ≡ true → (spans : List SpanOf) → spans_of_those fails (put_span x spans) ≡ spans_of_those fails spans
  others_put x is [] = ap (λ b. cond (not b) (x ∷ []) []) is
  others_put x is (f ∷ spans) = go (comes_first x f) (others_put x is spans)
    where
      go : (c : Bool) → spans_of_those fails (put_span x spans) ≡ spans_of_those fails spans →
          spans_of_those fails (cond c (x ∷ f ∷ spans) (f ∷ put_span x spans)) ≡ spans_of_those fails (f ∷ spans)
      go true after = ap (λ b. cond (not b) (x ∷ spans_of_those fails (f ∷ spans)) (spans_of_those fails (f ∷ spans))) is
      go false after = ap (λ l. cond (not (test f.path)) (f ∷ l) l) after

  others_each : (more spans : List SpanOf) → spans_of_those fails (put_each (spans_of_those test more) spans) ≡ spans_of_those fails spans
  others_each [] spans = refl
  others_each (x ∷ more) spans = go (test x.path) refl (others_each more spans)
    where
      go : (c : Bool) → test x.path ≡ c → spans_of_those fails (put_each (spans_of_those test more) spans) ≡ spans_of_those fails spans →
          spans_of_those fails (put_each (cond c (x ∷ spans_of_those test more) (spans_of_those test more)) spans) ≡ spans_of_those fails spans
      go true is after = others_put x is (put_each (spans_of_those test more) spans) ∙ after
      go false is after = after

  abbrev AllFail : List SpanOf → Type 0
  AllFail [] = Unit {0}
  AllFail (span ∷ rest) = (not (test span.path) ≡ true) × AllFail rest

  fail_put : (x : SpanOf) (spans : List SpanOf) → not (test x.path) ≡ true → AllFail spans → AllFail (put_span x spans)
  fail_put x [] is all = (is, tt)
  fail_put x (f ∷ spans) is all = go (comes_first x f) (fail_put x spans is all.1)
    where
      go : (c : Bool) → AllFail (put_span x spans) → AllFail (cond c (x ∷ f ∷ spans) (f ∷ put_span x spans))
      go true after = (is, all)
      go false after = (all.0, after)

  fail_sorted : (spans : List SpanOf) → AllFail spans → AllFail (sorted_spans spans)
  fail_sorted [] all = tt
  fail_sorted (x ∷ spans) all = fail_put x (sorted_spans spans) all.0 (fail_sorted spans all.1)

  fail_those : (spans : List SpanOf) → AllFail (spans_of_those fails spans)
  fail_those [] = tt
  fail_those (x ∷ spans) = go (not (test x.path)) refl (fail_those spans)
    where
      go : (c : Bool) → not (test x.path) ≡ c → AllFail (spans_of_those fails spans) → AllFail (cond c (x ∷ spans_of_those fails spans) (spans_of_those fails spans))
      go true is after = (is, after)
      go false is after = after

  all_stay : (spans : List SpanOf) → AllFail spans → spans_of_those fails spans ≡ spans
  all_stay [] all = refl
  all_stay (x ∷ spans) all =
      ap (λ b. cond b (x ∷ spans_of_those fails spans) (spans_of_those fails spans)) all.0 ∙ ap (λ l. x ∷ l) (all_stay spans all.1)

  -- the others of sorted spans are the others, sorted
  pub others_sorted : (spans : List SpanOf) → spans_of_those fails (sorted_spans spans) ≡ sorted_spans (spans_of_those fails spans)
  others_sorted spans =
      ap (spans_of_those fails) (put_apart spans)
      ∙ (others_each spans (sorted_spans (spans_of_those fails spans))
      ∙ all_stay (sorted_spans (spans_of_those fails spans)) (fail_sorted (spans_of_those fails spans) (fail_those spans)))
