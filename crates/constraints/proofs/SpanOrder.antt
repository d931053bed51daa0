-- No two spans of a run have one path.
use Rattle.std.proofs.Common.{◌≡◌, ℕ, ◌+◌, ◌≤◌, Bool, true, false, ◌&&◌, List, [], ◌∷◌, map, refl, ap, subst, ◌∙◌, arith, nat_eq, if◌then◌else◌}
use Rattle.run_data.specs.Spans.{Timed, same_path}
use Rattle.span_table.specs.declared.span.Span.{Span}
use Rattle.span_table.specs.AsDefined.{defined_span}
use Rattle.span_table.specs.SpanLaws.{spans_with, first_frame, begins_activity, HasOneEach}
use Rattle.constraints.specs.Meeting.{NoneHasPath, HaveOwnPaths}

same_self : (path : List ℕ) → same_path path path ≡ true
same_self [] = refl
same_self (n ∷ path) = ap (λ b. b && same_path path path) (eq_self n) ∙ same_self path
  where
    eq_self : (n : ℕ) → nat_eq n n ≡ true
    eq_self n = grind arith

none_with : (path : List ℕ) (spans : List Span) → spans_with path spans ≡ 0 → NoneHasPath path (map defined_span spans)
none_with path [] none = tt
none_with path (span ∷ rest) none = go (λ left. none_with path rest left) (same_path path span.path) refl none
  where
    go : (spans_with path rest ≡ 0 → NoneHasPath path (map defined_span rest)) → (b : Bool) → same_path path span.path ≡ b → (if b then 1 + spans_with path rest else spans_with path rest) ≡ 0 →
        (same_path path span.path ≡ false) × NoneHasPath path (map defined_span rest)
    go later true e none = absurd (omega (arith, none))
    go later false e none = (e, later none)

pub own_paths : (spans : List Span) → ((path : List ℕ) → spans_with path spans ≤ 1) → HaveOwnPaths (map defined_span spans)
own_paths [] few = tt
own_paths (span ∷ rest) few = (none_with span.path rest none, own_paths rest fewer)
  where
    none : spans_with span.path rest ≡ 0
    none =
        let one : (if true then 1 + spans_with span.path rest else spans_with span.path rest) ≤ 1 =
        subst (λ b. (if b then 1 + spans_with span.path rest else spans_with span.path rest) ≤ 1) (same_self span.path) (few span.path) in
        omega (arith, one)

    fewer : (path : List ℕ) → spans_with path rest ≤ 1
    fewer path = go (same_path path span.path) (few path)
      where
        go : (b : Bool) → (if b then 1 + spans_with path rest else spans_with path rest) ≤ 1 → spans_with path rest ≤ 1
        go true most = omega (arith, most)
        go false most = most

pub one_each_own : (frames : List Timed) (spans : List Span) → HasOneEach frames spans → HaveOwnPaths (map defined_span spans)
one_each_own frames spans each = own_paths spans (λ path. few (begins_activity (first_frame frames path)) path (each path))
  where
    few : (b : Bool) (path : List ℕ) → spans_with path spans ≡ (if b then 1 else 0) → spans_with path spans ≤ 1
    few true path is = omega (arith, is)
    few false path is = omega (arith, is)
