-- A file of lemmas: what it proves need not be read to trust a clause.
--
-- The spans of a run stand by their starts.
use Rattle.std.proofs.Common.{◌≡◌, ℕ, ◌≤◌, ◌<◌, Bool, true, false, List, [], ◌∷◌, map, refl, sym, subst, arith, nat_eq, nat_lt, if◌then◌else◌}
use Rattle.std.proofs.lemmas.Grind.{common_steps}
use Rattle.std.specs.declared.cmp.Ordering.{Ordering}
use Rattle.aerie_base.specs.Paths.{path_cmp}
use Rattle.aerie_base.specs.declared.models.model.Parts.{Parts}
use Rattle.run_data.specs.declared.runs.Run.{Run}
use Rattle.run_data.specs.Spans.{SpanOf, timed, spans_from, spans_of, by_path_if_equal, comes_first, put_span, sorted_spans}
use Rattle.span_table.specs.declared.span.Span.{Span}
use Rattle.span_table.specs.AsDefined.{defined_span}
use Rattle.constraints.specs.Meeting.{StartBehind, ByStart}

before_by : (a b : ℕ) (order : Ordering) (lt eq : Bool) → nat_lt a b ≡ lt → nat_eq a b ≡ eq → by_path_if_equal lt eq order ≡ true → a ≤ b
before_by a b order true eq is_lt is_eq first = let below : a < b = grind arith in omega (arith, below)
before_by a b order false true is_lt is_eq first = let same : a ≡ b = grind arith in omega (arith, same)
before_by a b order false false is_lt is_eq first = absurd (grind (arith, common_steps))

after_by : (a b : ℕ) (order : Ordering) (lt eq : Bool) → nat_lt a b ≡ lt → by_path_if_equal lt eq order ≡ false → b ≤ a
after_by a b order true eq is_lt first = absurd (grind (arith, common_steps))
after_by a b order false eq is_lt first = grind arith

lower : (a b : ℕ) (spans : List SpanOf) → a ≤ b → StartBehind b spans → StartBehind a spans
lower a b [] below behind = tt
lower a b (span ∷ rest) below behind = (omega (arith, below, behind.0), lower a b rest below behind.1)

put_behind : (time : ℕ) (span : SpanOf) (rest : List SpanOf) → time ≤ span.start → StartBehind time rest → StartBehind time (put_span span rest)
put_behind time span [] first behind = (first, tt)
put_behind time span (next ∷ rest) first behind = go (put_behind time span rest first behind.1) (comes_first span next)
  where
    go : StartBehind time (put_span span rest) → (b : Bool) → StartBehind time (if b then span ∷ next ∷ rest else next ∷ put_span span rest)
    go later true = (first, (behind.0, behind.1))
    go later false = (behind.0, later)

put_order : (span : SpanOf) (rest : List SpanOf) → ByStart rest → ByStart (put_span span rest)
put_order span [] order = (tt, tt)
put_order span (next ∷ rest) order = go (put_order span rest order.1) (comes_first span next) refl
  where
    go : ByStart (put_span span rest) → (b : Bool) → comes_first span next ≡ b → ByStart (if b then span ∷ next ∷ rest else next ∷ put_span span rest)
    go later true e =
        let before = before_by span.start next.start (path_cmp span.path next.path) _ _ refl refl e in
        ((before, lower span.start next.start rest before order.0), (order.0, order.1))
    go later false e =
        let after = after_by span.start next.start (path_cmp span.path next.path) _ _ refl e in
        (put_behind next.start span rest after order.0, later)

pub sorted_order : (spans : List SpanOf) → ByStart (sorted_spans spans)
sorted_order [] = tt
sorted_order (span ∷ rest) = put_order span (sorted_spans rest) (sorted_order rest)

pub in_order : (model : Parts) (run : Run) (spans : List Span) → map defined_span spans ≡ spans_of model run → ByStart (map defined_span spans)
in_order model run spans exact = subst ByStart (sym exact) (sorted_order (spans_from (timed run.instants) model [] (timed run.instants)))
