-- Two runs that are alike in what a rule names are judged alike.
use Rattle.std.proofs.Common.{◌≡◌, ℕ, zero, suc, ◌<◌, ℤ, ◌+ℤ◌, ◌*ℤ◌, Bool, true, false, not, cond, ◌&&◌, ◌||◌, List, [], ◌∷◌, ◌++◌, Option, Some, None, nat_eq, slice_get, if◌then◌else◌, refl, sym, ap, subst, ◌∙◌, arith}
use Rattle.std.proofs.lemmas.Grind.{common_steps}
use Rattle.std.specs.List.{list_any}
use Rattle.aerie_base.specs.declared.values.Value.{Value}
use Rattle.aerie_base.specs.declared.models.model.Parts.{Parts}
use Rattle.aerie_base.specs.expressions.Arithmetic.{number_in, truth_in, same_value, compared}
use Rattle.run_data.specs.declared.runs.Run.{Run}
use Rattle.run_data.specs.Spans.{SpanOf, spans_of, same_path}
use Rattle.windows.specs.Times.{Interval, covers, shifted_contains, long_contains}
use Rattle.windows.specs.Intervals.{one_time_more, intervals_of}
use Rattle.constraints.specs.declared.types.Reading.{Reading}
use Rattle.constraints.specs.declared.types.Reading.TheVariants as read
use Rattle.constraints.specs.declared.types.RuleTerm.{RuleTerm}
use Rattle.constraints.specs.declared.types.RuleSum.{RuleSum}
use Rattle.constraints.specs.declared.types.Rule.{Rule}
use Rattle.constraints.specs.declared.types.Rule.TheVariants.{Plain, Each, Forbid}
use Rattle.constraints.specs.declared.types.Window.{Window, Literal, During, DuringBound, Truth, Same, Compare, Not', And', Or', Shift', Longer', end_of-Window, more_of-Window}
use Rattle.constraints.specs.declared.violation.Violation.{Violation}
use Rattle.constraints.specs.Holding.{equals_or_not, reading_value, rule_terms_value, some_covers, sum_value, times_of, window_holds}
use Rattle.constraints.specs.NamedParts.{names_resource, names_resource_step, names_type, names_type_step, reads_resource, sum_reads_resource}
use Rattle.constraints.specs.Recursion.{window_gives}
use Rattle.constraints.specs.RecursionLaws.{gives_fold}
use Rattle.constraints.specs.Violating.{another_is_on, is_on, listed, meet, violations_of_rule, violations_of_span, violations_of_spans, where_not}
use Rattle.constraints.specs.Alike.{AlikeRunsAreJudgedAlike, AreAlikeFor, HaveSameValues, rule_names_resource, rule_names_type, spans_of_type}

-- ---- truths

or_left : (a b : Bool) → a ≡ true → (a || b) ≡ true
or_left true b e = refl
or_left false b e = absurd (grind (arith, common_steps))

or_right : (a b : Bool) → b ≡ true → (a || b) ≡ true
or_right true b e = refl
or_right false b e = e

equal_is : (n : ℕ) → nat_eq n n ≡ true
equal_is n = grind arith

-- ---- intervals of tests that are equal below the reach

alike_intervals : (reach : ℕ) (f g : ℕ → Bool) → ((t : ℕ) → t < reach → f t ≡ g t) → intervals_of reach f ≡ intervals_of reach g
alike_intervals zero f g same = refl
alike_intervals (suc t) f g same =
    let before = alike_intervals t f g (λ u below. same u (omega (arith, below))) in
    λ i. cond (same t (omega arith) i) (one_time_more (before i) t) (before i)

alike_where : (path : Option (List ℕ)) (reach others : ℕ) (f g : ℕ → Bool) → reach ≡ others → ((t : ℕ) → t < reach → f t ≡ g t) →
    where_not path reach f ≡ where_not path others g
alike_where path reach others f g equal same =
    ap (λ (l : List Interval). listed path reach l) (alike_intervals reach (λ t. not (f t)) (λ t. not (g t)) (λ t below. ap not (same t below)))
    ∙ ap (λ n. listed path n (intervals_of n (λ t. not (g t)))) equal

-- ---- spans of a type

-- only spans of the type count
any_of_type : (kind : ℕ) (p : SpanOf → Bool) (spans : List SpanOf) → list_any (λ span. nat_eq span.kind kind && p span) spans ≡ list_any p (spans_of_type kind spans)
any_of_type kind p [] = refl
any_of_type kind p (span ∷ rest) = go (nat_eq span.kind kind) (any_of_type kind p rest)
  where
    go : (b : Bool) → list_any (λ span. nat_eq span.kind kind && p span) rest ≡ list_any p (spans_of_type kind rest) →
        ((b && p span) || list_any (λ span. nat_eq span.kind kind && p span) rest) ≡ list_any p (if b then span ∷ spans_of_type kind rest else spans_of_type kind rest)
    go true later = ap (λ x. p span || x) later
    go false later = later

alike_any : (kind : ℕ) (p : SpanOf → Bool) (spans others : List SpanOf) → spans_of_type kind spans ≡ spans_of_type kind others →
    list_any (λ span. nat_eq span.kind kind && p span) spans ≡ list_any (λ span. nat_eq span.kind kind && p span) others
alike_any kind p spans others same = any_of_type kind p spans ∙ ap (λ l. list_any p l) same ∙ sym (any_of_type kind p others)

-- ---- windows

module _ (model : Parts) (run other : Run) (reach : run.reach ≡ other.reach) where
  same_reading : (reading : Reading) (t : ℕ) → t < run.reach → ((number : ℕ) → reads_resource number reading ≡ true → HaveSameValues model run other number) →
      reading_value model run reading t ≡ reading_value model other reading t
  same_reading (read.Resource number) t below values = values number (equal_is number) t below
  same_reading (read.Series name series) t below values = refl

  same_terms : (terms : List RuleTerm) (t : ℕ) → t < run.reach →
      ((number : ℕ) → list_any (λ (term : RuleTerm). reads_resource number term.resource) terms ≡ true → HaveSameValues model run other number) →
      rule_terms_value model run terms t ≡ rule_terms_value model other terms t
  same_terms [] t below values = refl
  same_terms (term ∷ rest) t below values =
      let first = same_reading term.resource t below (λ number reads. values number (or_left _ _ reads)) in
      let later = same_terms rest t below (λ number reads. values number (or_right (reads_resource number term.resource) _ reads)) in
      λ i. (term.coefficient *ℤ number_in (first i)) +ℤ later i

  same_sum : (sum : RuleSum) (t : ℕ) → t < run.reach → ((number : ℕ) → sum_reads_resource number sum ≡ true → HaveSameValues model run other number) →
      sum_value model run sum t ≡ sum_value model other sum t
  same_sum sum t below values = ap (λ n. n +ℤ sum.constant) (same_terms sum.terms t below values)

  -- the same spans of each type that a window names, and the same values of each resource
  abbrev SameTypes : Window → Type 0
  SameTypes window = (kind : ℕ) → window_gives Bool false (names_type_step (λ of. nat_eq of kind)) window ≡ true →
      spans_of_type kind (spans_of model run) ≡ spans_of_type kind (spans_of model other)

  abbrev SameResources : Window → Type 0
  SameResources window = (number : ℕ) → window_gives Bool false (names_resource_step number) window ≡ true → HaveSameValues model run other number

  holds_alike : (window : Window) (bound : Option Interval) → SameTypes window → SameResources window → (t : ℕ) → t < run.reach →
      window_holds model run window bound t ≡ window_holds model other window bound t
  unfolding window_holds
  holds_alike (Literal truth) bound types values t below = refl
  holds_alike (During kind) bound types values t below =
      (λ i. some_covers (reach i) kind (spans_of model run) t)
      ∙ alike_any kind (λ span. covers (times_of other.reach span) t) (spans_of model run) (spans_of model other) (types kind (equal_is kind))
  holds_alike DuringBound bound types values t below = refl
  holds_alike (Truth reading) bound types values t below = ap (λ (v : Value). truth_in v) (same_reading reading t below values)
  holds_alike (Same resource value equal) bound types values t below =
      ap (λ (v : Value). equals_or_not equal (same_value v value)) (same_reading resource t below values)
  holds_alike (Compare left how right) bound types values t below =
      let one = same_sum left t below (λ number reads. values number (or_left _ _ reads)) in
      let two = same_sum right t below (λ number reads. values number (or_right (sum_reads_resource number left) _ reads)) in
      λ i. compared how (one i) (two i)
  holds_alike (Not' s (more_of-Window part end_of-Window)) bound types values t below = ap not (holds_alike part bound types values t below)
  holds_alike (And' s (more_of-Window left end_of-Window) u (more_of-Window right end_of-Window)) bound types values t below =
      let one = holds_alike left bound (λ kind names. types kind (or_left _ _ names)) (λ number names. values number (or_left _ _ names)) t below in
      let two = holds_alike right bound (λ kind names. types kind (or_right (window_gives Bool false (names_type_step (λ of. nat_eq of kind)) left) _ names))
      (λ number names. values number (or_right (window_gives Bool false (names_resource_step number) left) _ names)) t below in
      λ i. one i && two i
  holds_alike (Or' s (more_of-Window left end_of-Window) u (more_of-Window right end_of-Window)) bound types values t below =
      let one = holds_alike left bound (λ kind names. types kind (or_left _ _ names)) (λ number names. values number (or_left _ _ names)) t below in
      let two = holds_alike right bound (λ kind names. types kind (or_right (window_gives Bool false (names_type_step (λ of. nat_eq of kind)) left) _ names))
      (λ number names. values number (or_right (window_gives Bool false (names_resource_step number) left) _ names)) t below in
      λ i. one i || two i
  holds_alike (Shift' s (more_of-Window part end_of-Window) start end) bound types values t below =
      let same = alike_intervals run.reach (λ u. window_holds model run part bound u) (λ u. window_holds model other part bound u) (holds_alike part bound types values) in
      ap (λ (l : List Interval). shifted_contains start end l t) (same ∙ ap (λ n. intervals_of n (λ u. window_holds model other part bound u)) reach)
  holds_alike (Longer' s (more_of-Window part end_of-Window) least) bound types values t below =
      let same = alike_intervals run.reach (λ u. window_holds model run part bound u) (λ u. window_holds model other part bound u) (holds_alike part bound types values) in
      ap (λ (l : List Interval). long_contains least l t) (same ∙ ap (λ n. intervals_of n (λ u. window_holds model other part bound u)) reach)

  -- ---- rules

  plain_alike : (window : Window) (path : Option (List ℕ)) (bound : Option Interval) → SameTypes window → SameResources window →
      where_not path run.reach (window_holds model run window bound) ≡ where_not path other.reach (window_holds model other window bound)
  plain_alike window path bound types values = alike_where path run.reach other.reach (window_holds model run window bound) (window_holds model other window bound) reach (holds_alike window bound types values)

  -- those of all spans of a list
  abbrev all_of_spans : Run → Window → List SpanOf → List Violation
  all_of_spans on window [] = []
  all_of_spans on window (span ∷ rest) = violations_of_span model on window span ++ all_of_spans on window rest

  only_of_type : (on : Run) (kind : ℕ) (window : Window) (spans : List SpanOf) → violations_of_spans model on kind window spans ≡ all_of_spans on window (spans_of_type kind spans)
  only_of_type on kind window [] = refl
  only_of_type on kind window (span ∷ rest) = go (nat_eq span.kind kind) (only_of_type on kind window rest)
    where
      go : (b : Bool) → violations_of_spans model on kind window rest ≡ all_of_spans on window (spans_of_type kind rest) →
          ((if b then violations_of_span model on window span else []) ++ violations_of_spans model on kind window rest) ≡ all_of_spans on window (if b then span ∷ spans_of_type kind rest else spans_of_type kind rest)
      go true later = ap (λ l. violations_of_span model on window span ++ l) later
      go false later = later

  span_alike : (window : Window) (span : SpanOf) → SameTypes window → SameResources window → violations_of_span model run window span ≡ violations_of_span model other window span
  span_alike window span types values =
      plain_alike window (Some span.path) (Some (times_of run.reach span)) types values
      ∙ ap (λ n. where_not (Some span.path) other.reach (window_holds model other window (Some (times_of n span)))) reach

  all_alike : (window : Window) (spans : List SpanOf) → SameTypes window → SameResources window → all_of_spans run window spans ≡ all_of_spans other window spans
  all_alike window [] types values = refl
  all_alike window (span ∷ rest) types values =
      let first = span_alike window span types values in
      let later = all_alike window rest types values in
      λ i. first i ++ later i

  each_alike : (kind : ℕ) (window : Window) → spans_of_type kind (spans_of model run) ≡ spans_of_type kind (spans_of model other) → SameTypes window → SameResources window →
      violations_of_spans model run kind window (spans_of model run) ≡ violations_of_spans model other kind window (spans_of model other)
  each_alike kind window same types values =
      only_of_type run kind window (spans_of model run)
      ∙ all_alike window (spans_of_type kind (spans_of model run)) types values
      ∙ ap (λ (l : List SpanOf). all_of_spans other window l) same
      ∙ sym (only_of_type other kind window (spans_of model other))

-- ---- two types that exclude one another

and_again : (a b c : Bool) → ((a && b) && c) ≡ (a && (b && c))
and_again true b c = refl
and_again false b c = refl

-- whether another span among these covers the time
abbrev another_covers : ℕ → ℕ → List SpanOf → SpanOf → Bool
another_covers reach t spans span = list_any (λ other. not (same_path span.path other.path) && covers (times_of reach other) t) spans

another_of_type : (reach kind : ℕ) (spans : List SpanOf) (t : ℕ) (span : SpanOf) → another_is_on reach kind spans t span ≡ another_covers reach t (spans_of_type kind spans) span
another_of_type reach kind [] t span = refl
another_of_type reach kind (other ∷ rest) t span = go (nat_eq other.kind kind) (not (same_path span.path other.path)) (another_of_type reach kind rest t span)
  where
    go : (b apart : Bool) → another_is_on reach kind rest t span ≡ another_covers reach t (spans_of_type kind rest) span →
        ((not (same_path span.path other.path) && (b && covers (times_of reach other) t)) || another_is_on reach kind rest t span)
        ≡ another_covers reach t (if b then other ∷ spans_of_type kind rest else spans_of_type kind rest) span
    go true apart later = ap (λ x. (not (same_path span.path other.path) && covers (times_of reach other) t) || x) later
    go false apart later = ap (λ x. x || another_is_on reach kind rest t span) (never (not (same_path span.path other.path))) ∙ later
      where
        never : (b : Bool) → (b && false) ≡ false
        never true = refl
        never false = refl

-- only spans of the two types count
meet_of_types : (reach one two : ℕ) (spans : List SpanOf) (t : ℕ) →
    meet reach one two spans t ≡ list_any (λ span. covers (times_of reach span) t && another_covers reach t (spans_of_type two spans) span) (spans_of_type one spans)
meet_of_types reach one two spans t =
    (λ i. list_any (λ span. and_again (nat_eq span.kind one) (covers (times_of reach span) t) (another_of_type reach two spans t span i) i) spans)
    ∙ any_of_type one (λ span. covers (times_of reach span) t && another_covers reach t (spans_of_type two spans) span) spans

meet_alike : (reach one two t : ℕ) (spans others : List SpanOf) → spans_of_type one spans ≡ spans_of_type one others → spans_of_type two spans ≡ spans_of_type two others →
    meet reach one two spans t ≡ meet reach one two others t
meet_alike reach one two t spans others first second =
    meet_of_types reach one two spans t
    ∙ (λ i. list_any (λ span. covers (times_of reach span) t && another_covers reach t (second i) span) (first i))
    ∙ sym (meet_of_types reach one two others t)

forbid_alike : (model : Parts) (run other : Run) (one two : ℕ) → run.reach ≡ other.reach →
    spans_of_type one (spans_of model run) ≡ spans_of_type one (spans_of model other) → spans_of_type two (spans_of model run) ≡ spans_of_type two (spans_of model other) →
    where_not None run.reach (λ t. not (meet run.reach one two (spans_of model run) t)) ≡ where_not None other.reach (λ t. not (meet other.reach one two (spans_of model other) t))
forbid_alike model run other one two reach first second =
    alike_where None run.reach other.reach (λ t. not (meet run.reach one two (spans_of model run) t)) (λ t. not (meet other.reach one two (spans_of model other) t)) reach
    (λ t below. ap not ((λ i. meet (reach i) one two (spans_of model run) t) ∙ meet_alike other.reach one two t (spans_of model run) (spans_of model other) first second))

-- ---- constraints

-- what a window names by the recursion, which computes, it names by the fold
names_type_is : (kind : ℕ) (window : Window) → window_gives Bool false (names_type_step (λ of. nat_eq of kind)) window ≡ names_type kind window
names_type_is kind window = gives_fold Bool false (names_type_step (λ of. nat_eq of kind)) window

names_resource_is : (number : ℕ) (window : Window) → window_gives Bool false (names_resource_step number) window ≡ names_resource number window
names_resource_is number window = gives_fold Bool false (names_resource_step number) window

rule_alike : (model : Parts) (run other : Run) (rule : Rule) → AreAlikeFor model run other rule → violations_of_rule model run rule ≡ violations_of_rule model other rule
rule_alike model run other (Plain window) alike =
    plain_alike model run other alike.reach window None None (λ kind names. alike.spans kind (sym (names_type_is kind window) ∙ names))
    (λ number names. alike.values number (sym (names_resource_is number window) ∙ names))
rule_alike model run other (Each kind window) alike =
    each_alike model run other alike.reach kind window (alike.spans kind (or_left _ _ (equal_is kind)))
    (λ of names. alike.spans of (or_right (nat_eq kind of) _ (sym (names_type_is of window) ∙ names)))
    (λ number names. alike.values number (sym (names_resource_is number window) ∙ names))
rule_alike model run other (Forbid one two) alike =
    forbid_alike model run other one two alike.reach (alike.spans one (or_left _ _ (equal_is one))) (alike.spans two (or_right (nat_eq one two) _ (equal_is two)))

pub alike_runs : AlikeRunsAreJudgedAlike
alike_runs model run other constraint alike = rule_alike model run other constraint.rule alike
