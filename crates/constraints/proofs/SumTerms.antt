-- The terms of a sum, one after another, and the comparison of two sums by their difference.
use Rattle.std.proofs.Common.{◌≡◌, ℕ, zero, suc, ◌+◌, ◌*◌, ◌<◌, ◌≤◌, ℤ, pos, negsuc, ◌+ℤ◌, ◌*ℤ◌, Bool, true, false, ◌&&◌, List, [], ◌∷◌, ◌++◌, length, take, get_or, IsTrue, refl, sym, ap, subst, ◌∙◌, arith, unsigned_abs, nat_le, true≢false, to_z, of_z}
use Rattle.std.specs.List.{list_all}
use Rattle.std.specs.Int.{w64, w128}
use Rattle.std.proofs.lemmas.Int.{ints, to_z-of_z, fits_signed_from_abs}
use Rattle.std.proofs.lemmas.Bool.{leb-true}
use Rattle.std.proofs.lemmas.List.{take_more}
use Rattle.aerie_base.specs.declared.models.model.Parts.{Parts}
use Rattle.aerie_base.specs.declared.values.Kind.TheVariants as kind
use Rattle.aerie_base.specs.expressions.Arithmetic.{compared}
use Rattle.aerie_base.specs.Products.{product_within}
use Rattle.run_data.specs.declared.runs.Run.{Run}
use Rattle.windows.specs.declared.segments.Segment.{Segment}
use Rattle.windows.specs.Linear.{AreSegments, IsSum, segments_value}
use Rattle.constraints.specs.declared.types.RuleTerm.{RuleTerm}
use Rattle.constraints.specs.declared.types.RuleSum.{RuleSum}
use Rattle.constraints.specs.Following.{FollowsReading}
use Rattle.constraints.specs.Holding.{sum_value, rule_term_value, rule_terms_value}
use Rattle.constraints.specs.OfModel.{is_of_kind, reading_kind, is_sum, is_term}
use Rattle.constraints.specs.SumPieces.{AreModest, SumTo, product_limit}
use Rattle.aerie_base.specs.declared.expressions.Comparison.{Comparison}
use Rattle.constraints.proofs.Differences.{less_once, compared_difference}

-- ---- what is known of a term and of a sum

left_of : (a b : Bool) → IsTrue (a && b) → IsTrue a
left_of true b both = refl
left_of false b both = both

right_of : (a b : Bool) → IsTrue (a && b) → IsTrue b
right_of true b both = both
right_of false b both = absurd (true≢false (sym both))

pub coefficient_small : (model : Parts) (term : RuleTerm) → IsTrue (is_term model term) → unsigned_abs term.coefficient ≤ 1_000_000
coefficient_small model term is = leb-true (unsigned_abs term.coefficient) 1_000_000 (left_of (nat_le (unsigned_abs term.coefficient) 1_000_000) (is_of_kind kind.Int (reading_kind model term.resource)) is)

pub term_typed : (model : Parts) (term : RuleTerm) → IsTrue (is_term model term) → IsTrue (is_of_kind kind.Int (reading_kind model term.resource))
term_typed model term is = right_of (nat_le (unsigned_abs term.coefficient) 1_000_000) (is_of_kind kind.Int (reading_kind model term.resource)) is

pub term_count : (model : Parts) (sum : RuleSum) → IsTrue (is_sum model sum) → length sum.terms ≤ 16
term_count model sum is = leb-true (length sum.terms) 16 (left_of (nat_le (length sum.terms) 16) (list_all (is_term model) sum.terms) (left_of (nat_le (length sum.terms) 16 && list_all (is_term model) sum.terms) (nat_le (unsigned_abs sum.constant) 16_000_000_000_000_000_000) is))

terms_are : (model : Parts) (sum : RuleSum) → IsTrue (is_sum model sum) → IsTrue (list_all (is_term model) sum.terms)
terms_are model sum is = right_of (nat_le (length sum.terms) 16) (list_all (is_term model) sum.terms) (left_of (nat_le (length sum.terms) 16 && list_all (is_term model) sum.terms) (nat_le (unsigned_abs sum.constant) 16_000_000_000_000_000_000) is)

pub constant_small : (model : Parts) (sum : RuleSum) → IsTrue (is_sum model sum) → unsigned_abs sum.constant ≤ 16_000_000_000_000_000_000
constant_small model sum is = leb-true (unsigned_abs sum.constant) 16_000_000_000_000_000_000 (right_of (nat_le (length sum.terms) 16 && list_all (is_term model) sum.terms) (nat_le (unsigned_abs sum.constant) 16_000_000_000_000_000_000) is)

term_in : (model : Parts) (terms : List RuleTerm) (i : ℕ) (term : RuleTerm) → IsTrue (list_all (is_term model) terms) → i < length terms → term ≡ get_or terms i term → IsTrue (is_term model term)
term_in model [] i term all within is = absurd (omega arith)
term_in model (first ∷ rest) zero term all within is = subst (λ (x : RuleTerm). IsTrue (is_term model x)) (sym is) (left_of (is_term model first) (list_all (is_term model) rest) all)
term_in model (first ∷ rest) (suc i) term all within is = term_in model rest i term (right_of (is_term model first) (list_all (is_term model) rest) all) (omega arith) is

pub term_at : (model : Parts) (sum : RuleSum) (terms : List RuleTerm) (i : ℕ) (term : RuleTerm) → IsTrue (is_sum model sum) → terms ≡ sum.terms → i < length terms → term ≡ get_or terms i term → IsTrue (is_term model term)
term_at model sum terms i term is same within at = term_in model terms i term (subst (λ (l : List RuleTerm). IsTrue (list_all (is_term model) l)) (sym same) (terms_are model sum is)) within at

-- ---- one term more

module _ (model : Parts) (run : Run) (term : RuleTerm) where
  pub term_small : (segments : List Segment) → unsigned_abs term.coefficient ≤ 1_000_000 → FollowsReading model run term.resource segments → (t : ℕ) → t < run.reach → unsigned_abs (term.coefficient *ℤ segments_value segments t) ≤ product_limit
  term_small segments coefficient follows t below =
      let product = product_within term.coefficient (segments_value segments t) coefficient in
      let small = follows.small t below in
      omega (arith, product, small)

  pub term_is : (segments : List Segment) → FollowsReading model run term.resource segments → (t : ℕ) → t < run.reach → term.coefficient *ℤ segments_value segments t ≡ rule_term_value model run term t
  term_is segments follows t below = ap (λ (z : ℤ). term.coefficient *ℤ z) (follows.values t below)

  pub product_sum : (segments : List Segment) → unsigned_abs term.coefficient ≤ 1_000_000 → FollowsReading model run term.resource segments → (t : ℕ) → t < run.reach → IsSum (term.coefficient *ℤ segments_value segments t)
  product_sum segments coefficient follows t below = let small = term_small segments coefficient follows t below in omega (arith, small)

  pub total_sum : (sum segments : List Segment) → unsigned_abs term.coefficient ≤ 1_000_000 → FollowsReading model run term.resource segments → ((t : ℕ) → t < run.reach → unsigned_abs (segments_value sum t) ≤ product_limit * 16) →
      (t : ℕ) → t < run.reach → IsSum (segments_value sum t +ℤ term.coefficient *ℤ segments_value segments t)
  total_sum sum segments coefficient follows sum_small t below =
      let small = term_small segments coefficient follows t below in
      let before = sum_small t below in
      omega (arith, ints, small, before)

-- ---- all terms

terms_more : (model : Parts) (run : Run) (terms : List RuleTerm) (term : RuleTerm) (t : ℕ) → rule_terms_value model run (terms ++ term ∷ []) t ≡ rule_terms_value model run terms t +ℤ rule_term_value model run term t
terms_more model run [] term t = omega (arith, ints)
terms_more model run (first ∷ rest) term t = let more = terms_more model run rest term t in omega (arith, ints, more)

pub sum_none : (model : Parts) (run : Run) (sum : RuleSum) (made : List Segment) → IsTrue (is_sum model sum) → AreSegments run.reach made → ((t : ℕ) → t < run.reach → segments_value made t ≡ sum.constant) → SumTo model run [] sum.constant 0 made
sum_none model run sum made is form values = record {
  form = form;
  values = λ t below. let here = values t below in omega (arith, ints, here);
  small = λ t below. let small = constant_small model sum is in subst (λ (z : ℤ). unsigned_abs z ≤ product_limit * (0 + 1)) (sym (values t below)) (omega (arith, small));
}

pub sum_more : (model : Parts) (run : Run) (terms : List RuleTerm) (constant : ℤ) (i : ℕ) (term : RuleTerm) (made new : List Segment) → i < length terms → term ≡ get_or terms i term → SumTo model run (take i terms) constant i made →
    AreSegments run.reach new → ((t : ℕ) → t < run.reach → segments_value new t ≡ segments_value made t +ℤ rule_term_value model run term t) →
    ((t : ℕ) → t < run.reach → unsigned_abs (rule_term_value model run term t) ≤ product_limit) → SumTo model run (take (i + 1) terms) constant (i + 1) new
sum_more model run terms constant i term made new within is before form values small = record {
  form = form;
  values = λ t below.
      let here = values t below in
      let there = before.values t below in
      let more = terms_more model run (take i terms) term t in
      let whole : rule_terms_value model run (take (i + 1) terms) t ≡ rule_terms_value model run (take i terms ++ term ∷ []) t =
      ap (λ (l : List RuleTerm). rule_terms_value model run l t) (take_more terms i term within ∙ ap (λ x. take i terms ++ x ∷ []) (sym is)) in
      omega (arith, ints, here, there, more, whole);
  small = λ t below.
      let here = values t below in
      let there = before.small t below in
      let one = small t below in
      omega (arith, ints, here, there, one);
}

pub sum_so_far : (model : Parts) (run : Run) (sum : RuleSum) (terms : List RuleTerm) (i : ℕ) (made : List Segment) → IsTrue (is_sum model sum) → terms ≡ sum.terms → i < length terms → SumTo model run (take i terms) sum.constant i made →
    (t : ℕ) → t < run.reach → unsigned_abs (segments_value made t) ≤ product_limit * 16
sum_so_far model run sum terms i made is same within before t below =
    let there = before.small t below in
    let few : length terms ≤ 16 = subst (λ (l : List RuleTerm). length l ≤ 16) (sym same) (term_count model sum is) in
    omega (arith, within, few, there)

pub constant_handed : (model : Parts) (sum : RuleSum) → IsTrue (is_sum model sum) → to_z w128 (of_z w128 sum.constant) ≡ sum.constant
constant_handed model sum is = let small = constant_small model sum is in to_z-of_z w128 sum.constant (fits_signed_from_abs w128 sum.constant (omega (arith, small)))

pub constant_sum : (model : Parts) (sum : RuleSum) → IsTrue (is_sum model sum) → IsSum (to_z w128 (of_z w128 sum.constant))
constant_sum model sum is = let small = constant_small model sum is in subst IsSum (sym (constant_handed model sum is)) (omega (arith, small))

take_past : (terms : List RuleTerm) (i : ℕ) → length terms ≤ i → take i terms ≡ terms
take_past [] zero past = refl
take_past [] (suc i) past = refl
take_past (x ∷ xs) zero past = absurd (omega arith)
take_past (x ∷ xs) (suc i) past = ap (λ l. x ∷ l) (take_past xs i (omega arith))

pub sum_all : (model : Parts) (run : Run) (sum : RuleSum) (terms : List RuleTerm) (i : ℕ) (made : List Segment) → terms ≡ sum.terms → i ≤ length terms → length sum.terms ≤ 16 → length terms ≤ i → SumTo model run (take i terms) sum.constant i made →
    SumTo model run sum.terms sum.constant 16 made
sum_all model run sum terms i made same no_more few past before = record {
  form = before.form;
  values = λ t below. before.values t below ∙ ap (λ (l : List RuleTerm). rule_terms_value model run l t +ℤ sum.constant) (take_past terms i past ∙ same);
  small = λ t below.
      let there = before.small t below in
      let count : length terms ≤ 16 = subst (λ (l : List RuleTerm). length l ≤ 16) (sym same) few in
      omega (arith, there, count, no_more);
}

-- ---- for the code

pub handed_small : (x : ℤ) → unsigned_abs x ≤ 1_000_000 → to_z w64 (of_z w64 x) ≡ x
handed_small x small = to_z-of_z w64 x (fits_signed_from_abs w64 x (omega (arith, small)))

module _ (model : Parts) (run : Run) (term : RuleTerm) (more segments : List Segment) where
  pub product_handed : IsTrue (is_term model term) → more ≡ segments → FollowsReading model run term.resource segments → (t : ℕ) → t < run.reach → IsSum (to_z w64 (of_z w64 term.coefficient) *ℤ segments_value more t)
  product_handed is same follows t below =
      let coefficient = coefficient_small model term is in
      subst IsSum (sym (λ i. handed_small term.coefficient coefficient i *ℤ segments_value (same i) t)) (product_sum model run term segments coefficient follows t below)

  pub total_handed : (sum so_far : List Segment) → IsTrue (is_term model term) → more ≡ segments → so_far ≡ sum → FollowsReading model run term.resource segments →
      ((t : ℕ) → t < run.reach → unsigned_abs (segments_value sum t) ≤ product_limit * 16) → (t : ℕ) → t < run.reach →
      IsSum (segments_value so_far t +ℤ to_z w64 (of_z w64 term.coefficient) *ℤ segments_value more t)
  total_handed sum so_far is same sum_same follows sum_small t below =
      let coefficient = coefficient_small model term is in
      subst IsSum (sym (λ i. segments_value (sum_same i) t +ℤ handed_small term.coefficient coefficient i *ℤ segments_value (same i) t)) (total_sum model run term sum segments coefficient follows sum_small t below)

  pub values_handed : (sum so_far made : List Segment) → IsTrue (is_term model term) → more ≡ segments → so_far ≡ sum → FollowsReading model run term.resource segments →
      ((t : ℕ) → t < run.reach → segments_value made t ≡ segments_value so_far t +ℤ to_z w64 (of_z w64 term.coefficient) *ℤ segments_value more t) →
      (t : ℕ) → t < run.reach → segments_value made t ≡ segments_value sum t +ℤ rule_term_value model run term t
  values_handed sum so_far made is same sum_same follows values t below =
      let coefficient = coefficient_small model term is in
      values t below ∙ (λ i. segments_value (sum_same i) t +ℤ handed_small term.coefficient coefficient i *ℤ segments_value (same i) t)
      ∙ ap (λ (z : ℤ). segments_value sum t +ℤ z) (term_is model run term segments follows t below)

  pub term_within : IsTrue (is_term model term) → FollowsReading model run term.resource segments → (t : ℕ) → t < run.reach → unsigned_abs (rule_term_value model run term t) ≤ product_limit
  term_within is follows t below =
      subst (λ (z : ℤ). unsigned_abs z ≤ product_limit) (term_is model run term segments follows t below) (term_small model run term segments (coefficient_small model term is) follows t below)

-- a sum is modest
pub sum_modest : (model : Parts) (run : Run) (terms : List RuleTerm) (constant : ℤ) (made : List Segment) → SumTo model run terms constant 16 made → AreModest run.reach made
sum_modest model run terms constant made to = record { form = to.form; small = to.small }

-- the one sum without the other
module _ (reach : ℕ) (left right one other : List Segment) (left_is : one ≡ left) (right_is : other ≡ right) where
  pub without_product : AreModest reach right → (t : ℕ) → t < reach → IsSum (negsuc 0 *ℤ segments_value other t)
  without_product modest t below =
      let small = modest.small t below in
      let once = less_once (segments_value right t) in
      subst (λ (l : List Segment). IsSum (negsuc 0 *ℤ segments_value l t)) (sym right_is) (omega (arith, ints, small, once))

  pub without_total : AreModest reach left → AreModest reach right → (t : ℕ) → t < reach → IsSum (segments_value one t +ℤ negsuc 0 *ℤ segments_value other t)
  without_total left_modest right_modest t below =
      let small = left_modest.small t below in
      let other_small = right_modest.small t below in
      let once = less_once (segments_value right t) in
      subst IsSum (sym (λ i. segments_value (left_is i) t +ℤ negsuc 0 *ℤ segments_value (right_is i) t)) (omega (arith, ints, small, other_small, once))

  pub without_values : (made : List Segment) → ((t : ℕ) → t < reach → segments_value made t ≡ segments_value one t +ℤ negsuc 0 *ℤ segments_value other t) →
      (t : ℕ) → t < reach → segments_value made t ≡ segments_value left t +ℤ negsuc 0 *ℤ segments_value right t
  without_values made values t below = values t below ∙ (λ i. segments_value (left_is i) t +ℤ negsuc 0 *ℤ segments_value (right_is i) t)

-- where the difference compares so with 0
pub compared_sums : (model : Parts) (run : Run) (left right : RuleSum) (how : Comparison) (one other difference pieces : List Segment) → SumTo model run left.terms left.constant 16 one → SumTo model run right.terms right.constant 16 other →
    ((t : ℕ) → t < run.reach → segments_value difference t ≡ segments_value one t +ℤ negsuc 0 *ℤ segments_value other t) → pieces ≡ difference →
    (t : ℕ) → t < run.reach → compared how (segments_value pieces t) (pos 0) ≡ compared how (sum_value model run left t) (sum_value model run right t)
compared_sums model run left right how one other difference pieces left_to right_to values same t below =
    compared_difference how (sum_value model run left t) (sum_value model run right t) (segments_value pieces t)
    (ap (λ (l : List Segment). segments_value l t) same ∙ values t below ∙ (λ i. left_to.values t below i +ℤ negsuc 0 *ℤ right_to.values t below i))
