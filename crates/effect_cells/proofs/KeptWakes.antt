-- What a wake time depends on, and how long it stays right.
use Rattle.std.proofs.Common.{◌≡◌, ℕ, zero, suc, ◌+◌, ◌<◌, ◌≤◌, Bool, true, false, ◌&&◌, ◌||◌, not, List, [], ◌∷◌, Option, Some, None, is_some, nat_eq, refl, sym, ap, ◌∙◌, arith, subst}
use Rattle.std.specs.Prelude.{slice_get, option_map, ◌+ℤ◌, ◌*ℤ◌, ◌↔◌}
use Rattle.std.proofs.lemmas.Bool.{false≢true}
use Rattle.std.proofs.lemmas.Bool.Decides.{nat_tests}
use Rattle.aerie_base.specs.conditions.Holding.{holds, operand_value, side_value, terms_value, linear_value}
use Rattle.aerie_base.specs.expressions.Arithmetic.{number_in, truth_in, same_value, compared}
use Rattle.aerie_base.specs.expressions.Readings.{cell_of}
use Rattle.aerie_base.specs.declared.conditions.Cond.{Cond, Literal, Flag, Same, Compare, Not', And', Or', end_of-Cond, more_of-Cond}
use Rattle.aerie_base.specs.declared.conditions.Simple.{Simple}
use Rattle.aerie_base.specs.declared.conditions.Simple.TheVariants as simple
use Rattle.aerie_base.specs.declared.linear.Term.{Term}
use Rattle.aerie_base.specs.declared.linear.Linear.{Linear}
use Rattle.aerie_base.specs.declared.operands.Operand.{Operand}
use Rattle.aerie_base.specs.declared.operands.Operand.TheVariants.{Read, Local}
use Rattle.effect_cells.specs.Cells.{passed, committed_cells, with_effects}
use Rattle.effect_cells.specs.KeptWakes.{IsNotBefore, counted_before}
use Rattle.effect_cells.specs.ReadCells.{reads_operand, reads_side, reads_terms, reads_cell, AgreeOn}
use Rattle.effect_cells.specs.Reads.{value_on, state_value}
use Rattle.effect_cells.specs.States.{state_after}
use Rattle.effect_cells.specs.SumLaws.{flowed_sum, flowed_zero}
use Rattle.effect_cells.specs.Searching.{found_or, least_from}
use Rattle.effect_cells.specs.WakeTimes.{holds_on, holds_in, wake_time}
use Rattle.effect_cells.specs.Worth.{worth_of, has_effect_on}
use Rattle.effect_cells.specs.WorthLaws.{is_some_where_on}
use Rattle.effect_cells.specs.declared.effects.Effect.{Effect}
use Rattle.effect_cells.specs.declared.effects.CellState.{CellState}
use Rattle.effect_cells.specs.declared.effects.CellState.TheVariants.{Counter, Register, Volume}
use Rattle.effect_cells.specs.States.{volume_of}
use Rattle.effect_cells.specs.declared.trees.Tree.{Tree}

-- ---- time passes in parts

later_twice : (state : CellState) (a b : ℕ) → state_after b (state_after a state) ≡ state_after (a + b) state
later_twice (Counter number) a b = refl
later_twice (Register value conflicted) a b = refl
later_twice (Volume volume rate) a b = ap volume_of (sym (flowed_sum (volume, rate) a b))

later_none : (state : CellState) → state_after 0 state ≡ state
later_none (Counter number) = refl
later_none (Register value conflicted) = refl
later_none (Volume volume rate) = ap volume_of (flowed_zero (volume, rate))

pub passes_in_parts : (cells : List CellState) (a b : ℕ) → passed (passed cells a) b ≡ passed cells (a + b)
passes_in_parts [] a b = refl
passes_in_parts (state ∷ rest) a b = λ i. later_twice state a b i ∷ passes_in_parts rest a b i

passed_none : (cells : List CellState) → passed cells 0 ≡ cells
passed_none [] = refl
passed_none (state ∷ rest) = λ i. later_none state i ∷ passed_none rest i

-- ---- what a condition depends on

itself : (a : ℕ) → nat_eq a a ≡ true
itself a = grind (arith, nat_tests)

or_left : (a b : Bool) → a ≡ true → (a || b) ≡ true
or_left true b e = refl
or_left false b e = absurd (false≢true e)

or_right : (a b : Bool) → b ≡ true → (a || b) ≡ true
or_right true b e = refl
or_right false b e = e

first_of : (f g : ℕ → Bool) (cells others : List CellState) → AgreeOn (λ cell. f cell || g cell) cells others → AgreeOn f cells others
first_of f g cells others agree cell on = agree cell (or_left (f cell) (g cell) on)

second_of : (f g : ℕ → Bool) (cells others : List CellState) → AgreeOn (λ cell. f cell || g cell) cells others → AgreeOn g cells others
second_of f g cells others agree cell on = agree cell (or_right (f cell) (g cell) on)

module _ (cells others : List CellState) where
  operand_same : (operand : Operand) → AgreeOn (reads_operand operand) cells others → operand_value (value_on cells) [] operand ≡ operand_value (value_on others) [] operand
  operand_same (Read read) agree = ap (state_value read) (agree (cell_of read) (itself (cell_of read)))
  operand_same (Local slot) agree = refl

  side_same : (side : Simple) → AgreeOn (reads_side side) cells others → side_value (value_on cells) [] side ≡ side_value (value_on others) [] side
  side_same (simple.Literal value) agree = refl
  side_same (simple.Operand operand) agree = operand_same operand agree

  terms_same : (terms : List Term) → AgreeOn (reads_terms terms) cells others → terms_value (value_on cells) [] terms ≡ terms_value (value_on others) [] terms
  terms_same [] agree = refl
  terms_same (term ∷ rest) agree = λ i.
      (term.coefficient *ℤ number_in (operand_same term.operand (first_of (reads_operand term.operand) (reads_terms rest) cells others agree) i))
      +ℤ terms_same rest (second_of (reads_operand term.operand) (reads_terms rest) cells others agree) i

  linear_same : (form : Linear) → AgreeOn (reads_terms form.terms) cells others → linear_value (value_on cells) [] form ≡ linear_value (value_on others) [] form
  linear_same form agree = ap (λ sum. sum +ℤ form.constant) (terms_same form.terms agree)

  same_equality : (left right : Simple) (equal : Bool) → side_value (value_on cells) [] left ≡ side_value (value_on others) [] left →
      side_value (value_on cells) [] right ≡ side_value (value_on others) [] right →
      holds (Same left right equal) (value_on cells) [] ≡ holds (Same left right equal) (value_on others) []
  unfolding holds
  same_equality left right true l r = λ i. same_value (l i) (r i)
  same_equality left right false l r = λ i. not (same_value (l i) (r i))

  pub holds_same : (condition : Cond) → AgreeOn (reads_cell condition) cells others → holds condition (value_on cells) [] ≡ holds condition (value_on others) []
  unfolding holds reads_cell
  holds_same (Literal truth) agree = refl
  holds_same (Flag operand) agree = ap truth_in (operand_same operand agree)
  holds_same (Same left right equal) agree =
      same_equality left right equal (side_same left (first_of (reads_side left) (reads_side right) cells others agree))
      (side_same right (second_of (reads_side left) (reads_side right) cells others agree))
  holds_same (Compare left how right) agree = λ i.
      compared how (linear_same left (first_of (reads_terms left.terms) (reads_terms right.terms) cells others agree) i)
      (linear_same right (second_of (reads_terms left.terms) (reads_terms right.terms) cells others agree) i)
  holds_same (Not' s (more_of-Cond part end_of-Cond)) agree = ap not (holds_same part agree)
  holds_same (And' s (more_of-Cond left end_of-Cond) t (more_of-Cond right end_of-Cond)) agree = λ i.
      holds_same left (first_of (reads_cell left) (reads_cell right) cells others agree) i
      && holds_same right (second_of (reads_cell left) (reads_cell right) cells others agree) i
  holds_same (Or' s (more_of-Cond left end_of-Cond) t (more_of-Cond right end_of-Cond)) agree = λ i.
      holds_same left (first_of (reads_cell left) (reads_cell right) cells others agree) i
      || holds_same right (second_of (reads_cell left) (reads_cell right) cells others agree) i

-- ---- its wake time

get_passed : (cells : List CellState) (dt cell : ℕ) → slice_get (passed cells dt) cell ≡ option_map (state_after dt) (slice_get cells cell)
get_passed [] dt cell = refl
get_passed (state ∷ rest) dt zero = refl
get_passed (state ∷ rest) dt (suc cell) = get_passed rest dt cell

agree_passed : (test : ℕ → Bool) (cells others : List CellState) (dt : ℕ) → AgreeOn test cells others → AgreeOn test (passed cells dt) (passed others dt)
agree_passed test cells others dt agree cell on = get_passed cells dt cell ∙ ap (option_map (state_after dt)) (agree cell on) ∙ sym (get_passed others dt cell)

pub wakes_same : (condition : Cond) (cells others : List CellState) (limit : ℕ) → AgreeOn (reads_cell condition) cells others →
    wake_time cells condition limit ≡ wake_time others condition limit
wakes_same condition cells others limit agree = λ i.
    least_from (λ dt. holds_same (passed cells dt) (passed others dt) condition (agree_passed (reads_cell condition) cells others dt agree) i) 0 limit

-- ---- through a batch

get_with_effects : (from : ℕ) (on : ℕ → Option Effect) (cells : List CellState) (cell at : ℕ) → at ≡ from + cell → on at ≡ None →
    slice_get (with_effects from on cells) cell ≡ slice_get cells cell
get_with_effects from on [] cell at e none = refl
get_with_effects from on (state ∷ rest) zero at e none =
    let here : at ≡ from = omega arith in
    let nothing : on from ≡ None = rw (← here) none in
    rw nothing refl
get_with_effects from on (state ∷ rest) (suc cell) at e none = get_with_effects (from + 1) on rest cell at (omega arith) none

no_worth : (tree : Tree) (cell : ℕ) → has_effect_on tree cell ≡ false → worth_of tree cell ≡ None
no_worth tree cell out = go (worth_of tree cell) refl
  where
    go : (o : Option Effect) → worth_of tree cell ≡ o → worth_of tree cell ≡ None
    go None e = e
    go (Some effect) e =
        let some : is_some (worth_of tree cell) ≡ true = ap is_some e in
        absurd (false≢true (sym out ∙ sym (is_some_where_on tree cell) ∙ some))

pub stays_through_batches : (condition : Cond) (cells : List CellState) (tree : Tree) (limit : ℕ) → ((cell : ℕ) → reads_cell condition cell ≡ true → has_effect_on tree cell ≡ false) →
    wake_time (committed_cells cells tree) condition limit ≡ wake_time cells condition limit
stays_through_batches condition cells tree limit apart =
    wakes_same condition (committed_cells cells tree) cells limit
    (λ cell on. get_with_effects 0 (worth_of tree) cells cell cell (omega arith) (no_worth tree cell (apart cell on)))

-- ---- while time passes

-- a search that begins later, where nothing before passes
skipped : (p : ℕ → Bool) (from a count n f : ℕ) → n ≡ a + count → f ≡ from + a → ((k : ℕ) → from ≤ k → k < from + a → p k ≡ false) → least_from p from n ≡ least_from p f count
skipped p from zero count n f e g h = let x : n ≡ count = omega (arith, e) in let y : f ≡ from = omega (arith, g) in rw (x, y) refl
skipped p from (suc a) count zero f e g h = absurd (omega (arith, e))
skipped p from (suc a) count (suc n) f e g h =
    let here : p from ≡ false = h from (omega arith) (omega arith) in
    let rest = skipped p (from + 1) a count n f (omega (arith, e)) (omega (arith, g)) (λ k l m. h k (omega (arith, l)) (omega (arith, m))) in
    rw here rest

-- counted from another zero
shifted : (p : ℕ → Bool) (k from count f : ℕ) → f ≡ k + from → least_from p f count ≡ counted_before k (least_from (λ n. p (k + n)) from count)
shifted p k from zero f e = refl
shifted p k from (suc count) f e = rw e (go (p (k + from)) (shifted p k (from + 1) count (k + from + 1) (omega arith)))
  where
    go : (b : Bool) → least_from p (k + from + 1) count ≡ counted_before k (least_from (λ n. p (k + n)) (from + 1) count) →
        found_or (k + from) b (λ _. least_from p (k + from + 1) count) ≡ counted_before k (found_or from b (λ _. least_from (λ n. p (k + n)) (from + 1) count))
    go true x = refl
    go false x = x

none_before : (p : ℕ → Bool) (from count m k : ℕ) → IsNotBefore m (least_from p from count) → from ≤ k → k < m → k < from + count → p k ≡ false
none_before p from zero m k h l s e = absurd (omega (arith, l, e))
none_before p from (suc count) m k h l s e = go (p from) refl h (λ x y. none_before p (from + 1) count m k x y s (omega (arith, e)))
  where
    go : (b : Bool) → p from ≡ b → IsNotBefore m (found_or from b (λ _. least_from p (from + 1) count)) →
        (IsNotBefore m (least_from p (from + 1) count) → from + 1 ≤ k → p k ≡ false) → p k ≡ false
    go true x y rest = absurd (omega (arith, y, l, s))
    go false x y rest = next (nat_eq from k) refl
      where
        next : (b : Bool) → nat_eq from k ≡ b → p k ≡ false
        next true z = let q : from ≡ k = grind (arith, nat_tests) in subst (λ (i : ℕ). p i ≡ false) q x
        next false z = rest y (grind (arith, nat_tests))

-- where nothing passes at the front, the search is the later search
least_later : (p : ℕ → Bool) (a count : ℕ) → ((k : ℕ) → k < a → p k ≡ false) → least_from p 0 (a + count) ≡ counted_before a (least_from (λ n. p (a + n)) 0 count)
least_later p a count h = skipped p 0 a count (a + count) a refl (omega arith) (λ k l m. h k (omega (arith, m))) ∙ shifted p a 0 count a (omega arith)

pub stays_while_time_passes : (condition : Cond) (cells : List CellState) (time limit : ℕ) → IsNotBefore time (wake_time cells condition (time + limit)) →
    wake_time cells condition (time + limit) ≡ counted_before time (wake_time (passed cells time) condition limit)
stays_while_time_passes condition cells time limit h =
    least_later (holds_in cells condition) time limit (λ k below. none_before (holds_in cells condition) 0 (time + limit) time k h (omega arith) below (omega (arith, below)))
    ∙ (λ i. counted_before time (least_from (λ n. holds_on (sym (passes_in_parts cells time n) i) condition) 0 limit))

-- ---- now

from_one_on : (q : ℕ → Bool) (from count : ℕ) → 0 < from → least_from q from count ≡ Some 0 → ⊥
from_one_on q from zero some e = absurd (cc)
from_one_on q from (suc count) some e = go (q from) e (from_one_on q (from + 1) count (omega arith))
  where
    go : (b : Bool) → found_or from b (λ _. least_from q (from + 1) count) ≡ Some 0 → (least_from q (from + 1) count ≡ Some 0 → ⊥) → ⊥
    go true x rest = let same : from ≡ 0 = (cc) in omega arith
    go false x rest = rest x

first_passes : (q : ℕ → Bool) (n : ℕ) → 0 < n → q 0 ≡ true → least_from q 0 n ≡ Some 0
first_passes q zero some e = absurd (omega arith)
first_passes q (suc n) some e = rw e refl

first_found : (q : ℕ → Bool) (n : ℕ) → 0 < n → least_from q 0 n ≡ Some 0 → q 0 ≡ true
first_found q zero some e = absurd (omega arith)
first_found q (suc n) some e = go (q 0) refl e (from_one_on q 1 n (omega arith))
  where
    go : (b : Bool) → q 0 ≡ b → found_or 0 b (λ _. least_from q 1 n) ≡ Some 0 → (least_from q 1 n ≡ Some 0 → ⊥) → q 0 ≡ true
    go true x y rest = x
    go false x y rest = absurd (rest y)

pub holds_where_it_wakes_now : (condition : Cond) (cells : List CellState) (limit : ℕ) → 0 < limit → (holds_on cells condition ≡ true) ↔ (wake_time cells condition limit ≡ Some 0)
holds_where_it_wakes_now condition cells limit some =
    (λ holding. first_passes (holds_in cells condition) limit some (now ∙ holding), λ found. sym now ∙ first_found (holds_in cells condition) limit some found)
  where
    now : holds_in cells condition 0 ≡ holds_on cells condition
    now = λ i. holds_on (passed_none cells i) condition
