-- The outlook of a condition is right where those of its parts are.
use Rattle.std.proofs.Common.{◌≡◌, ℕ, ◌+◌, ◌≤◌, Bool, true, false, not, ◌&&◌, ◌||◌, List, [], Option, Some, None, nat_lt, refl, sym, ap, ◌∙◌, arith}
use Rattle.std.proofs.lemmas.Bool.Decides.{nat_tests}
use Rattle.aerie_base.specs.conditions.Holding.{Holding, holds, holds_step, operand_value}
use Rattle.aerie_base.specs.conditions.RecursionLaws.{gives-Not, gives-And, gives-Or}
use Rattle.aerie_base.specs.expressions.Arithmetic.{truth_in, compared}
use Rattle.aerie_base.specs.declared.conditions.Cond.{Cond, Literal, Flag, Same, Compare, Not, And, Or}
use Rattle.aerie_base.specs.declared.conditions.Cond.TheOpen.{Cond-F}
use Rattle.aerie_base.specs.declared.conditions.Simple.{Simple}
use Rattle.aerie_base.specs.declared.expressions.Comparison.{Comparison}
use Rattle.aerie_base.specs.declared.linear.Linear.{Linear}
use Rattle.aerie_base.specs.declared.operands.Operand.{Operand}
use Rattle.aerie_base.specs.models.Conditions.{may_equal}
use Rattle.aerie_base.specs.TimeOrder.{later}
use Rattle.effect_cells.specs.Cells.{passed}
use Rattle.effect_cells.specs.Reads.{value_on, kind_on}
use Rattle.effect_cells.specs.Solvable.{filled_side_kind, may_be_solved, may_be_solved_by_fold}
use Rattle.effect_cells.specs.SolvableLaws.{may_be_solved_is}
use Rattle.effect_cells.specs.WakeTimes.{holds_in}
use Rattle.effect_cells.specs.declared.effects.CellState.{CellState}
use Rattle.wait_solver.specs.Changes.{until_change}
use Rattle.wait_solver.specs.Lines.{line_value, form_line, gap_from}
use Rattle.wait_solver.specs.Outlooks.{IsBefore, of_negation, both_by, of_conjunction, either_by, of_disjunction, IsOutlookOf}
use Rattle.wait_solver.specs.declared.outlooks.Outlook.{Outlook}
use Rattle.wait_solver.proofs.FormLaws.{form_at}
use Rattle.wait_solver.proofs.Steady.{flag_stands, equality_moves, comparison_stands, before_left, before_right}

-- ---- leaves

module _ (cells : List CellState) (dt : ℕ) (outlook : Outlook) where
  pub tells_literal : (condition : Cond) (truth : Bool) → condition ≡ Literal truth → outlook.holds ≡ truth → IsOutlookOf cells condition dt outlook
  unfolding holds
  tells_literal condition truth is same = record {
    now = ap (λ (c : Cond). holds_in cells c dt) is ∙ sym same;
    on = λ n before. ap (λ (c : Cond). holds_in cells c (dt + n)) is ∙ sym same;
  }

  pub tells_flag : (condition : Cond) (operand : Operand) → condition ≡ Flag operand → outlook.holds ≡ truth_in (operand_value (value_on cells) [] operand) → IsOutlookOf cells condition dt outlook
  unfolding holds
  tells_flag condition operand is same = record {
    now = ap (λ (c : Cond). holds_in cells c dt) is ∙ flag_stands cells operand dt ∙ sym same;
    on = λ n before. ap (λ (c : Cond). holds_in cells c (dt + n)) is ∙ flag_stands cells operand (dt + n) ∙ sym same;
  }

  typed_sides : (left right : Simple) (equal : Bool) → may_be_solved_by_fold (kind_on cells) (Same left right equal) ≡ true → may_equal (filled_side_kind (kind_on cells) left) (filled_side_kind (kind_on cells) right) ≡ true
  unfolding may_be_solved
  typed_sides left right equal solvable = may_be_solved_is (kind_on cells) (Same left right equal) ∙ solvable

  pub tells_same : (condition : Cond) (left right : Simple) (equal : Bool) → condition ≡ Same left right equal → may_be_solved_by_fold (kind_on cells) condition ≡ true →
      outlook.holds ≡ holds_step (Cond-F.Same left right equal) (value_on cells) [] → IsOutlookOf cells condition dt outlook
  unfolding holds
  tells_same condition left right equal is solvable same =
      let typed = typed_sides left right equal (rw is at solvable) in
      record {
        now = ap (λ (c : Cond). holds_in cells c dt) is ∙ equality_moves cells left right equal dt typed ∙ sym same;
        on = λ n before. ap (λ (c : Cond). holds_in cells c (dt + n)) is ∙ equality_moves cells left right equal (dt + n) typed ∙ sym same;
      }

  compare_at : (left : Linear) (how : Comparison) (right : Linear) (t : ℕ) →
      holds_in cells (Compare left how right) t ≡ compared how (line_value (form_line cells left) t) (line_value (form_line cells right) t)
  unfolding holds
  compare_at left how right t = λ i. compared how (form_at cells t left i) (form_at cells t right i)

  pub tells_compare : (left : Linear) (how : Comparison) (right : Linear) →
      outlook.holds ≡ compared how (line_value (form_line cells left) dt) (line_value (form_line cells right) dt) →
      outlook.stays ≡ until_change (gap_from dt (form_line cells left) (form_line cells right)) → IsOutlookOf cells (Compare left how right) dt outlook
  tells_compare left how right same stays = record {
    now = compare_at left how right dt ∙ sym same;
    on = λ n before. comparison_stands cells dt n left how right (rw stays at before) ∙ compare_at left how right dt ∙ sym same;
  }

  pub tells_alike : (condition other : Cond) → condition ≡ other → IsOutlookOf cells other dt outlook → IsOutlookOf cells condition dt outlook
  tells_alike condition other is t = rw is t

-- ---- parts

module _ (cells : List CellState) where
  holds-Not : (part : Cond) (t : ℕ) → holds_in cells (Not part) t ≡ not (holds_in cells part t)
  unfolding holds
  holds-Not part t = λ i. gives-Not Holding (λ readings locals. false) holds_step part i (value_on (passed cells t)) []

  holds-And : (left right : Cond) (t : ℕ) → holds_in cells (And left right) t ≡ (holds_in cells left t && holds_in cells right t)
  unfolding holds
  holds-And left right t = λ i. gives-And Holding (λ readings locals. false) holds_step left right i (value_on (passed cells t)) []

  holds-Or : (left right : Cond) (t : ℕ) → holds_in cells (Or left right) t ≡ (holds_in cells left t || holds_in cells right t)
  unfolding holds
  holds-Or left right t = λ i. gives-Or Holding (λ readings locals. false) holds_step left right i (value_on (passed cells t)) []

  pub tells_not : (condition part got : Cond) (dt : ℕ) (outlook result : Outlook) → condition ≡ Not part → got ≡ part → IsOutlookOf cells got dt outlook → result ≡ of_negation outlook → IsOutlookOf cells condition dt result
  tells_not condition part got dt outlook result is same t r = rw (is, r) (record {
    now = holds-Not part dt ∙ ap (λ (c : Cond). not (holds_in cells c dt)) (sym same) ∙ ap not t.now;
    on = λ n before. holds-Not part (dt + n) ∙ ap (λ (c : Cond). not (holds_in cells c (dt + n))) (sym same) ∙ ap not (t.on n before);
  })

  -- before the later of two changes is before one of them
  before_one : (n : ℕ) (a b : Option ℕ) (P : Type 0) → IsBefore n (later a b) → (IsBefore n a → P) → (IsBefore n b → P) → P
  before_one n None b P h first second = first tt
  before_one n (Some a) None P h first second = second tt
  before_one n (Some a) (Some b) P h first second = go (nat_lt n a) refl
    where
      go : (v : Bool) → nat_lt n a ≡ v → P
      go true e = first (grind (arith, nat_tests))
      go false e = let past : a ≤ n = grind (arith, nat_tests) in second (omega (arith, h, past))

  and_false : (a : Bool) → (a && false) ≡ false
  and_false true = refl
  and_false false = refl

  or_true : (a : Bool) → (a || true) ≡ true
  or_true true = refl
  or_true false = refl

  module _ (dt : ℕ) (left right : Cond) where
    both : (l r : Outlook) (v w : Bool) → l.holds ≡ v → r.holds ≡ w → IsOutlookOf cells left dt l → IsOutlookOf cells right dt r → IsOutlookOf cells (And left right) dt (both_by v w l r)
    both l r true true p q t u = record {
      now = holds-And left right dt ∙ (λ i. (t.now ∙ p) i && (u.now ∙ q) i);
      on = λ n before.
          holds-And left right (dt + n)
          ∙ (λ i. (t.on n (before_left n l.stays r.stays before) ∙ p) i && (u.on n (before_right n l.stays r.stays before) ∙ q) i);
    }
    both l r true false p q t u = record {
      now = holds-And left right dt ∙ (λ i. (t.now ∙ p) i && u.now i);
      on = λ n before.
          holds-And left right (dt + n) ∙ ap (λ (x : Bool). holds_in cells left (dt + n) && x) (u.on n before ∙ q) ∙ and_false (holds_in cells left (dt + n)) ∙ sym q;
    }
    both l r false true p q t u = record {
      now = holds-And left right dt ∙ (λ i. (t.now ∙ p) i && (u.now ∙ q) i) ∙ sym p;
      on = λ n before. holds-And left right (dt + n) ∙ ap (λ (x : Bool). x && holds_in cells right (dt + n)) (t.on n before ∙ p) ∙ sym p;
    }
    both l r false false p q t u = record {
      now = holds-And left right dt ∙ (λ i. (t.now ∙ p) i && (u.now ∙ q) i);
      on = λ n before.
          before_one n l.stays r.stays _ before
          (λ first. holds-And left right (dt + n) ∙ ap (λ (x : Bool). x && holds_in cells right (dt + n)) (t.on n first ∙ p))
          (λ second. holds-And left right (dt + n) ∙ ap (λ (x : Bool). holds_in cells left (dt + n) && x) (u.on n second ∙ q) ∙ and_false (holds_in cells left (dt + n)));
    }

    either : (l r : Outlook) (v w : Bool) → l.holds ≡ v → r.holds ≡ w → IsOutlookOf cells left dt l → IsOutlookOf cells right dt r → IsOutlookOf cells (Or left right) dt (either_by v w l r)
    either l r false false p q t u = record {
      now = holds-Or left right dt ∙ (λ i. (t.now ∙ p) i || (u.now ∙ q) i);
      on = λ n before.
          holds-Or left right (dt + n)
          ∙ (λ i. (t.on n (before_left n l.stays r.stays before) ∙ p) i || (u.on n (before_right n l.stays r.stays before) ∙ q) i);
    }
    either l r false true p q t u = record {
      now = holds-Or left right dt ∙ (λ i. (t.now ∙ p) i || u.now i);
      on = λ n before.
          holds-Or left right (dt + n) ∙ ap (λ (x : Bool). holds_in cells left (dt + n) || x) (u.on n before ∙ q) ∙ or_true (holds_in cells left (dt + n)) ∙ sym q;
    }
    either l r true false p q t u = record {
      now = holds-Or left right dt ∙ (λ i. (t.now ∙ p) i || (u.now ∙ q) i) ∙ sym p;
      on = λ n before. holds-Or left right (dt + n) ∙ ap (λ (x : Bool). x || holds_in cells right (dt + n)) (t.on n before ∙ p) ∙ sym p;
    }
    either l r true true p q t u = record {
      now = holds-Or left right dt ∙ (λ i. (t.now ∙ p) i || (u.now ∙ q) i);
      on = λ n before.
          before_one n l.stays r.stays _ before
          (λ first. holds-Or left right (dt + n) ∙ ap (λ (x : Bool). x || holds_in cells right (dt + n)) (t.on n first ∙ p))
          (λ second. holds-Or left right (dt + n) ∙ ap (λ (x : Bool). holds_in cells left (dt + n) || x) (u.on n second ∙ q) ∙ or_true (holds_in cells left (dt + n)));
    }

  pub tells_and : (condition left right l r : Cond) (dt : ℕ) (a b result : Outlook) → condition ≡ And left right → l ≡ left → r ≡ right →
      IsOutlookOf cells l dt a → IsOutlookOf cells r dt b → result ≡ of_conjunction a b → IsOutlookOf cells condition dt result
  tells_and condition left right l r dt a b result is p q t u e =
      let first : IsOutlookOf cells left dt a = rw (← p) t in
      let second : IsOutlookOf cells right dt b = rw (← q) u in
      rw (is, e) (both dt left right a b a.holds b.holds refl refl first second)

  pub tells_or : (condition left right l r : Cond) (dt : ℕ) (a b result : Outlook) → condition ≡ Or left right → l ≡ left → r ≡ right →
      IsOutlookOf cells l dt a → IsOutlookOf cells r dt b → result ≡ of_disjunction a b → IsOutlookOf cells condition dt result
  tells_or condition left right l r dt a b result is p q t u e =
      let first : IsOutlookOf cells left dt a = rw (← p) t in
      let second : IsOutlookOf cells right dt b = rw (← q) u in
      rw (is, e) (either dt left right a b a.holds b.holds refl refl first second)
