-- What is well typed where some locals are known is well typed by the values of the locals that suit them.
use Rattle.std.proofs.Common.{◌≡◌, ℕ, zero, suc, ◌≤◌, Bool, true, false, ◌&&◌, IsTrue, List, [], ◌∷◌, Option, Some, None, length, nat_le, refl, sym, ap, ◌∙◌, subst, arith, eqb-true, if◌then◌else◌}
use Rattle.std.specs.List.{list_all}
use Rattle.aerie_base.specs.declared.values.Kind.{Kind}
use Rattle.aerie_base.specs.declared.values.Kind.TheVariants.{Int, Truth, Enum}
use Rattle.aerie_base.specs.declared.values.Value.{Value}
use Rattle.aerie_base.specs.declared.operands.CellRead.TheVariants as read
use Rattle.aerie_base.specs.declared.operands.Operand.{Operand}
use Rattle.aerie_base.specs.declared.operands.Operand.TheVariants.{Read, Local}
use Rattle.aerie_base.specs.declared.linear.Term.{Term}
use Rattle.aerie_base.specs.declared.linear.Linear.{Linear}
use Rattle.aerie_base.specs.declared.conditions.Simple.{Simple}
use Rattle.aerie_base.specs.declared.conditions.Simple.TheVariants as simple
use Rattle.aerie_base.specs.declared.conditions.Cond.{Cond, Literal, Flag, Same, Compare, Not', And', Or', more_of-Cond, end_of-Cond}
use Rattle.aerie_base.specs.declared.expressions.Expr.{Expr}
use Rattle.aerie_base.specs.declared.models.EnumType.{EnumType}
use Rattle.aerie_base.specs.expressions.Arithmetic.{value_kind}
use Rattle.aerie_base.specs.expressions.Soundness.{Within, more_known}
use Rattle.aerie_base.specs.expressions.Typing.{kind_of, same_kind, slot_kinds}
use Rattle.aerie_base.specs.models.Scopes.{Scope, known}
use Rattle.aerie_base.specs.models.Conditions.{Locals, ReadKinds, is_coefficient, is_term, is_linear, side_kind, may_equal, is_typed_condition, cond_depth, is_condition}
use Rattle.aerie_base.specs.expressions.Typing.{operand_kind}
use Rattle.aerie_base.specs.models.Expressions.{typed, has_literals, expr_depth, is_kind_of}
use Rattle.aerie_base.specs.models.Limits.{depth_limit}
use Rattle.run_data.specs.Scopes.{suits}
use Rattle.run_data.proofs.Scoping.{both_hold, and_holds}

-- ---- types

pub kinds_agree : (a b : Kind) → IsTrue (same_kind a b) → a ≡ b
kinds_agree Int Int h = refl
kinds_agree Int Truth h = absurd (cc)
kinds_agree Int (Enum b) h = absurd (cc)
kinds_agree Truth Int h = absurd (cc)
kinds_agree Truth Truth h = refl
kinds_agree Truth (Enum b) h = absurd (cc)
kinds_agree (Enum a) Int h = absurd (cc)
kinds_agree (Enum a) Truth h = absurd (cc)
kinds_agree (Enum a) (Enum b) h = ap Enum (eqb-true a b h)

pub kind_is : (found : Option Kind) (of : Kind) → IsTrue (is_kind_of found of) → found ≡ Some of
kind_is None of h = absurd (cc)
kind_is (Some found) of h = ap Some (kinds_agree found of h)

-- ---- the locals that are known

no_slot : (slot : ℕ) (of : Kind) → known [] slot ≡ Some of → ⊥
no_slot zero of e = absurd (cc)
no_slot (suc slot) of e = absurd (cc)

-- locals that suit a scope have the types that are known
pub known_within : (scope : Scope) (locals : List Value) → length scope ≤ length locals → IsTrue (suits scope locals) → Within (known scope) (slot_kinds locals)
known_within [] locals few h slot of e = absurd (no_slot slot of e)
known_within (None ∷ scope) [] few h slot of e = absurd (omega (arith, few))
known_within (Some kind ∷ scope) [] few h slot of e = absurd (omega (arith, few))
known_within (None ∷ scope) (value ∷ locals) few h zero of e = absurd (cc)
known_within (None ∷ scope) (value ∷ locals) few h (suc slot) of e = known_within scope locals (omega (arith, few)) h slot of e
known_within (Some kind ∷ scope) (value ∷ locals) few h zero of e =
    let parts = both_hold (same_kind (value_kind value) kind) (suits scope locals) h in
    ap Some (kinds_agree (value_kind value) kind parts.0) ∙ e
known_within (Some kind ∷ scope) (value ∷ locals) few h (suc slot) of e =
    let parts = both_hold (same_kind (value_kind value) kind) (suits scope locals) h in
    known_within scope locals (omega (arith, few)) parts.1 slot of e

-- ---- expressions

if_typed : (good : Bool) (found : Option Kind) (of : Kind) → ◌≡◌ {A = Option Kind} (if good then found else None) (Some of) → found ≡ Some of
if_typed true found of e = e
if_typed false found of e = absurd (cc)

-- types that may be equal
pub may_by : (left right left_more right_more : Option Kind) → ((of : Kind) → left ≡ Some of → left_more ≡ Some of) → ((of : Kind) → right ≡ Some of → right_more ≡ Some of) →
    IsTrue (may_equal left right) → IsTrue (may_equal left_more right_more)
may_by None right left_more right_more a b h = absurd (cc)
may_by (Some left) None left_more right_more a b h = absurd (cc)
may_by (Some left) (Some right) left_more right_more a b h =
    subst (λ (k : Option Kind). IsTrue (may_equal k right_more)) (sym (a left refl))
    (subst (λ (k : Option Kind). IsTrue (may_equal (Some left) k)) (sym (b right refl)) h)

module _ (enums : List EnumType) (some more : Locals) (reads : ReadKinds) (within : Within some more) where
  pub typed_within : (expr : Expr) (of : Kind) → typed enums some reads expr ≡ Some of → kind_of expr more reads ≡ Some of
  unfolding typed
  typed_within expr of e =
      more_known expr some more reads reads of within (λ read k h. h)
      (if_typed (has_literals enums expr && nat_le (expr_depth expr) depth_limit) (kind_of expr some reads) of e)

  -- ---- conditions

  operand_within : (operand : Operand) (of : Kind) → operand_kind some reads operand ≡ Some of → operand_kind more reads operand ≡ Some of
  operand_within (Local slot) of e = within slot of e
  operand_within (Read read) of e = e

  operand_is : (operand : Operand) (of : Kind) → IsTrue (is_kind_of (operand_kind some reads operand) of) → IsTrue (is_kind_of (operand_kind more reads operand) of)
  operand_is operand of h =
      let found = kind_is (operand_kind some reads operand) of h in
      subst (λ (k : Option Kind). IsTrue (is_kind_of k of)) (found ∙ sym (operand_within operand of found)) h

  term_is : (term : Term) → IsTrue (is_term some reads term) → IsTrue (is_term more reads term)
  term_is term h =
      let parts = both_hold (is_coefficient term) (is_kind_of (operand_kind some reads term.operand) Int) h in
      and_holds (is_coefficient term) (is_kind_of (operand_kind more reads term.operand) Int) parts.0 (operand_is term.operand Int parts.1)

  terms_are : (terms : List Term) → IsTrue (list_all (is_term some reads) terms) → IsTrue (list_all (is_term more reads) terms)
  terms_are [] h = refl
  terms_are (term ∷ rest) h =
      let parts = both_hold (is_term some reads term) (list_all (is_term some reads) rest) h in
      and_holds (is_term more reads term) (list_all (is_term more reads) rest) (term_is term parts.0) (terms_are rest parts.1)

  linear_by : (a b b_more c : Bool) → (IsTrue b → IsTrue b_more) → IsTrue (a && b && c) → IsTrue (a && b_more && c)
  linear_by true true b_more c more_is h =
      let is : b_more ≡ true = more_is refl in subst (λ (t : Bool). IsTrue (true && t && c)) (sym is) h
  linear_by true false b_more c more_is h = absurd (cc)
  linear_by false b b_more c more_is h = absurd (cc)

  linear_is : (form : Linear) → IsTrue (is_linear some reads form) → IsTrue (is_linear more reads form)
  linear_is form h = linear_by _ (list_all (is_term some reads) form.terms) (list_all (is_term more reads) form.terms) _ (terms_are form.terms) h

  side_within : (side : Simple) (of : Kind) → side_kind enums some reads side ≡ Some of → side_kind enums more reads side ≡ Some of
  side_within (simple.Literal value) of e = e
  side_within (simple.Operand (Local slot)) of e = within slot of e
  side_within (simple.Operand (Read (read.Register cell))) of e = e
  side_within (simple.Operand (Read (read.Counter cell))) of e = e
  side_within (simple.Operand (Read (read.Conflicted cell))) of e = e
  side_within (simple.Operand (Read (read.Volume cell))) of e = e
  side_within (simple.Operand (Read (read.Rate cell))) of e = e

  condition_is : (condition : Cond) → IsTrue (is_typed_condition enums condition some reads) → IsTrue (is_typed_condition enums condition more reads)
  unfolding is_typed_condition
  condition_is (Literal truth) h = h
  condition_is (Flag operand) h = operand_is operand Truth h
  condition_is (Same left right equal) h =
      may_by (side_kind enums some reads left) (side_kind enums some reads right) (side_kind enums more reads left) (side_kind enums more reads right) (side_within left) (side_within right) h
  condition_is (Compare left how right) h =
      let parts = both_hold (is_linear some reads left) (is_linear some reads right) h in
      and_holds (is_linear more reads left) (is_linear more reads right) (linear_is left parts.0) (linear_is right parts.1)
  condition_is (Not' a (more_of-Cond part end_of-Cond)) h = condition_is part h
  condition_is (And' a (more_of-Cond left end_of-Cond) b (more_of-Cond right end_of-Cond)) h =
      let parts = both_hold (is_typed_condition enums left some reads) (is_typed_condition enums right some reads) h in
      and_holds (is_typed_condition enums left more reads) (is_typed_condition enums right more reads) (condition_is left parts.0) (condition_is right parts.1)
  condition_is (Or' a (more_of-Cond left end_of-Cond) b (more_of-Cond right end_of-Cond)) h =
      let parts = both_hold (is_typed_condition enums left some reads) (is_typed_condition enums right some reads) h in
      and_holds (is_typed_condition enums left more reads) (is_typed_condition enums right more reads) (condition_is left parts.0) (condition_is right parts.1)

  pub condition_within : (condition : Cond) → IsTrue (is_condition enums some reads condition) → IsTrue (is_condition enums more reads condition)
  unfolding is_condition
  condition_within condition h =
      let deep = nat_le (cond_depth condition) depth_limit in
      let parts = both_hold (is_typed_condition enums condition some reads) deep h in
      and_holds (is_typed_condition enums condition more reads) deep (condition_is condition parts.0) parts.1
