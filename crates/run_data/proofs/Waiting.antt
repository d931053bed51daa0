-- A condition of a model with the locals filled in may be waited for.
use Rattle.std.proofs.Common.{◌≡◌, ℕ, zero, suc, ◌+◌, ◌-◌, ◌*◌, ◌<◌, ◌≤◌, ℤ, pos, ◌+ℤ◌, ◌*ℤ◌, Bool, true, false, ◌&&◌, IsTrue, List, [], ◌∷◌, Option, Some, None, All, length, nat_le, refl, sym, subst, arith, leb-true, le-leb, lt-ltb, zero-le}
use Rattle.std.specs.List.{list_all}
use Rattle.std.specs.Int.RustNames.{unsigned_abs}
use Rattle.std.proofs.lemmas.Int.{ints, unsigned_abs-mul}
use Rattle.std.proofs.lemmas.Nat.{mul-le}
use Rattle.aerie_base.specs.Ranges.{number_limit}
use Rattle.aerie_base.specs.declared.values.Kind.{Kind}
use Rattle.aerie_base.specs.declared.values.Kind.TheVariants as kind
use Rattle.aerie_base.specs.declared.values.Value.{Value}
use Rattle.aerie_base.specs.declared.values.Value.TheVariants.{Int, Truth, Variant}
use Rattle.aerie_base.specs.declared.operands.CellRead.TheVariants as read
use Rattle.aerie_base.specs.declared.operands.Operand.{Operand}
use Rattle.aerie_base.specs.declared.operands.Operand.TheVariants.{Read, Local}
use Rattle.aerie_base.specs.declared.linear.Term.{Term}
use Rattle.aerie_base.specs.declared.linear.Linear.{Linear}
use Rattle.aerie_base.specs.declared.conditions.Simple.{Simple}
use Rattle.aerie_base.specs.declared.conditions.Simple.TheVariants as simple
use Rattle.aerie_base.specs.declared.conditions.Cond.{Cond, Literal, Flag, Same, Compare, Not', And', Or', more_of-Cond, end_of-Cond}
use Rattle.aerie_base.specs.declared.conditions.Cond.TheBlock.{hidden-the_row-Cond-0, shape-the_row-Cond-0}
use Rattle.aerie_base.specs.declared.models.EnumType.{EnumType}
use Rattle.aerie_base.specs.conditions.Filling.{filled, filled_side, with_cell, cell_terms, local_part, local_parts, filled_linear}
use Rattle.aerie_base.specs.conditions.Holding.{local_value}
use Rattle.aerie_base.specs.expressions.Arithmetic.{value_kind, number_in}
use Rattle.aerie_base.specs.expressions.Typing.{slot_kinds}
use Rattle.aerie_base.specs.models.Conditions.{ReadKinds, is_coefficient, is_term, is_linear, side_kind, is_typed_condition, cond_depth, is_condition}
use Rattle.aerie_base.specs.expressions.Typing.{operand_kind}
use Rattle.aerie_base.specs.models.Expressions.{is_kind_of}
use Rattle.aerie_base.specs.models.Limits.{coefficient_limit, depth_limit, term_limit}
use Rattle.aerie_base.specs.models.Values.{is_value}
use denote.Hole.Carrier.{hidden}
use Rattle.effect_cells.specs.Solvable.{no_locals, constant_limit, is_form_for, filled_side_kind as wait_kind, may_be_solved}
use Rattle.run_data.specs.Numbers.{HasNumber}
use Rattle.run_data.proofs.Scoping.{both_hold, and_holds}
use Rattle.run_data.proofs.KnownKinds.{kind_is, may_by}
use Rattle.run_data.proofs.TypedStatements.{has_slot}

-- ---- numbers

sum_small : (a b : ℤ) → unsigned_abs (a +ℤ b) ≤ unsigned_abs a + unsigned_abs b
sum_small a b = omega (arith, ints)

number_small : (value : Value) → HasNumber value → unsigned_abs (number_in value) ≤ number_limit
number_small (Int number) h = h
number_small (Truth truth) h = zero-le
number_small (Variant of number) h = zero-le

product_small : (a b : ℤ) → unsigned_abs a ≤ coefficient_limit → unsigned_abs b ≤ number_limit → unsigned_abs (a *ℤ b) ≤ coefficient_limit * number_limit
product_small a b h k =
    subst (λ (n : ℕ). n ≤ coefficient_limit * number_limit) (sym (unsigned_abs-mul a b)) (mul-le (unsigned_abs a) (unsigned_abs b) coefficient_limit number_limit h k)

module _ (enums : List EnumType) (locals : List Value) (kinds : ReadKinds) (numbers : All HasNumber locals) where
  -- ---- linear forms

  part_small : (operand : Operand) (coefficient : ℤ) → unsigned_abs coefficient ≤ coefficient_limit → IsTrue (is_kind_of (operand_kind (slot_kinds locals) kinds operand) kind.Int) →
      unsigned_abs (local_part locals operand coefficient) ≤ coefficient_limit * number_limit
  part_small (Read read) coefficient h k = zero-le
  part_small (Local slot) coefficient h k =
      product_small coefficient (number_in (local_value locals slot)) h
      (number_small (local_value locals slot) (numbers slot (Int (pos 0)) (has_slot locals slot kind.Int (kind_is (slot_kinds locals slot) kind.Int k))))

  parts_small : (terms : List Term) → IsTrue (list_all (is_term (slot_kinds locals) kinds) terms) → unsigned_abs (local_parts locals terms) ≤ length terms * (coefficient_limit * number_limit)
  parts_small [] h = zero-le
  parts_small (term ∷ rest) h =
      let parts = both_hold (is_term (slot_kinds locals) kinds term) (list_all (is_term (slot_kinds locals) kinds) rest) h in
      let term_is = both_hold (is_coefficient term) (is_kind_of (operand_kind (slot_kinds locals) kinds term.operand) kind.Int) parts.0 in
      omega (
        arith,
        sum_small (local_part locals term.operand term.coefficient) (local_parts locals rest),
        part_small term.operand term.coefficient (leb-true (unsigned_abs term.coefficient) coefficient_limit term_is.0) term_is.1,
        parts_small rest parts.1,
      )

  cells_fewer : (operand : Operand) (term : Term) (rest : List Term) (count : ℕ) → length rest ≤ count → length (with_cell operand term rest) ≤ suc count
  cells_fewer (Read read) term rest count h = omega (arith, h)
  cells_fewer (Local slot) term rest count h = omega (arith, h)

  terms_fewer : (terms : List Term) → length (cell_terms terms) ≤ length terms
  terms_fewer [] = zero-le
  terms_fewer (term ∷ rest) = cells_fewer term.operand term (cell_terms rest) (length rest) (terms_fewer rest)

  cell_is : (operand : Operand) (coefficient : ℤ) (rest : List Term) → IsTrue (is_term (slot_kinds locals) kinds (record { coefficient = coefficient; operand = operand })) →
      IsTrue (list_all (is_term no_locals kinds) rest) → IsTrue (list_all (is_term no_locals kinds) (with_cell operand (record { coefficient = coefficient; operand = operand }) rest))
  cell_is (Read read) coefficient rest h all = and_holds (is_term no_locals kinds (record { coefficient = coefficient; operand = Read read })) (list_all (is_term no_locals kinds) rest) h all
  cell_is (Local slot) coefficient rest h all = all

  cells_are : (terms : List Term) → IsTrue (list_all (is_term (slot_kinds locals) kinds) terms) → IsTrue (list_all (is_term no_locals kinds) (cell_terms terms))
  cells_are [] h = refl
  cells_are (term ∷ rest) h =
      let parts = both_hold (is_term (slot_kinds locals) kinds term) (list_all (is_term (slot_kinds locals) kinds) rest) h in
      cell_is term.operand term.coefficient (cell_terms rest) parts.0 (cells_are rest parts.1)

  three : (a b c : Bool) → IsTrue (a && b && c) → IsTrue a × IsTrue b × IsTrue c
  three true true c h = (refl, refl, h)
  three true false c h = absurd (cc)
  three false b c h = absurd (cc)

  constant_small : (constant parts : ℤ) (count : ℕ) → count ≤ term_limit → unsigned_abs constant ≤ (term_limit - count) * number_limit →
      unsigned_abs parts ≤ count * (coefficient_limit * number_limit) → unsigned_abs (constant +ℤ parts) < constant_limit
  constant_small constant parts count few h k = omega (arith, sum_small constant parts, few, h, k)

  form_waited : (form : Linear) → IsTrue (is_linear (slot_kinds locals) kinds form) → IsTrue (is_form_for kinds (filled_linear locals form))
  form_waited form h =
      let parts = three (nat_le (length form.terms) term_limit) (list_all (is_term (slot_kinds locals) kinds) form.terms) _ h in
      let few = leb-true (length form.terms) term_limit parts.0 in
      let constant = leb-true (unsigned_abs form.constant) ((term_limit - length form.terms) * number_limit) parts.2 in
      let small = constant_small form.constant (local_parts locals form.terms) (length form.terms) few constant (parts_small form.terms parts.1) in
      and_holds (nat_le (length (cell_terms form.terms)) term_limit) _
      (le-leb (length (cell_terms form.terms)) term_limit (omega (arith, terms_fewer form.terms, few)))
      (and_holds (list_all (is_term no_locals kinds) (cell_terms form.terms)) _ (cells_are form.terms parts.1)
      (lt-ltb (unsigned_abs (form.constant +ℤ local_parts locals form.terms)) constant_limit small))

  -- ---- equalities

  slot_has : (values : List Value) (slot : ℕ) (of : Kind) → slot_kinds values slot ≡ Some of → Some (value_kind (local_value values slot)) ≡ Some of
  slot_has [] zero of e = absurd (cc)
  slot_has [] (suc slot) of e = absurd (cc)
  slot_has (value ∷ values) zero of e = e
  slot_has (value ∷ values) (suc slot) of e = slot_has values slot of e

  literal_has : (value : Value) (of : Kind) (is : Bool) → is_value enums value ≡ is → side_kind enums (slot_kinds locals) kinds (simple.Literal value) ≡ Some of → Some (value_kind value) ≡ Some of
  literal_has value of true e h = rw e at h
  literal_has value of false e h = let none : ◌≡◌ {A = Option Kind} None (Some of) = rw e at h in absurd (cc)

  side_waited : (side : Simple) (of : Kind) → side_kind enums (slot_kinds locals) kinds side ≡ Some of → wait_kind kinds (filled_side locals side) ≡ Some of
  side_waited (simple.Literal value) of e = literal_has value of (is_value enums value) refl e
  side_waited (simple.Operand (Local slot)) of e = slot_has locals slot of e
  side_waited (simple.Operand (Read (read.Register cell))) of e = e
  side_waited (simple.Operand (Read (read.Counter cell))) of e = absurd (cc)
  side_waited (simple.Operand (Read (read.Conflicted cell))) of e = absurd (cc)
  side_waited (simple.Operand (Read (read.Volume cell))) of e = absurd (cc)
  side_waited (simple.Operand (Read (read.Rate cell))) of e = absurd (cc)

  -- ---- conditions

  typed_waited : (condition : Cond) → IsTrue (is_typed_condition enums condition (slot_kinds locals) kinds) → IsTrue (may_be_solved kinds (filled condition locals))
  unfolding is_typed_condition may_be_solved filled hidden-the_row-Cond-0 shape-the_row-Cond-0 hidden
  typed_waited (Literal truth) h = refl
  typed_waited (Flag (Read read)) h = h
  typed_waited (Flag (Local slot)) h = refl
  typed_waited (Same left right equal) h =
      may_by (side_kind enums (slot_kinds locals) kinds left) (side_kind enums (slot_kinds locals) kinds right)
      (wait_kind kinds (filled_side locals left)) (wait_kind kinds (filled_side locals right)) (side_waited left) (side_waited right) h
  typed_waited (Compare left how right) h =
      let parts = both_hold (is_linear (slot_kinds locals) kinds left) (is_linear (slot_kinds locals) kinds right) h in
      and_holds (is_form_for kinds (filled_linear locals left)) (is_form_for kinds (filled_linear locals right)) (form_waited left parts.0) (form_waited right parts.1)
  typed_waited (Not' a (more_of-Cond part end_of-Cond)) h = typed_waited part h
  typed_waited (And' a (more_of-Cond left end_of-Cond) b (more_of-Cond right end_of-Cond)) h =
      let parts = both_hold (is_typed_condition enums left (slot_kinds locals) kinds) (is_typed_condition enums right (slot_kinds locals) kinds) h in
      and_holds (may_be_solved kinds (filled left locals)) (may_be_solved kinds (filled right locals)) (typed_waited left parts.0) (typed_waited right parts.1)
  typed_waited (Or' a (more_of-Cond left end_of-Cond) b (more_of-Cond right end_of-Cond)) h =
      let parts = both_hold (is_typed_condition enums left (slot_kinds locals) kinds) (is_typed_condition enums right (slot_kinds locals) kinds) h in
      and_holds (may_be_solved kinds (filled left locals)) (may_be_solved kinds (filled right locals)) (typed_waited left parts.0) (typed_waited right parts.1)

  -- a condition of a model with the locals filled in may be waited for
  pub filled_waited : (condition : Cond) → IsTrue (is_condition enums (slot_kinds locals) kinds condition) → IsTrue (may_be_solved kinds (filled condition locals))
  unfolding is_condition
  filled_waited condition h =
      typed_waited condition (both_hold (is_typed_condition enums condition (slot_kinds locals) kinds) (nat_le (cond_depth condition) depth_limit) h).0
