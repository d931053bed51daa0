-- Conditions of a model may be filled in, and their linear forms are summed up term by term.
use Rattle.std.proofs.Common.{◌≡◌, ◌≤◌, ◌<◌, ◌+◌, ◌*◌, ◌-◌, ◌&&◌, ℕ, suc, ℤ, ◌+ℤ◌, ◌*ℤ◌, Bool, IsTrue, List, [], ◌∷◌, ◌++◌, nat_le, length, drop, get_or, arith, refl, sym, ap, ◌∙◌, append_assoc, drop-cons}
use Rattle.std.specs.List.{list_all}
use Rattle.std.specs.Int.RustNames.{unsigned_abs}
use Rattle.std.proofs.lemmas.Int.{unsigned_abs-mul}
use Rattle.std.proofs.lemmas.Nat.{mul-le}
use Rattle.aerie_base.specs.Ranges.{number_limit}
use Rattle.aerie_base.specs.declared.values.Value.{Value}
use Rattle.aerie_base.specs.declared.operands.Operand.{Operand}
use Rattle.aerie_base.specs.declared.operands.Operand.TheVariants.{Read, Local}
use Rattle.aerie_base.specs.declared.linear.Term.{Term}
use Rattle.aerie_base.specs.declared.linear.Linear.{Linear}
use Rattle.aerie_base.specs.declared.conditions.Cond.{Cond, Literal, Flag, Same, Compare, Not', And', Or', more_of-Cond, end_of-Cond}
use Rattle.aerie_base.specs.declared.conditions.Cond.TheBlock.{hidden-the_row-Cond-0, shape-the_row-Cond-0}
use Rattle.aerie_base.specs.declared.models.EnumType.{EnumType}
use Rattle.aerie_base.specs.conditions.Filling.{with_cell, cell_terms, local_part, local_parts}
use Rattle.aerie_base.specs.models.Conditions.{Locals, ReadKinds, is_coefficient, is_term, is_linear, is_typed_condition, cond_depth, is_condition}
use Rattle.aerie_base.specs.models.Limits.{term_limit, depth_limit}
use Rattle.task_step.specs.Fillable.{is_modest_sum, is_fillable}
use denote.Hole.Carrier.{hidden}

-- ---- linear forms

-- a coefficient of at most a million makes a number at most a million times as great
pub product_within : (a b : ℤ) → unsigned_abs a ≤ 1_000_000 → unsigned_abs (a *ℤ b) ≤ 1_000_000 * unsigned_abs b
product_within a b small =
    let product = unsigned_abs-mul a b in
    let most = mul-le (unsigned_abs a) (unsigned_abs b) 1_000_000 (unsigned_abs b) small (omega arith) in
    omega (arith, product, most)

-- the terms behind so many, the next of them in front
next_left : (terms : List Term) (i : ℕ) (none : Term) → i < length terms → drop i terms ≡ get_or terms i none ∷ drop (i + 1) terms
next_left terms i none within = let next : i + 1 ≡ suc i = omega arith in rw next (drop-cons terms i none within)

in_front : (operand : Operand) (term : Term) (rest : List Term) → with_cell operand term [] ++ rest ≡ with_cell operand term rest
in_front (Read read) term rest = refl
in_front (Local slot) term rest = refl

-- one term more is kept or left out
pub one_kept : (terms : List Term) (i : ℕ) (none : Term) (kept more whole : List Term) → i < length terms →
    more ≡ kept ++ with_cell (get_or terms i none).operand (get_or terms i none) [] →
    kept ++ cell_terms (drop i terms) ≡ whole → more ++ cell_terms (drop (i + 1) terms) ≡ whole
one_kept terms i none kept more whole within is before =
    let term = get_or terms i none in
    let rest = cell_terms (drop (i + 1) terms) in
    ap (λ front. front ++ rest) is
    ∙ append_assoc kept (with_cell term.operand term []) rest
    ∙ ap (λ back. kept ++ back) (in_front term.operand term rest)
    ∙ ap (λ left. kept ++ cell_terms left) (sym (next_left terms i none within))
    ∙ before

-- one term more is added
pub parts_left : (locals : List Value) (terms : List Term) (i : ℕ) (none : Term) (part : ℤ) → i < length terms →
    part ≡ local_part locals (get_or terms i none).operand (get_or terms i none).coefficient →
    local_parts locals (drop i terms) ≡ part +ℤ local_parts locals (drop (i + 1) terms)
parts_left locals terms i none part within is =
    ap (local_parts locals) (next_left terms i none within) ∙ ap (λ first. first +ℤ local_parts locals (drop (i + 1) terms)) (sym is)

-- ---- conditions of a model

first_of : (a b : Bool) → IsTrue (a && b) → IsTrue a
first_of a b h = grind arith

second_of : (a b : Bool) → IsTrue (a && b) → IsTrue b
second_of a b h = grind arith

both_are : (a b : Bool) → IsTrue a → IsTrue b → IsTrue (a && b)
both_are a b h k = grind arith

module _ (enums : List EnumType) (locals : Locals) (reads : ReadKinds) where
  coefficients_of : (terms : List Term) → IsTrue (list_all (is_term locals reads) terms) → IsTrue (list_all is_coefficient terms)
  coefficients_of [] h = h
  coefficients_of (term ∷ rest) h =
      both_are _ _ (first_of _ _ (first_of _ _ h)) (coefficients_of rest (second_of (is_term locals reads term) _ h))

  constant_of : (count constant : ℕ) → IsTrue (nat_le constant ((term_limit - count) * number_limit)) → IsTrue (nat_le constant (term_limit * number_limit))
  constant_of count constant h = grind arith

  modest_of : (form : Linear) → IsTrue (is_linear locals reads form) → IsTrue (is_modest_sum form)
  modest_of form h =
      let front = first_of (nat_le (length form.terms) term_limit && list_all (is_term locals reads) form.terms) _ h in
      let constant = second_of (nat_le (length form.terms) term_limit && list_all (is_term locals reads) form.terms) _ h in
      both_are _ _ (first_of (nat_le (length form.terms) term_limit) _ front)
      (both_are _ _ (coefficients_of form.terms (second_of (nat_le (length form.terms) term_limit) _ front)) (constant_of (length form.terms) (unsigned_abs form.constant) constant))

  typed_is_fillable : (condition : Cond) → IsTrue (is_typed_condition enums condition locals reads) → IsTrue (is_fillable condition)
  unfolding is_typed_condition is_fillable hidden-the_row-Cond-0 shape-the_row-Cond-0 hidden
  typed_is_fillable (Literal truth) h = h
  typed_is_fillable (Flag operand) h = refl
  typed_is_fillable (Same left right equal) h = refl
  typed_is_fillable (Compare left how right) h =
      both_are _ _ (modest_of left (first_of (is_linear locals reads left) _ h)) (modest_of right (second_of (is_linear locals reads left) _ h))
  typed_is_fillable (Not' s (more_of-Cond part end_of-Cond)) h = typed_is_fillable part h
  typed_is_fillable (And' s (more_of-Cond left end_of-Cond) t (more_of-Cond right end_of-Cond)) h =
      both_are _ _ (typed_is_fillable left (first_of (is_typed_condition enums left locals reads) _ h)) (typed_is_fillable right (second_of (is_typed_condition enums left locals reads) _ h))
  typed_is_fillable (Or' s (more_of-Cond left end_of-Cond) t (more_of-Cond right end_of-Cond)) h =
      both_are _ _ (typed_is_fillable left (first_of (is_typed_condition enums left locals reads) _ h)) (typed_is_fillable right (second_of (is_typed_condition enums left locals reads) _ h))

  -- a condition of a model may be filled in
  pub is_fillable_of : (condition : Cond) → IsTrue (is_condition enums locals reads condition) → IsTrue (is_fillable condition)
  unfolding is_condition
  is_fillable_of condition h =
      typed_is_fillable condition (first_of (is_typed_condition enums condition locals reads) (nat_le (cond_depth condition) depth_limit) h)
