-- What stands while time passes, and a comparison until the difference of its sides changes its sign.
use Rattle.std.proofs.Common.{◌≡◌, ℕ, ◌+◌, ℤ, pos, ◌+ℤ◌, ◌-ℤ◌, ◌*ℤ◌, Bool, true, not, List, [], Option, Some, None, slice_get, refl, ap, sym, ◌∙◌, arith, if◌then◌else◌}
use Rattle.std.specs.Prelude.{IsSome}
use Rattle.std.specs.Option.{option_map}
use Rattle.std.proofs.lemmas.Int.{ints}
use Rattle.std.proofs.lemmas.Option.{slice_get-map}
use Rattle.aerie_base.specs.conditions.Holding.{holds, holds_step, operand_value, side_value}
use Rattle.aerie_base.specs.expressions.Arithmetic.{truth_in, same_value, compared}
use Rattle.aerie_base.specs.expressions.Readings.{cell_of}
use Rattle.aerie_base.specs.models.Conditions.{may_equal}
use Rattle.aerie_base.specs.declared.values.Kind.{Kind}
use Rattle.aerie_base.specs.declared.operands.CellRead.{CellRead}
use Rattle.aerie_base.specs.declared.operands.CellRead.TheVariants as read
use Rattle.aerie_base.specs.declared.operands.Operand.{Operand}
use Rattle.aerie_base.specs.declared.operands.Operand.TheVariants.{Read, Local}
use Rattle.aerie_base.specs.declared.linear.Linear.{Linear}
use Rattle.aerie_base.specs.declared.expressions.Comparison.{Comparison}
use Rattle.aerie_base.specs.declared.conditions.Simple.{Simple}
use Rattle.aerie_base.specs.declared.conditions.Simple.TheVariants as simple
use Rattle.aerie_base.specs.declared.conditions.Cond.{Compare}
use Rattle.aerie_base.specs.declared.conditions.Cond.TheOpen.{Cond-F}
use Rattle.aerie_base.specs.TimeOrder.{earlier}
use Rattle.effect_cells.specs.Cells.{passed}
use Rattle.effect_cells.specs.Reads.{state_value, value_on, kind_on}
use Rattle.effect_cells.specs.Solvable.{filled_side_kind}
use Rattle.effect_cells.specs.States.{state_after}
use Rattle.effect_cells.specs.WakeTimes.{holds_in}
use Rattle.effect_cells.specs.declared.effects.CellState.{CellState}
use Rattle.effect_cells.specs.declared.effects.CellState.TheVariants.{Counter, Register, Volume}
use Rattle.wait_solver.specs.Lines.{line_value, form_line, gap_from}
use Rattle.wait_solver.specs.Changes.{until_change}
use Rattle.wait_solver.specs.Outlooks.{IsBefore}
use Rattle.wait_solver.specs.declared.lines.Line.{Line}
use Rattle.wait_solver.proofs.FormLaws.{form_at}
use Rattle.aerie_base.specs.Products.{difference_times}
use Rattle.wait_solver.proofs.Signs.{answer, sign_of, compared_by_sign, keeps_sign}

-- ---- what stands while time passes

truth_stands : (read : CellRead) (state : Option CellState) (dt : ℕ) → truth_in (state_value read (option_map (state_after dt) state)) ≡ truth_in (state_value read state)
truth_stands (read.Counter cell) None dt = refl
truth_stands (read.Counter cell) (Some (Counter number)) dt = refl
truth_stands (read.Counter cell) (Some (Register value conflicted)) dt = refl
truth_stands (read.Counter cell) (Some (Volume volume rate)) dt = refl
truth_stands (read.Register cell) None dt = refl
truth_stands (read.Register cell) (Some (Counter number)) dt = refl
truth_stands (read.Register cell) (Some (Register value conflicted)) dt = refl
truth_stands (read.Register cell) (Some (Volume volume rate)) dt = refl
truth_stands (read.Conflicted cell) None dt = refl
truth_stands (read.Conflicted cell) (Some (Counter number)) dt = refl
truth_stands (read.Conflicted cell) (Some (Register value conflicted)) dt = refl
truth_stands (read.Conflicted cell) (Some (Volume volume rate)) dt = refl
truth_stands (read.Volume cell) None dt = refl
truth_stands (read.Volume cell) (Some (Counter number)) dt = refl
truth_stands (read.Volume cell) (Some (Register value conflicted)) dt = refl
truth_stands (read.Volume cell) (Some (Volume volume rate)) dt = refl
truth_stands (read.Rate cell) None dt = refl
truth_stands (read.Rate cell) (Some (Counter number)) dt = refl
truth_stands (read.Rate cell) (Some (Register value conflicted)) dt = refl
truth_stands (read.Rate cell) (Some (Volume volume rate)) dt = refl

register_stands : (cell : ℕ) (state : Option CellState) (dt : ℕ) → state_value (read.Register cell) (option_map (state_after dt) state) ≡ state_value (read.Register cell) state
register_stands cell None dt = refl
register_stands cell (Some (Counter number)) dt = refl
register_stands cell (Some (Register value conflicted)) dt = refl
register_stands cell (Some (Volume volume rate)) dt = refl

module _ (cells : List CellState) where
  pub flag_stands : (operand : Operand) (dt : ℕ) → truth_in (operand_value (value_on (passed cells dt)) [] operand) ≡ truth_in (operand_value (value_on cells) [] operand)
  flag_stands (Read read) dt =
      ap (λ (state : Option CellState). truth_in (state_value read state)) (slice_get-map (state_after dt) cells (cell_of read))
      ∙ truth_stands read (slice_get cells (cell_of read)) dt
  flag_stands (Local slot) dt = refl

  -- a side of an equality is a literal or a register
  pub side_stands : (side : Simple) (dt : ℕ) → IsSome (filled_side_kind (kind_on cells) side) → side_value (value_on (passed cells dt)) [] side ≡ side_value (value_on cells) [] side
  side_stands (simple.Literal value) dt typed = refl
  side_stands (simple.Operand (Read (read.Register cell))) dt typed =
      ap (state_value (read.Register cell)) (slice_get-map (state_after dt) cells cell) ∙ register_stands cell (slice_get cells cell) dt
  side_stands (simple.Operand (Read (read.Counter cell))) dt typed = absurd (cc)
  side_stands (simple.Operand (Read (read.Conflicted cell))) dt typed = absurd (cc)
  side_stands (simple.Operand (Read (read.Volume cell))) dt typed = absurd (cc)
  side_stands (simple.Operand (Read (read.Rate cell))) dt typed = absurd (cc)
  side_stands (simple.Operand (Local slot)) dt typed = absurd (cc)

-- ---- comparisons

gap_at : (a b : Line) (dt n : ℕ) → line_value a (dt + n) -ℤ line_value b (dt + n) ≡ (gap_from dt a b).value +ℤ (gap_from dt a b).rate *ℤ pos n
gap_at a b dt n = let spread = difference_times a.rate b.rate n in omega (arith, ints, spread)

compared_alike : (how : Comparison) (a b : Line) (dt n : ℕ) → IsBefore n (until_change (gap_from dt a b)) →
    compared how (line_value a (dt + n)) (line_value b (dt + n)) ≡ compared how (line_value a dt) (line_value b dt)
compared_alike how a b dt n before =
    compared_by_sign how (line_value a (dt + n)) (line_value b (dt + n))
    ∙ ap (λ (d : ℤ). answer how (sign_of d)) (gap_at a b dt n)
    ∙ ap (answer how) (keeps_sign (gap_from dt a b).value (gap_from dt a b).rate n before)
    ∙ sym (compared_by_sign how (line_value a dt) (line_value b dt))

pub before_left : (n : ℕ) (a b : Option ℕ) → IsBefore n (earlier a b) → IsBefore n a
before_left n None b h = tt
before_left n (Some a) None h = h
before_left n (Some a) (Some b) h = omega (arith, h)

pub before_right : (n : ℕ) (a b : Option ℕ) → IsBefore n (earlier a b) → IsBefore n b
before_right n None b h = h
before_right n (Some a) None h = tt
before_right n (Some a) (Some b) h = omega (arith, h)

-- ---- conditions

pub typed_left : (a b : Option Kind) → may_equal a b ≡ true → IsSome a
typed_left None b h = absurd (cc)
typed_left (Some a) b h = refl

pub typed_right : (a b : Option Kind) → may_equal a b ≡ true → IsSome b
typed_right None b h = absurd (cc)
typed_right (Some a) None h = absurd (cc)
typed_right (Some a) (Some b) h = refl

-- an equality answers after a time what it answers now
pub equality_moves : (cells : List CellState) (left right : Simple) (equal : Bool) (dt : ℕ) → may_equal (filled_side_kind (kind_on cells) left) (filled_side_kind (kind_on cells) right) ≡ true →
    holds_step (Cond-F.Same left right equal) (value_on (passed cells dt)) [] ≡ holds_step (Cond-F.Same left right equal) (value_on cells) []
equality_moves cells left right equal dt typed =
    let left_same = side_stands cells left dt (typed_left _ _ typed) in
    let right_same = side_stands cells right dt (typed_right _ _ typed) in
    λ i. let same = same_value (left_same i) (right_same i) in if equal then same else not same

module _ (cells : List CellState) (dt n : ℕ) where
  pub comparison_stands : (left : Linear) (how : Comparison) (right : Linear) → IsBefore n (until_change (gap_from dt (form_line cells left) (form_line cells right))) →
      holds_in cells (Compare left how right) (dt + n) ≡ holds_in cells (Compare left how right) dt
  unfolding holds
  comparison_stands left how right before =
      (λ i. compared how (form_at cells (dt + n) left i) (form_at cells (dt + n) right i))
      ∙ compared_alike how (form_line cells left) (form_line cells right) dt n before
      ∙ sym (λ i. compared how (form_at cells dt left i) (form_at cells dt right i))
