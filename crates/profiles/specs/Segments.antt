-- The segments of a value over time: where each begins, and none that continues the one before it.
use Rattle.std.specs.Prelude.{ℕ, zero, suc, ℤ, ◌+ℤ◌, Bool, true, not, ◌&&◌, List, [], ◌∷◌, ◌++◌, map, if◌then◌else◌}
use Rattle.std.specs.Ordering.{int_eq}
use Rattle.aerie_base.specs.declared.values.Value.{Value}
use Rattle.aerie_base.specs.expressions.Arithmetic.{same_value}
use Rattle.windows.specs.declared.segments.Segment.{Segment}

-- the times below the reach that pass a test, in order
abbrev pub times_where : (ℕ → Bool) → ℕ → List ℕ
times_where test zero = []
times_where test (suc t) = times_where test t ++ (if test t then t ∷ [] else [])

-- ---- values that stay

-- a segment begins at 0, and at each time at which the value differs from that at the time before
abbrev pub begins_value : (ℕ → Value) → ℕ → Bool
begins_value value zero = true
begins_value value (suc t) = not (same_value (value t) (value (suc t)))

abbrev pub value_segments : (ℕ → Value) → ℕ → List (ℕ × Value)
value_segments value reach = map (λ t. (t, value t)) (times_where (begins_value value) reach)

-- ---- values that rise and fall

-- a segment begins at 0, and at each time at which the value differs from the value and the rate at the time before added, or
-- the rate differs
abbrev pub begins_line : (ℕ → ℤ) → (ℕ → ℤ) → ℕ → Bool
begins_line value rate zero = true
begins_line value rate (suc t) = not (int_eq (value t +ℤ rate t) (value (suc t)) && int_eq (rate t) (rate (suc t)))

abbrev pub line_segments : (ℕ → ℤ) → (ℕ → ℤ) → ℕ → List Segment
line_segments value rate reach = map (λ t. record { from = t; value = value t; rate = rate t }) (times_where (begins_line value rate) reach)
