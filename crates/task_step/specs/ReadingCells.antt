-- A file of lemmas: what it proves need not be read to trust a clause.
--
-- Each read of cells has a value of its type.
use Rattle.std.specs.Prelude.{◌≡◌, List, Option, Some, None, is_some, slice_get}
use mathlib.Core.Path.{sym, ap}
use mathlib.Core.Bool.{true≢false}
use Rattle.aerie_base.specs.declared.values.Kind.{Kind}
use Rattle.aerie_base.specs.declared.values.Kind.TheVariants as kind
use Rattle.aerie_base.specs.declared.operands.CellRead.{CellRead}
use Rattle.aerie_base.specs.declared.operands.CellRead.TheVariants as read
use Rattle.aerie_base.specs.expressions.Arithmetic.{value_kind}
use Rattle.aerie_base.specs.expressions.Readings.{AreReadings, MayHave, cell_of}
use Rattle.effect_cells.specs.declared.effects.CellState.{CellState}
use Rattle.effect_cells.specs.declared.effects.CellState.TheVariants.{Counter, Register, Volume}
use Rattle.effect_cells.specs.Reads.{state_kind, state_value, kind_on, value_on}

nothing : {A : Type 0} (x : A) → None ≡ Some x → ⊥
nothing x e = true≢false (sym (ap is_some e))

abbrev or_int : Option Kind → Kind
or_int None = kind.Int
or_int (Some of) = of

of_kind : (what : CellRead) (state : Option CellState) (of : Kind) → state_kind what state ≡ Some of → value_kind (state_value what state) ≡ of
of_kind (read.Counter cell) None of e = absurd (nothing of e)
of_kind (read.Counter cell) (Some (Counter number)) of e = ap or_int e
of_kind (read.Counter cell) (Some (Register value conflicted)) of e = absurd (nothing of e)
of_kind (read.Counter cell) (Some (Volume volume rate)) of e = absurd (nothing of e)
of_kind (read.Register cell) None of e = absurd (nothing of e)
of_kind (read.Register cell) (Some (Counter number)) of e = absurd (nothing of e)
of_kind (read.Register cell) (Some (Register value conflicted)) of e = ap or_int e
of_kind (read.Register cell) (Some (Volume volume rate)) of e = absurd (nothing of e)
of_kind (read.Conflicted cell) None of e = absurd (nothing of e)
of_kind (read.Conflicted cell) (Some (Counter number)) of e = absurd (nothing of e)
of_kind (read.Conflicted cell) (Some (Register value conflicted)) of e = ap or_int e
of_kind (read.Conflicted cell) (Some (Volume volume rate)) of e = absurd (nothing of e)
of_kind (read.Volume cell) None of e = absurd (nothing of e)
of_kind (read.Volume cell) (Some (Counter number)) of e = absurd (nothing of e)
of_kind (read.Volume cell) (Some (Register value conflicted)) of e = absurd (nothing of e)
of_kind (read.Volume cell) (Some (Volume volume rate)) of e = ap or_int e
of_kind (read.Rate cell) None of e = absurd (nothing of e)
of_kind (read.Rate cell) (Some (Counter number)) of e = absurd (nothing of e)
of_kind (read.Rate cell) (Some (Register value conflicted)) of e = absurd (nothing of e)
of_kind (read.Rate cell) (Some (Volume volume rate)) of e = ap or_int e

of_sort : (what : CellRead) (state : Option CellState) (of : Kind) → state_kind what state ≡ Some of → MayHave what of
of_sort (read.Counter cell) None of e = absurd (nothing of e)
of_sort (read.Counter cell) (Some (Counter number)) of e = sym (ap or_int e)
of_sort (read.Counter cell) (Some (Register value conflicted)) of e = absurd (nothing of e)
of_sort (read.Counter cell) (Some (Volume volume rate)) of e = absurd (nothing of e)
of_sort (read.Register cell) None of e = absurd (nothing of e)
of_sort (read.Register cell) (Some (Counter number)) of e = absurd (nothing of e)
of_sort (read.Register cell) (Some (Register value conflicted)) of e = tt
of_sort (read.Register cell) (Some (Volume volume rate)) of e = absurd (nothing of e)
of_sort (read.Conflicted cell) None of e = absurd (nothing of e)
of_sort (read.Conflicted cell) (Some (Counter number)) of e = absurd (nothing of e)
of_sort (read.Conflicted cell) (Some (Register value conflicted)) of e = sym (ap or_int e)
of_sort (read.Conflicted cell) (Some (Volume volume rate)) of e = absurd (nothing of e)
of_sort (read.Volume cell) None of e = absurd (nothing of e)
of_sort (read.Volume cell) (Some (Counter number)) of e = absurd (nothing of e)
of_sort (read.Volume cell) (Some (Register value conflicted)) of e = absurd (nothing of e)
of_sort (read.Volume cell) (Some (Volume volume rate)) of e = sym (ap or_int e)
of_sort (read.Rate cell) None of e = absurd (nothing of e)
of_sort (read.Rate cell) (Some (Counter number)) of e = absurd (nothing of e)
of_sort (read.Rate cell) (Some (Register value conflicted)) of e = absurd (nothing of e)
of_sort (read.Rate cell) (Some (Volume volume rate)) of e = sym (ap or_int e)

-- each read that there is on cells has a value of its type, and a type that such a read may have
pub are_readings : (cells : List CellState) → AreReadings (kind_on cells) (value_on cells)
are_readings cells = record {
  of_kind = λ what of e. of_kind what (slice_get cells (cell_of what)) of e;
  sorts = λ what of e. of_sort what (slice_get cells (cell_of what)) of e;
}
