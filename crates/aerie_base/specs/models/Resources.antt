-- The resources that a model may have.
use Rattle.std.specs.Prelude.{◌&&◌, Bool, true, false, is_some, length, nat_le, nat_eq}
use Rattle.std.specs.List.{list_all}
use Rattle.std.specs.Int.RustNames.{unsigned_abs}
use Rattle.aerie_base.specs.declared.operands.CellRead.{CellRead}
use Rattle.aerie_base.specs.declared.operands.CellRead.TheVariants as read
use Rattle.aerie_base.specs.declared.operands.Operand.{Operand}
use Rattle.aerie_base.specs.declared.operands.Operand.TheVariants.{Read, Local}
use Rattle.aerie_base.specs.declared.linear.Term.{Term}
use Rattle.aerie_base.specs.declared.linear.Linear.{Linear}
use Rattle.aerie_base.specs.declared.models.Resource.{Resource}
use Rattle.aerie_base.specs.declared.models.Resource.TheVariants as resource
use Rattle.aerie_base.specs.models.Cells.{NamedCells, read_kind}
use Rattle.aerie_base.specs.models.Conditions.{is_coefficient}
use Rattle.aerie_base.specs.models.Limits.{term_limit}

-- a discrete resource shows a counter, a register, a conflict flag or a rate
abbrev pub is_shown : CellRead → Bool
is_shown (read.Counter cell) = true
is_shown (read.Register cell) = true
is_shown (read.Conflicted cell) = true
is_shown (read.Volume cell) = false
is_shown (read.Rate cell) = true

-- a linear one sums counters and volumes
abbrev pub is_summed : NamedCells → Operand → Bool
is_summed cells (Read (read.Counter cell)) = is_some (read_kind cells (read.Counter cell))
is_summed cells (Read (read.Volume cell)) = is_some (read_kind cells (read.Volume cell))
is_summed cells (Read (read.Register cell)) = false
is_summed cells (Read (read.Conflicted cell)) = false
is_summed cells (Read (read.Rate cell)) = false
is_summed cells (Local slot) = false

abbrev pub is_summand : NamedCells → Term → Bool
is_summand cells term = is_coefficient term && is_summed cells term.operand

-- 1 to 16 terms and no literal
abbrev pub is_sum : NamedCells → Linear → Bool
is_sum cells form =
    nat_le 1 (length form.terms)
    && nat_le (length form.terms) term_limit
    && list_all (is_summand cells) form.terms
    && nat_eq (unsigned_abs form.constant) 0

abbrev pub is_resource : NamedCells → Resource → Bool
is_resource cells (resource.Discrete read) = is_shown read && is_some (read_kind cells read)
is_resource cells (resource.Linear form) = is_sum cells form
