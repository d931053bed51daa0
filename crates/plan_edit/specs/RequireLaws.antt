-- A file of lemmas: what it proves need not be read to trust a clause.
--
-- What is read where a `require` is judged has the kinds that are said of it.
use Rattle.std.specs.Prelude.{◌≡◌, Bool, true, false, Some}
use Rattle.std.proofs.lemmas.Option.{none-some, same_Some}
use Rattle.aerie_base.specs.declared.values.Kind.{Kind}
use Rattle.aerie_base.specs.declared.values.Kind.TheVariants as kind
use Rattle.aerie_base.specs.declared.operands.CellRead.{CellRead}
use Rattle.aerie_base.specs.declared.operands.CellRead.TheVariants.{Counter, Register, Conflicted, Volume, Rate}
use Rattle.aerie_base.specs.expressions.Readings.{AreReadings, MayHave}
use Rattle.plan_edit.specs.Requires.{no_reads, register_kinds, kinds_if}

pub has_kind : (read : CellRead) (of : Kind) → register_kinds read ≡ Some of → kind.Truth ≡ of
has_kind (Register cell) of e = same_Some _ _ e
has_kind (Counter cell) of e = absurd (none-some of e)
has_kind (Conflicted cell) of e = absurd (none-some of e)
has_kind (Volume cell) of e = absurd (none-some of e)
has_kind (Rate cell) of e = absurd (none-some of e)

pub may_have_kind : (read : CellRead) (of : Kind) → register_kinds read ≡ Some of → MayHave read of
may_have_kind (Register cell) of e = tt
may_have_kind (Counter cell) of e = absurd (none-some of e)
may_have_kind (Conflicted cell) of e = absurd (none-some of e)
may_have_kind (Volume cell) of e = absurd (none-some of e)
may_have_kind (Rate cell) of e = absurd (none-some of e)

pub readings_if : (registers : Bool) → AreReadings (kinds_if registers) no_reads
readings_if true = record { of_kind = has_kind; sorts = may_have_kind }
readings_if false = record {
  of_kind = λ read of e. absurd (none-some of e);
  sorts = λ read of e. absurd (none-some of e);
}
