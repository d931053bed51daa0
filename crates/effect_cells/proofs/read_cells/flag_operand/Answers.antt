use Rattle.std.proofs.Common.{false, sym, ap}
use Rattle.aerie_base.specs.expressions.Readings.{cell_of}
use Rattle.effect_cells.specs.ReadCells.{reads_operand}
use Rattle.effect_cells.proofs.Flags.{one_flag, no_flags}
use Rattle.effect_cells.proofs.ReadFlags.{flags_by}
use Rattle.effect_cells.proofs.read_cells.flag_operand.Goals as goal

pub returns-in-Read : goal.returns-in-Read
returns-in-Read c =
    flags_by _ (reads_operand c.args.operand) c.args.flags.now c.flag.new.flags (ap reads_operand c.in-Read.is)
    (rw (c.flag.ensures, c.from.ensures, c.cell.ensures) (sym (one_flag (cell_of c.in-Read.read) c.args.flags.now)))

pub returns-in-Local : goal.returns-in-Local
returns-in-Local c = flags_by (λ cell. false) (reads_operand c.args.operand) c.args.flags.now c.args.flags.now (ap reads_operand c.in-Local.is) (sym (no_flags 0 c.args.flags.now))
