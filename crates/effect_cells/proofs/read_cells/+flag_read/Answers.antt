use Rattle.std.proofs.Common.{false, sym, ap, ◌∙◌}
use Rattle.effect_cells.specs.ReadCells.{reads_operand, reads_side, reads_terms, reads_cell}
use Rattle.effect_cells.specs.ReadCellLaws.{reads-Literal, reads-Flag, reads-Same, reads-Compare}
use Rattle.effect_cells.proofs.Flags.{no_flags}
use Rattle.effect_cells.proofs.ReadFlags.{flags_by, flags_after, flags_of_not, flags_of_and, flags_of_or}
use Rattle.effect_cells.proofs.read_cells.+flag_read.Goals as goal

pub returns-in-Literal : goal.returns-in-Literal
returns-in-Literal t c =
    flags_by (λ cell. false) (reads_cell c.args.condition.now) c.args.flags.now c.args.flags.now
    (ap reads_cell c.in-Literal.is ∙ reads-Literal c.in-Literal.field-0) (sym (no_flags 0 c.args.flags.now))

pub returns-in-Flag : goal.returns-in-Flag
returns-in-Flag t c =
    flags_by (reads_operand c.in-Flag.operand) (reads_cell c.args.condition.now) c.args.flags.now c.flag_operand.new.flags
    (ap reads_cell c.in-Flag.is ∙ reads-Flag c.in-Flag.operand) c.flag_operand.ensures

pub returns-in-Same : goal.returns-in-Same
returns-in-Same t c =
    flags_after (reads_side c.in-Same.left) (reads_side c.in-Same.right) (reads_cell c.args.condition.now) c.args.flags.now c.flag_side.new.flags c.flag_side-in-Same.new.flags
    (ap reads_cell c.in-Same.is ∙ reads-Same c.in-Same.left c.in-Same.right c.in-Same.equal) c.flag_side.ensures c.flag_side-in-Same.ensures

pub returns-in-Compare : goal.returns-in-Compare
returns-in-Compare t c =
    flags_after (reads_terms c.in-Compare.left.terms) (reads_terms c.in-Compare.right.terms) (reads_cell c.args.condition.now) c.args.flags.now c.flag_terms.new.flags c.flag_terms-in-Compare.new.flags
    (ap reads_cell c.in-Compare.is ∙ reads-Compare c.in-Compare.left c.in-Compare.how c.in-Compare.right) c.flag_terms.ensures c.flag_terms-in-Compare.ensures

pub returns-in-Not : goal.returns-in-Not
returns-in-Not t c =
    flags_of_not c.args.condition.now c.in-Not.part c.get.result.now c.args.flags.now c.flag_read.new.flags c.in-Not.is c.get.ensures c.flag_read.ensures

pub returns-in-And : goal.returns-in-And
returns-in-And t c =
    flags_of_and c.args.condition.now c.in-And.left c.in-And.right c.get-in-And.result.now c.get-in-And-2.result.now c.args.flags.now c.flag_read-in-And.new.flags c.flag_read-in-And-2.new.flags
    c.in-And.is c.get-in-And.ensures c.get-in-And-2.ensures c.flag_read-in-And.ensures c.flag_read-in-And-2.ensures

pub returns-in-Or : goal.returns-in-Or
returns-in-Or t c =
    flags_of_or c.args.condition.now c.in-Or.left c.in-Or.right c.get-in-Or.result.now c.get-in-Or-2.result.now c.args.flags.now c.flag_read-in-Or.new.flags c.flag_read-in-Or-2.new.flags
    c.in-Or.is c.get-in-Or.ensures c.get-in-Or-2.ensures c.flag_read-in-Or.ensures c.flag_read-in-Or-2.ensures
