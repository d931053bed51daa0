use Rattle.std.proofs.Common.{◌∙◌, sym}
use Rattle.resimulate.proofs.CellChanges.{same_changes}
use Rattle.resimulate.proofs.cells.have_same_changes.Goals as goal

pub returns : goal.returns
returns c = λ yes.
    same_changes c.args.cells c.args.instants.now c.args.others.now c.in_ok-last.last.items c.in_ok-other.other.items c.in_ok-last.ensures c.in_ok-other.ensures
    (sym c.as_slice.ensures.value ∙ c.are_same.ensures yes ∙ c.as_slice-2.ensures.value)
