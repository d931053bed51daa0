use Rattle.std.proofs.Common.{◌∙◌, sym, ap}
use Rattle.std.proofs.lemmas.Bool.{false≢true}
use Rattle.change_set.specs.Differences.{Differences, notes_cell}
use Rattle.change_set.proofs.changes.ChangeSet.is_empty.Goals as goal

pub returns-else-is_empty : goal.returns-else-is_empty
returns-else-is_empty c = (
  λ yes. absurd (false≢true (sym c.if-is_empty.false ∙ yes)),
  λ none. c.is_empty.ensures.1 (λ cell. ap (λ (noted : Differences). notes_cell noted cell) c.self.view_is ∙ none.0 cell),
)
