use Rattle.std.proofs.Common.{Bool, List, false, sym, ap, ◌∙◌, get_or}
use Rattle.std.proofs.lemmas.Bool.{eq-eqb, eqb-true}
use Rattle.change_set.proofs.NoneSet.{none_set, none_counted}
use Rattle.change_set.proofs.cell_flags.CellFlags.is_empty.Goals as goal

pub returns : goal.returns
returns c = (
  λ none cell. sym (ap (λ (l : List Bool). get_or l cell false) c.self.view_is) ∙ none_set c.self.inside.flags.items (sym c.self.invariant ∙ eqb-true _ _ none) cell,
  λ none. eq-eqb _ _ (c.self.invariant ∙ none_counted c.self.inside.flags.items (λ cell. ap (λ (l : List Bool). get_or l cell false) c.self.view_is ∙ none cell)),
)
