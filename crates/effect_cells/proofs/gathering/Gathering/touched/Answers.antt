-- Those that are listed are those that the tree touches.
use Rattle.std.proofs.Common.{◌∙◌, ap}
use Rattle.effect_cells.specs.Gathered.{Gathered, listed_from}
use Rattle.effect_cells.proofs.GatheredEffects.{whole_touches}
use Rattle.effect_cells.proofs.gathering.Gathering.touched.Goals as goal

pub returns : goal.returns
returns c = λ cells tree whole.
    c.from_vec.ensures ∙ c.in_ok-touched.ensures.items ∙ c.as_slice.ensures.value ∙ c.self.invariant ∙ ap (λ (g : Gathered). listed_from 0 g.pending) c.self.view_is
    ∙ whole_touches cells tree c.args.self.now whole
