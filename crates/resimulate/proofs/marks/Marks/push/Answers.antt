use Rattle.std.proofs.Common.{◌∙◌, List, ap, sym, subst, is_ok}
use Rattle.std.specs.List.{All}
use Rattle.engine_core.specs.EngineStates.{EngineState}
use Rattle.resimulate.specs.Bookmarks.{MarkedSimulation, IsMarkOf}
use Rattle.resimulate.proofs.MarkLists.{all_pushed}
use Rattle.resimulate.proofs.marks.Marks.push.Goals as goal

pub invariant_of-self : goal.invariant_of-self
invariant_of-self c =
    let of = c.self.view_is in
    subst (λ (l : List EngineState). All (IsMarkOf c.self.inside.model c.self.inside.plan c.self.inside.bound) l) (sym c.push.ensures.items)
    (all_pushed (IsMarkOf c.self.inside.model c.self.inside.plan c.self.inside.bound) c.self.inside.bookmarks.items c.args.bookmark (is_ok c.push.result) c.self.invariant
    (record {
      same_model = c.requires.same_model ∙ sym (ap (λ (m : MarkedSimulation). m.model) of);
      same_plan = c.requires.same_plan ∙ sym (ap (λ (m : MarkedSimulation). m.plan) of);
      same_bound = c.requires.same_bound ∙ sym (ap (λ (m : MarkedSimulation). m.bound) of);
    }))
