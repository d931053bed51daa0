use Rattle.std.proofs.Common.{◌≡◌, ◌∙◌, [], ap, sym, subst}
use Rattle.aerie_base.specs.declared.models.model.Parts.{Parts}
use Rattle.engine_core.specs.EngineStates.{EngineState, jobs_in, batches_in}
use Rattle.engine_core.specs.Bookmarks.{IsSetAside}
use Rattle.engine_core.proofs.ResumedBookmarks.{copy_aside, set_aside_by}
use Rattle.engine_core.proofs.engine.Engine.bookmark.Goals as goal

pub new-bookmark-requires : goal.new-bookmark-requires
new-bookmark-requires c =
    subst (λ (m : Parts). IsSetAside m c.in_ok-simulation.simulation) (sym (c.in_ok-share.ensures ∙ c.requires.model ∙ sym (ap (λ (s : EngineState). s.model) c.self.view_is)))
    (copy_aside c.self.inside.model.now c.self.inside.simulation
    (set_aside_by c.self.inside.model.now c.self.inside.simulation c.args.self.now c.self.view_is c.self.invariant.course c.requires.job c.requires.begins)
    c.in_ok-simulation.simulation c.in_ok-simulation.ensures)
