use Rattle.std.proofs.Common.{◌∙◌, ap}
use Rattle.engine_core.specs.EngineStates.{EngineState, instants_in}
use Rattle.engine_core.proofs.bookmarks.Bookmark.settled.Goals as goal

pub returns : goal.returns
returns c = c.instants.ensures ∙ ap (λ (s : EngineState). instants_in s.point) c.self.view_is
