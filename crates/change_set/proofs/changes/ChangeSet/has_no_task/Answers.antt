use Rattle.std.proofs.Common.{◌∙◌, sym, ap}
use Rattle.change_set.specs.Differences.{Differences, notes_task}
use Rattle.change_set.proofs.NoTask.{none_noted, none_there}
use Rattle.change_set.proofs.changes.ChangeSet.has_no_task.Goals as goal

pub returns : goal.returns
returns c = (
  λ yes path. sym (ap (λ (noted : Differences). notes_task noted path) c.self.view_is) ∙ none_noted c.self.inside.tasks.keys (c.is_empty.ensures.0 yes) path,
  λ none.
      c.is_empty.ensures.1
      (none_there c.self.inside.tasks.keys (λ path. ap (λ (noted : Differences). notes_task noted path) c.self.view_is ∙ none path)),
)
