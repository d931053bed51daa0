use Rattle.std.proofs.Common.{◌∙◌, take_all}
use Rattle.live_tasks.proofs.watchers.copy_watchers.Goals as goal

pub returns : goal.returns
returns c = c.loop-some.invariant ∙ take_all c.loop-some.some-index c.as_slice-some-items.result.now c.loop-some-test.false ∙ c.as_slice-some-items.ensures
