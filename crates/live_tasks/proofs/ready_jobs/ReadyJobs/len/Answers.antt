use Rattle.std.proofs.Common.{◌∙◌, ap, map, length, List, ℕ}
use Rattle.run_data.specs.declared.jobs.Job.{Job}
use Rattle.live_tasks.specs.declared.ready_jobs.Root.{Root}
use Rattle.live_tasks.proofs.Pairs.{as_long, same_length}
use Rattle.live_tasks.proofs.ready_jobs.ReadyJobs.len.Goals as goal

pub returns : goal.returns
returns c =
    c.len.ensures
    ∙ c.self.inside.jobs.ok.0
    ∙ as_long (map (λ (root : Root). root.made) c.self.inside.roots.items) c.self.inside.jobs.items (same_length c.self.inside.roots.items c.self.inside.jobs.items c.self.invariant)
    ∙ ap (λ (ready : List (ℕ × Job)). length ready) c.self.view_is
