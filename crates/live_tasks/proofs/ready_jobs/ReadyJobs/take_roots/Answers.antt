use Rattle.std.proofs.Common.{◌∙◌, ap, map, List, ℕ}
use Rattle.run_data.specs.declared.jobs.Job.{Job}
use Rattle.live_tasks.specs.ReadyJobs.{root_of}
use Rattle.live_tasks.proofs.Pairs.{roots_are}
use Rattle.live_tasks.proofs.ready_jobs.ReadyJobs.take_roots.Goals as goal

pub returns-clause-roots : goal.returns-clause-roots
returns-clause-roots c =
    ap (λ (roots : _). roots.items) c.replace.ensures.value
    ∙ roots_are c.self.inside.roots.items c.self.inside.jobs.items c.self.invariant ∙ ap (λ (jobs : List (ℕ × Job)). map root_of jobs) c.self.view_is
