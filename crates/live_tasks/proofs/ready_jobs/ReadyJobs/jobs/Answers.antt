use Rattle.std.proofs.Common.{◌∙◌, ap, sym, map, List, ℕ}
use Rattle.std.proofs.lemmas.Slice.Zip.{seconds-zip}
use Rattle.run_data.specs.declared.jobs.Job.{Job}
use Rattle.live_tasks.specs.declared.ready_jobs.Root.{Root}
use Rattle.live_tasks.proofs.Pairs.{same_length}
use Rattle.live_tasks.proofs.ready_jobs.ReadyJobs.jobs.Goals as goal

pub returns : goal.returns
returns c =
    c.as_slice.ensures.value
    ∙ sym (seconds-zip (map (λ (root : Root). root.made) c.self.inside.roots.items) c.self.inside.jobs.items (sym (same_length c.self.inside.roots.items c.self.inside.jobs.items c.self.invariant)))
    ∙ ap (λ (ready : List (ℕ × Job)). map (λ job. job.1) ready) c.self.view_is
