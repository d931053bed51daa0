-- One more pair behind the others.
use Rattle.std.proofs.Common.{◌≡◌, ◌∙◌, ap, map, ◌++◌, ◌∷◌, [], List, ℕ}
use Rattle.std.specs.List.{zip}
use Rattle.std.proofs.lemmas.List.{map-append}
use Rattle.run_data.specs.declared.jobs.Job.{Job}
use Rattle.live_tasks.specs.declared.ready_jobs.Root.{Root}
use Rattle.live_tasks.proofs.Pairs.{one_more, same_length}
use Rattle.live_tasks.proofs.ready_jobs.ReadyJobs.push.Goals as goal

pub returns : goal.returns
returns c =
    let jobs : c.push_reserved.new.self.items ≡ c.self.inside.jobs.items ++ c.args.job ∷ [] =
    c.push_reserved.ensures.items ∙ ap (λ (all : List Job). all ++ c.args.job ∷ []) c.in_ok-reserve.ensures.items in
    (λ i. zip (map (λ (root : Root). root.made) (c.in_ok-push.ensures.items i)) (jobs i))
    ∙ ap (λ (numbers : List ℕ). zip numbers (c.self.inside.jobs.items ++ c.args.job ∷ [])) (map-append (λ (root : Root). root.made) c.self.inside.roots.items _)
    ∙ one_more (map (λ (root : Root). root.made) c.self.inside.roots.items) c.self.inside.jobs.items c.args.made c.args.job
    (same_length c.self.inside.roots.items c.self.inside.jobs.items c.self.invariant)
    ∙ ap (λ (ready : List (ℕ × Job)). ready ++ (c.args.made, c.args.job) ∷ []) c.self.view_is
